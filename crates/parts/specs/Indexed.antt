-- Versions by their index: where a place stands among them, and where a version goes in.
use Rattle.std.specs.Prelude.{◌≡◌, ℕ, suc, ◌<◌, ◌≤◌, Bool, true, false, cond, List, [], ◌∷◌, length, Some, None, Ok, Err, Option, Result}
use Rattle.std.specs.List.{insert}
use Rattle.version.specs.Order.{ahead, place_of, Kept}
use Rattle.version.specs.declared.types.NotTaken.{NotTaken}
use Rattle.version.specs.declared.types.Place.{Place}
use Rattle.version.specs.declared.types.Version.{Version}

-- how many versions at the front stand before a place
abbrev pub rank_of : List Version → Place → ℕ
rank_of [] a = 0
rank_of (v ∷ vs) a = cond (ahead (place_of v) a) (suc (rank_of vs a)) 0

-- a version that is there, and stands before a place
abbrev pub stands_before : Option Version → Place → Bool
stands_before None a = false
stands_before (Some v) a = ahead (place_of v) a

-- v goes in among vs at index i, which makes them new
pub record GoesIn (vs new : List Version) (v : Version) (i : ℕ) : Type 0 where
  pub within : i ≤ length vs
  pub list : insert vs i v ≡ new
  pub kept : (limit : ℕ) → Kept vs limit → length vs < limit → Kept new limit

-- the index at which v goes in among vs, if it is in place there, as a kind of part has its place and puts it
abbrev pub Seated : (List Version → Version → Bool) → (List Version → Version → List Version) → List Version → Version → Option ℕ → Type 0
Seated place put vs v None = place vs v ≡ false
Seated place put vs v (Some i) = (place vs v ≡ true) × GoesIn vs (put vs v) v i

-- what a taking answers, from the index at which the version goes in or why it does not
abbrev pub Admits : List Version → List Version → ℕ → Version → Result (Unit {0}) NotTaken → Result ℕ NotTaken → Type 0
Admits vs new limit v answer (Ok i) = (answer ≡ Ok tt) × (length vs < limit) × GoesIn vs new v i
Admits vs new limit v answer (Err e) = answer ≡ Err e
