-- What the definitions of `Lists` mean of versions in version order, in words that do not speak of lists.
use Rattle.std.specs.Prelude.{◌≡◌, ℕ, ◌<◌, ◌≤◌, true, false, ◌⊎◌, List, Some, None, Option, ◌≢◌}
use mathlib.Core.List.{Memᴰ}
use Rattle.version.specs.Lists.{newest, first_from, look, held, last, behind, insert, memory_after, flash_after}
use Rattle.version.specs.Order.{ahead, place_of, before, Kept}
use Rattle.version.specs.declared.types.Place.{Place}
use Rattle.version.specs.declared.types.Version.{Version}

-- of the versions of point p at or below number n, the one with the highest number
abbrev pub Newest : List Version → ℕ → ℕ → Option Version → Type 0
Newest vs p n None = (w : Version) → Memᴰ w vs → w.point ≡ p → n < w.number
Newest vs p n (Some v) =
    Memᴰ v vs × (v.point ≡ p) × (v.number ≤ n)
    × ((w : Version) → Memᴰ w vs → w.point ≡ p → w.number ≤ n → w.number ≤ v.number)

-- of the versions at or after a place, the one that stands before all others
abbrev pub Earliest : List Version → Place → Option Version → Type 0
Earliest vs a None = (w : Version) → Memᴰ w vs → ahead (place_of w) a ≡ true
Earliest vs a (Some v) =
    Memᴰ v vs × (ahead (place_of v) a ≡ false)
    × ((w : Version) → Memᴰ w vs → ahead (place_of w) a ≡ false → (w ≡ v) ⊎ (before v w ≡ true))

-- of the points at or above p that have a version at or below number n, the least, and its newest such version
abbrev pub Nearest : List Version → ℕ → ℕ → Option Version → Type 0
Nearest vs p n None = (w : Version) → Memᴰ w vs → p ≤ w.point → n < w.number
Nearest vs p n (Some v) =
    Memᴰ v vs × (p ≤ v.point) × (v.number ≤ n)
    × ((w : Version) → Memᴰ w vs → p ≤ w.point → w.number ≤ n → (v.point < w.point) ⊎ ((w.point ≡ v.point) × (w.number ≤ v.number)))

-- the versions of a part mean this, whatever they are
pub record Means (vs : List Version) (limit : ℕ) : Type 0 where
  pub newest_one : (p n : ℕ) → Newest vs p n (newest vs p n)
  pub earliest : (a : Place) → Earliest vs a (first_from vs a)
  pub nearest : (p n : ℕ) → Nearest vs p n (look vs p n)
  -- a place is held if a version stands there
  pub is_held : (v w : Version) → Memᴰ w vs → w.point ≡ v.point → w.number ≡ v.number → held vs v ≡ true
  pub is_free : (v : Version) → held vs v ≡ false → (w : Version) → Memᴰ w vs → w.point ≡ v.point → w.number ≢ v.number
  -- what stands behind the last stands behind all
  pub behind_all : (v : Version) → behind (last vs) v ≡ true → (w : Version) → Memᴰ w vs → before w v ≡ true
  -- an insertion adds its version, and nothing else
  pub added : (v : Version) → Memᴰ v (insert vs v)
  pub stays : (v w : Version) → Memᴰ w vs → Memᴰ w (insert vs v)
  pub no_other : (v w : Version) → Memᴰ w (insert vs v) → (w ≡ v) ⊎ Memᴰ w vs
  -- every taking leaves such versions
  pub after_memory : (v : Version) → Kept (memory_after vs limit v) limit
  pub after_flash : (v : Version) → Kept (flash_after vs limit v) limit

abbrev pub AnswersMean : Type 0
AnswersMean = (vs : List Version) (limit : ℕ) → Kept vs limit → Means vs limit
