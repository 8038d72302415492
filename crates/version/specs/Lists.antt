-- What a part answers, from the list of its versions, and what that list is after a taking.
use Rattle.std.specs.Prelude.{◌≡◌, ℕ, Bool, true, false, cond, not, ◌&&◌, List, [], ◌∷◌, ◌++◌, length, Some, None, Ok, Err, Option, Result, ◌==◌, nat_le}
use Rattle.std.specs.List.{find, list_any}
use Rattle.version.specs.Order.{ahead, place_of, before, numbered}
use Rattle.version.specs.declared.types.NotTaken.{NotTaken}
use Rattle.version.specs.declared.types.NotTaken.TheVariants.{OutOfPlace, Full}
use Rattle.version.specs.declared.types.Place.{Place}
use Rattle.version.specs.declared.types.Version.{Version}

-- ---- questions

-- the newest version of point p at or below number n
abbrev pub newest : List Version → ℕ → ℕ → Option Version
newest vs p n = find (λ v. (v.point == p) && nat_le v.number n) vs

-- the first version at or after a place
abbrev pub first_from : List Version → Place → Option Version
first_from vs a = find (λ v. not (ahead (place_of v) a)) vs

-- a version that was found, if it is one of point p
abbrev pub only : ℕ → Option Version → Option Version
only p None = None
only p (Some v) = cond (v.point == p) (Some v) None

-- what is found, if anything, stands at or after a place
abbrev pub Reaches : Place → Option Version → Type 0
Reaches a None = Unit {0}
Reaches a (Some v) = ahead (place_of v) a ≡ false

-- of the least point at or above p that has a version at or below number n, the newest such version
abbrev pub look : List Version → ℕ → ℕ → Option Version
look vs p n = find (λ v. nat_le p v.point && nat_le v.number n) vs

-- ---- takings

-- some version has the point and the number of v
abbrev pub held : List Version → Version → Bool
held vs v = list_any (λ w. w.point == v.point && w.number == v.number) vs

-- a version, if there is one, has the point and the number of v
abbrev pub alike : Option Version → Version → Bool
alike None v = false
alike (Some w) v = w.point == v.point && w.number == v.number

-- the version behind which no other stands
abbrev pub last : List Version → Option Version
last [] = None
last (v ∷ []) = Some v
last (v ∷ w ∷ ws) = last (w ∷ ws)

-- v stands behind a version, if there is one
abbrev pub behind : Option Version → Version → Bool
behind None v = true
behind (Some w) v = before w v

-- v may go into a memory part that holds vs: it is a version, and its place is free
abbrev pub memory_place : List Version → Version → Bool
memory_place vs v = numbered v && not (held vs v)

-- v may go into a flash part that holds vs: it is a version, and stands behind the last
abbrev pub flash_place : List Version → Version → Bool
flash_place vs v = numbered v && behind (last vs) v

-- what is answered where a version is in place, or is not, and there are so many versions under a limit
abbrev pub taking : Bool → ℕ → ℕ → Result (Unit {0}) NotTaken
taking placed count limit = cond placed (cond (count == limit) (Err Full) (Ok tt)) (Err OutOfPlace)

-- the list that such an answer leaves
abbrev pub left_by : Result (Unit {0}) NotTaken → List Version → List Version → List Version
left_by (Ok t) old new = new
left_by (Err e) old new = old

-- v at its place in version order
abbrev pub insert : List Version → Version → List Version
insert [] v = v ∷ []
insert (w ∷ ws) v = cond (before v w) (v ∷ w ∷ ws) (w ∷ insert ws v)

-- what a part that holds vs answers when it is to take v, if `place` is where it takes one
abbrev pub answer_of : (List Version → Version → Bool) → List Version → ℕ → Version → Result (Unit {0}) NotTaken
answer_of place vs limit v = taking (place vs v) (length vs) limit

-- what it then holds, if `put` is how one goes in
abbrev pub after_taking : (List Version → Version → Bool) → (List Version → Version → List Version) → List Version → ℕ → Version → List Version
after_taking place put vs limit v = left_by (answer_of place vs limit v) vs (put vs v)

-- what a memory part that holds vs answers when it is to take v, and what it then holds
abbrev pub memory_answer : List Version → ℕ → Version → Result (Unit {0}) NotTaken
memory_answer = answer_of memory_place

abbrev pub memory_after : List Version → ℕ → Version → List Version
memory_after = after_taking memory_place insert

-- what a flash part that holds vs answers when it is to take v, and what it then holds
abbrev pub flash_answer : List Version → ℕ → Version → Result (Unit {0}) NotTaken
flash_answer = answer_of flash_place

abbrev pub flash_after : List Version → ℕ → Version → List Version
flash_after = after_taking flash_place (λ vs v. vs ++ v ∷ [])
