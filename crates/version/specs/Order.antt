-- Version order: by point, lower first, and within a point by number, higher first.
use Rattle.std.specs.Prelude.{◌≡◌, ℕ, ◌≤◌, Bool, true, not, ◌&&◌, ◌||◌, List, [], ◌∷◌, length, ◌==◌, nat_lt}
use Rattle.std.specs.List.{list_all}
use Rattle.version.specs.declared.types.Place.{Place}
use Rattle.version.specs.declared.types.Version.{Version}

-- place a stands before place b
abbrev pub ahead : Place → Place → Bool
ahead a b = nat_lt a.point b.point || (a.point == b.point && nat_lt b.number a.number)

-- where a version stands
abbrev pub place_of : Version → Place
place_of v = record { point = v.point; number = v.number }

-- version v stands before version w
abbrev pub before : Version → Version → Bool
before v w = ahead (place_of v) (place_of w)

-- each stands before all behind it: in version order, and no two alike in point and number
abbrev pub sorted : List Version → Bool
sorted [] = true
sorted (v ∷ vs) = list_all (before v) vs && sorted vs

-- no version has the number 0
abbrev pub numbered : Version → Bool
numbered v = not (v.number == 0)

-- what the versions of a part always are
pub record Kept (vs : List Version) (limit : ℕ) : Type 0 where
  pub ordered : sorted vs ≡ true
  pub proper : list_all numbered vs ≡ true
  pub within : length vs ≤ limit
