-- What a fence keeps of the part below it.
use Rattle.std.specs.Prelude.{ℕ, min, max, Bool, false, ◌&&◌, List, [], ◌∷◌, Some, None, Option, nat_le}
use Rattle.layers.specs.declared.fence.Bounds.{Bounds}
use Rattle.version.specs.declared.types.Version.{Version}

-- the least and the greatest point, with one point more
abbrev pub widened : Option Bounds → ℕ → Bounds
widened None p = record { least = p; greatest = p }
widened (Some b) p = record { least = min b.least p; greatest = max b.greatest p }

-- the least and the greatest point held, if any is
abbrev pub bounds_of : List Version → Option Bounds
bounds_of [] = None
bounds_of (v ∷ vs) = Some (widened (bounds_of vs) v.point)

-- whether a point at or above p is held
abbrev pub reached : Option Bounds → ℕ → Bool
reached None p = false
reached (Some b) p = nat_le p b.greatest

-- whether p lies between the least and the greatest point held
abbrev pub covered : Option Bounds → ℕ → Bool
covered None p = false
covered (Some b) p = nat_le b.least p && nat_le p b.greatest
