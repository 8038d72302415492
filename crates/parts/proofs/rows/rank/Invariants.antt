use Rattle.std.proofs.Common.{◌≡◌, ℕ, ◌-◌, ◌<◌, ◌≤◌, true, false, length, get_or}
use Rattle.version.specs.Order.{ahead, place_of}
use Rattle.version.specs.declared.types.Version.{Version}
use Rattle.parts.proofs.rows.rank.Given as goal

abbrev pub invariant-loop-low : goal.invariant-loop-low
invariant-loop-low g l =
    (l.low ≤ l.high) × (l.high ≤ length (g.R.Rows.list l.rows))
    × ((k : ℕ) (d : Version) → k < l.low → ahead (place_of (get_or (g.R.Rows.list l.rows) k d)) l.place ≡ true)
    × ((d : Version) → l.high < length (g.R.Rows.list l.rows) → ahead (place_of (get_or (g.R.Rows.list l.rows) l.high d)) l.place ≡ false)

abbrev pub decreases-loop-low : goal.decreases-loop-low
decreases-loop-low g l = l.high - l.low
