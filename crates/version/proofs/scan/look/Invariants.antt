use Rattle.std.proofs.Common.{◌≡◌, ◌-◌}
use Rattle.version.specs.Lists.{look}
use Rattle.version.proofs.scan.look.Given as goal

abbrev pub invariant-loop-found : goal.invariant-loop-found
invariant-loop-found g l = look (g.P.Part.versions l.part) l.from l.place.number ≡ look (g.P.Part.versions l.part) l.place.point l.place.number

abbrev pub decreases-loop-found : goal.decreases-loop-found
decreases-loop-found g l = 65536 - l.from
