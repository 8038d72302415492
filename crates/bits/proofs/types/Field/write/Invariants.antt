use Rattle.std.proofs.Common.{◌-◌, ◌/◌, ◌^◌, ◌≤◌}
use Rattle.bits.specs.Fields.{Wrote}
use Rattle.bits.proofs.types.Field.write.Given as goal

abbrev pub invariant-loop-done : goal.invariant-loop-done
invariant-loop-done l = Wrote l.initial.bytes l.bytes l.start l.done (l.value / 2 ^ (l.self.width - l.done)) × (l.done ≤ l.self.width)

abbrev pub decreases-loop-done : goal.decreases-loop-done
decreases-loop-done l = l.self.width - l.done
