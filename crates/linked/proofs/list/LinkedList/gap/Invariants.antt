use Rattle.std.proofs.Common.{length}
use Rattle.linked.specs.Chains.{versions}
use Rattle.linked.proofs.Gaps.{Walking}
use Rattle.linked.proofs.list.LinkedList.gap.Given as goal

abbrev pub invariant-loop-after : goal.invariant-loop-after
invariant-loop-after l = Walking l.self.nodes.now l.self.used l.place l.self.first l.before l.after

abbrev pub decreases-loop-after : goal.decreases-loop-after
decreases-loop-after l = length (versions l.self.nodes.now l.after)
