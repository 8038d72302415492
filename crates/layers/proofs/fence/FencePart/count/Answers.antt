use Rattle.std.proofs.Common.{length, sym, ap, ◌∙◌}
use Rattle.layers.proofs.Outside.{bounds_none}
use Rattle.layers.proofs.fence.FencePart.count.Goals as goal

pub returns-in-None : goal.returns-in-None
returns-in-None g c = ap length (sym (bounds_none (g.P.Part.versions c.args.self.now.below) (sym c.in-None.is ∙ c.args.self.now.known)))
