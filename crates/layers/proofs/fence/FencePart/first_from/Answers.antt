use Rattle.std.proofs.Common.{sym, ap, ◌∙◌}
use Rattle.layers.specs.Fences.{reached}
use Rattle.layers.proofs.Outside.{first_beyond}
use Rattle.layers.proofs.fence.FencePart.first_from.Goals as goal

pub returns-else-reaches-clause-answer : goal.returns-else-reaches-clause-answer
returns-else-reaches-clause-answer g c =
    sym (first_beyond (g.P.Part.versions c.args.self.now.below) c.args.place (ap (λ b. reached b c.args.place.point) (sym c.args.self.now.known) ∙ sym c.if-reaches.ensures))
