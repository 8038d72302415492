use Rattle.std.proofs.Common.{sym, ap, ◌∙◌}
use Rattle.layers.specs.Fences.{covered}
use Rattle.layers.proofs.Outside.{newest_outside}
use Rattle.layers.proofs.fence.FencePart.newest.Goals as goal

pub returns-else-covers : goal.returns-else-covers
returns-else-covers g c =
    sym (newest_outside (g.P.Part.versions c.args.self.now.below) c.args.place.point c.args.place.number (ap (λ b. covered b c.args.place.point) (sym c.args.self.now.known) ∙ sym c.if-covers.ensures))
