use Rattle.std.proofs.Common.{Some, sym, ap, ◌∙◌}
use Rattle.layers.specs.Fences.{widened, bounds_of}
use Rattle.layers.proofs.Outside.{bounds_put}
use Rattle.layers.proofs.fence.FenceTakingPart.take.Goals as goal
use Rattle.version.specs.Lists.{left_by}

pub invariant_of-self-2 : goal.invariant_of-self-2
invariant_of-self-2 g c =
    let f = c.args.self.now in
    let v = c.args.version in
    let vs = g.P.Part.versions f.below in
    let new = g.K.Kind.put vs v in
    let taken = c.in_ok-take.ensures in
    record {
      known = ap Some (c.widen.ensures ∙ ap (λ b. widened b v.point) f.known)
          ∙ sym (bounds_put vs new v (g.K.Kind.between vs v))
          ∙ ap (λ r. bounds_of (left_by r vs new)) taken.answer
          ∙ ap bounds_of (sym taken.list);
    }
