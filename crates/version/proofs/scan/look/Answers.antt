use Rattle.std.proofs.Common.{sym, ◌∙◌}
use Rattle.version.proofs.Firsts.{look_none, look_some, look_past}
use Rattle.version.proofs.Sorts.{sorts}
use Rattle.version.proofs.scan.look.Goals as goal

pub returns-then-found-place : goal.returns-then-found-place
returns-then-found-place g c =
    let vs = g.P.Part.versions c.args.part.now in
    sym (look_some vs c.loop-found.from c.args.place.number c.in-Some.found (sym (c.in-Some.ensures.answer)) c.if-found-place.true) ∙ c.loop-found.invariant

pub loop-found-preserved : goal.loop-found-preserved
loop-found-preserved g c =
    let vs = g.P.Part.versions c.args.part.now in
    look_past vs c.loop-found.from c.args.place.number c.in-Some.found (sorts vs (g.met.P.Part.kept c.args.part.now).ordered) (sym (c.in-Some.ensures.answer)) c.if-found-place.false ∙ c.loop-found.invariant

pub returns : goal.returns
returns g c =
    let vs = g.P.Part.versions c.args.part.now in
    sym (look_none vs c.loop-found.from c.args.place.number (sym (c.in_default.ensures.answer))) ∙ c.loop-found.invariant
