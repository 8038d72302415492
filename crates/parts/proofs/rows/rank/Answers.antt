use Rattle.std.proofs.Common.{◌≡◌, sym, ap, ◌∙◌, arith}
use Rattle.version.specs.declared.types.Version.{Version}
use Rattle.version.proofs.Sorts.{sorts}
use Rattle.parts.specs.Indexed.{stands_before}
use Rattle.parts.proofs.Cuts.{nowhere, ahead_below, rank_is, stands_there}
use Rattle.parts.proofs.rows.rank.Goals as goal

pub loop-low-preserved-then-is_before : goal.loop-low-preserved-then-is_before
loop-low-preserved-then-is_before g c =
    let vs = g.R.Rows.list c.args.rows.now in
    let here = λ (d : Version). sym (stands_there vs _ d c.args.place (omega arith)) ∙ ap (λ o. stands_before o c.args.place) (sym c.get.ensures) ∙ sym c.is_before.ensures ∙ c.if-is_before.true in
    (omega arith, c.loop-low.invariant.1, λ k d h. ahead_below vs d c.args.place (sorts vs (g.met.R.Rows.ordered c.args.rows.now)) k _ (omega arith) (omega arith) (here d), c.loop-low.invariant.3)

pub loop-low-preserved : goal.loop-low-preserved
loop-low-preserved g c =
    let vs = g.R.Rows.list c.args.rows.now in (
      omega arith,
      omega arith,
      c.loop-low.invariant.2,
      λ d h. sym (stands_there vs _ d c.args.place h) ∙ ap (λ o. stands_before o c.args.place) (sym c.get.ensures) ∙ sym c.is_before.ensures ∙ c.if-is_before.false,
    )

pub returns : goal.returns
returns g c =
    let vs = g.R.Rows.list c.args.rows.now in
    let end : c.loop-low.high ≡ c.loop-low.low = omega arith in
    rank_is vs nowhere c.args.place c.loop-low.low (omega arith) (λ k l. c.loop-low.invariant.2 k nowhere l) (λ l. rw (← end) (c.loop-low.invariant.3 nowhere (omega arith)))
