use Rattle.std.proofs.Common.{◌≡◌, true, ◌-◌, ◌&&◌, sym, ap, ◌∙◌, rules}
use Rattle.std.proofs.lemmas.Bool.{ne_eqb, not_from_false}
use Rattle.std.specs.List.{slice_get}
use Rattle.version.specs.Lists.{last, behind}
use Rattle.version.specs.Order.{numbered}
use Rattle.parts.proofs.Cuts.{last_read}
use Rattle.parts.proofs.rows.is_behind.Goals as goal

pub returns-then-version-ne0 : goal.returns-then-version-ne0
returns-then-version-ne0 g c =
    let vs = g.R.Rows.list c.args.rows.now in
    let v = c.args.version in
    let one : numbered v ≡ true = not_from_false _ (ne_eqb v.number 0 c.if-version-ne0.true) in
    let before : c.saturating_sub.result ≡ c.len.result - 1 = search rules in
    c.follows.ensures ∙ ap (λ o. behind o v) (c.get.ensures ∙ ap (slice_get vs) (before ∙ ap (λ n. n - 1) c.len.ensures) ∙ sym (last_read vs)) ∙ ap (λ b. b && behind (last vs) v) (sym one)
