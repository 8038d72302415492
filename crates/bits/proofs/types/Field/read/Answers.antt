use Rattle.std.proofs.Common.{◌≡◌, ◌+◌, ◌-◌, ◌*◌, ◌/◌, ◌%◌, sym, ap, ◌∙◌, arith, rules}
use Rattle.std.proofs.lemmas.Nat.{one_shl}
use Rattle.bits.specs.Fields.{field}
use Rattle.bits.proofs.Numbers.{field_within}
use Rattle.bits.proofs.types.Field.read.Goals as goal

pub returns-clause-value : goal.returns-clause-value
returns-clause-value c =
    let xs = c.args.bytes.now in
    let p = c.args.place + c.args.self.at in
    let w = c.args.self.width in
    let r = 40 - p % 8 - w in
    let b = 8 * (p / 8) in
    let joined = c.if-first-bytes.joined in
    let five : joined ≡ field xs b 40 = search rules in
    let all : joined ≡ field xs b (p % 8 + w + r) = five ∙ ap (field xs b) (omega arith) in
    rw (one_shl w 64 (omega arith), all) (sym (field_within xs b (p % 8) w r p (omega arith)))
