use Rattle.std.proofs.Common.{◌∙◌, rules}
use Rattle.bits.proofs.Numbers.{field_moved}
use Rattle.bits.proofs.read.last_bytes.Goals as goal

pub returns : goal.returns
returns c = c.five_bytes.ensures ∙ field_moved c.args.bytes.now c.from_fn-five.result c.args.first 5 (λ k h. search rules)
