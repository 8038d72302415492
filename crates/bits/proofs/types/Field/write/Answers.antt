use native.Mathlib.Nat.{sub-zero}
use Rattle.std.proofs.Common.{◌+◌, rules}
use Rattle.std.proofs.lemmas.Nat.{one_shl}
use Rattle.bits.proofs.Writes.{wrote_none, wrote_turn}
use Rattle.bits.proofs.types.Field.write.Goals as goal

pub loop-done-init : goal.loop-done-init
loop-done-init c = search (rules, sub-zero, wrote_none)

pub loop-done-preserved : goal.loop-done-preserved
loop-done-preserved c = (
  wrote_turn c.args.bytes.now c.loop-done.bytes c.write_part.new.bytes (c.args.place + c.args.self.at) c.args.self.width c.args.value c.loop-done.done c.min-part.result _
      (search rules) c.loop-done.invariant.0 (rw (one_shl c.min-part.result 64 (search rules))) c.write_part.ensures,
  search rules,
)
