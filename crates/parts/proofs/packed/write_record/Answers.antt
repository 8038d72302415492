use Rattle.std.proofs.Common.{◌≡◌, ◌+◌, ◌*◌, ◌^◌, ◌<◌, add-zero, subst, w32, to_z, of_z, rules}
use Rattle.bits.specs.Fields.{Wrote}
use Rattle.bits.specs.Signed.{twos}
use Rattle.bits.proofs.Numbers.{field_lt}
use Rattle.bits.proofs.Writes.{wrote_more}
use Rattle.parts.specs.Packed.{removed_bit, value_bits, record_number}
use Rattle.parts.proofs.Records.{says}
use Rattle.parts.proofs.packed.write_record.Goals as goal

pub returns : goal.returns
returns c =
    let v = c.args.version in
    let p = c.args.place in
    let xs = c.args.bytes.now in
    let ys = c.write.new.bytes in
    let zs = c.write-2.new.bytes in
    let us = c.write-3.new.bytes in
    let ws = c.write_signed.new.bytes in
    let point : Wrote xs ys p 16 v.point = rw (add-zero, c.from.ensures) at c.write.ensures in
    let number : Wrote ys zs (p + 16) 32 v.number = rw c.from-2.ensures at c.write-2.ensures in
    let removed : Wrote zs us (p + 48) 1 (removed_bit v.value) = rw c.removed_bit.ensures.value at c.write-3.ensures in
    let bits : twos 32 (to_z w32 (of_z w32 c.value_or_zero.result)) ≡ value_bits v.value = search rules in
    let value : Wrote us ws (p + 49) 32 (value_bits v.value) = subst (Wrote us ws (p + 49) 32) bits c.write_signed.ensures in
    let two = wrote_more xs ys zs p 16 32 v.point v.number point number in
    let three = wrote_more xs zs us p 48 1 (v.point * 2 ^ 32 + v.number) (removed_bit v.value) two removed in
    let all : Wrote xs ws p 81 (record_number v) = wrote_more xs us ws p 49 32 ((v.point * 2 ^ 32 + v.number) * 2 + removed_bit v.value) (value_bits v.value) three value in
    let fn : v.number < 2 ^ 32 = search rules in
    let fr : removed_bit v.value < 2 = subst (λ n. n < 2) c.removed_bit.ensures.value c.removed_bit.ensures.bound in
    let fk : value_bits v.value < 2 ^ 32 = subst (λ n. n < 2 ^ 32) value.holds (field_lt ws (p + 49) 32) in
    record { wrote = all; says = says ws p v fn fr fk c.value_or_zero.ensures.back all.holds }
