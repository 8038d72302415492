use Rattle.std.proofs.Common.{◌≡◌, ◌+◌, ◌*◌, ◌^◌, get_or, arith, rules}
use Rattle.bits.proofs.Numbers.{field_five}
use Rattle.bits.proofs.read.five_bytes.Goals as goal

pub returns : goal.returns
returns c =
    let xs = c.args.bytes.now in
    let a = c.args.first in
    let four : c.from.result ≡ get_or xs a 0 * 2 ^ 24 + get_or xs (a + 1) 0 * 2 ^ 16 + get_or xs (a + 2) 0 * 2 ^ 8 + get_or xs (a + 3) 0 = search rules in
    omega (arith, four, c.from-2.ensures, field_five xs a (search rules) (search rules) (search rules) (search rules) (search rules))
