use Rattle.std.proofs.Common.{rules}
use Rattle.bits.proofs.Writes.{wrote_part}
use Rattle.bits.proofs.write.write_part.Goals as goal

pub returns : goal.returns
returns c = search (rules, wrote_part)
