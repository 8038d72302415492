use Rattle.std.proofs.Common.{◌++◌, ◌∷◌, get_or, take}
use Rattle.std.specs.List.{flat_map}
use Rattle.std.specs.Fmt.{HasWritten, IsPlainFormatter}
use Rattle.cabinet.specs.Digits.{digits_of}
use Rattle.cabinet.proofs.hex.SpelledDisplay.fmt.Given as goal

abbrev pub invariant-loop-byte : goal.invariant-loop-byte
invariant-loop-byte g l =
    IsPlainFormatter l.fn.f
    → HasWritten g.W.Write.write_str_gives l.fn.f (digits_of (get_or l.self.0.now 0 0) ++ flat_map (λ c. 32 ∷ digits_of c) (take l.byte-index l.rest)) l.f
