use Rattle.std.proofs.Common.{rules, ◌≡◌, ◌∷◌, ◌++◌, get_or, take, refl}
use Rattle.std.proofs.Output.{has_written_of_eq}
use Rattle.std.proofs.lemmas.List.{take_all}
use Rattle.std.specs.List.{flat_map}
use Rattle.cabinet.specs.Digits.{digits_of, spelled}
use Rattle.cabinet.proofs.hex.SpelledDisplay.fmt.Goals as goal

pub loop-byte-init : goal.loop-byte-init
loop-byte-init g c =
    let e : c.args.self.now.0.now ≡ c.in-Some.first.now ∷ c.in-Some.rest.now = search rules in
    rw e (search rules)

pub returns-after-loop-byte-clause-writes : goal.returns-after-loop-byte-clause-writes
returns-after-loop-byte-clause-writes g c =
    let rest = c.in-Some.rest.now in
    let e : c.args.self.now.0.now ≡ c.in-Some.first.now ∷ rest = search rules in
    let all : take c.loop-byte.byte-index rest ≡ rest = take_all c.loop-byte.byte-index rest c.loop-byte-test.false in
    let text : digits_of (get_or c.args.self.now.0.now 0 0) ++ flat_map (λ b. 32 ∷ digits_of b) (take c.loop-byte.byte-index rest) ≡ spelled c.args.self.now.0.now = rw (e, all) refl in
    λ p _. has_written_of_eq _ _ _ _ _ text (c.loop-byte.invariant p)
