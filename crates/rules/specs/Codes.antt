-- The code of each rule, and how a code is read.
use Rattle.std.specs.Prelude.{◌≡◌, ℕ, false, Result, MatchResult}
use Rattle.rules.specs.Books.{Book}
use Rattle.rules.specs.declared.book.UnknownCode.{UnknownCode}
use Rattle.rules.specs.declared.meter.MeterRule.{MeterRule}
use Rattle.rules.specs.declared.meter.MeterRule.TheVariants.{Add, Peak}
use Rattle.rules.specs.declared.claim.ClaimRule.{ClaimRule}
use Rattle.rules.specs.declared.claim.ClaimRule.TheVariants.{Claim, GiveUp}

abbrev pub meter_code : MeterRule → ℕ
meter_code Add = 1
meter_code Peak = 2

abbrev pub claim_code : ClaimRule → ℕ
claim_code Claim = 1
claim_code GiveUp = 2

-- the rule of the book that has the code, or the code itself if the book knows no such rule
abbrev pub Decodes : {Rule : Type 0} → Book → (Rule → ℕ) → ℕ → Result Rule UnknownCode → Type 0
Decodes book code_of code r = MatchResult r (λ rule. code_of rule ≡ code) (λ e. (e.0 ≡ code) × (book.known code ≡ false))
