-- What a rule book means, and the two books of the cabinet.
use Rattle.std.specs.Prelude.{ℕ, Bool, cond, ◌||◌, ℤ, pos, ◌+ℤ◌, Some, None, Option, ◌==◌, int_lt}
use Rattle.std.proofs.Math.Logic.{ite}
use Rattle.std.proofs.Math.IntN.{ℤ_discrete}
use Rattle.std.specs.Int.{int_min}
use Rattle.rules.specs.declared.book.Outcome.{Outcome}
use Rattle.rules.specs.declared.book.Outcome.TheVariants.{Set, Clear, Leave}

-- the codes that are known, and the outcome of a code on an argument and an old state, which is a value or nothing
pub record Book : Type 0 where
  pub known : ℕ → Bool
  pub outcome : ℕ → ℤ → Option ℤ → Outcome

-- a state as a number: nothing counts as 0
abbrev pub or_zero : Option ℤ → ℤ
or_zero None = pos 0
or_zero (Some v) = v

-- the greatest value that there is, 2 to the power of 31 less 1
abbrev pub greatest : ℤ
greatest = pos 2147483647

-- leaves if the argument is negative, and otherwise sets the sum, at most the greatest value
abbrev pub add : ℤ → Option ℤ → Outcome
add a old = cond (int_lt a (pos 0)) Leave (Set (int_min (or_zero old +ℤ a) greatest))

-- sets the argument if it is greater than the old value, or there is none; leaves otherwise
abbrev pub peak : ℤ → Option ℤ → Outcome
peak a None = Set a
peak a (Some v) = cond (int_lt v a) (Set a) Leave

-- sets the argument if there is nothing; leaves otherwise
abbrev pub claim : ℤ → Option ℤ → Outcome
claim a None = Set a
claim a (Some v) = Leave

-- clears if the old value equals the argument; leaves otherwise
abbrev pub give_up : ℤ → Option ℤ → Outcome
give_up a None = Leave
give_up a (Some v) = ite (ℤ_discrete v a) Clear Leave

-- the book that knows code 1, by the first rule, and code 2, by the second; any other code leaves
abbrev pub of_two : (ℤ → Option ℤ → Outcome) → (ℤ → Option ℤ → Outcome) → Book
of_two first second = record {
  known = λ code. (code == 1) || (code == 2);
  outcome = λ code a old. cond (code == 1) (first a old) (cond (code == 2) (second a old) Leave);
}

-- the meter book: code 1 is add, code 2 is peak
abbrev pub meter : Book
meter = of_two add peak

-- the claim book: code 1 is claim, code 2 is give up
abbrev pub claims : Book
claims = of_two claim give_up
