-- A signed value in a field of w bits: two's complement.
use Rattle.std.specs.Prelude.{ℕ, suc, ◌-◌, ◌^◌, cond, ℤ, pos, negsuc, nat_lt}

-- the number that stands for v: v itself, or 2^w + v if v is negative (`negsuc n` is -1 - n)
abbrev pub twos : ℕ → ℤ → ℕ
twos w (pos n) = n
twos w (negsuc n) = 2 ^ w - suc n

-- the value that the number n stands for
abbrev pub signed_of : ℕ → ℕ → ℤ
signed_of w n = cond (nat_lt n (2 ^ (w - 1))) (pos n) (negsuc (2 ^ w - suc n))
