-- Laws of two's complement. Assumes nothing.
use Rattle.std.proofs.Common.{◌≡◌, ℕ, suc, ◌+◌, ◌-◌, ◌*◌, ◌%◌, ◌^◌, ◌<◌, ◌≤◌, ltb, ℤ, pos, negsuc, sym, refl, ap, ◌∙◌, mod-eq_of_lt, add-mul, pow-suc, arith, pow-add, w32, of_z}
use lib.Signed.{mag}
use Rattle.std.proofs.lemmas.Nat.{mod_low, one_shl, pow_pos}
use Rattle.std.proofs.lemmas.Bool.{cond_both, ltb-true, ltb-false}
use Rattle.std.proofs.lemmas.Bool.Decides.{nat_tests}
use Rattle.bits.specs.Signed.{twos, signed_of}

double : (w : ℕ) → 1 ≤ w → 2 ^ w ≡ 2 ^ (w - 1) * 2
double w h = let e : w ≡ suc (w - 1) = omega arith in ap (λ x. 2 ^ x) e ∙ pow-suc 2 (w - 1)

pub twos_lt : (v : ℤ) (w : ℕ) → 1 ≤ w → mag v < 2 ^ (w - 1) → twos w v < 2 ^ w
twos_lt (pos n) w h f = omega (arith, double w h)
twos_lt (negsuc n) w h f = omega (arith, double w h)

-- the lowest w of a value's 32 bits
pub low_bits : (v : ℤ) (w : ℕ) → 1 ≤ w → w ≤ 32 → mag v < 2 ^ (w - 1) → of_z w32 v % 2 ^ w ≡ twos w v
low_bits (pos n) w h k f = mod-eq_of_lt (omega (arith, double w h))
low_bits (negsuc n) w h k f =
    let e : 32 - w + w ≡ 32 = omega arith in
    let all : 2 ^ 32 ≡ 2 ^ (32 - w) * 2 ^ w = ap (λ x. 2 ^ x) (sym e) ∙ pow-add 2 (32 - w) w in
    let q : 2 ^ (32 - w) ≡ (2 ^ (32 - w) - 1) + 1 = omega (arith, pow_pos (32 - w)) in
    let one = ap (λ x. x * 2 ^ w) q ∙ add-mul (2 ^ (32 - w) - 1) 1 (2 ^ w) in
    let split : 2 ^ 32 - suc n ≡ (2 ^ (32 - w) - 1) * 2 ^ w + (2 ^ w - suc n) = omega (arith, double w h) in
    ap (λ x. x % 2 ^ w) split ∙ mod_low (2 ^ (32 - w) - 1) w (2 ^ w - suc n) (omega (arith, pow_pos w))

-- the same as it is computed, from the number m of those bits
pub low_bits_computed : (v : ℤ) (w m : ℕ) → 1 ≤ w → w ≤ 32 → mag v < 2 ^ (w - 1) → m ≡ of_z w32 v → m % ((1 * 2 ^ w) % 18446744073709551616) ≡ twos w v
low_bits_computed v w m h k f e = rw (one_shl w 64 (omega arith), e) (low_bits v w h k f)

-- what is written is read again
pub signed_twos : (v : ℤ) (w : ℕ) → 1 ≤ w → mag v < 2 ^ (w - 1) → signed_of w (twos w v) ≡ v
signed_twos (pos n) w h f = grind (arith, nat_tests)
signed_twos (negsuc n) w h f = let d = double w h in grind (arith, nat_tests)

-- what is read was written
pub twos_signed : (n w : ℕ) → 1 ≤ w → n < 2 ^ w → twos w (signed_of w n) ≡ n
twos_signed n w h f = cond_both (ltb n (2 ^ (w - 1))) (pos n) (negsuc (2 ^ w - suc n)) (λ z. twos w z ≡ n) (λ _. refl) (λ _. omega arith)

pub mag_signed : (n w : ℕ) → 1 ≤ w → n < 2 ^ w → mag (signed_of w n) < 2 ^ (w - 1)
mag_signed n w h f =
    cond_both (ltb n (2 ^ (w - 1))) (pos n) (negsuc (2 ^ w - suc n)) (λ z. mag z < 2 ^ (w - 1))
    (λ e. ltb-true n (2 ^ (w - 1)) e) (λ e. let low = ltb-false n (2 ^ (w - 1)) e in omega (arith, double w h))
