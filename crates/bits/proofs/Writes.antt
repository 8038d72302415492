-- Laws of writing a field: within one byte, and part by part. Assumes nothing.
use Rattle.std.proofs.Common.{◌≡◌, ℕ, ◌+◌, ◌-◌, ◌*◌, ◌/◌, ◌%◌, ◌^◌, ◌<◌, ◌≤◌, List, length, get_or, drop, set, sym, refl, ap, ◌∙◌, subst, ap₂, ⊎_elim, mul_assoc, div-lt_iff_lt-mul, add-mul, add_comm, arith}
use native.Mathlib.Nat.{div-eq_of_lt, mod-le}
use lib.Pow.{mod-mod-pow}
use Rattle.std.proofs.lemmas.Nat.{shr-shr, shr_split, shr_high, shr_below, mod_low, mod_below, pow-add, pow_pos, one_shl, field_of}
use Rattle.std.proofs.lemmas.List.{ext_get_or, length-set, length-drop, get_or-drop, get_or-set_same, get_or-set_other}
use Rattle.std.proofs.lemmas.Bool.{cases_eq}
use Rattle.bits.specs.Fields.{bit, number, with_part, Wrote}
use Rattle.bits.proofs.Numbers.{number_split, number_same, field_in_byte}

-- ---- a byte with a part replaced

-- its digits: the high ones, then v, then the low ones
parted : (b k w v : ℕ) → with_part b k w v ≡ (b / 2 ^ (k + w) * 2 ^ w + v) * 2 ^ k + b % 2 ^ k
parted b k w v =
    let hi = b / 2 ^ (k + w) in
    let e : 2 ^ (k + w) ≡ 2 ^ w * 2 ^ k = rw (add_comm k w) (pow-add 2 w k) in
    omega (arith, ap (λ x. hi * x) e, add-mul (hi * 2 ^ w) v (2 ^ k), mul_assoc hi (2 ^ w) (2 ^ k))

module _ (b k w v : ℕ) (small : v < 2 ^ w) where
  hi_is : with_part b k w v / 2 ^ k ≡ b / 2 ^ (k + w) * 2 ^ w + v
  hi_is = rw parted (shr_high _ k (b % 2 ^ k) (mod_below b (2 ^ k) (pow_pos k)))

  part_low : with_part b k w v % 2 ^ k ≡ b % 2 ^ k
  part_low = rw parted (mod_low _ k (b % 2 ^ k) (mod_below b (2 ^ k) (pow_pos k)))

  part_mid : with_part b k w v / 2 ^ k % 2 ^ w ≡ v
  part_mid = rw hi_is (mod_low (b / 2 ^ (k + w)) w v small)

  part_high : with_part b k w v / 2 ^ (k + w) ≡ b / 2 ^ (k + w)
  part_high = rw (← shr-shr (with_part b k w v) k w, hi_is, shr_high (b / 2 ^ (k + w)) w v small)

  part_lt : (m : ℕ) → b < 2 ^ (m + (k + w)) → with_part b k w v < 2 ^ (m + (k + w))
  part_lt m h = rw (pow-add 2 m (k + w)) ((div-lt_iff_lt-mul (pow_pos (k + w))).0 (rw part_high (shr_below b m (k + w) h)))

pub part_byte : (b k w v : ℕ) → k + w ≤ 8 → v < 2 ^ w → b < 256 → with_part b k w v < 256
part_byte b k w v h small byte = let e : 8 - (k + w) + (k + w) ≡ 8 = omega arith in rw e at (part_lt b k w v small (8 - (k + w)) (rw e byte))

-- such a byte as it is computed, in 16 bits
pub part_computed : (b k w v : ℕ) → k + w ≤ 8 → v < 2 ^ w → b < 256
    → (b / 2 ^ (k + w) * 2 ^ (k + w)) % 65536 + (v * 2 ^ k) % 65536 + b % ((1 * 2 ^ k) % 65536) < 256
part_computed b k w v h small byte =
    let lt = part_byte b k w v h small byte in
    rw (one_shl k 16 (omega arith)) (omega (arith, mod-le (b / 2 ^ (k + w) * 2 ^ (k + w)) 65536, mod-le (v * 2 ^ k) 65536))

-- ---- one bit of a number, from what the number is above or below

bit_above : (m n j e : ℕ) → j ≤ e → m / 2 ^ j ≡ n / 2 ^ j → m / 2 ^ e % 2 ≡ n / 2 ^ e % 2
bit_above m n j e h same =
    let s : e ≡ j + (e - j) = omega arith in
    rw (s, ← shr-shr m j (e - j), ← shr-shr n j (e - j), same)

low_bit : (n e k : ℕ) → e < k → n / 2 ^ e % 2 ≡ n % 2 ^ k / 2 ^ e % 2
low_bit n e k h =
    let s : k ≡ (k - e - 1 + 1) + e = omega arith in
    rw (s, field_of n (k - e - 1 + 1) e) (sym (mod-mod-pow (n / 2 ^ e) (k - e - 1) 1))

bit_below : (m n k e : ℕ) → e < k → m % 2 ^ k ≡ n % 2 ^ k → m / 2 ^ e % 2 ≡ n / 2 ^ e % 2
bit_below m n k e h same = rw (low_bit m e k h, low_bit n e k h, same)

-- ---- what a write leaves

-- a bit in another byte, and one in the byte that was set
bit_set_other : (xs : List ℕ) (q n i : ℕ) → (i / 8 ≡ q → ⊥) → bit (set xs q n) i ≡ bit xs i
unfolding bit
bit_set_other xs q n i h = rw (get_or-set_other xs q (i / 8) n 0 h)

bit_set_same : (xs : List ℕ) (q n i : ℕ) → q < length xs → i / 8 ≡ q → bit (set xs q n) i ≡ n / 2 ^ (7 - i % 8) % 2
unfolding bit
bit_set_same xs q n i l e = rw (e, get_or-set_same xs q n 0 l)

pub wrote_part : (xs : List ℕ) (p w v n : ℕ) → 1 ≤ w → p % 8 + w ≤ 8 → p < 8 * length xs → v < 2 ^ w
    → n ≡ with_part (get_or xs (p / 8) 0) (8 - p % 8 - w) w v → Wrote xs (set xs (p / 8) n) p w v
unfolding bit
wrote_part xs p w v n some h l small e = record {
  long = length-set xs (p / 8) n;
  holds = field_in_byte (set xs (p / 8) n) p w h ∙ rw (get_or-set_same xs (p / 8) n 0 in', e) (part_mid b k w v small);
  before = λ i j. ⊎_elim (λ (s : i / 8 ≡ p / 8). bit_set_same xs (p / 8) n i in' s ∙ rw (e, ← s) (bit_above _ _ (k + w) (7 - i % 8) (omega arith) (part_high _ k w v small))) (bit_set_other xs (p / 8) n i) (cases_eq (i / 8) (p / 8));
  behind = λ i j. ⊎_elim (λ (s : i / 8 ≡ p / 8). bit_set_same xs (p / 8) n i in' s ∙ rw (e, ← s) (bit_below _ _ k (7 - i % 8) (omega arith) (part_low _ k w v small))) (bit_set_other xs (p / 8) n i) (cases_eq (i / 8) (p / 8));
  rest = λ q j. get_or-set_other xs (p / 8) q n 0 (λ s. omega arith);
}
  where
    b : ℕ
    b = get_or xs (p / 8) 0

    k : ℕ
    k = 8 - p % 8 - w

    in' : p / 8 < length xs
    in' = omega arith

pub wrote_none : (xs : List ℕ) (p v w : ℕ) → v < 2 ^ w → Wrote xs xs p 0 (v / 2 ^ w)
unfolding number
wrote_none xs p v w small = record {
  long = refl;
  holds = sym (div-eq_of_lt small);
  before = λ i _. refl;
  behind = λ i _. refl;
  rest = λ q _. refl;
}

-- two writes, one behind the other, are one
pub wrote_more : (xs ys zs : List ℕ) (p a t u v : ℕ) → Wrote xs ys p a u → Wrote ys zs (p + a) t v → Wrote xs zs p (a + t) (u * 2 ^ t + v)
wrote_more xs ys zs p a t u v f g = record {
  long = g.long ∙ f.long;
  holds = number_split (bit zs) p a t ∙ ap₂ (λ x y. x * 2 ^ t + y) (number_same (bit ys) (bit zs) p a (λ i _ l. g.before i l) ∙ f.holds) g.holds;
  before = λ i l. g.before i (omega arith) ∙ f.before i l;
  behind = λ i l. g.behind i (omega arith) ∙ f.behind i (omega arith);
  rest = λ q l. g.rest q (omega arith) ∙ f.rest q (omega arith);
}

-- the digits of v down to the lowest r, from those down to the lowest r + t
digits_more : (v r t : ℕ) → v / 2 ^ (r + t) * 2 ^ t + v / 2 ^ r % 2 ^ t ≡ v / 2 ^ r
digits_more v r t = rw (← shr-shr v r t) (shr_split (v / 2 ^ r) t)

-- one turn of the loop that writes part by part: d bits of v are in, and t more come from the part
pub wrote_turn : (xs ys zs : List ℕ) (p w v d t part : ℕ) → d + t ≤ w → Wrote xs ys p d (v / 2 ^ (w - d))
    → part ≡ v / 2 ^ (w - d - t) % 2 ^ t → Wrote ys zs (p + d) t part → Wrote xs zs p (d + t) (v / 2 ^ (w - (d + t)))
wrote_turn xs ys zs p w v d t part h f is g =
    let r = w - (d + t) in
    let a : w - d ≡ r + t = omega arith in
    let b : w - d - t ≡ r = omega arith in
    let all : v / 2 ^ (w - d) * 2 ^ t + part ≡ v / 2 ^ r = rw (is, b, a) (digits_more v r t) in
    subst (λ n. Wrote xs zs p (d + t) n) all (wrote_more xs ys zs p d t (v / 2 ^ (w - d)) part f g)

-- a field that ends before a byte leaves the bytes from there on
pub rest_behind : (xs ys : List ℕ) (p w v n : ℕ) → Wrote xs ys p w v → p + w ≤ 8 * n → drop n ys ≡ drop n xs
rest_behind xs ys p w v n f h =
    ext_get_or 0 (drop n ys) (drop n xs) (rw (length-drop n ys, length-drop n xs, f.long))
    (λ i _. get_or-drop n ys i 0 ∙ f.rest (n + i) (omega arith) ∙ sym (get_or-drop n xs i 0))
