-- Laws of the number that a row of bits makes, and of the fields of a byte list. Assumes nothing.
use Rattle.std.proofs.Common.{◌≡◌, ℕ, zero, suc, ◌+◌, ◌-◌, ◌*◌, ◌/◌, ◌%◌, ◌^◌, ◌<◌, ◌≤◌, List, get_or, sym, refl, ap, ◌∙◌, ap₂, add-zero, add_assoc, add-suc, mod-eq_of_lt, mul_assoc, pow-suc, div-one, add-one, arith}
use Rattle.std.proofs.lemmas.Nat.{shr-shr, shr_high, mod_low, mod-pow-add}
use Rattle.bits.specs.Fields.{bit, number, field}

-- a row of a + t bits is one of a bits, and behind it one of t bits
pub number_split : (f : ℕ → ℕ) (p a t : ℕ) → number f p (a + t) ≡ number f p a * 2 ^ t + number f (p + a) t
unfolding number
number_split f p a zero = rw add-zero (omega arith)
number_split f p a (suc t) =
    rw (add-suc, add_assoc p a t) (omega (arith, number_split f p a t, ap (λ x. number f p a * x) (pow-suc 2 t), mul_assoc (number f p a) (2 ^ t) 2))

-- the same bits at another place
number_moved : (f g : ℕ → ℕ) (p q w : ℕ) → ((i : ℕ) → i < w → f (p + i) ≡ g (q + i)) → number f p w ≡ number g q w
unfolding number
number_moved f g p q zero h = refl
number_moved f g p q (suc w) h = ap₂ (λ n b. n * 2 + b) (number_moved f g p q w (λ i l. h i (omega arith))) (h w (omega arith))

pub number_same : (f g : ℕ → ℕ) (p w : ℕ) → ((i : ℕ) → p ≤ i → i < p + w → g i ≡ f i) → number g p w ≡ number f p w
number_same f g p w h = number_moved g f p p w (λ i l. h (p + i) (omega arith) (omega arith))

pub number_lt : (f : ℕ → ℕ) → ((i : ℕ) → f i < 2) → (p w : ℕ) → number f p w < 2 ^ w
unfolding number
number_lt f b p zero = omega arith
number_lt f b p (suc w) = omega (arith, number_lt f b p w, pow-suc 2 w, b (p + w))

pub bit_lt : (xs : List ℕ) (i : ℕ) → bit xs i < 2
unfolding bit
bit_lt xs i = omega arith

pub field_lt : (xs : List ℕ) (p w : ℕ) → field xs p w < 2 ^ w
field_lt xs p w = number_lt (bit xs) (bit_lt xs) p w

-- a field, from a number that has some bits more on either side
pub field_within : (xs : List ℕ) (b o w r p : ℕ) → b + o ≡ p → field xs p w ≡ field xs b (o + w + r) / 2 ^ r % 2 ^ w
field_within xs b o w r p e =
    let whole : field xs b (o + w + r) / 2 ^ r ≡ field xs b (o + w) =
    ap (λ n. n / 2 ^ r) (number_split (bit xs) b (o + w) r) ∙ shr_high (field xs b (o + w)) r (field xs (b + (o + w)) r) (field_lt xs (b + (o + w)) r) in
    sym (ap (λ n. n % 2 ^ w) (whole ∙ number_split (bit xs) b o w) ∙ mod_low (field xs b o) w (field xs (b + o) w) (field_lt xs (b + o) w) ∙ ap (λ q. field xs q w) e)

-- one more bit of a number
shr_more : (b k t : ℕ) → (b / 2 ^ (k + 1) % 2 ^ t) * 2 + b / 2 ^ k % 2 ≡ b / 2 ^ k % 2 ^ suc t
shr_more b k t = rw (← add-one t, mod-pow-add (b / 2 ^ k) t 1, shr-shr b k 1)

-- a field that lies in one byte
pub field_in_byte : (xs : List ℕ) (p t : ℕ) → p % 8 + t ≤ 8 → field xs p t ≡ get_or xs (p / 8) 0 / 2 ^ (8 - p % 8 - t) % 2 ^ t
unfolding number bit
field_in_byte xs p zero h = omega arith
field_in_byte xs p (suc t) h =
    let q : (p + t) / 8 ≡ p / 8 = omega arith in
    let o : 7 - (p + t) % 8 ≡ 8 - p % 8 - suc t = omega arith in
    let k : 8 - p % 8 - t ≡ (8 - p % 8 - suc t) + 1 = omega arith in
    rw (field_in_byte xs p t (omega arith), q, o, k, shr_more)

-- a byte is the field of its eight bits
pub byte_is_field : (xs : List ℕ) (q : ℕ) → get_or xs q 0 < 256 → field xs (8 * q) 8 ≡ get_or xs q 0
byte_is_field xs q h =
    let o : 8 * q % 8 ≡ 0 = omega arith in
    let d : 8 * q / 8 ≡ q = omega arith in
    field_in_byte xs (8 * q) 8 (omega arith) ∙ rw (o, d) (rw (div-one) (mod-eq_of_lt h))

-- n bytes that are those of xs from byte a on
pub field_moved : (xs ys : List ℕ) (a n : ℕ) → ((k : ℕ) → k < n → get_or ys k 0 ≡ get_or xs (a + k) 0) → field ys 0 (8 * n) ≡ field xs (8 * a) (8 * n)
unfolding bit
field_moved xs ys a n h =
    number_moved (bit ys) (bit xs) 0 (8 * a) (8 * n)
    (λ i l.
    let q : (8 * a + i) / 8 ≡ a + i / 8 = omega arith in
    let r : (8 * a + i) % 8 ≡ i % 8 = omega arith in
    let z : 0 + i ≡ i = omega arith in
    rw (z, q, r) (ap (λ b. b / 2 ^ (7 - i % 8) % 2) (h (i / 8) (omega arith))))

-- a field of one bit
pub field_one : (xs : List ℕ) (p : ℕ) → field xs p 1 ≡ bit xs p
unfolding number
field_one xs p = rw add-zero (omega arith)

-- one byte more at the end of a field of whole bytes
field_byte : (xs : List ℕ) (a n : ℕ) → get_or xs (a + n) 0 < 256 → field xs (8 * a) (8 * n + 8) ≡ field xs (8 * a) (8 * n) * 256 + get_or xs (a + n) 0
field_byte xs a n byte =
    let there : 8 * a + 8 * n ≡ 8 * (a + n) = omega arith in
    number_split (bit xs) (8 * a) (8 * n) 8 ∙ ap (λ v. field xs (8 * a) (8 * n) * 256 + v) (rw there (byte_is_field xs (a + n) byte))

-- five bytes
pub field_five : (xs : List ℕ) (a : ℕ) → get_or xs a 0 < 256 → get_or xs (a + 1) 0 < 256 → get_or xs (a + 2) 0 < 256 → get_or xs (a + 3) 0 < 256 → get_or xs (a + 4) 0 < 256
    → field xs (8 * a) 40 ≡ get_or xs a 0 * 2 ^ 32 + get_or xs (a + 1) 0 * 2 ^ 24 + get_or xs (a + 2) 0 * 2 ^ 16 + get_or xs (a + 3) 0 * 2 ^ 8 + get_or xs (a + 4) 0
field_five xs a b0 b1 b2 b3 b4 =
    omega (arith, byte_is_field xs a b0, field_byte xs a 1 b1, field_byte xs a 2 b2, field_byte xs a 3 b3, field_byte xs a 4 b4)
