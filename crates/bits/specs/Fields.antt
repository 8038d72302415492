-- The bits of a byte list, most significant first: the number that a row of bits makes, the bytes that a row of bits fills, and what writing a number changes.
use Rattle.std.specs.Prelude.{◌≡◌, ℕ, zero, suc, ◌+◌, ◌-◌, ◌*◌, ◌/◌, ◌%◌, ◌^◌, ◌<◌, ◌≤◌, List, [], ◌∷◌, map, length, slice_index}
use Rattle.std.specs.List.{range_with_len}

-- bit i of the bytes xs: bit 0 is the highest of the first byte; behind the last byte all bits are 0
unfoldable pub bit : List ℕ → ℕ → ℕ
bit xs i = slice_index xs (i / 8) / 2 ^ (7 - i % 8) % 2

-- the number that w bits from place p on make, the first of them the highest
unfoldable pub number : (ℕ → ℕ) → ℕ → ℕ → ℕ
number f p zero = 0
number f p (suc w) = number f p w * 2 + f (p + w)

-- the field of w bits at place p of the bytes xs
abbrev pub field : List ℕ → ℕ → ℕ → ℕ
field xs p w = number (bit xs) p w

-- the lowest w binary digits of v, the highest of them first
unfoldable pub digits : ℕ → ℕ → List ℕ
digits zero v = []
digits (suc w) v = v / 2 ^ w % 2 ∷ digits w v

-- the n bytes that a row of bits fills from the front, with zeros behind its last bit
unfoldable pub packed : ℕ → List ℕ → List ℕ
packed n bs = map (λ q. number (λ i. slice_index bs i) (8 * q) 8) (range_with_len 0 n)

-- ys is xs with the number v in the w bits from place p on, and no other bit changed
pub record Wrote (xs ys : List ℕ) (p w v : ℕ) : Type 0 where
  pub long : length ys ≡ length xs
  pub holds : field ys p w ≡ v
  pub before : (i : ℕ) → i < p → bit ys i ≡ bit xs i
  pub behind : (i : ℕ) → p + w ≤ i → bit ys i ≡ bit xs i
  -- the bytes that lie wholly behind the field
  pub rest : (q : ℕ) → p + w ≤ 8 * q → slice_index ys q ≡ slice_index xs q

-- the byte b with v in the w bits above its lowest k
abbrev pub with_part : ℕ → ℕ → ℕ → ℕ → ℕ
with_part b k w v = b / 2 ^ (k + w) * 2 ^ (k + w) + v * 2 ^ k + b % 2 ^ k
