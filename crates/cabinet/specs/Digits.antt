-- Hexadecimal digits.
use Rattle.std.specs.Prelude.{ℕ, ◌+◌, ◌-◌, ◌*◌, ◌/◌, ◌%◌, Bool, cond, ◌&&◌, Some, None, Option, nat_le, nat_lt, List, [], ◌∷◌, ◌++◌}
use Rattle.std.specs.List.{flat_map}

abbrev pub between : ℕ → ℕ → ℕ → Bool
between low high d = nat_le low d && nat_le d high

-- the value of a digit: 48 to 57 are the codes of 0 to 9, 65 to 70 those of A to F, 97 to 102 those of a to f
abbrev pub digit_value : ℕ → Option ℕ
digit_value d =
    cond (between 48 57 d) (Some (d - 48))
    (cond (between 65 70 d) (Some (d - 65 + 10))
    (cond (between 97 102 d) (Some (d - 97 + 10)) None))

-- a byte from the values of its upper and of its lower digit, if both have one
abbrev pub byte_from : Option ℕ → Option ℕ → Option ℕ
byte_from (Some high) (Some low) = Some (16 * high + low)
byte_from _ _ = None

-- the byte that two digits spell, the upper one first; fewer or more spell none
abbrev pub byte_of : List ℕ → Option ℕ
byte_of (high ∷ low ∷ []) = byte_from (digit_value high) (digit_value low)
byte_of _ = None

-- the digit of a value below 16, in capitals
abbrev pub digit_of : ℕ → ℕ
digit_of v = cond (nat_lt v 10) (48 + v) (65 + (v - 10))

-- the two digits of a byte, the upper one first
abbrev pub digits_of : ℕ → List ℕ
digits_of b = digit_of (b / 16) ∷ digit_of (b % 16) ∷ []

-- bytes as text: the digits of each, one space (32) between
abbrev pub spelled : List ℕ → List ℕ
spelled [] = []
spelled (b ∷ bs) = digits_of b ++ flat_map (λ c. 32 ∷ digits_of c) bs
