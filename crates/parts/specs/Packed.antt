-- Packed flash: records of 81 bits, most significant bit first and without gaps. A record is a point of 16 bits, a number of 32, the removed bit, and a value of 32 bits in two's complement, 0 if removed.
use Rattle.std.specs.Prelude.{◌≡◌, ℕ, ◌+◌, ◌*◌, ◌/◌, ◌^◌, ◌<◌, min, cond, List, map, length, ℤ, Some, None, Ok, Err, Option, Result, ◌==◌, slice_index_or}
use Rattle.bits.specs.Fields.{field, Wrote}
use Rattle.bits.specs.Signed.{twos, signed_of}
use Rattle.std.specs.List.{range_with_len}
use Rattle.version.specs.declared.types.NotTaken.{NotTaken}
use Rattle.version.specs.declared.types.Version.{Version}

-- how many records n bytes may hold
abbrev pub room : ℕ → ℕ
room n = min (8 * n / 81) 4096

-- ---- a record as a number

-- 1 if the point was removed
abbrev pub removed_bit : Option ℤ → ℕ
removed_bit (Some v) = 0
removed_bit None = 1

-- the value in two's complement, or 0 if the point was removed
abbrev pub value_bits : Option ℤ → ℕ
value_bits (Some v) = twos 32 v
value_bits None = 0

-- the record of a version: its four fields, one behind the other
abbrev pub record_number : Version → ℕ
record_number v = ((v.point * 2 ^ 32 + v.number) * 2 + removed_bit v.value) * 2 ^ 32 + value_bits v.value

-- ---- what bytes say

-- what the removed bit and the value bits say
abbrev pub value_of : ℕ → ℕ → Option ℤ
value_of removed value = cond (removed == 1) None (Some (signed_of 32 value))

-- the version whose record begins at bit place p
unfoldable pub version_at : List ℕ → ℕ → Version
version_at xs p = record {
  point = field xs p 16;
  number = field xs (p + 16) 32;
  value = value_of (field xs (p + 48) 1) (field xs (p + 49) 32);
}

-- where record i begins
abbrev pub record_start : ℕ → ℕ
record_start i = 81 * i

-- the versions of the first n records
abbrev pub versions_in : List ℕ → ℕ → List Version
versions_in xs n = map (λ i. version_at xs (record_start i)) (range_with_len 0 n)

-- the bytes xs hold exactly the records of vs, from the front
abbrev pub Packs : List ℕ → List Version → Type 0
Packs xs vs = (i : ℕ) (d : Version) → i < length vs → field xs (record_start i) 81 ≡ record_number (slice_index_or vs i d)

-- v appended behind n records, or not taken: the bits of its record are written, and no other; or none is
abbrev pub Appends : List ℕ → List ℕ → ℕ → Version → Result (Unit {0}) NotTaken → Type 0
Appends xs ys n v (Ok t) = Wrote xs ys (record_start n) 81 (record_number v)
Appends xs ys n v (Err e) = ys ≡ xs
