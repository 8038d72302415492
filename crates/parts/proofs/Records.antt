-- The records of packed flash: what a written record says, and what one more record makes of those before it. Assumes nothing.
use Rattle.std.proofs.Common.{◌≡◌, ℕ, ◌+◌, ◌*◌, ◌/◌, ◌%◌, ◌^◌, ◌<◌, ◌≤◌, List, [], ◌∷◌, ◌++◌, length, get_or, ℤ, Some, None, Option, sym, ap, ◌∙◌, ap₂, ⊎_elim, arith}
use Rattle.bits.specs.Fields.{bit, field, Wrote}
use Rattle.bits.proofs.Numbers.{number_split, number_same, field_lt}
use Rattle.parts.specs.Packed.{removed_bit, value_bits, record_number, value_of, version_at, versions_in, Packs}
use Rattle.std.specs.List.{slice_get}
use Rattle.std.proofs.lemmas.Option.{slice_get-get_or, slice_get_past}
use Rattle.std.proofs.lemmas.Nat.{shr_high, mod_low}
use Rattle.std.proofs.lemmas.List.FromFn.{length-map-range_with_len, get_or-map-range_with_len, map-range_with_len_more, fill_by_all}
use Rattle.std.proofs.lemmas.List.{length_push, get_or_append_left, get_or_push}
use Rattle.std.proofs.lemmas.Bool.{cases_lt}
use Rattle.version.specs.declared.types.Version.{Version}

-- ---- versions by their index

-- as many versions as records
pub length_versions : (xs : List ℕ) (n : ℕ) → length (versions_in xs n) ≡ n
length_versions xs n = length-map-range_with_len (λ i. version_at xs (81 * i)) 0 n

-- version i is what record i says
pub version_of : (xs : List ℕ) (n i : ℕ) (d : Version) → i < n → get_or (versions_in xs n) i d ≡ version_at xs (81 * i)
version_of xs n i d h = get_or-map-range_with_len (λ i. version_at xs (81 * i)) 0 n i i d h (omega arith)

pub version_got : (xs : List ℕ) (n i : ℕ) (v : Version) → i < n → v ≡ version_at xs (81 * i) → Some v ≡ slice_get (versions_in xs n) i
version_got xs n i v h e = ap Some (e ∙ sym (version_of xs n i v h)) ∙ sym (slice_get-get_or (versions_in xs n) i v (omega (arith, length_versions xs n)))

pub none_got : (xs : List ℕ) (n i : ℕ) → n ≤ i → None ≡ slice_get (versions_in xs n) i
none_got xs n i h = sym (slice_get_past (versions_in xs n) i (omega (arith, length_versions xs n)))

-- ---- what a record says

-- a version from its fields
pub version_is : (xs : List ℕ) (p a b : ℕ) (c : Option ℤ) → a ≡ field xs p 16 → b ≡ field xs (p + 16) 32 → c ≡ value_of (field xs (p + 48) 1) (field xs (p + 49) 32)
    → ◌≡◌ {A = Version} record { point = a; number = b; value = c } (version_at xs p)
unfolding version_at
version_is xs p a b c e f g = cc

-- a record is its four fields, one behind the other
fields_of : (xs : List ℕ) (p : ℕ) → field xs p 81 ≡ ((field xs p 16 * 2 ^ 32 + field xs (p + 16) 32) * 2 + field xs (p + 48) 1) * 2 ^ 32 + field xs (p + 49) 32
fields_of xs p = omega (arith, number_split (bit xs) p 49 32, number_split (bit xs) p 48 1, number_split (bit xs) p 16 32)

-- two numbers of k digits behind others
split_same : (a b c d k : ℕ) → b < 2 ^ k → d < 2 ^ k → a * 2 ^ k + b ≡ c * 2 ^ k + d → (a ≡ c) × (b ≡ d)
split_same a b c d k lb ld e = (
  sym (shr_high a k b lb) ∙ ap (λ n. n / 2 ^ k) e ∙ shr_high c k d ld,
  sym (mod_low a k b lb) ∙ ap (λ n. n % 2 ^ k) e ∙ mod_low c k d ld,
)

-- what was written as the record of a version says that version
pub says : (xs : List ℕ) (p : ℕ) (v : Version) → v.number < 2 ^ 32 → removed_bit v.value < 2 → value_bits v.value < 2 ^ 32
    → value_of (removed_bit v.value) (value_bits v.value) ≡ v.value → field xs p 81 ≡ record_number v → version_at xs p ≡ v
says xs p v fn fr fk back e =
    let s1 = split_same ((v.point * 2 ^ 32 + v.number) * 2 + removed_bit v.value) (value_bits v.value) _ _ 32 fk (field_lt xs (p + 49) 32) (sym e ∙ fields_of xs p) in
    let s2 = split_same (v.point * 2 ^ 32 + v.number) (removed_bit v.value) _ _ 1 fr (field_lt xs (p + 48) 1) s1.0 in
    let s3 = split_same v.point v.number _ _ 32 fn (field_lt xs (p + 16) 32) s2.0 in
    sym (version_is xs p v.point v.number v.value s3.0 s3.1 (sym back ∙ ap₂ value_of s2.1 s1.1))

-- ---- one record more

module _ (xs ys : List ℕ) (n m : ℕ) (f : Wrote xs ys (81 * n) 81 m) where
  -- a field before the new record is as it was
  field_kept : (p w : ℕ) → p + w ≤ 81 * n → field ys p w ≡ field xs p w
  field_kept p w h = number_same (bit xs) (bit ys) p w (λ i _ l. f.before i (omega arith))

  -- and so is what a record before it says
  version_kept : (i : ℕ) → i < n → version_at ys (81 * i) ≡ version_at xs (81 * i)
  unfolding version_at
  version_kept i h =
      let p = 81 * i in
      let a = field_kept p 16 (omega arith) in
      let b = field_kept (p + 16) 32 (omega arith) in
      let c = field_kept (p + 48) 1 (omega arith) in
      let d = field_kept (p + 49) 32 (omega arith) in
      cc

  pub versions_kept : versions_in ys n ≡ versions_in xs n
  versions_kept =
      let none : Version = record { point = 0; number = 0; value = None } in
      sym (fill_by_all (λ i. version_at ys (81 * i)) (versions_in xs n) n none (length_versions xs n) (λ i h. version_of xs n i none h ∙ sym (version_kept i h)))

-- the list of versions grows by the new one
pub versions_more : (xs ys : List ℕ) (n m : ℕ) (v : Version) → Wrote xs ys (81 * n) 81 m → version_at ys (81 * n) ≡ v → versions_in ys (n + 1) ≡ versions_in xs n ++ v ∷ []
versions_more xs ys n m v f e =
    map-range_with_len_more (λ i. version_at ys (81 * i)) 0 n n (omega arith) ∙ ap₂ (λ vs w. vs ++ w ∷ []) (versions_kept xs ys n m f) e

-- and the bytes hold exactly the records of the longer list
pub packs_more : (xs ys : List ℕ) (n : ℕ) (v : Version) (vs : List Version) → length vs ≡ n
    → Wrote xs ys (81 * n) 81 (record_number v) → Packs xs vs → Packs ys (vs ++ v ∷ [])
packs_more xs ys n v vs e f old i d h = ⊎_elim
    (λ (l : i < length vs). field_kept xs ys n (record_number v) f (81 * i) 81 (omega arith) ∙ old i d l ∙ ap record_number (sym (get_or_append_left vs (v ∷ []) d i l)))
    (λ (l : length vs ≤ i).
    let here : i ≡ n = omega (arith, length_push vs v) in
    ap (λ k. field ys (81 * k) 81) here ∙ f.holds ∙ ap record_number (sym (get_or_push vs v d i (omega arith))))
    (cases_lt i (length vs))
