-- Where a version goes in that is in place, for each kind of part. Assumes nothing.
use Rattle.std.proofs.Common.{◌≡◌, ℕ, ◌≤◌, Bool, true, false, not, ◌&&◌, List, [], ◌∷◌, ◌++◌, length, drop, Option, sym, ap, ◌∙◌, subst, arith}
use Rattle.std.proofs.lemmas.List.{take_all, drop_all}
use Rattle.std.proofs.lemmas.Bool.{and_parts, not-true}
use Rattle.std.specs.Bool.{then_some}
use Rattle.std.specs.List.{slice_get}
use Rattle.parts.specs.Indexed.{rank_of, GoesIn, Seated}
use Rattle.parts.proofs.Cuts.{rank_le, first_got, insert_at_rank}
use Rattle.version.specs.Lists.{held, alike, last, behind, insert, memory_place, flash_place}
use Rattle.version.specs.Order.{place_of, numbered, sorted}
use Rattle.version.specs.declared.types.Place.{Place}
use Rattle.version.specs.declared.types.Version.{Version}
use Rattle.version.proofs.Sorts.{sorts}
use Rattle.version.proofs.Takings.{free_found, kept_insert, kept_append}

-- a test for the place, and the index
seated : (place : List Version → Version → Bool) (put : List Version → Version → List Version) (vs : List Version) (v : Version) (i : ℕ) → (place vs v ≡ true → GoesIn vs (put vs v) v i)
    → (b : Bool) → b ≡ place vs v → (r : Option ℕ) → r ≡ then_some b i → Seated place put vs v r
seated place put vs v i h true e r is = subst (Seated place put vs v) (sym is) (sym e, h (sym e))
seated place put vs v i h false e r is = subst (Seated place put vs v) (sym is) (sym e)

pub memory_seat : (vs : List Version) (v : Version) → sorted vs ≡ true → (a : Place) → a ≡ place_of v → (i : ℕ) → i ≡ rank_of vs a → (o : Option Version) → o ≡ slice_get vs i → (b : Bool) → b ≡ (numbered v && not (alike o v))
    → (r : Option ℕ) → r ≡ then_some b i
    → Seated memory_place insert vs v r
memory_seat vs v s a here i at o got b free =
    let first = first_got vs (place_of v) i (at ∙ ap (rank_of vs) here) o got in
    seated memory_place insert vs v i (λ p.
    let parts = and_parts (numbered v) (not (held vs v)) p in
    let free : held vs v ≡ false = not-true (held vs v) parts.1 in
    subst (GoesIn vs (insert vs v) v) (sym (at ∙ ap (rank_of vs) here)) (record {
      within = rank_le vs (place_of v);
      list = insert_at_rank vs v v (sorts vs s) free;
      kept = λ limit k room. kept_insert vs limit v k parts.0 free room;
    })) b (free_found vs v s o first b free)

pub flash_seat : (vs : List Version) (v : Version) (n : ℕ) → n ≡ length vs → (b : Bool) → b ≡ flash_place vs v → (r : Option ℕ) → r ≡ then_some b n
    → Seated flash_place (λ vs v. vs ++ v ∷ []) vs v r
flash_seat vs v n count = seated flash_place (λ vs v. vs ++ v ∷ []) vs v n (λ p.
    let parts = and_parts (numbered v) (behind (last vs) v) p in
    let all : length vs ≤ length vs = omega arith in
    subst (GoesIn vs (vs ++ v ∷ []) v) (sym count) (record {
      within = all;
      list = ap (λ l. l ++ (v ∷ drop (length vs) vs)) (take_all (length vs) vs all) ∙ ap (λ l. vs ++ (v ∷ l)) (drop_all (length vs) vs all);
      kept = λ limit k room. kept_append vs limit v k parts.0 parts.1 room;
    }))
