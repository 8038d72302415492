-- A list of versions that is cut where a place stands, and what a taking makes of it. Assumes nothing.
use Rattle.std.proofs.Common.{◌≡◌, ℕ, suc, ◌<◌, Bool, true, false, cond, not, ◌&&◌, ◌||◌, eqb, ◌⊎◌, List, [], ◌∷◌, ◌++◌, length, Some, None, Ok, Err, Option, Result, sym, refl, ap, ◌∙◌, subst, inl, inr, ⊎_elim, arith}
use mathlib.Core.List.Memᴰ
use mathlib.Core.List.{Memᴰ}
use Rattle.std.proofs.lemmas.List.{length-append}
use Rattle.std.proofs.lemmas.Bool.{cond_both, cond-true, cond-false, cases_Bool, cases_eq, and_parts, or_parts, or_from, not-true, not_from_true, not_from_false, eqb-true, eq-eqb, ne_eqb}
use Rattle.std.proofs.lemmas.Bool.Decides.{nat_tests}
use Rattle.version.specs.Lists.{first_from, held, alike, last, behind, memory_place, flash_place, taking, left_by, insert, memory_after, flash_after}
use Rattle.version.specs.Order.{ahead, place_of, before, sorted, numbered, Kept}
use Rattle.version.specs.declared.types.NotTaken.{NotTaken}
use Rattle.version.specs.declared.types.NotTaken.TheVariants.{OutOfPlace, Full}
use Rattle.version.specs.declared.types.Place.{Place}
use Rattle.version.specs.declared.types.Version.{Version}
use Rattle.version.proofs.Sorts.{◌∈◌, each_of, every_from, Ahead, Sorted, sorts, sorted_from}

pub before_trans : (u v w : Version) → before u v ≡ true → before v w ≡ true → before u w ≡ true
before_trans u v w p q = grind (arith, nat_tests)

-- ---- a list cut at a place: us stand before it, and ws do not

-- nothing of ws stands before a place
abbrev pub Reached : Place → List Version → Type 0
Reached a [] = Unit {0}
Reached a (w ∷ ws) = ahead (place_of w) a ≡ false

abbrev pub head_of : List Version → Option Version
head_of [] = None
head_of (w ∷ ws) = Some w

abbrev pub AllAhead : Place → List Version → Type 0
AllAhead a us = (u : Version) → u ∈ us → ahead (place_of u) a ≡ true

pub first_from_cut : (a : Place) (us ws : List Version) → AllAhead a us → Reached a ws → first_from (us ++ ws) a ≡ head_of ws
first_from_cut a [] [] f r = refl
first_from_cut a [] (w ∷ ws) f r = cond-true (not (ahead (place_of w) a)) (Some w) (first_from ws a) (grind (arith, nat_tests))
first_from_cut a (u ∷ us) ws f r =
    let t = f u (Memᴰ.head refl) in
    cond-false (not (ahead (place_of u) a)) (Some u) (first_from (us ++ ws) a) (grind (arith, nat_tests)) ∙ first_from_cut a us ws (λ w m. f w (Memᴰ.tail m)) r

-- v is held if and only if it stands at the cut
abbrev same_place : Version → Version → Bool
same_place w v = eqb w.point v.point && eqb w.number v.number

held_front : (us ws : List Version) (v : Version) → AllAhead (place_of v) us → held (us ++ ws) v ≡ held ws v
held_front [] ws v f = refl
held_front (u ∷ us) ws v f =
    let t = f u (Memᴰ.head refl) in
    let n : same_place u v ≡ false = grind (arith, nat_tests) in
    ap (λ b. b || held (us ++ ws) v) n ∙ held_front us ws v (λ w m. f w (Memᴰ.tail m))

held_none : (ws : List Version) (v : Version) → Ahead v ws → held ws v ≡ false
held_none [] v f = refl
held_none (w ∷ ws) v f =
    let t = f w (Memᴰ.head refl) in
    let n : same_place w v ≡ false = grind (arith, nat_tests) in
    or_from (same_place w v) (held ws v) n (held_none ws v (λ u m. f u (Memᴰ.tail m)))

-- the version at the cut, if any, stands behind v
abbrev pub Beyond : Version → List Version → Type 0
Beyond v [] = Unit {0}
Beyond v (w ∷ ws) = before v w ≡ true

beyond_all : (v : Version) (ws : List Version) → Sorted ws → Beyond v ws → Ahead v ws
beyond_all v [] s b w m = absurd (Memᴰ.not-nil m)
beyond_all v (x ∷ xs) s b w m = ⊎_elim (λ (e : w ≡ x). subst (λ y. before v y ≡ true) (sym e) b) (λ n. before_trans v x w b (s.0 w n)) (Memᴰ.cases_cons m)

pub sorted_back : (us ws : List Version) → Sorted (us ++ ws) → Sorted ws
sorted_back [] ws s = s
sorted_back (u ∷ us) ws s = sorted_back us ws s.1

pub held_beyond : (us ws : List Version) (v : Version) → Sorted (us ++ ws) → AllAhead (place_of v) us → Beyond v ws → held (us ++ ws) v ≡ false
held_beyond us ws v s f b = held_front us ws v f ∙ held_none ws v (beyond_all v ws (sorted_back us ws s) b)

pub held_here : (us ws : List Version) (w v : Version) → AllAhead (place_of v) us → w.point ≡ v.point → w.number ≡ v.number → held (us ++ w ∷ ws) v ≡ true
held_here us ws w v f p n =
    let t : same_place w v ≡ true = grind (arith, nat_tests) in
    held_front us (w ∷ ws) v f ∙ ap (λ b. b || held ws v) t

pub insert_cut : (us ws : List Version) (v : Version) → AllAhead (place_of v) us → Beyond v ws → insert (us ++ ws) v ≡ us ++ (v ∷ ws)
insert_cut [] [] v f b = refl
insert_cut [] (w ∷ ws) v f b = cond-true (before v w) (v ∷ w ∷ ws) (w ∷ insert ws v) b
insert_cut (u ∷ us) ws v f b =
    let t = f u (Memᴰ.head refl) in
    let n : before v u ≡ false = grind (arith, nat_tests) in
    cond-false (before v u) (v ∷ u ∷ (us ++ ws)) (u ∷ insert (us ++ ws) v) n ∙ ap (λ l. u ∷ l) (insert_cut us ws v (λ w m. f w (Memᴰ.tail m)) b)

-- what stands at v's point and number, if anything, is the first from there
pub held_alike : (vs : List Version) (v : Version) → Sorted vs → held vs v ≡ alike (first_from vs (place_of v)) v
held_alike [] v s = refl
held_alike (w ∷ ws) v s = ⊎_elim
    (λ (t : before w v ≡ true).
    let e = cond-false (not (before w v)) (Some w) (first_from ws (place_of v)) (not_from_true (before w v) t) in
    let n : alike (Some w) v ≡ false = grind (arith, nat_tests) in
    ap (λ b. b || held ws v) n ∙ held_alike ws v s.1 ∙ ap (λ f. alike f v) (sym e))
    (λ (t : before w v ≡ false).
    let e = cond-true (not (before w v)) (Some w) (first_from ws (place_of v)) (not_from_false (before w v) t) in
    ⊎_elim
    (λ (q : alike (Some w) v ≡ true).
    let p = and_parts (eqb w.point v.point) (eqb w.number v.number) q in
    held_here [] ws w v (λ u m. absurd (Memᴰ.not-nil m)) (eqb-true w.point v.point p.0) (eqb-true w.number v.number p.1) ∙ sym (ap (λ f. alike f v) e ∙ q))
    (λ (q : alike (Some w) v ≡ false).
    let b : before v w ≡ true = grind (arith, nat_tests) in
    held_beyond [] (w ∷ ws) v s (λ u m. absurd (Memᴰ.not-nil m)) b ∙ sym (ap (λ f. alike f v) e ∙ q))
    (cases_Bool (alike (Some w) v)))
    (cases_Bool (before w v))

-- so a memory part sees by what it finds from the place on whether it may take a version
pub free_found : (vs : List Version) (v : Version) → sorted vs ≡ true → (o : Option Version) → o ≡ first_from vs (place_of v) → (b : Bool) → b ≡ (numbered v && not (alike o v)) → b ≡ memory_place vs v
free_found vs v s o is b e = e ∙ ap (λ a. numbered v && not a) (ap (λ f. alike f v) is ∙ sym (held_alike vs v (sorts vs s)))

-- ---- what the versions of a part stay

pub insert_cases : (vs : List Version) (v w : Version) → w ∈ insert vs v → (w ≡ v) ⊎ (w ∈ vs)
insert_cases [] v w m = inl (Memᴰ.eq_of_singleton m)
insert_cases (x ∷ xs) v w m = cond_both (before v x) (v ∷ x ∷ xs) (x ∷ insert xs v) (λ l. w ∈ l → (w ≡ v) ⊎ (w ∈ (x ∷ xs)))
    (λ _ k. Memᴰ.cases_cons k)
    (λ _ k. ⊎_elim (λ (e : w ≡ x). inr (Memᴰ.head e)) (λ j. ⊎_elim (λ (e : w ≡ v). inl e) (λ i. inr (Memᴰ.tail i)) (insert_cases xs v w j)) (Memᴰ.cases_cons k)) m

pub insert_new : (vs : List Version) (v : Version) → v ∈ insert vs v
insert_new [] v = Memᴰ.head refl
insert_new (x ∷ xs) v = cond_both (before v x) (v ∷ x ∷ xs) (x ∷ insert xs v) (λ l. v ∈ l) (λ _. Memᴰ.head refl) (λ _. Memᴰ.tail (insert_new xs v))

pub insert_old : (vs : List Version) (v w : Version) → w ∈ vs → w ∈ insert vs v
insert_old [] v w m = absurd (Memᴰ.not-nil m)
insert_old (x ∷ xs) v w m = cond_both (before v x) (v ∷ x ∷ xs) (x ∷ insert xs v) (λ l. w ∈ l) (λ _. Memᴰ.tail m)
    (λ _. ⊎_elim (λ (e : w ≡ x). Memᴰ.head e) (λ j. Memᴰ.tail (insert_old xs v w j)) (Memᴰ.cases_cons m))

pub insert_sorted : (vs : List Version) (v : Version) → Sorted vs → held vs v ≡ false → Sorted (insert vs v)
insert_sorted [] v s h = (λ w m. absurd (Memᴰ.not-nil m), tt)
insert_sorted (x ∷ xs) v s h =
    let n = or_parts (same_place x v) (held xs v) h in
    let free = n.0 in
    cond_both (before v x) (v ∷ x ∷ xs) (x ∷ insert xs v) Sorted
    (λ b. (λ w m. ⊎_elim (λ (e : w ≡ x). subst (λ y. before v y ≡ true) (sym e) b) (λ j. before_trans v x w b (s.0 w j)) (Memᴰ.cases_cons m), s))
    (λ b. (λ w m. ⊎_elim (λ (e : w ≡ v). subst (λ y. before x y ≡ true) (sym e) (grind (arith, nat_tests))) (λ j. s.0 w j) (insert_cases xs v w m), insert_sorted xs v s.1 n.1))

pub length_insert : (vs : List Version) (v : Version) → length (insert vs v) ≡ suc (length vs)
length_insert [] v = refl
length_insert (x ∷ xs) v = cond_both (before v x) (v ∷ x ∷ xs) (x ∷ insert xs v) (λ l. length l ≡ suc (length (x ∷ xs))) (λ _. refl) (λ _. ap suc (length_insert xs v))

pub kept_insert : (vs : List Version) (limit : ℕ) (v : Version) → Kept vs limit → numbered v ≡ true → held vs v ≡ false → length vs < limit → Kept (insert vs v) limit
kept_insert vs limit v k n h l = record {
  ordered = sorted_from (insert vs v) (insert_sorted vs v (sorts vs k.ordered) h);
  proper = every_from numbered (insert vs v) (λ w m. ⊎_elim (λ (e : w ≡ v). subst (λ x. numbered x ≡ true) (sym e) n) (each_of numbered vs k.proper w) (insert_cases vs v w m));
  within = rw (length_insert vs v) (omega arith);
}

-- in version order, what stands behind the last stands behind all
pub behind_all : (vs : List Version) (v : Version) → Sorted vs → behind (last vs) v ≡ true → (w : Version) → w ∈ vs → before w v ≡ true
behind_all [] v s b w m = absurd (Memᴰ.not-nil m)
behind_all (x ∷ []) v s b w m = subst (λ y. before y v ≡ true) (sym (Memᴰ.eq_of_singleton m)) b
behind_all (x ∷ y ∷ ys) v s b w m = ⊎_elim
    (λ (e : w ≡ x). subst (λ z. before z v ≡ true) (sym e) (before_trans x y v (s.0 y (Memᴰ.head refl)) (behind_all (y ∷ ys) v s.1 b y (Memᴰ.head refl))))
    (behind_all (y ∷ ys) v s.1 b w) (Memᴰ.cases_cons m)

append_sorted : (vs : List Version) (v : Version) → Sorted vs → ((w : Version) → w ∈ vs → before w v ≡ true) → Sorted (vs ++ (v ∷ []))
append_sorted [] v s h = (λ w m. absurd (Memᴰ.not-nil m), tt)
append_sorted (x ∷ xs) v s h = (λ w m. ⊎_elim (λ k. s.0 w k) (λ k. subst (λ y. before x y ≡ true) (sym (Memᴰ.eq_of_singleton k)) (h x (Memᴰ.head refl))) (Memᴰ.append_cases xs m), append_sorted xs v s.1 (λ w m. h w (Memᴰ.tail m)))

pub kept_append : (vs : List Version) (limit : ℕ) (v : Version) → Kept vs limit → numbered v ≡ true → behind (last vs) v ≡ true → length vs < limit → Kept (vs ++ (v ∷ [])) limit
kept_append vs limit v k n b l =
    let s = sorts vs k.ordered in record {
      ordered = sorted_from (vs ++ (v ∷ [])) (append_sorted vs v s (behind_all vs v s b));
      proper = every_from numbered (vs ++ (v ∷ [])) (λ w m. ⊎_elim (each_of numbered vs k.proper w) (λ i. subst (λ x. numbered x ≡ true) (sym (Memᴰ.eq_of_singleton i)) n) (Memᴰ.append_cases vs m));
      within = rw (length-append vs (v ∷ [])) (omega arith);
    }

-- ---- the three answers, with the list that each leaves; `placed` is whether the version is in place

module _ (placed : Bool) (vs new : List Version) (limit : ℕ) where
  answers : (r : Result (Unit {0}) NotTaken) → taking placed (length vs) limit ≡ r → (r ≡ taking placed (length vs) limit) × (left_by r vs new ≡ left_by (taking placed (length vs) limit) vs new)
  answers r e = (sym e, ap (λ a. left_by a vs new) (sym e))

  pub taking_out : placed ≡ false → (Err OutOfPlace ≡ taking placed (length vs) limit) × (vs ≡ left_by (taking placed (length vs) limit) vs new)
  taking_out p = answers (Err OutOfPlace) (cond-false placed (cond (eqb (length vs) limit) (Err Full) (Ok tt)) (Err OutOfPlace) p)

  pub taking_full : placed ≡ true → length vs ≡ limit → (Err Full ≡ taking placed (length vs) limit) × (vs ≡ left_by (taking placed (length vs) limit) vs new)
  taking_full p l = answers (Err Full)
      (cond-true placed (cond (eqb (length vs) limit) (Err Full) (Ok tt)) (Err OutOfPlace) p ∙ cond-true (eqb (length vs) limit) (Err Full) (Ok tt) (eq-eqb (length vs) limit l))

  pub taking_in : placed ≡ true → (length vs ≡ limit → ⊥) → (Ok tt ≡ taking placed (length vs) limit) × (new ≡ left_by (taking placed (length vs) limit) vs new)
  taking_in p l = answers (Ok tt)
      (cond-true placed (cond (eqb (length vs) limit) (Err Full) (Ok tt)) (Err OutOfPlace) p ∙ cond-false (eqb (length vs) limit) (Err Full) (Ok tt) (ne_eqb (length vs) limit l))

-- ---- a taking keeps what the versions of a part always are

pub kept_memory : (vs : List Version) (limit : ℕ) (v : Version) → Kept vs limit → Kept (memory_after vs limit v) limit
kept_memory vs limit v k = ⊎_elim
    (λ (p : memory_place vs v ≡ true). ⊎_elim
    (λ (l : length vs ≡ limit). subst (λ l. Kept l limit) (taking_full (memory_place vs v) vs (insert vs v) limit p l).1 k)
    (λ (l : length vs ≡ limit → ⊥).
    let q = and_parts (numbered v) (not (held vs v)) p in
    subst (λ l. Kept l limit) (taking_in (memory_place vs v) vs (insert vs v) limit p l).1 (kept_insert vs limit v k q.0 (not-true (held vs v) q.1) (omega (arith, k.within))))
    (cases_eq (length vs) limit))
    (λ p. subst (λ l. Kept l limit) (taking_out (memory_place vs v) vs (insert vs v) limit p).1 k)
    (cases_Bool (memory_place vs v))

pub kept_flash : (vs : List Version) (limit : ℕ) (v : Version) → Kept vs limit → Kept (flash_after vs limit v) limit
kept_flash vs limit v k = ⊎_elim
    (λ (p : flash_place vs v ≡ true). ⊎_elim
    (λ (l : length vs ≡ limit). subst (λ l. Kept l limit) (taking_full (flash_place vs v) vs (vs ++ (v ∷ [])) limit p l).1 k)
    (λ (l : length vs ≡ limit → ⊥).
    let q = and_parts (numbered v) (behind (last vs) v) p in
    subst (λ l. Kept l limit) (taking_in (flash_place vs v) vs (vs ++ (v ∷ [])) limit p l).1 (kept_append vs limit v k q.0 q.1 (omega (arith, k.within))))
    (cases_eq (length vs) limit))
    (λ p. subst (λ l. Kept l limit) (taking_out (flash_place vs v) vs (vs ++ (v ∷ [])) limit p).1 k)
    (cases_Bool (flash_place vs v))
