-- Versions in version order by their index: the rank of a place, and the list cut there. Assumes nothing.
use Rattle.std.proofs.Common.{◌≡◌, ℕ, zero, suc, ◌+◌, ◌-◌, ◌<◌, ◌≤◌, Bool, true, false, not, List, [], ◌∷◌, ◌++◌, length, get_or, take, drop, Some, None, Option, sym, refl, ap, ◌∙◌, subst, ⊎_elim, arith}
use mathlib.Core.List.Memᴰ
use mathlib.Core.List.{Memᴰ}
use Rattle.std.proofs.lemmas.List.{take-append-drop, drop_more, drop_all}
use Rattle.std.proofs.lemmas.Bool.{cond_both, cond-true, cond-false, cases_Bool, cases_lt, not_from_true, not_from_false}
use Rattle.std.proofs.Math.Bool.{not-not}
use Rattle.std.proofs.lemmas.Option.{slice_get-get_or, slice_get_past}
use Rattle.std.proofs.lemmas.Bool.Decides.{nat_tests}
use Rattle.std.specs.List.{insert as inserted}
use Rattle.std.specs.List.{slice_get}
use Rattle.parts.specs.Indexed.{rank_of, stands_before}
use Rattle.version.specs.Lists.{first_from, Reaches, held, last, insert}
use Rattle.version.specs.Order.{ahead, place_of, before}
use Rattle.version.specs.declared.types.Place.{Place}
use Rattle.version.specs.declared.types.Version.{Version}
use Rattle.version.proofs.Firsts.{reaches_is}
use Rattle.version.proofs.Sorts.{◌∈◌, Sorted}
use Rattle.version.proofs.Takings.{AllAhead, Reached, Beyond, held_beyond, held_here, insert_cut}

-- some version, where one has to be named and none is read
abbrev pub nowhere : Version
nowhere = record { point = 0; number = 0; value = None }

-- the element at an index is in the list
pub at_in : (vs : List Version) (i : ℕ) (d : Version) → i < length vs → get_or vs i d ∈ vs
at_in [] i d h = elim h [ ]
at_in (v ∷ vs) zero d h = Memᴰ.head refl
at_in (v ∷ vs) (suc i) d h = Memᴰ.tail (at_in vs i d (omega arith))

ahead_more : (v w : Version) (a : Place) → before v w ≡ true → ahead (place_of w) a ≡ true → ahead (place_of v) a ≡ true
ahead_more v w a p q = grind (arith, nat_tests)

-- what stands before an element that stands before a place does so too
pub ahead_below : (vs : List Version) (d : Version) (a : Place) → Sorted vs → (i j : ℕ) → i ≤ j → j < length vs → ahead (place_of (get_or vs j d)) a ≡ true → ahead (place_of (get_or vs i d)) a ≡ true
ahead_below [] d a s i j l h t = elim h [ ]
ahead_below (v ∷ vs) d a s zero zero l h t = t
ahead_below (v ∷ vs) d a s zero (suc j) l h t = ahead_more v (get_or vs j d) a (s.0 (get_or vs j d) (at_in vs j d (omega arith))) t
ahead_below (v ∷ vs) d a s (suc i) zero l h t = elim l [ ]
ahead_below (v ∷ vs) d a s (suc i) (suc j) l h t = ahead_below vs d a s.1 i j (omega arith) (omega arith) t

-- the rank is the index at which the versions stop to stand before the place
pub rank_is : (vs : List Version) (d : Version) (a : Place) (r : ℕ) → r ≤ length vs → ((k : ℕ) → k < r → ahead (place_of (get_or vs k d)) a ≡ true) → (r < length vs → ahead (place_of (get_or vs r d)) a ≡ false) → r ≡ rank_of vs a
rank_is [] d a r h below here = omega arith
rank_is (v ∷ vs) d a zero h below here = sym (cond-false (ahead (place_of v) a) (suc (rank_of vs a)) 0 (here (omega arith)))
rank_is (v ∷ vs) d a (suc r) h below here =
    ap suc (rank_is vs d a r (omega arith) (λ k l. below (suc k) (omega arith)) (λ l. here (omega arith)))
    ∙ sym (cond-true (ahead (place_of v) a) (suc (rank_of vs a)) 0 (below 0 (omega arith)))

-- the test of what is read at an index is that of its element
pub stands_there : (vs : List Version) (i : ℕ) (d : Version) (a : Place) → i < length vs → stands_before (slice_get vs i) a ≡ ahead (place_of (get_or vs i d)) a
stands_there vs i d a h = ap (λ o. stands_before o a) (slice_get-get_or vs i d h)

-- what stands at the rank is the first from the place on
pub first_at_rank : (vs : List Version) (a : Place) → slice_get vs (rank_of vs a) ≡ first_from vs a
first_at_rank [] a = refl
first_at_rank (v ∷ vs) a = ⊎_elim
    (λ (t : ahead (place_of v) a ≡ true).
    ap (slice_get (v ∷ vs)) (cond-true (ahead (place_of v) a) (suc (rank_of vs a)) 0 t) ∙ first_at_rank vs a
    ∙ sym (cond-false (not (ahead (place_of v) a)) (Some v) (first_from vs a) (not_from_true (ahead (place_of v) a) t)))
    (λ (t : ahead (place_of v) a ≡ false).
    ap (slice_get (v ∷ vs)) (cond-false (ahead (place_of v) a) (suc (rank_of vs a)) 0 t)
    ∙ sym (cond-true (not (ahead (place_of v) a)) (Some v) (first_from vs a) (not_from_false (ahead (place_of v) a) t)))
    (cases_Bool (ahead (place_of v) a))

pub first_got : (vs : List Version) (a : Place) (i : ℕ) → i ≡ rank_of vs a → (o : Option Version) → o ≡ slice_get vs i → o ≡ first_from vs a
first_got vs a i at o is = is ∙ ap (slice_get vs) at ∙ first_at_rank vs a

pub first_reaches : (vs : List Version) (a : Place) (i : ℕ) → i ≡ rank_of vs a → (o : Option Version) → o ≡ slice_get vs i → Reaches a o
first_reaches vs a i at o is = reaches_is vs a o (first_got vs a i at o is)

-- ---- the list cut at the rank of a place

-- v stands in front of a version, if there is one
abbrev in_front : Version → Option Version → Bool
in_front v None = true
in_front v (Some w) = before v w

pub rank_le : (vs : List Version) (a : Place) → rank_of vs a ≤ length vs
rank_le [] a = omega arith
rank_le (v ∷ vs) a = let h = rank_le vs a in cond_both (ahead (place_of v) a) (suc (rank_of vs a)) 0 (λ r. r ≤ suc (length vs)) (λ _. omega arith) (λ _. omega arith)

rank_front : (vs : List Version) (a : Place) → AllAhead a (take (rank_of vs a) vs)
rank_front [] a u m = absurd (Memᴰ.not-nil m)
rank_front (v ∷ vs) a u m = cond_both (ahead (place_of v) a) (suc (rank_of vs a)) 0 (λ r. u ∈ take r (v ∷ vs) → ahead (place_of u) a ≡ true)
    (λ t k. ⊎_elim (λ (e : u ≡ v). subst (λ x. ahead (place_of x) a ≡ true) (sym e) t) (rank_front vs a u) (Memᴰ.cases_cons k))
    (λ _ k. absurd (Memᴰ.not-nil k)) m

rank_back : (vs : List Version) (a : Place) → Reached a (drop (rank_of vs a) vs)
rank_back [] a = tt
rank_back (v ∷ vs) a = cond_both (ahead (place_of v) a) (suc (rank_of vs a)) 0 (λ r. Reached a (drop r (v ∷ vs))) (λ _. rank_back vs a) (λ t. t)

same_point : (w v : Version) → ahead (place_of w) (place_of v) ≡ false → before v w ≡ false → w.point ≡ v.point
same_point w v p q = grind (arith, nat_tests)

same_number : (w v : Version) → ahead (place_of w) (place_of v) ≡ false → before v w ≡ false → w.number ≡ v.number
same_number w v p q = grind (arith, nat_tests)

module _ (vs : List Version) (v d : Version) (s : Sorted vs) where
  whole : take (rank_of vs (place_of v)) vs ++ drop (rank_of vs (place_of v)) vs ≡ vs
  whole = take-append-drop (rank_of vs (place_of v)) vs

  here : (l : rank_of vs (place_of v) < length vs) → drop (rank_of vs (place_of v)) vs ≡ get_or vs (rank_of vs (place_of v)) d ∷ drop (rank_of vs (place_of v) + 1) vs
  here l = drop_more vs (rank_of vs (place_of v)) d l

  -- what stands behind the cut leaves v free
  free : Beyond v (drop (rank_of vs (place_of v)) vs) → held vs v ≡ false
  free b = let n = rank_of vs (place_of v) in
      subst (λ l. held l v ≡ false) whole (held_beyond (take n vs) (drop n vs) v (subst Sorted (sym whole) s) (rank_front vs (place_of v)) b)

  -- v is free if it stands in front of what is at its rank
  free_at_rank : not (held vs v) ≡ in_front v (slice_get vs (rank_of vs (place_of v)))
  free_at_rank =
      let n = rank_of vs (place_of v) in
      ⊎_elim
      (λ (l : n < length vs).
      let w = get_or vs n d in
      ap not (⊎_elim
      (λ (b : before v w ≡ true). free (subst (Beyond v) (sym (here l)) b) ∙ sym (not_from_true (before v w) b))
      (λ (b : before v w ≡ false).
      let reached : ahead (place_of w) (place_of v) ≡ false = subst (Reached (place_of v)) (here l) (rank_back vs (place_of v)) in
      let p : w.point ≡ v.point = same_point w v reached b in
      let q : w.number ≡ v.number = same_number w v reached b in
      subst (λ l. held l v ≡ true) (ap (λ l. take n vs ++ l) (sym (here l)) ∙ whole) (held_here (take n vs) (drop (n + 1) vs) w v (rank_front vs (place_of v)) p q) ∙ sym (not_from_false (before v w) b))
      (cases_Bool (before v w)))
      ∙ not-not (before v w) ∙ ap (in_front v) (sym (slice_get-get_or vs n d l)))
      (λ l. ap not (free (subst (Beyond v) (sym (drop_all n vs l)) tt)) ∙ ap (in_front v) (sym (slice_get_past vs n l)))
      (cases_lt n (length vs))

  beyond : held vs v ≡ false → Beyond v (drop (rank_of vs (place_of v)) vs)
  beyond f = let n = rank_of vs (place_of v) in ⊎_elim
      (λ (l : n < length vs). subst (Beyond v) (sym (here l)) (ap (in_front v) (sym (slice_get-get_or vs n d l)) ∙ sym free_at_rank ∙ ap not f))
      (λ l. subst (Beyond v) (sym (drop_all n vs l)) tt) (cases_lt n (length vs))

  -- a version that is free goes in at its rank
  pub insert_at_rank : held vs v ≡ false → inserted vs (rank_of vs (place_of v)) v ≡ insert vs v
  insert_at_rank f = let n = rank_of vs (place_of v) in
      sym (ap (λ l. insert l v) (sym whole) ∙ insert_cut (take n vs) (drop n vs) v (rank_front vs (place_of v)) (beyond f))

-- ---- the last version

pub last_read : (vs : List Version) → last vs ≡ slice_get vs (length vs - 1)
last_read [] = refl
last_read (v ∷ []) = refl
last_read (v ∷ w ∷ ws) =
    let e : suc (suc (length ws)) - 1 ≡ suc (suc (length ws) - 1) = omega arith in
    last_read (w ∷ ws) ∙ ap (slice_get (v ∷ w ∷ ws)) (sym e)
