-- What the answers of a part mean by membership. Assumes nothing.
use Rattle.std.proofs.Common.{◌≡◌, ℕ, ◌<◌, ◌≤◌, true, false, ◌&&◌, eqb, ◌⊎◌, List, [], ◌∷◌, Some, None, Option, sym, refl, ap, ◌∙◌, subst, inl, inr, ⊎_elim, arith}
use mathlib.Core.List.Memᴰ
use Rattle.std.proofs.lemmas.Bool.{cases_lt, both_ways, or_left, or_right, not-true, not-false, not_from_false}
use Rattle.std.proofs.lemmas.Bool.Decides.{nat_tests}
use Rattle.version.specs.Lists.{newest, first_from, look, held}
use Rattle.version.specs.Meaning.{Newest, Earliest, Nearest, AnswersMean}
use Rattle.version.specs.Order.{ahead, place_of, before}
use Rattle.version.specs.declared.types.Place.{Place}
use Rattle.version.specs.declared.types.Version.{Version}
use Rattle.version.proofs.Firsts.{first_some, first_none, first_least, from, of_point, seen}
use Rattle.version.proofs.Sorts.{◌∈◌, Sorted, sorts}
use Rattle.version.proofs.Takings.{insert_cases, insert_new, insert_old, behind_all, kept_memory, kept_flash}

-- ---- one version, by what the tests say of it

passes_point : (p n : ℕ) (w : Version) → w.point ≡ p → w.number ≤ n → of_point p n w ≡ true
passes_point p n w e l = grind (arith, nat_tests)

too_new : (p n : ℕ) (w : Version) → of_point p n w ≡ false → w.point ≡ p → n < w.number
too_new p n w t e = grind (arith, nat_tests)

higher : (v w : Version) → v.point ≡ w.point → (w ≡ v) ⊎ (before v w ≡ true) → w.number ≤ v.number
higher v w e (inl q) = omega (arith, ap (λ (x : Version). x.number) q)
higher v w e (inr b) = grind (arith, nat_tests)

passes_look : (p n : ℕ) (w : Version) → p ≤ w.point → w.number ≤ n → seen p n w ≡ true
passes_look p n w e l = grind (arith, nat_tests)

unseen : (p n : ℕ) (w : Version) → seen p n w ≡ false → p ≤ w.point → n < w.number
unseen p n w t e = grind (arith, nat_tests)

nearer : (v w : Version) → (w ≡ v) ⊎ (before v w ≡ true) → (v.point < w.point) ⊎ ((w.point ≡ v.point) × (w.number ≤ v.number))
nearer v w (inl q) = inr (ap (λ (x : Version). x.point) q, omega (arith, ap (λ (x : Version). x.number) q))
nearer v w (inr b) = ⊎_elim (λ (l : v.point < w.point). inl l) (λ l. inr (grind (arith, nat_tests), grind (arith, nat_tests))) (cases_lt v.point w.point)

-- ---- the questions

module _ (vs : List Version) (s : Sorted vs) where
  newest_means : (p n : ℕ) → Newest vs p n (newest vs p n)
  newest_means p n = go (newest vs p n) refl
    where
      go : (o : Option Version) → newest vs p n ≡ o → Newest vs p n o
      go None e = λ w m q. too_new p n w (first_none (of_point p n) vs e w m) q
      go (Some v) e =
          let f = first_some (of_point p n) vs v e in
          let t = f.1 in
          let vp : v.point ≡ p = grind (arith, nat_tests) in
          let vn : v.number ≤ n = grind (arith, nat_tests) in
          (f.0, vp, vn, λ w m q l. higher v w (vp ∙ sym q) (first_least (of_point p n) vs v s e w m (passes_point p n w q l)))

  earliest_means : (a : Place) → Earliest vs a (first_from vs a)
  earliest_means a = go (first_from vs a) refl
    where
      go : (o : Option Version) → first_from vs a ≡ o → Earliest vs a o
      go None e = λ w m. not-false (ahead (place_of w) a) (first_none (from a) vs e w m)
      go (Some v) e =
          let f = first_some (from a) vs v e in
          (f.0, not-true (ahead (place_of v) a) f.1, λ w m q. first_least (from a) vs v s e w m (not_from_false (ahead (place_of w) a) q))

  nearest_means : (p n : ℕ) → Nearest vs p n (look vs p n)
  nearest_means p n = go (look vs p n) refl
    where
      go : (o : Option Version) → look vs p n ≡ o → Nearest vs p n o
      go None e = λ w m q. unseen p n w (first_none (seen p n) vs e w m) q
      go (Some v) e =
          let f = first_some (seen p n) vs v e in
          let t = f.1 in
          (f.0, grind (arith, nat_tests), grind (arith, nat_tests), λ w m q l. nearer v w (first_least (seen p n) vs v s e w m (passes_look p n w q l)))

-- ---- the takings

held_means : (vs : List Version) (v w : Version) → w ∈ vs → w.point ≡ v.point → w.number ≡ v.number → held vs v ≡ true
held_means [] v w m p n = absurd (Memᴰ.not-nil m)
held_means (x ∷ xs) v w m p n = ⊎_elim
    (λ (e : w ≡ x). or_left (eqb x.point v.point && eqb x.number v.number) (held xs v) (subst (λ (y : Version). (eqb y.point v.point && eqb y.number v.number) ≡ true) e (grind (arith, nat_tests))))
    (λ k. or_right (eqb x.point v.point && eqb x.number v.number) (held xs v) (held_means xs v w k p n))
    (Memᴰ.cases_cons m)

pub answers_mean : AnswersMean
answers_mean vs limit k =
    let s = sorts vs k.ordered in
    record {
      newest_one = newest_means vs s;
      earliest = earliest_means vs s;
      nearest = nearest_means vs s;
      is_held = held_means vs;
      is_free = λ v f w m p n. both_ways (held vs v) f (held_means vs v w m p n);
      behind_all = λ v b. behind_all vs v s b;
      added = insert_new vs;
      stays = insert_old vs;
      no_other = insert_cases vs;
      after_memory = λ v. kept_memory vs limit v k;
      after_flash = λ v. kept_flash vs limit v k;
    }
