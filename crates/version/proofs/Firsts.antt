-- The first version of a list that passes a test, and how one such question answers another. Assumes nothing.
use Rattle.std.proofs.Common.{◌≡◌, ℕ, ◌<◌, ◌≤◌, Bool, true, false, cond, not, ◌&&◌, eqb, leb, ◌⊎◌, List, [], ◌∷◌, Some, None, Option, sym, refl, ap, ◌∙◌, subst, inl, inr, ⊎_elim, arith}
use mathlib.Core.List.Memᴰ
use mathlib.Core.List.{Memᴰ}
use Rattle.std.proofs.lemmas.Bool.{cond_both, cond-true, cond-false, cases_Bool, both_ways, false≢true}
use Rattle.std.proofs.lemmas.Bool.Decides.{nat_tests}
use Rattle.std.specs.List.{find}
use Rattle.std.proofs.lemmas.Option.{none-some, same_Some}
use Rattle.version.specs.Lists.{newest, first_from, only, Reaches, look}
use Rattle.version.specs.Order.{ahead, place_of, before, sorted}
use Rattle.version.proofs.Sorts.{◌∈◌, Sorted, sorts}
use Rattle.version.specs.declared.types.Place.{Place}
use Rattle.version.specs.declared.types.Version.{Version}

-- ---- what the first tells of the list

pub first_some : (f : Version → Bool) (vs : List Version) (v : Version) → find f vs ≡ Some v → (v ∈ vs) × (f v ≡ true)
first_some f [] v e = absurd (none-some v e)
first_some f (w ∷ ws) v e = ⊎_elim
    (λ t. let q : w ≡ v = same_Some w v (sym (cond-true (f w) (Some w) (find f ws) t) ∙ e) in (Memᴰ.head (sym q), subst (λ x. f x ≡ true) q t))
    (λ t. let r = first_some f ws v (sym (cond-false (f w) (Some w) (find f ws) t) ∙ e) in (Memᴰ.tail r.0, r.1))
    (cases_Bool (f w))

pub first_none : (f : Version → Bool) (vs : List Version) → find f vs ≡ None → (w : Version) → w ∈ vs → f w ≡ false
first_none f [] e w m = absurd (Memᴰ.not-nil m)
first_none f (v ∷ vs) e w m = ⊎_elim
    (λ t. absurd (none-some v (sym e ∙ cond-true (f v) (Some v) (find f vs) t)))
    (λ t. ⊎_elim (λ (q : w ≡ v). subst (λ x. f x ≡ false) (sym q) t) (λ n. first_none f vs (sym (cond-false (f v) (Some v) (find f vs) t) ∙ e) w n) (Memᴰ.cases_cons m))
    (cases_Bool (f v))

-- in version order, what passes is the first or stands behind it
pub first_least : (f : Version → Bool) (vs : List Version) (v : Version) → Sorted vs → find f vs ≡ Some v → (w : Version) → w ∈ vs → f w ≡ true → (w ≡ v) ⊎ (before v w ≡ true)
first_least f [] v s e w m t = absurd (Memᴰ.not-nil m)
first_least f (x ∷ xs) v s e w m t = ⊎_elim
    (λ p. let q : x ≡ v = same_Some x v (sym (cond-true (f x) (Some x) (find f xs) p) ∙ e) in
    ⊎_elim (λ (z : w ≡ x). inl (z ∙ q)) (λ n. inr (subst (λ y. before y w ≡ true) q (s.0 w n))) (Memᴰ.cases_cons m))
    (λ p. ⊎_elim (λ (z : w ≡ x). absurd (false≢true (sym (subst (λ y. f y ≡ false) (sym z) p) ∙ t)))
    (λ n. first_least f xs v s.1 (sym (cond-false (f x) (Some x) (find f xs) p) ∙ e) w n t) (Memᴰ.cases_cons m))
    (cases_Bool (f x))

-- ---- one test for another

pub first_same : (f g : Version → Bool) (vs : List Version) → ((w : Version) → w ∈ vs → f w ≡ g w) → find f vs ≡ find g vs
first_same f g [] h = refl
first_same f g (v ∷ vs) h =
    let here = h v (Memᴰ.head refl) in
    let rest = first_same f g vs (λ w m. h w (Memᴰ.tail m)) in
    ap (λ b. cond b (Some v) (find f vs)) here ∙ ap (cond (g v) (Some v)) rest

first_of_none : (g : Version → Bool) (vs : List Version) → ((w : Version) → w ∈ vs → g w ≡ false) → find g vs ≡ None
first_of_none g [] h = refl
first_of_none g (v ∷ vs) h = cond-false (g v) (Some v) (find g vs) (h v (Memᴰ.head refl)) ∙ first_of_none g vs (λ w m. h w (Memᴰ.tail m))

-- g passes only what f passes
module _ (f g : Version → Bool) (narrow : (w : Version) → g w ≡ true → f w ≡ true) where
  fails : (w : Version) → f w ≡ false → g w ≡ false
  fails w e = ⊎_elim (λ t. absurd (both_ways (f w) e (narrow w t))) (λ t. t) (cases_Bool (g w))

  pub narrow_none : (vs : List Version) → find f vs ≡ None → find g vs ≡ None
  narrow_none vs e = first_of_none g vs (λ w m. fails w (first_none f vs e w m))

  pub narrow_some : (vs : List Version) (v : Version) → find f vs ≡ Some v → g v ≡ true → find g vs ≡ Some v
  narrow_some [] v e t = e
  narrow_some (w ∷ ws) v e t = ⊎_elim
      (λ p. let q : w ≡ v = same_Some w v (sym (cond-true (f w) (Some w) (find f ws) p) ∙ e) in cond-true (g w) (Some w) (find g ws) (subst (λ x. g x ≡ true) (sym q) t) ∙ ap Some q)
      (λ p. cond-false (g w) (Some w) (find g ws) (fails w p) ∙ narrow_some ws v (sym (cond-false (f w) (Some w) (find f ws) p) ∙ e) t)
      (cases_Bool (f w))

  pub narrow_past : (vs : List Version) (v : Version) → Sorted vs → find f vs ≡ Some v → g v ≡ false → ((w : Version) → before v w ≡ true → g w ≡ false) → find g vs ≡ None
  narrow_past vs v s e n past = first_of_none g vs (λ w m. ⊎_elim
      (λ t. ⊎_elim (λ (q : w ≡ v). subst (λ x. g x ≡ false) (sym q) n) (past w) (first_least f vs v s e w m t))
      (fails w) (cases_Bool (f w)))

-- ---- the newest version of a point, and the look, by the find from a place

abbrev pub from : Place → Version → Bool
from a v = not (ahead (place_of v) a)

abbrev pub of_point : ℕ → ℕ → Version → Bool
of_point p n v = eqb v.point p && leb v.number n

abbrev pub seen : ℕ → ℕ → Version → Bool
seen p n v = leb p v.point && leb v.number n

abbrev pub place : ℕ → ℕ → Place
place p n = record { point = p; number = n }

of_point_narrow : (p n : ℕ) (w : Version) → of_point p n w ≡ true → from (place p n) w ≡ true
of_point_narrow p n w t = grind (arith, nat_tests)

-- the newest version of a point at or below a number is what is found from there on, if it is of that point
pub newest_is : (vs : List Version) (p n : ℕ) → Sorted vs → newest vs p n ≡ only p (first_from vs (place p n))
newest_is vs p n s = go (first_from vs (place p n)) refl
  where
    go : (o : Option Version) → first_from vs (place p n) ≡ o → newest vs p n ≡ only p o
    go None e = narrow_none (from (place p n)) (of_point p n) (of_point_narrow p n) vs e
    go (Some v) e =
        let t = (first_some (from (place p n)) vs v e).1 in
        cond_both (eqb v.point p) (Some v) None (λ r. newest vs p n ≡ r)
        (λ q. let g : of_point p n v ≡ true = grind (arith, nat_tests) in narrow_some (from (place p n)) (of_point p n) (of_point_narrow p n) vs v e g)
        (λ q. let g : of_point p n v ≡ false = grind (arith, nat_tests) in narrow_past (from (place p n)) (of_point p n) (of_point_narrow p n) vs v s e g (λ w b. grind (arith, nat_tests)))

-- so of versions in order, what is found from a place on tells the newest of its point at or below its number
pub newest_found : (vs : List Version) (a : Place) → sorted vs ≡ true → (o : Option Version) → o ≡ first_from vs a → (r : Option Version) → r ≡ only a.point o → r ≡ newest vs a.point a.number
newest_found vs a s o is r e = e ∙ ap (only a.point) is ∙ sym (newest_is vs a.point a.number (sorts vs s))

-- what is found stands where it was asked for
pub reaches_is : (vs : List Version) (a : Place) (r : Option Version) → r ≡ first_from vs a → Reaches a r
reaches_is vs a None e = tt
reaches_is vs a (Some v) e = let t = (first_some (from a) vs v (sym e)).1 in grind (arith, nat_tests)

seen_narrow : (p n : ℕ) (w : Version) → seen p n w ≡ true → from (place p n) w ≡ true
seen_narrow p n w t = grind (arith, nat_tests)

module _ (vs : List Version) (p n : ℕ) where
  pub look_none : first_from vs (place p n) ≡ None → look vs p n ≡ None
  look_none e = narrow_none (from (place p n)) (seen p n) (seen_narrow p n) vs e

  pub look_some : (v : Version) → first_from vs (place p n) ≡ Some v → v.number ≤ n → look vs p n ≡ Some v
  look_some v e q =
      let t = (first_some (from (place p n)) vs v e).1 in
      let g : seen p n v ≡ true = grind (arith, nat_tests) in
      narrow_some (from (place p n)) (seen p n) (seen_narrow p n) vs v e g

  -- a version that is too new: the look goes on from its point
  pub look_past : (v : Version) → Sorted vs → first_from vs (place p n) ≡ Some v → n < v.number → look vs v.point n ≡ look vs p n
  look_past v s e q =
      let t = (first_some (from (place p n)) vs v e).1 in
      first_same (seen v.point n) (seen p n) vs (λ w m. ⊎_elim
      (λ f. ⊎_elim (λ (z : w ≡ v). rw z (grind (arith, nat_tests))) (λ b. grind (arith, nat_tests)) (first_least (from (place p n)) vs v s e w m f))
      (λ (f : from (place p n) w ≡ false). grind (arith, nat_tests)) (cases_Bool (from (place p n) w)))
