-- What lies outside the least and the greatest point of a list of versions, and these two after a taking. Assumes nothing.
use Rattle.std.proofs.Common.{◌≡◌, ℕ, ◌<◌, min, max, false, not, ◌&&◌, eqb, leb, List, [], ◌∷◌, ◌++◌, Some, None, Option, refl, ap, ◌∙◌, arith}
use Rattle.std.proofs.lemmas.Bool.{cond-false}
use Rattle.std.proofs.lemmas.Bool.Decides.{nat_tests}
use Rattle.layers.specs.Fences.{widened, bounds_of, reached, covered}
use Rattle.layers.specs.declared.fence.Bounds.{Bounds}
use Rattle.version.specs.Kinds.{StandsBetween}
use Rattle.version.specs.Lists.{newest, first_from}
use Rattle.version.specs.Order.{ahead, place_of}
use Rattle.version.specs.declared.types.Place.{Place}
use Rattle.version.specs.declared.types.Version.{Version}

-- ---- questions outside the bounds

beyond_more : (o : Option Bounds) (q p : ℕ) → reached (Some (widened o q)) p ≡ false → (q < p) × (reached o p ≡ false)
beyond_more None q p h = (grind (arith, nat_tests), refl)
beyond_more (Some b) q p h = (grind (arith, nat_tests), grind (arith, nat_tests))

pub first_beyond : (vs : List Version) (a : Place) → reached (bounds_of vs) a.point ≡ false → first_from vs a ≡ None
first_beyond [] a h = refl
first_beyond (v ∷ vs) a h =
    let m = beyond_more (bounds_of vs) v.point a.point h in
    let l = m.0 in
    let n : not (ahead (place_of v) a) ≡ false = grind (arith, nat_tests) in
    cond-false (not (ahead (place_of v) a)) (Some v) (first_from vs a) n ∙ first_beyond vs a m.1

outside_more : (o : Option Bounds) (q p : ℕ) → covered (Some (widened o q)) p ≡ false → (q ≡ p → ⊥) × (covered o p ≡ false)
outside_more None q p h = (λ e. grind (arith, nat_tests), refl)
outside_more (Some b) q p h = (λ e. grind (arith, nat_tests), grind (arith, nat_tests))

pub newest_outside : (vs : List Version) (p n : ℕ) → covered (bounds_of vs) p ≡ false → newest vs p n ≡ None
newest_outside [] p n h = refl
newest_outside (v ∷ vs) p n h =
    let m = outside_more (bounds_of vs) v.point p h in
    let l = m.0 in
    let f : (eqb v.point p && leb v.number n) ≡ false = grind (arith, nat_tests) in
    cond-false (eqb v.point p && leb v.number n) (Some v) (newest vs p n) f ∙ newest_outside vs p n m.1

pub bounds_none : (vs : List Version) → None ≡ bounds_of vs → vs ≡ []
bounds_none [] e = refl
bounds_none (v ∷ vs) e = cc

-- ---- one version more

widened_swap : (o : Option Bounds) (p q : ℕ) → widened (Some (widened o p)) q ≡ widened (Some (widened o q)) p
widened_swap None p q = let e : min p q ≡ min q p = omega arith in let f : max p q ≡ max q p = omega arith in cc
widened_swap (Some b) p q =
    let e : min (min b.least p) q ≡ min (min b.least q) p = omega arith in
    let f : max (max b.greatest p) q ≡ max (max b.greatest q) p = omega arith in cc

bounds_between : (us ws : List Version) (v : Version) → bounds_of (us ++ (v ∷ ws)) ≡ Some (widened (bounds_of (us ++ ws)) v.point)
bounds_between [] ws v = refl
bounds_between (u ∷ us) ws v = ap (λ o. Some (widened o u.point)) (bounds_between us ws v) ∙ ap Some (widened_swap (bounds_of (us ++ ws)) v.point u.point)

-- wherever a version goes in, the bounds widen by its point alone
pub bounds_put : (vs new : List Version) (v : Version) → StandsBetween vs v new → bounds_of new ≡ Some (widened (bounds_of vs) v.point)
bounds_put vs new v (us, ws, old, is) = rw (is, old) (bounds_between us ws v)
