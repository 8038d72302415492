-- The gap in a chain where a place stands, what it tells, and the walk to it. Assumes nothing.
use Rattle.std.proofs.Common.{◌≡◌, ℕ, ◌<◌, ◌≤◌, true, false, ltb, ◌⊎◌, List, [], ◌∷◌, ◌++◌, length, Some, None, Option, sym, refl, ap, ◌∙◌, subst, inl, inr, ⊎_elim, arith}
use mathlib.Core.List.Memᴰ
use Rattle.std.proofs.lemmas.List.{map-append}
use Rattle.std.proofs.lemmas.Bool.{cond-true, cond-false, cases_Bool, and_parts}
use Rattle.version.specs.Lists.{Reaches, first_from}
use Rattle.version.specs.Order.{ahead, place_of}
use Rattle.version.specs.declared.types.Place.{Place}
use Rattle.std.proofs.lemmas.Option.{none-some}
use Rattle.version.proofs.Firsts.{reaches_is}
use Rattle.version.proofs.Sorts.{◌∈◌}
use Rattle.version.proofs.Takings.{Reached, AllAhead, head_of, first_from_cut}
use Rattle.linked.specs.Chains.{node, walk, chain, at_all, versions, all_below, gap_at, Within, version_at}
use Rattle.linked.specs.declared.node.Gap.{Gap}
use Rattle.linked.specs.declared.node.Node.{Node}
use Rattle.linked.proofs.Links.{chain_step, below_each, head_index}

-- the last index of a list, or else the one given
abbrev pub last_index : Option ℕ → List ℕ → Option ℕ
last_index o [] = o
last_index o (i ∷ is) = last_index (Some i) is

pub last_some : (o : Option ℕ) (is : List ℕ) (p : ℕ) → last_index o is ≡ Some p → ((js : List ℕ) × (is ≡ js ++ p ∷ [])) ⊎ ((o ≡ Some p) × (is ≡ []))
last_some o [] p e = inr (e, refl)
last_some o (i ∷ is) p e = ⊎_elim
    (λ (r : (js : List ℕ) × (is ≡ js ++ p ∷ [])). inl (i ∷ r.0, ap (λ ks. i ∷ ks) r.1))
    (λ (r : (Some i ≡ Some p) × (is ≡ [])). let a = r.0 in let b = r.1 in inl ([], cc))
    (last_some (Some i) is p e)

last_never : (i : ℕ) (is : List ℕ) → last_index (Some i) is ≡ None → ⊥
last_never i [] e = none-some i (sym e)
last_never i (j ∷ is) e = last_never j is e

pub last_none : (is : List ℕ) → last_index None is ≡ None → is ≡ []
last_none [] e = refl
last_none (i ∷ is) e = absurd (last_never i is e)

-- indices cut where a place stands
pub record Cut (ns : List Node) (a : Place) (prev : Option ℕ) (is : List ℕ) : Type 0 where
  pub front : List ℕ
  pub back : List ℕ
  pub parts : is ≡ front ++ back
  pub prior : (gap_at ns a prev is).before ≡ last_index prev front
  pub later : (gap_at ns a prev is).after ≡ head_index back
  pub passed : AllAhead a (at_all ns front)
  pub reached : Reached a (at_all ns back)

pub cut : (ns : List Node) (a : Place) (prev : Option ℕ) (is : List ℕ) → Cut ns a prev is
cut ns a prev [] = record { front = []; back = []; parts = refl; prior = refl; later = refl; passed = λ u m. absurd (Memᴰ.not-nil m); reached = tt }
cut ns a prev (i ∷ is) =
    let v = (node ns i).version in
    let here : Gap = record { before = prev; after = Some i } in
    ⊎_elim
    (λ (t : ahead (place_of v) a ≡ true).
    let c = cut ns a (Some i) is in
    let e = cond-true (ahead (place_of v) a) (gap_at ns a (Some i) is) here t in record {
      front = i ∷ c.front;
      back = c.back;
      parts = ap (λ ks. i ∷ ks) c.parts;
      prior = ap (λ g. g.before) e ∙ c.prior;
      later = ap (λ g. g.after) e ∙ c.later;
      passed = λ u m. ⊎_elim (λ (q : u ≡ v). subst (λ w. ahead (place_of w) a ≡ true) (sym q) t) (c.passed u) (Memᴰ.cases_cons m);
      reached = c.reached;
    })
    (λ (t : ahead (place_of v) a ≡ false).
    let e = cond-false (ahead (place_of v) a) (gap_at ns a (Some i) is) here t in record {
      front = [];
      back = i ∷ is;
      parts = refl;
      prior = ap (λ g. g.before) e;
      later = ap (λ g. g.after) e;
      passed = λ u m. absurd (Memᴰ.not-nil m);
      reached = t;
    })
    (cases_Bool (ahead (place_of v) a))

-- ---- what stands behind the gap

version_head : (ns : List Node) (is : List ℕ) → version_at ns (head_index is) ≡ head_of (at_all ns is)
version_head ns [] = refl
version_head ns (i ∷ is) = refl

-- the version behind the gap is the first from the place
pub first_behind : (ns : List Node) (a : Place) (prev : Option ℕ) (is : List ℕ) → version_at ns (gap_at ns a prev is).after ≡ first_from (at_all ns is) a
first_behind ns a prev is =
    let c = cut ns a prev is in
    let e = ap (at_all ns) c.parts ∙ map-append (λ i. (node ns i).version) c.front c.back in
    let f = first_from_cut a (at_all ns c.front) (at_all ns c.back) c.passed c.reached in
    ap (version_at ns) c.later ∙ version_head ns c.back ∙ sym f ∙ ap (λ vs. first_from vs a) (sym e)

-- ---- the gap's indices

last_within : (n : ℕ) (o : Option ℕ) (is : List ℕ) → Within n o → ((i : ℕ) → i ∈ is → i < n) → Within n (last_index o is)
last_within n o [] w h = w
last_within n o (i ∷ is) w h = last_within n (Some i) is (h i (Memᴰ.head refl)) (λ j m. h j (Memᴰ.tail m))

head_within : (n : ℕ) (is : List ℕ) → ((i : ℕ) → i ∈ is → i < n) → Within n (head_index is)
head_within n [] h = tt
head_within n (i ∷ is) h = h i (Memᴰ.head refl)

-- what the gap tells of a chain
pub record Tells (ns : List Node) (o : Option ℕ) (a : Place) (g : Gap) : Type 0 where
  pub prior : Within (length ns) g.before
  pub later : Within (length ns) g.after
  pub reaches : Reaches a (version_at ns g.after)
  pub answer : version_at ns g.after ≡ first_from (versions ns o) a

pub gap_tells : (ns : List Node) (o : Option ℕ) (a : Place) (used : ℕ) (g : Gap) → used ≤ length ns → all_below used (chain ns o) ≡ true → g ≡ gap_at ns a None (chain ns o) → Tells ns o a g
gap_tells ns o a used g room inside e =
    let c = cut ns a None (chain ns o) in
    let low : (i : ℕ) → i ∈ (c.front ++ c.back) → i < length ns = λ i m. (let h = below_each used (chain ns o) inside i (subst (λ ks. i ∈ ks) (sym c.parts) m) in omega arith) in
    let answer : version_at ns g.after ≡ first_from (versions ns o) a = ap (λ x. version_at ns x.after) e ∙ first_behind ns a None (chain ns o) in record {
      prior = subst (Within (length ns)) (sym (ap (λ x. x.before) e ∙ c.prior)) (last_within (length ns) None c.front tt (λ i m. low i (Memᴰ.append_left c.back m)));
      later = subst (Within (length ns)) (sym (ap (λ x. x.after) e ∙ c.later)) (head_within (length ns) c.back (λ i m. low i (Memᴰ.append_right c.front m)));
      reaches = reaches_is (versions ns o) a (version_at ns g.after) answer;
      answer = answer;
    }

-- ---- a walk to the gap: what is left of the chain ends, and has the gap

abbrev pub Walking : List Node → ℕ → Place → Option ℕ → Option ℕ → Option ℕ → Type 0
Walking ns used a first prev o =
    (length (versions ns o) ≤ length ns) ×
    (all_below used (chain ns o) ≡ true) ×
    (gap_at ns a prev (chain ns o) ≡ gap_at ns a None (chain ns first))

pub walk_less : (ns : List Node) (o : Option ℕ) (i : ℕ) → o ≡ Some i → length (versions ns o) ≤ length ns → length (versions ns (node ns i).next) < length (versions ns o)
walk_less ns o i e = subst (λ x. length (versions ns x) ≤ length ns → length (versions ns (node ns i).next) < length (versions ns x)) (sym e)
    (λ h. let s = ap (λ is. length (at_all ns is)) (chain_step ns i h) in omega arith)

pub walk_on : (ns : List Node) (used : ℕ) (a : Place) (first prev o : Option ℕ) (i : ℕ) → o ≡ Some i → Walking ns used a first prev o → ahead (place_of (node ns i).version) a ≡ true → Walking ns used a first (Some i) (node ns i).next
walk_on ns used a first prev o i e w t =
    let v = (node ns i).version in
    let o' = (node ns i).next in
    let less = walk_less ns o i e w.0 in
    let here = subst (λ x. Walking ns used a first prev x) e w in
    let s = chain_step ns i here.0 in
    let inside = subst (λ is. all_below used is ≡ true) s here.1 in
    let same = ap (gap_at ns a prev) (sym s) ∙ here.2 in
    let go = cond-true (ahead (place_of v) a) (gap_at ns a (Some i) (chain ns o')) (record { before = prev; after = Some i }) t in
    (omega arith, (and_parts (ltb i used) (all_below used (chain ns o')) inside).1, sym go ∙ same)

pub walk_there : (ns : List Node) (used : ℕ) (a : Place) (first prev o : Option ℕ) (i : ℕ) → o ≡ Some i → Walking ns used a first prev o → ahead (place_of (node ns i).version) a ≡ false → record { before = prev; after = Some i } ≡ gap_at ns a None (chain ns first)
walk_there ns used a first prev o i e w t =
    let v = (node ns i).version in
    let here = subst (λ x. Walking ns used a first prev x) e w in
    sym (cond-false (ahead (place_of v) a) (gap_at ns a (Some i) (walk (length ns) ns (node ns i).next)) (record { before = prev; after = Some i }) t) ∙ here.2

pub walk_end : (ns : List Node) (used : ℕ) (a : Place) (first prev o : Option ℕ) → o ≡ None → Walking ns used a first prev o → record { before = prev; after = o } ≡ gap_at ns a None (chain ns first)
walk_end ns used a first prev o e = subst (λ x. Walking ns used a first prev x → record { before = prev; after = x } ≡ gap_at ns a None (chain ns first)) (sym e) (λ w. w.2)
