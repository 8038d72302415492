-- The chain after a node for a version was put into the gap where the version stands. Assumes nothing.
use Rattle.std.proofs.Common.{◌≡◌, ℕ, ◌+◌, ◌<◌, true, false, ◌≢◌, List, [], ◌∷◌, ◌++◌, length, Some, None, Option, sym, refl, ap, ◌∙◌, subst, ⊎_elim, append_assoc, arith}
use mathlib.Core.List.Memᴰ
use Rattle.std.proofs.lemmas.List.{length-append, length-set, length-map, map-append, get_or-set_same, get_or-set_other}
use Rattle.std.proofs.lemmas.Bool.{cases_Bool, both_ways, cases_eq}
use Rattle.std.proofs.lemmas.Bool.Decides.{nat_tests}
use Rattle.std.specs.List.{list_all}
use Rattle.version.specs.Lists.{held, insert}
use Rattle.version.specs.Order.{place_of, before, sorted, numbered}
use Rattle.version.specs.declared.types.Version.{Version}
use Rattle.std.proofs.lemmas.Option.{none-some}
use Rattle.version.proofs.Sorts.{◌∈◌, Sorted, sorts}
use Rattle.version.proofs.Takings.{Reached, AllAhead, Beyond, held_here, insert_cut, length_insert, kept_insert}
use Rattle.linked.specs.Chains.{no_node, node, chain, at_all, versions, all_below, gap_at, written, turned, Chained}
use Rattle.linked.specs.declared.node.Gap.{Gap}
use Rattle.linked.specs.declared.node.Node.{Node}
use Rattle.linked.proofs.Links.{Linked, chain_linked, linked_chain, below_each, below_from, linked_same, linked_turn, at_all_same, linked_behind, linked_head}
use Rattle.linked.proofs.Gaps.{Cut, cut, last_some, last_none}

at_mem : (ns : List Node) (is : List ℕ) (i : ℕ) → i ∈ is → (node ns i).version ∈ at_all ns is
at_mem ns [] i m = absurd (Memᴰ.not-nil m)
at_mem ns (j ∷ js) i m = ⊎_elim (λ (e : i ≡ j). Memᴰ.head (ap (λ k. (node ns k).version) e)) (λ n. Memᴰ.tail (at_mem ns js i n)) (Memᴰ.cases_cons m)

never_before : (v : Version) → before v v ≡ true → ⊥
never_before v e = grind (arith, nat_tests)

-- in version order no index comes twice
front_other : (ns : List Node) (js : List ℕ) (p : ℕ) (ps : List ℕ) → Sorted (at_all ns (js ++ p ∷ ps)) → (i : ℕ) → i ∈ js → i ≢ p
front_other ns [] p ps s i m e = Memᴰ.not-nil m
front_other ns (j ∷ js) p ps s i m e = ⊎_elim
    (λ (q : i ≡ j).
    let b = s.0 (node ns p).version (at_mem ns (js ++ p ∷ ps) p (Memᴰ.append_right js (Memᴰ.head refl))) in
    never_before (node ns p).version (subst (λ k. before (node ns k).version (node ns p).version ≡ true) (sym q ∙ e) b))
    (λ n. front_other ns js p ps s.1 i n e) (Memᴰ.cases_cons m)

back_other : (ns : List Node) (js : List ℕ) (p : ℕ) (ps : List ℕ) → Sorted (at_all ns (js ++ p ∷ ps)) → (i : ℕ) → i ∈ ps → i ≢ p
back_other ns [] p ps s i m e = never_before (node ns p).version (subst (λ k. before (node ns p).version (node ns k).version ≡ true) e (s.0 (node ns i).version (at_mem ns ps i m)))
back_other ns (j ∷ js) p ps s i m e = back_other ns js p ps s.1 i m e

-- what the chain is once v stands in it, at index k
pub record Grown (ns : List Node) (o : Option ℕ) (v : Version) (k : ℕ) (ms : List Node) (o' : Option ℕ) : Type 0 where
  pub chained : Chained ms (k + 1) o'
  pub list : versions ms o' ≡ insert (versions ns o) v
  pub same : length ms ≡ length ns

-- v may be put into the chain from o on, at index k, and g is where it stands
pub record Open (ns : List Node) (o : Option ℕ) (v : Version) (k : ℕ) (g : Gap) : Type 0 where
  pub stands : g ≡ gap_at ns (place_of v) None (chain ns o)
  pub chained : Chained ns k o
  pub room : k < length ns
  pub proper : numbered v ≡ true
  pub free : held (versions ns o) v ≡ false

beyond_from : (us ws : List Version) (v : Version) → AllAhead (place_of v) us → Reached (place_of v) ws → held (us ++ ws) v ≡ false → Beyond v ws
beyond_from us [] v f r h = tt
beyond_from us (w ∷ ws) v f r h = ⊎_elim (λ b. b)
    (λ (b : before v w ≡ false).
    let p : w.point ≡ v.point = grind (arith, nat_tests) in
    let n : w.number ≡ v.number = grind (arith, nat_tests) in
    absurd (both_ways (held (us ++ w ∷ ws) v) h (held_here us ws w v f p n)))
    (cases_Bool (before v w))

module _ (ns : List Node) (o : Option ℕ) (v : Version) (k : ℕ) (g : Gap) (h : Open ns o v k g) where
  c : Cut ns (place_of v) None (chain ns o)
  c = cut ns (place_of v) None (chain ns o)

  low : (i : ℕ) → i ∈ (c.front ++ c.back) → i < k
  low i m = below_each k (chain ns o) h.chained.inside i (subst (λ ks. i ∈ ks) (sym c.parts) m)

  sized : length (c.front ++ c.back) ≡ k
  sized = ap length (sym c.parts) ∙ sym (length-map (chain ns o) (λ i. (node ns i).version)) ∙ h.chained.whole

  linked : Linked ns o (c.front ++ c.back)
  linked = let w = h.chained.whole in let r = h.room in subst (Linked ns o) c.parts (chain_linked ns o (omega arith))

  parted : versions ns o ≡ at_all ns c.front ++ at_all ns c.back
  parted = ap (at_all ns) c.parts ∙ map-append (λ i. (node ns i).version) c.front c.back

  beyond : Beyond v (at_all ns c.back)
  beyond = beyond_from (at_all ns c.front) (at_all ns c.back) v c.passed c.reached (subst (λ vs. held vs v ≡ false) parted h.free)

  grown : (ms : List Node) (o' : Option ℕ) → length ms ≡ length ns → Linked ms o' (c.front ++ k ∷ c.back) → at_all ms c.front ≡ at_all ns c.front → at_all ms c.back ≡ at_all ns c.back → (node ms k).version ≡ v → Grown ns o v k ms o'
  grown ms o' same l f b n =
      let room = h.room in
      let ends : length (c.front ++ k ∷ c.back) ≡ k + 1 = let e = sized in let p = length-append c.front c.back in let q = length-append c.front (k ∷ c.back) in omega arith in
      let is : chain ms o' ≡ c.front ++ k ∷ c.back = linked_chain ms o' (c.front ++ k ∷ c.back) l (omega arith) in
      let list : versions ms o' ≡ insert (versions ns o) v =
      ap (at_all ms) is ∙ map-append (λ i. (node ms i).version) c.front (k ∷ c.back)
      ∙ ap (λ us. us ++ at_all ms (k ∷ c.back)) f
      ∙ ap (λ ws. at_all ns c.front ++ (node ms k).version ∷ ws) b
      ∙ ap (λ w. at_all ns c.front ++ w ∷ at_all ns c.back) n
      ∙ sym (insert_cut (at_all ns c.front) (at_all ns c.back) v c.passed beyond)
      ∙ ap (λ vs. insert vs v) (sym parted) in
      let w = h.chained.whole in
      let kept = kept_insert (versions ns o) (length ns) v (record { ordered = h.chained.ordered; proper = h.chained.proper; within = omega arith }) h.proper h.free (omega arith) in
      record {
        chained = record {
          whole = ap length list ∙ length_insert (versions ns o) v ∙ (omega arith);
          inside = subst (λ ks. all_below (k + 1) ks ≡ true) (sym is) (below_from (k + 1) (c.front ++ k ∷ c.back) (λ i m. ⊎_elim
              (λ n. let lt = low i (Memᴰ.append_left c.back n) in omega arith)
              (λ n. ⊎_elim (λ (e : i ≡ k). omega arith) (λ j. let lt = low i (Memᴰ.append_right c.front j) in omega arith) (Memᴰ.cases_cons n))
              (Memᴰ.append_cases c.front m)));
          ordered = subst (λ vs. sorted vs ≡ true) (sym list) kept.ordered;
          proper = subst (λ vs. list_all numbered vs ≡ true) (sym list) kept.proper;
        };
        list = list;
        same = same;
      }

  -- from the new node on
  onward : (ms : List Node) (q : Option ℕ) → node ms k ≡ record { version = v; next = g.after } → ((i : ℕ) → i ∈ c.back → node ms i ≡ node ns i) → Linked ns q c.back → Linked ms (Some k) (k ∷ c.back)
  onward ms q e s l =
      let there : q ≡ (node ms k).next = linked_head ns q c.back l ∙ sym c.later ∙ sym (ap (λ x. x.after) h.stands) ∙ sym (ap (λ x. x.next) e) in
      (refl, subst (λ x. Linked ms x c.back) there (linked_same ns ms q c.back s l))

  other : (i : ℕ) → i ∈ (c.front ++ c.back) → i ≢ k
  other i m e = let lt = low i m in omega arith

  -- a node that stands in no chain yet
  here : (q : Option ℕ) → node (written ns k v q) k ≡ record { version = v; next = q }
  here q = get_or-set_same ns k (record { version = v; next = q }) no_node h.room

  aside : (q : Option ℕ) (i : ℕ) → i ∈ (c.front ++ c.back) → node (written ns k v q) i ≡ node ns i
  aside q i m = get_or-set_other ns k i (record { version = v; next = q }) no_node (other i m)

  pub put_aside : (q : Option ℕ) → Chained (written ns k v q) k o
  put_aside q =
      let ms = written ns k v q in
      let f = at_all_same ns ms (c.front ++ c.back) (λ i m. ap (λ n. n.version) (aside q i m)) in
      let size = length-set ns k (record { version = v; next = q }) in
      let e = sized in
      let room = h.room in
      let is : chain ms o ≡ c.front ++ c.back = linked_chain ms o (c.front ++ c.back) (linked_same ns ms o (c.front ++ c.back) (aside q) linked) (omega arith) in
      let same : versions ms o ≡ versions ns o = ap (at_all ms) is ∙ f ∙ ap (at_all ns) (sym c.parts) in
      let was : chain ms o ≡ chain ns o = is ∙ sym c.parts in record {
        whole = ap length same ∙ h.chained.whole;
        inside = subst (λ ks. all_below k ks ≡ true) (sym was) h.chained.inside;
        ordered = subst (λ vs. sorted vs ≡ true) (sym same) h.chained.ordered;
        proper = subst (λ vs. list_all numbered vs ≡ true) (sym same) h.chained.proper;
      }

  pub put_first : g.before ≡ None → Grown ns o v k (written ns k v g.after) (Some k)
  put_first e =
      let q = g.after in
      let ms = written ns k v q in
      let z : c.front ≡ [] = last_none c.front (sym c.prior ∙ sym (ap (λ x. x.before) h.stands) ∙ e) in
      let all : Linked ns o c.back = subst (λ f. Linked ns o (f ++ c.back)) z linked in
      grown ms (Some k) (length-set ns k (record { version = v; next = q }))
      (subst (λ f. Linked ms (Some k) (f ++ k ∷ c.back)) (sym z) (onward ms o (here q) (λ i m. aside q i (Memᴰ.append_right c.front m)) all))
      (at_all_same ns ms c.front (λ i m. ap (λ x. x.version) (aside q i (Memᴰ.append_left c.back m))))
      (at_all_same ns ms c.back (λ i m. ap (λ x. x.version) (aside q i (Memᴰ.append_right c.front m))))
      (ap (λ x. x.version) (here q))

  behind : (p : ℕ) (js : List ℕ) → c.front ≡ js ++ p ∷ [] → Grown ns o v k (turned (written ns k v g.after) p k) o
  behind p js f =
      let q = g.after in
      let ms₁ = written ns k v q in
      let turn : Node = record { version = (node ms₁ p).version; next = Some k } in
      let ms = turned ms₁ p k in
      let parts : c.front ++ c.back ≡ js ++ p ∷ c.back = ap (λ l. l ++ c.back) f ∙ append_assoc js (p ∷ []) c.back in
      let order : Sorted (at_all ns (js ++ p ∷ c.back)) = subst (λ is. Sorted (at_all ns is)) (c.parts ∙ parts) (sorts (versions ns o) h.chained.ordered) in
      let all : Linked ns o (js ++ p ∷ c.back) = subst (Linked ns o) parts linked in
      let mine : p ∈ (c.front ++ c.back) = subst (λ l. p ∈ l) (sym parts) (Memᴰ.append_right js (Memᴰ.head refl)) in
      let lt = low p mine in
      let room = h.room in
      let size₁ = length-set ns k (record { version = v; next = q }) in
      let size = length-set ms₁ p turn in
      let away : k ≢ p = λ (x : k ≡ p). omega arith in
      let fresh : node ms k ≡ record { version = v; next = q } = get_or-set_other ms₁ p k turn no_node away ∙ here q in
      let there : node ms p ≡ turn = get_or-set_same ms₁ p turn no_node (omega arith) in
      let still : (i : ℕ) → i ∈ (c.front ++ c.back) → i ≢ p → node ms i ≡ node ns i = λ i m n. get_or-set_other ms₁ p i turn no_node n ∙ aside q i m in
      let in_front : (i : ℕ) → i ∈ js → node ms i ≡ node ns i = λ i m. still i (subst (λ l. i ∈ l) (sym parts) (Memᴰ.append_left (p ∷ c.back) m)) (front_other ns js p c.back order i m) in
      let in_back : (i : ℕ) → i ∈ c.back → node ms i ≡ node ns i = λ i m. still i (Memᴰ.append_right c.front m) (back_other ns js p c.back order i m) in
      let on : Linked ms (node ms p).next (k ∷ c.back) = subst (λ x. Linked ms x (k ∷ c.back)) (sym (ap (λ n. n.next) there)) (onward ms (node ns p).next fresh in_back (linked_behind ns o js p c.back all)) in
      let whole : Linked ms o (js ++ p ∷ k ∷ c.back) = linked_turn ns ms o js p c.back (k ∷ c.back) in_front all on in
      let joined : js ++ p ∷ k ∷ c.back ≡ c.front ++ k ∷ c.back = sym (ap (λ l. l ++ k ∷ c.back) f ∙ append_assoc js (p ∷ []) (k ∷ c.back)) in
      grown ms o (size ∙ size₁) (subst (Linked ms o) joined whole)
      (at_all_same ns ms c.front (λ i m. ⊎_elim
      (λ (x : i ≡ p). subst (λ j. (node ms j).version ≡ (node ns j).version) (sym x) (ap (λ n. n.version) there ∙ ap (λ n. n.version) (aside q p mine)))
      (λ x. ap (λ n. n.version) (still i (Memᴰ.append_left c.back m) x))
      (cases_eq i p)))
      (at_all_same ns ms c.back (λ i m. ap (λ n. n.version) (in_back i m)))
      (ap (λ n. n.version) fresh)

  pub put_behind : (p : ℕ) → g.before ≡ Some p → Grown ns o v k (turned (written ns k v g.after) p k) o
  put_behind p e = ⊎_elim
      (λ (r : (js : List ℕ) × (c.front ≡ js ++ p ∷ [])). behind p r.0 r.1)
      (λ (r : (None ≡ Some p) × (c.front ≡ [])). absurd (none-some p r.0))
      (last_some None c.front p (sym c.prior ∙ sym (ap (λ x. x.before) h.stands) ∙ e))
