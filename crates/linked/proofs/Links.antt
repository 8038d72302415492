-- Chains of nodes as lists of indices: where a chain ends, its steps, and what a change of other nodes leaves. Assumes nothing.
use Rattle.std.proofs.Common.{◌≡◌, ℕ, zero, suc, ◌<◌, ◌≤◌, true, ltb, List, [], ◌∷◌, ◌++◌, length, Some, None, Option, sym, refl, ap, subst, arith}
use mathlib.Core.List.Memᴰ
use Rattle.std.proofs.lemmas.List.{length-map}
use Rattle.std.proofs.lemmas.Bool.{ltb-true, lt-ltb}
use Rattle.std.proofs.lemmas.Option.{none-some, same_Some}
use Rattle.version.proofs.Sorts.{◌∈◌, each_of, every_from}
use Rattle.linked.specs.Chains.{node, walk, chain, at_all, versions, all_below}
use Rattle.linked.specs.declared.node.Node.{Node}

-- the links from o on go through just these indices, and end
abbrev pub Linked : List Node → Option ℕ → List ℕ → Type 0
Linked ns o [] = o ≡ None
Linked ns o (i ∷ is) = (o ≡ Some i) × Linked ns (node ns i).next is

walk_linked : (n : ℕ) (ns : List Node) (o : Option ℕ) → length (walk n ns o) < n → Linked ns o (walk n ns o)
walk_linked zero ns o h = absurd (omega arith)
walk_linked (suc n) ns None h = refl
walk_linked (suc n) ns (Some i) h = (refl, walk_linked n ns (node ns i).next (omega arith))

linked_walk : (n : ℕ) (ns : List Node) (o : Option ℕ) (is : List ℕ) → Linked ns o is → length is < n → walk n ns o ≡ is
linked_walk zero ns o is l h = absurd (omega arith)
linked_walk (suc n) ns None [] l h = refl
linked_walk (suc n) ns (Some i) [] l h = absurd (none-some i (sym l))
linked_walk (suc n) ns None (j ∷ is) l h = absurd (none-some j l.0)
linked_walk (suc n) ns (Some i) (j ∷ is) l h =
    rw (same_Some i j l.0) (ap (λ ks. j ∷ ks) (linked_walk n ns (node ns j).next is l.1 (omega arith)))

-- a chain of no more indices than there are nodes has ended
pub chain_linked : (ns : List Node) (o : Option ℕ) → length (versions ns o) ≤ length ns → Linked ns o (chain ns o)
chain_linked ns o h = let e = length-map (chain ns o) (λ i. (node ns i).version) in walk_linked (suc (length ns)) ns o (omega arith)

pub linked_chain : (ns : List Node) (o : Option ℕ) (is : List ℕ) → Linked ns o is → length is ≤ length ns → chain ns o ≡ is
linked_chain ns o is l h = linked_walk (suc (length ns)) ns o is l (omega arith)

-- one step along a chain that ends
pub chain_step : (ns : List Node) (i : ℕ) → length (versions ns (Some i)) ≤ length ns → chain ns (Some i) ≡ i ∷ chain ns (node ns i).next
chain_step ns i h =
    let o = (node ns i).next in
    let e = length-map (walk (length ns) ns o) (λ j. (node ns j).version) in
    let l = walk_linked (length ns) ns o (omega arith) in
    ap (λ ks. i ∷ ks) (sym (linked_chain ns o (walk (length ns) ns o) l (omega arith)))

-- ---- indices below a number

pub below_each : (n : ℕ) (is : List ℕ) → all_below n is ≡ true → (i : ℕ) → i ∈ is → i < n
below_each n is e i m = ltb-true i n (each_of (λ k. ltb k n) is e i m)

pub below_from : (n : ℕ) (is : List ℕ) → ((i : ℕ) → i ∈ is → i < n) → all_below n is ≡ true
below_from n is h = every_from (λ k. ltb k n) is (λ i m. lt-ltb i n (h i m))

-- ---- what a change of other nodes leaves

module _ (ns ms : List Node) where
  pub linked_same : (o : Option ℕ) (is : List ℕ) → ((i : ℕ) → i ∈ is → node ms i ≡ node ns i) → Linked ns o is → Linked ms o is
  linked_same o [] h l = l
  linked_same o (i ∷ is) h l =
      let e : (node ns i).next ≡ (node ms i).next = ap (λ n. n.next) (sym (h i (Memᴰ.head refl))) in
      (l.0, linked_same (node ms i).next is (λ j m. h j (Memᴰ.tail m)) (subst (λ p. Linked ns p is) e l.1))

  -- the links up to p stay, and from there on they go elsewhere
  pub linked_turn : (o : Option ℕ) (is : List ℕ) (p : ℕ) (ps qs : List ℕ) → ((i : ℕ) → i ∈ is → node ms i ≡ node ns i) → Linked ns o (is ++ p ∷ ps) → Linked ms (node ms p).next qs → Linked ms o (is ++ p ∷ qs)
  linked_turn o [] p ps qs h l t = (l.0, t)
  linked_turn o (i ∷ is) p ps qs h l t =
      let e : (node ns i).next ≡ (node ms i).next = ap (λ n. n.next) (sym (h i (Memᴰ.head refl))) in
      (l.0, linked_turn (node ms i).next is p ps qs (λ j m. h j (Memᴰ.tail m)) (subst (λ q. Linked ns q (is ++ p ∷ ps)) e l.1) t)

  pub at_all_same : (is : List ℕ) → ((i : ℕ) → i ∈ is → (node ms i).version ≡ (node ns i).version) → at_all ms is ≡ at_all ns is
  at_all_same [] h = refl
  at_all_same (i ∷ is) h =
      let here = h i (Memᴰ.head refl) in
      let rest = at_all_same is (λ j m. h j (Memᴰ.tail m)) in cc

pub linked_behind : (ns : List Node) (o : Option ℕ) (is : List ℕ) (p : ℕ) (ps : List ℕ) → Linked ns o (is ++ p ∷ ps) → Linked ns (node ns p).next ps
linked_behind ns o [] p ps l = l.1
linked_behind ns o (i ∷ is) p ps l = linked_behind ns (node ns i).next is p ps l.1

-- the index in front of a list
abbrev pub head_index : List ℕ → Option ℕ
head_index [] = None
head_index (i ∷ is) = Some i

pub linked_head : (ns : List Node) (o : Option ℕ) (is : List ℕ) → Linked ns o is → o ≡ head_index is
linked_head ns o [] l = l
linked_head ns o (i ∷ is) l = l.0
