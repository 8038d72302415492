use Rattle.std.proofs.Common.{◌≡◌, ℕ, ◌+◌, ◌<◌, true, not, length, Some, None, set, sym, refl, subst, arith, rules}
use Rattle.std.proofs.lemmas.Bool.{and_parts, not-true}
use Rattle.version.specs.Lists.{held, memory_place}
use Rattle.version.specs.Order.{numbered, place_of}
use Rattle.version.specs.declared.types.Version.{Version}
use Rattle.linked.specs.Chains.{Chained, chain, versions, gap_at, turned}
use Rattle.linked.specs.declared.list.LinkedList.{LinkedList}
use Rattle.linked.specs.declared.node.Gap.{Gap}
use Rattle.linked.specs.declared.node.Node.{Node}
use Rattle.linked.proofs.Puts.{Open, Grown, put_aside, put_first, put_behind}
use Rattle.linked.proofs.list.LinkedList.link.Goals as goal
use Rattle.linked.proofs.list.LinkedList.link.Goals.{in-Some, in-None}

module _ (l : LinkedList) (g : Gap) (v : Version) where
  ready : g ≡ gap_at l.nodes.now (place_of v) None (chain l.nodes.now l.first) → memory_place (versions l.nodes.now l.first) v ≡ true → l.used < length l.nodes.now → Open l.nodes.now l.first v l.used g
  ready e p r =
      let vs = versions l.nodes.now l.first in
      let both = and_parts (numbered v) (not (held vs v)) p in
      record { stands = e; chained = l.chained; room = r; proper = both.0; free = not-true (held vs v) both.1 }

  -- the same three of the node that the gap gives
  module _ (h : Open l.nodes.now l.first v l.used g) (n : Node) (is : n ≡ record { version = v; next = g.after }) where
    aside : Chained (set l.nodes.now l.used n) l.used l.first
    aside = subst (λ m. Chained (set l.nodes.now l.used m) l.used l.first) (sym is) (put_aside l.nodes.now l.first v l.used g h g.after)

    first : g.before ≡ None → Grown l.nodes.now l.first v l.used (set l.nodes.now l.used n) (Some l.used)
    first b = subst (λ m. Grown l.nodes.now l.first v l.used (set l.nodes.now l.used m) (Some l.used)) (sym is) (put_first l.nodes.now l.first v l.used g h b)

    behind : (p : ℕ) → g.before ≡ Some p → Grown l.nodes.now l.first v l.used (turned (set l.nodes.now l.used n) p l.used) l.first
    behind p b = subst (λ m. Grown l.nodes.now l.first v l.used (turned (set l.nodes.now l.used m) p l.used) l.first) (sym is) (put_behind l.nodes.now l.first v l.used g h p b)

pub invariant_of-self : goal.invariant_of-self
invariant_of-self c =
    let l = c.args.self.now in
    let h = ready l c.args.gap c.args.version c.requires.gap c.requires.placed c.requires.room in
    record { few = search rules; room = search rules; chained = aside l c.args.gap c.args.version h c.node.result c.node.ensures }

pub invariant_of-self-2 : goal.invariant_of-self-2
invariant_of-self-2 c =
    let l = c.args.self.now in
    let v = c.args.version in
    let h = ready l c.args.gap v c.requires.gap c.requires.placed c.requires.room in
    let grown : Grown l.nodes.now l.first v l.used c.match-gap.self.1.0.now c.match-gap.self.1.1.1.0 × (c.match-gap.self.1.1.0 ≡ l.used) =
    elim c.match-gap.branch [
      | in-Some w ↦ subst (λ s. Grown l.nodes.now l.first v l.used s.1.0.now s.1.1.1.0 × (s.1.1.0 ≡ l.used)) (sym w.self-is) (behind l c.args.gap v h c.node.result c.node.ensures _ (search rules), refl)
      | in-None w ↦ subst (λ s. Grown l.nodes.now l.first v l.used s.1.0.now s.1.1.1.0 × (s.1.1.0 ≡ l.used)) (sym w.self-is) (first l c.args.gap v h c.node.result c.node.ensures w.in-None.is, refl)
    ] in
    record {
      few = omega (arith, grown.0.same, l.few);
      room = omega (arith, grown.0.same, grown.1, c.requires.room);
      chained = subst (λ n. Chained c.match-gap.self.1.0.now (n + 1) c.match-gap.self.1.1.1.0) (sym grown.1) grown.0.chained;
    }

pub returns-clause-list : goal.returns-clause-list
returns-clause-list c =
    let l = c.args.self.now in
    let v = c.args.version in
    let h = ready l c.args.gap v c.requires.gap c.requires.placed c.requires.room in
    let grown : Grown l.nodes.now l.first v l.used c.match-gap.self.1.0.now c.match-gap.self.1.1.1.0 =
    elim c.match-gap.branch [
      | in-Some w ↦ subst (λ s. Grown l.nodes.now l.first v l.used s.1.0.now s.1.1.1.0) (sym w.self-is) (behind l c.args.gap v h c.node.result c.node.ensures _ (search rules))
      | in-None w ↦ subst (λ s. Grown l.nodes.now l.first v l.used s.1.0.now s.1.1.1.0) (sym w.self-is) (first l c.args.gap v h c.node.result c.node.ensures w.in-None.is)
    ] in
    grown.list
