-- Nodes that are chained by index, and the versions that a chain holds.
use Rattle.std.specs.Prelude.{◌≡◌, ℕ, zero, suc, ◌<◌, Bool, true, cond, List, [], ◌∷◌, map, length, Some, None, Option, nat_lt, slice_index_or, slice_set}
use Rattle.std.specs.List.{list_all}
use Rattle.version.specs.Order.{ahead, place_of, sorted, numbered}
use Rattle.version.specs.declared.types.Place.{Place}
use Rattle.version.specs.declared.types.Version.{Version}
use Rattle.linked.specs.declared.node.Gap.{Gap}
use Rattle.linked.specs.declared.node.Node.{Node}

-- what is read where there is no node
abbrev pub no_node : Node
no_node = record { version = record { point = 0; number = 0; value = None }; next = None }

-- the node at an index
abbrev pub node : List Node → ℕ → Node
node ns i = slice_index_or ns i no_node

-- the indices from a link on, for so many steps at most
abbrev pub walk : ℕ → List Node → Option ℕ → List ℕ
walk zero ns o = []
walk (suc n) ns None = []
walk (suc n) ns (Some i) = i ∷ walk n ns (node ns i).next

-- all indices from a link on: a chain that has no more of them than there are nodes has ended
abbrev pub chain : List Node → Option ℕ → List ℕ
chain ns o = walk (suc (length ns)) ns o

-- the versions at indices
abbrev pub at_all : List Node → List ℕ → List Version
at_all ns is = map (λ i. (node ns i).version) is

-- the versions from a link on
abbrev pub versions : List Node → Option ℕ → List Version
versions ns o = at_all ns (chain ns o)

-- each index is below a number
abbrev pub all_below : ℕ → List ℕ → Bool
all_below n is = list_all (λ i. nat_lt i n) is

-- the gap among indices where a place stands; prev is the index in front of them, if any
abbrev pub gap_at : List Node → Place → Option ℕ → List ℕ → Gap
gap_at ns a prev [] = record { before = prev; after = None }
gap_at ns a prev (i ∷ is) = cond (ahead (place_of (node ns i).version) a) (gap_at ns a (Some i) is) (record { before = prev; after = Some i })

-- what a list keeps of its chain, which begins at o and has as many nodes as are used
pub record Chained (ns : List Node) (used : ℕ) (o : Option ℕ) : Type 0 where
  pub whole : length (versions ns o) ≡ used
  pub inside : all_below used (chain ns o) ≡ true
  pub ordered : sorted (versions ns o) ≡ true
  pub proper : list_all numbered (versions ns o) ≡ true

-- ---- changes of links

-- a node for v stands at index k, and leads to o
abbrev pub written : List Node → ℕ → Version → Option ℕ → List Node
written ns k v o = slice_set ns k (record { version = v; next = o })

-- the node at index p leads to k
abbrev pub turned : List Node → ℕ → ℕ → List Node
turned ns p k = slice_set ns p (record { version = (node ns p).version; next = Some k })

-- the node before a gap, if there is one, leads to k
abbrev pub led : List Node → Option ℕ → ℕ → List Node
led ns None k = ns
led ns (Some p) k = turned ns p k

-- the nodes once a node for v, at index k, was put into a gap: it leads to what stands behind the gap, and what stands before the gap leads to it
abbrev pub put : List Node → ℕ → Version → Gap → List Node
put ns k v g = led (written ns k v g.after) g.before k

-- where a chain from o on begins then: at k, if nothing stands before the gap
abbrev pub begins : Option ℕ → Option ℕ → ℕ → Option ℕ
begins o None k = Some k
begins o (Some p) k = o

-- ---- what a link leads to

-- an index, if there is one, is below a number
abbrev pub Within : ℕ → Option ℕ → Type 0
Within n None = Unit {0}
Within n (Some i) = i < n

-- the version at an index, if there is one
abbrev pub version_at : List Node → Option ℕ → Option Version
version_at ns None = None
version_at ns (Some i) = Some (node ns i).version
