-- The laws of least graphs.
use Rattle.std.specs.Prelude.{◌≡◌, ◌↔◌, ℕ, ◌<◌, ◌≤◌, false, List, length, Some, slice_get}
use Rattle.pv_graph.specs.declared.node.Node.{Node}
use Rattle.pv_graph.specs.declared.node.OpSort.{OpSort}
use Rattle.pv_graph.specs.Walks.{KeepsRule}
use Rattle.pv_graph.specs.Graphs.{Graph, form_at, IsGraph, IsWellMade}
use Rattle.pv_graph.specs.Calls.{IsSame}
use Rattle.pv_alike.specs.Least.{Rooted, UnfoldEqually, UnfoldsAs, MeansAs, IsLeast, IsLeastOf}
use Rattle.pv_alike.specs.Algorithm.{IsNumbered, IsByNumber, IsLaidOut, IsDense}
use Rattle.pv_alike.specs.Partition.{IsFiner, IsLast}

-- two nodes have one least graph
abbrev pub LeastOnce : Type 0
LeastOnce = (g : List Node) (a b : ℕ) (h k : List Node) (r s t u : ℕ) → IsLeast g a b h r s → IsLeast g a b k t u → (h ≡ k) × (r ≡ t) × (s ≡ u)

-- the roots are one number exactly where the nodes unfold equally, and have their values
pub record LeastRoots (g : List Node) (a b : ℕ) (h : List Node) (r s : ℕ) : Type 0 where
  pub one : (r ≡ s) ↔ UnfoldEqually g a b
  pub first : MeansAs h r g a
  pub second : MeansAs h s g b

abbrev pub RootsOne : Type 0
RootsOne = (g : List Node) (a b : ℕ) (h : List Node) (r s : ℕ) → IsLeast g a b h r s → LeastRoots g a b h r s

-- the least graph keeps the rule on cycles, where the graph does
abbrev pub LeastKeepsRule : Type 0
LeastKeepsRule = (g : List Node) (a b : ℕ) (h : List Node) (r s : ℕ) → IsLeast g a b h r s → KeepsRule (form_at g) → KeepsRule (form_at h)

-- nodes of a graph have one number in the last pass exactly where they unfold equally
abbrev pub NumbersUnfold : Type 0
NumbersUnfold = (g : Graph) (number : ℕ → ℕ) (a b : ℕ) → IsGraph g → IsNumbered g.nodes number → a < length g.nodes → b < length g.nodes → (number a ≡ number b) ↔ UnfoldEqually g.nodes a b

-- the search for the least graph finds it
abbrev pub SearchFinds : Type 0
SearchFinds = (g : Graph) (number : ℕ → ℕ) (q : List Node) (a b : ℕ) (h : List Node) (r s : ℕ) → IsGraph g → IsNumbered g.nodes number → IsByNumber g.nodes number q → a < length g.nodes → b < length g.nodes
    → IsLaidOut number a b q h r s → IsLeast g.nodes a b h r s

-- a pass that doesn't make more classes is the last
abbrev pub PassesEnd : Type 0
PassesEnd = (g : List Node) (class number next : ℕ → ℕ) (m n : ℕ) → IsDense (form_at g) class m → IsDense (form_at g) next n → IsFiner (form_at g) class number next → n ≤ m → IsLast (form_at g) class next

-- nodes of a well-made graph that unfold equally have one sort
abbrev pub OneSort : Type 0
OneSort = (g : Graph) (a b : ℕ) (s t : OpSort) → IsWellMade g → g.is_open ≡ false → UnfoldEqually g.nodes a b → slice_get g.sorts a ≡ Some s → slice_get g.sorts b ≡ Some t → s ≡ t

-- with some sorts the least graph of two nodes of a well-made graph is well made
abbrev pub LeastMade : Type 0
LeastMade = (g : Graph) (a b : ℕ) (h : List Node) (r s : ℕ) → IsWellMade g → g.is_open ≡ false → IsLeast g.nodes a b h r s
    → (sorts : List OpSort) × IsWellMade (record { nodes = h; sorts = sorts; is_open = false; base = length h; is_prepared = false })

-- no graph with nodes that unfold as the roots has fewer nodes
abbrev pub LeastFewest : Type 0
LeastFewest = (g : List Node) (a b : ℕ) (h : List Node) (r s : ℕ) → IsLeast g a b h r s → (k : List Node) (c d : ℕ) → UnfoldsAs h r k c → UnfoldsAs h s k d → length h ≤ length k

-- the nodes a and b of g are the same two roots as the nodes c and d of h: the first two unfold as each other, and so do the second
pub record AreSameRoots (g : List Node) (a b : ℕ) (h : List Node) (c d : ℕ) : Type 0 where
  pub first : UnfoldsAs g a h c
  pub second : UnfoldsAs g b h d

-- two roots of one graph and two of another have one least graph, the same nodes and the same numbers of the roots, exactly
-- where they are the same two roots
abbrev pub SameLeastNodes : Type 0
SameLeastNodes = (g h : List Node) (a b c d : ℕ) (l m : List Node) (r s t u : ℕ) → IsLeast g a b l r s → IsLeast h c d m t u → ((l ≡ m) × (r ≡ t) × (s ≡ u)) ↔ AreSameRoots g a b h c d

-- graphs with their two roots that are one: of the nodes, sorts, seal and base nothing differs (one graph may be prepared and
-- the other not), and of the roots nothing
pub record IsSameRooted (l m : Rooted) : Type 0 where
  pub graph : IsSame l.graph m.graph
  pub first : l.first ≡ m.first
  pub second : l.second ≡ m.second

-- .. so it is for sealed and well-made graphs, with their sorts
abbrev pub SameLeast : Type 0
SameLeast = (g h : Graph) (a b c d : ℕ) (l m : Rooted) → IsLeastOf g a b l → IsLeastOf h c d m → IsSameRooted l m ↔ AreSameRoots g.nodes a b h.nodes c d
