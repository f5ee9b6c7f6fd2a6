-- How the sorts of a base are found: along the kids whose sorts are taken, back from the operations that give a sort of their own.
use Rattle.std.specs.Prelude.{◌≡◌, ◌⊎◌, ◌↔◌, ℕ, Bool, true, List, [], ◌∷◌, map, length, Option, Some, slice_get}
use Rattle.pv_graph.specs.declared.node.OpSort.{OpSort}
use Rattle.pv_graph.specs.declared.node.OpSort.TheVariants.{I, L, A, N, F, T, H, R}
use Rattle.pv_graph.specs.declared.node.Node.{Node}
use Rattle.pv_graph.specs.declared.reach.Use.{Use}
use Rattle.pv_graph.specs.SortCode.{own_sort, is_source}
use Rattle.pv_graph.specs.Walks.{In}
use Rattle.pv_graph.specs.Reach.{Uses, IsUse, IsMarked}
use Rattle.pv_graph.specs.Graphs.{IsRanged}
use Rattle.pv_graph.specs.Calls.{AreSorts}

abbrev pub own_sorts : List Node → List (Option OpSort)
own_sorts nodes = map (λ node. own_sort node.op) nodes

-- from the node on, along the kids whose sorts are taken, an operation is reached that gives the sort
pub data Takes (nodes : List Node) (s : OpSort) : ℕ → Type 0 where
  own : (n : ℕ) (node : Node) → slice_get nodes n ≡ Some node → own_sort node.op ≡ Some s → Takes nodes s n
  from : (n p k : ℕ) (node : Node) → slice_get nodes n ≡ Some node → slice_get node.kids p ≡ Some k → is_source node.op p ≡ true → Takes nodes s k → Takes nodes s n

-- for each node the places at which it is a kid
pub record AreAllUses (nodes : List Node) (uses : Uses) : Type 0 where
  pub long : length uses ≡ length nodes
  pub says : (k : ℕ) (u : Use) → IsUse uses k u ↔ ((node : Node) × (slice_get nodes u.node ≡ Some node) × (slice_get node.kids u.place ≡ Some k))

-- exactly the places of this sort are marked
pub record AreOfSort (owns : List (Option OpSort)) (s : OpSort) (starts : List Bool) : Type 0 where
  pub long : length starts ≡ length owns
  pub says : (n : ℕ) → IsMarked starts n ↔ (slice_get owns n ≡ Some (Some s))

-- exactly the nodes that take this sort are marked
pub record AreTakers (nodes : List Node) (s : OpSort) (marks : List Bool) : Type 0 where
  pub long : length marks ≡ length nodes
  pub says : (n : ℕ) → IsMarked marks n ↔ Takes nodes s n

-- the marked places have this sort, and the others have what they had
pub record Gives (s : OpSort) (marks : List Bool) (old new : List OpSort) : Type 0 where
  pub long : length new ≡ length old
  pub here : (n : ℕ) → IsMarked marks n → slice_get new n ≡ Some s
  pub others : (n : ℕ) → (IsMarked marks n → ⊥) → slice_get new n ≡ slice_get old n

-- the sorts of values: all but a root's
abbrev pub value_sorts : List OpSort
value_sorts = I ∷ L ∷ A ∷ N ∷ F ∷ T ∷ H ∷ []

-- each node that takes one of these sorts has a sort that it takes, and every other has a root's
pub record AreTaken (nodes : List Node) (these : List OpSort) (sorts : List OpSort) : Type 0 where
  pub long : length sorts ≡ length nodes
  pub taken : (n : ℕ) (s : OpSort) → slice_get sorts n ≡ Some s → (s ≡ R) ⊎ Takes nodes s n
  pub all : (n : ℕ) (s : OpSort) → In these s → Takes nodes s n → slice_get sorts n ≡ Some R → ⊥

-- no list of sorts fits the nodes
abbrev pub HaveNoSorts : List Node → Type 0
HaveNoSorts nodes = (sorts : List OpSort) → AreSorts nodes sorts → ⊥

-- constants in the ranges of their sorts
abbrev pub AreRanged : List Node → Type 0
AreRanged nodes = (n : ℕ) (node : Node) → slice_get nodes n ≡ Some node → IsRanged node.op
