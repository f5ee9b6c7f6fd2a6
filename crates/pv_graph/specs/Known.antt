-- Which depths are free in the first nodes of a graph, as that is kept while the graph grows.
use Rattle.std.specs.Prelude.{◌≡◌, ◌⊎◌, ℕ, ◌+◌, ◌-◌, ◌<◌, ◌≤◌, Bool, List, take, length, Some, slice_get, Vec}
use Rattle.std.specs.declared.alloc.Global.{Global}
use Rattle.pv_graph.specs.declared.node.Node.{Node}
use Rattle.pv_graph.specs.declared.known.Known.{Known}
use Rattle.pv_graph.specs.Reach.{AreFree}
use Rattle.pv_graph.specs.Walks.{In}

-- no node before p has a kid from there on
pub record IsShut (nodes : List Node) (p : ℕ) : Type 0 where
  pub low : p ≤ length nodes
  pub shut : (n k : ℕ) (node : Node) → n < p → slice_get nodes n ≡ Some node → In node.kids k → k < p

abbrev pub IsAscending : List ℕ → Type 0
IsAscending xs = (i j p q : ℕ) → i < j → slice_get xs i ≡ Some p → slice_get xs j ≡ Some q → p ≤ q

abbrev pub AreAllFree : List Node → List (Vec Bool Global) → Type 0
AreAllFree nodes all = (d : ℕ) (marks : Vec Bool Global) → slice_get all d ≡ Some marks → AreFree nodes (d + 1) marks.items

-- what is kept is right
pub record AreKnown (nodes : List Node) (known : Known) : Type 0 where
  pub marks : AreAllFree nodes known.marks.items
  pub shut : (i p : ℕ) → slice_get known.shut.items i ≡ Some p → IsShut nodes p
  pub ascending : IsAscending known.shut.items

-- the mark of this depth and node
abbrev pub HasMark : Known → ℕ → ℕ → Bool → Type 0
HasMark known d n yes' = (marks : Vec Bool Global) × (slice_get known.marks.items (d - 1) ≡ Some marks) × (slice_get marks.items n ≡ Some yes')

-- there are marks of all nodes for this depth
abbrev pub Knows : List Node → ℕ → Known → Type 0
Knows nodes d known = (marks : Vec Bool Global) × (slice_get known.marks.items (d - 1) ≡ Some marks) × (length marks.items ≡ length nodes)

-- for the first depths at most this many marks are left
pub record Shortens (most : ℕ) (old new : List (Vec Bool Global)) (d : ℕ) : Type 0 where
  pub long : length new ≡ length old
  pub first : (i : ℕ) (marks : Vec Bool Global) → i < d → slice_get new i ≡ Some marks → (all : Vec Bool Global) × (slice_get old i ≡ Some all) × (marks.items ≡ take most all.items)
  pub others : (i : ℕ) → d ≤ i → slice_get new i ≡ slice_get old i

-- what is known of nodes before the last of the numbers that aren't more than n, and these numbers
pub record Cuts (n : ℕ) (old new : Known) : Type 0 where
  pub most : ℕ
  pub is : (most ≡ 0) ⊎ ((i : ℕ) × (slice_get new.shut.items i ≡ Some most))
  pub marks : (d : ℕ) (marks : Vec Bool Global) → slice_get new.marks.items d ≡ Some marks → (all : Vec Bool Global) × (slice_get old.marks.items d ≡ Some all) × (marks.items ≡ take most all.items)
  pub shut : (i p : ℕ) → slice_get new.shut.items i ≡ Some p → (slice_get old.shut.items i ≡ Some p) × (p ≤ n)
