-- What a search joined, and the sections that explain it.
use Rattle.std.specs.Prelude.{◌≡◌, ℕ, ◌<◌, false, List, [], length}
use Rattle.pv_graph.specs.Walks.{In}
use Rattle.pv_graph.specs.Graphs.{Graph, IsGraph, Extends}
use Rattle.pv_axioms.specs.Entries.{Instance}
use Rattle.pv_classes.specs.Linked.{Linked}
use Rattle.pv_classes.specs.Grounds.{JoinsGround}
use Rattle.pv_classes.specs.Sorts.{HaveOneSort}
use Rattle.pv_explain.specs.declared.source.Search.{Search}

-- a and b are nodes of one sort, and the sides of an instance of an axiom over nodes, where these nodes are assumed to end
pub record IsGiven (g : Graph) (assumed : List ℕ) (n : ℕ) (nodes : List ℕ) (a b : ℕ) : Type 0 where
  pub instance_ : Instance g assumed n nodes a b
  pub nodes_ : (k : ℕ) → In nodes k → k < length g.nodes
  pub first : a < length g.nodes
  pub second : b < length g.nodes
  pub one_sort : HaveOneSort g.sorts a b

-- each join of the search has its ground, where these nodes are assumed to end
abbrev pub IsGrounded : Search → List ℕ → Type 0
IsGrounded s assumed = JoinsGround s.graph.now.nodes (IsGiven s.graph.now assumed) [] [] s.blocks.now s.joins.now

-- the search joined a and b
abbrev pub HasLinked : Search → ℕ → ℕ → Type 0
HasLinked s a b = Linked (length s.graph.now.nodes) s.joins.now a b

-- a sealed graph, and one that grew from it, whose base it is
pub record IsGrown (least g : Graph) : Type 0 where
  pub made : IsGraph g
  pub sealed : least.is_open ≡ false
  pub shut : g.is_open ≡ false
  pub base : g.base ≡ length least.nodes
  pub long : length least.sorts ≡ length least.nodes
  pub extends_ : Extends least g
