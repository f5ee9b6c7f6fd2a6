-- The nodes that joins and blocks name, and marks on them.
use Rattle.std.specs.Prelude.{◌≡◌, ℕ, ◌<◌, ◌≤◌, Bool, List, [], length, Some, slice_get}
use Rattle.std.specs.List.{AllByRecursion}
use Rattle.pv_graph.specs.declared.node.Node.{Node}
use Rattle.pv_graph.specs.Walks.{In}
use Rattle.pv_graph.specs.Graphs.{Graph}
use Rattle.pv_classes.specs.declared.join.Join.{Join}
use Rattle.pv_classes.specs.declared.join.Reason.{Reason}
use Rattle.pv_classes.specs.declared.join.Reason.TheVariants as reason
use Rattle.pv_classes.specs.Blocks.{Block, block, Blocks}
use Rattle.pv_explain.specs.declared.source.Search.{Search}
use Rattle.pv_explain.specs.declared.source.Source.{Source}
use Rattle.pv_explain.specs.Copies.{HasCopy}
use Rattle.pv_explain.specs.Marks.{IsMarked}

-- ---- what holds of each node that is named

-- the nodes of an axiom
abbrev pub axiom_nodes : Reason → List ℕ
axiom_nodes (reason.Axiom n nodes) = nodes
axiom_nodes r = []

-- P holds of the two nodes of a pair
abbrev pub OfPair : (ℕ → Type 0) → ℕ × ℕ → Type 0
OfPair P pair = P pair.0 × P pair.1

-- .. of each node that a join names: its two, and those of its axiom
pub record OfJoin (P : ℕ → Type 0) (j : Join) : Type 0 where
  pub first : P j.first
  pub second : P j.second
  pub axiom_ : AllByRecursion P (axiom_nodes j.why)

-- .. of each node that a block names, with the joins and the blocks inside it
abbrev mutual
  pub OfBlock : (ℕ → Type 0) → Block → Type 0
  OfBlock P (block d pairs joins blocks) = AllByRecursion (OfPair P) pairs × AllByRecursion (OfJoin P) joins × OfBlocks P blocks

  pub OfBlocks : (ℕ → Type 0) → Blocks → Type 0
  OfBlocks P Blocks.none = Unit {0}
  OfBlocks P (Blocks.first b bs) = OfBlock P b × OfBlocks P bs

-- .. of each node that a join among these blocks names, and that the block names that it cites
pub record OfCited (P : ℕ → Type 0) (blocks : List Block) (j : Join) : Type 0 where
  pub join : OfJoin P j
  pub cited : (n : ℕ) (b : Block) → j.why ≡ reason.Induction n → slice_get blocks n ≡ Some b → OfBlock P b

-- ---- copies

-- a node with this number has a copy
abbrev pub IsReady : Source → ℕ → Type 0
IsReady s k = k < length s.graph.now.nodes → HasCopy s.map.now k

-- .. each node that one of these joins names, or the block that it cites
abbrev pub AreReady : Source → List Block → List Join → Type 0
AreReady s blocks joins = AllByRecursion (OfCited (IsReady s) blocks) joins

-- ---- marks

-- a node with this number is marked
abbrev pub IsMarkedNode : List Bool → ℕ → Type 0
IsMarkedNode marks k = k < length marks → IsMarked marks k

-- the kids of a node are marked
abbrev pub AreKidsMarked : Graph → List Bool → ℕ → Type 0
AreKidsMarked g marks n = (node : Node) → slice_get g.nodes n ≡ Some node → AllByRecursion (IsMarked marks) node.kids

-- if it is a node, it is marked, and so are its kids
abbrev pub IsMarkedWithKids : Graph → List Bool → ℕ → Type 0
IsMarkedWithKids g marks n = n < length g.nodes → IsMarked marks n × AreKidsMarked g marks n

-- the kids of each node after the base that is marked are marked
abbrev pub AreClosed : Graph → List Bool → Type 0
AreClosed g marks = (n : ℕ) → g.base ≤ n → IsMarked marks n → AreKidsMarked g marks n

-- these come before a number
abbrev pub AreBelow : ℕ → List ℕ → Type 0
AreBelow before nodes = (k : ℕ) → In nodes k → k < before

-- the block that a reason cites comes before a number
abbrev pub CitesBelow : ℕ → Reason → Type 0
CitesBelow blocks why = (n : ℕ) → why ≡ reason.Induction n → n < blocks

-- .. is marked
abbrev pub IsCiteMarked : Reason → List Bool → Type 0
IsCiteMarked why cited = (n : ℕ) → why ≡ reason.Induction n → IsMarked cited n

-- .. for each of these joins
abbrev pub CiteMarked : List Join → List Bool → Type 0
CiteMarked joins cited = (k : ℕ) (j : Join) → slice_get joins k ≡ Some j → IsCiteMarked j.why cited

-- each node is marked that a marked block names
abbrev pub AreCitedMarked : List Bool → List Block → List Bool → Type 0
AreCitedMarked cited blocks marks = (n : ℕ) (b : Block) → IsMarked cited n → slice_get blocks n ≡ Some b → OfBlock (IsMarkedNode marks) b

-- each node is marked that a join of the search names, or the block that it cites
abbrev pub AreNamedMarked : Search → List Bool → Type 0
AreNamedMarked s marks = AllByRecursion (OfCited (IsMarkedNode marks) s.blocks.now) s.joins.now

-- the marks of the nodes of a search that are needed: of each that is named, and of all below them
pub record AreNodeMarks (s : Search) (marks : List Bool) : Type 0 where
  pub long : length marks ≡ length s.graph.now.nodes
  pub closed : AreClosed s.graph.now marks
  pub named : AreNamedMarked s marks
