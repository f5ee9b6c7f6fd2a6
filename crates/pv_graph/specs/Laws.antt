-- The laws of graphs.
use Rattle.std.specs.Prelude.{◌≡◌, ℕ, ◌<◌, ◌≤◌, false, List, [], length}
use Rattle.pv_graph.specs.declared.node.Op.{Op}
use Rattle.pv_graph.specs.declared.node.OpSort.{OpSort}
use Rattle.pv_graph.specs.declared.node.Node.{Node}
use Rattle.pv_graph.specs.Walks.{In, Reaches, Move, down, jump, Walk, KeepsRule}
use Rattle.pv_graph.specs.Unfold.{UnfoldsAs, UnfoldEqually}
use Rattle.pv_graph.specs.Graphs.{Graph, form_at, IsGraph, IsWellMade, Extends}
use Rattle.pv_graph.specs.Calls.{empty_graph, Added, Begun, Tied, Sealed, IsDistinct, LeavesNoSortOpen, AreSorts, IsBase}

-- a graph that keeps its nodes keeps their unfoldings
abbrev pub GrowthUnfolds : Type 0
GrowthUnfolds = (old new : Graph) → IsGraph old → Extends old new → (n : ℕ) → n < length old.nodes → UnfoldsAs (form_at new.nodes) (form_at old.nodes) n n

-- tying a theta keeps the unfoldings of the nodes from which it isn't reached
abbrev pub TieKeeps : Type 0
TieKeeps = (old new : Graph) (n first second : ℕ) → IsGraph old → Tied old new n first second → (m : ℕ) → m < length old.nodes → (Reaches (form_at old.nodes) [] m n → ⊥)
    → UnfoldsAs (form_at new.nodes) (form_at old.nodes) m m

-- a graph without nodes is well made, and adding, beginning a theta and sealing keep a graph well made
pub record CallsKeep : Type 0 where
  pub empty : IsWellMade empty_graph
  pub add : (old new : Graph) (o : Op) (kids : List ℕ) (n : ℕ) → IsWellMade old → Added old new o kids n → IsWellMade new × Extends old new
  pub theta : (old new : Graph) (d : ℕ) (s : OpSort) (n : ℕ) → IsWellMade old → Begun old new d s n → IsWellMade new × Extends old new
  pub seal : (old new : Graph) → IsWellMade old → Sealed old new → IsWellMade new

-- where each cycle takes the second kid of some theta, the nodes have their sorts in one way
abbrev pub SortsOnce : Type 0
SortsOnce = (nodes : List Node) → LeavesNoSortOpen nodes → (all all' : List OpSort) → AreSorts nodes all → AreSorts nodes all' → all ≡ all'

-- nodes of which no two unfold equally and whose cycles keep the rule may be a base, and the graph of that base is well
-- made; the sorts of a sealed graph fit its nodes
pub record BasesAreMade : Type 0 where
  pub distinct : (nodes : List Node) → ((a b : ℕ) → a < length nodes → b < length nodes → UnfoldEqually (form_at nodes) a b → a ≡ b) → IsDistinct nodes
  pub cycles : (nodes : List Node) → KeepsRule (form_at nodes) → LeavesNoSortOpen nodes
  pub made : (g : Graph) (nodes : List Node) → IsBase g nodes → KeepsRule (form_at nodes) → IsWellMade g
  pub sorts : (g : Graph) → IsGraph g → g.is_open ≡ false → AreSorts g.nodes g.sorts

-- the walk takes no second kid of a theta of a smaller depth, and no eval, pass or shift of depth d or less
abbrev pub StaysIn : ℕ → List Move → Type 0
StaysIn d ms = (e : ℕ) → (In ms (down e) → d ≤ e) × (In ms (jump e) → d < e)

-- tying a theta keeps a graph well made, where no walk leads from its first kid back to it, and those from its second
-- kid stay in its depth
abbrev pub TieKeepsRule : Type 0
TieKeepsRule = (old new : Graph) (n first second : ℕ) → IsWellMade old → (tie : Tied old new n first second) → ((ms : List Move) → Walk (form_at old.nodes) first ms n → ⊥)
    → ((ms : List Move) → Walk (form_at old.nodes) second ms n → StaysIn tie.theta_.0 ms) → IsWellMade new
