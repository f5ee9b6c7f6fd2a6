-- The table of witnesses while it is filled, support by support.
use Rattle.std.specs.Prelude.{◌≡◌, ◌⊎◌, ℕ, ◌<◌, Bool, List, length, Option, Some, None, slice_get}
use Rattle.std.specs.List.{AllZip}
use Rattle.pv_graph.specs.declared.node.Node.{Node}
use Rattle.pv_graph.specs.Walks.{In}
use Rattle.pv_graph.specs.Reach.{IsMarked}
use Rattle.pv_graph.specs.Calls.{Added, FitsOver}
use Rattle.pv_graph.specs.Graphs.{Graph, Extends}
use Rattle.pv_instances.specs.Made.{GrowsBy, KeepsDistinct}
use Rattle.pv_witness.specs.declared.condition.Condition.{Condition}
use Rattle.pv_marks.specs.Classes.{class_of}
use Rattle.pv_witness.specs.Conditions.{HoldsOfNode}
use Rattle.pv_witness.specs.Witnesses.{IsCopied, IsWitness}
use Rattle.pv_witness.specs.Supports.{Covers}

-- a node of the old graph, or a copy
abbrev pub IsOldOrCopied : Graph → Graph → Graph → List ℕ → ℕ → Type 0
IsOldOrCopied h old g numbers n = (n < length old.nodes) ⊎ IsCopied h g numbers n

-- the condition holds of each marked node
abbrev pub HoldsOfMarked : Graph → List ℕ → Condition → List Bool → Type 0
HoldsOfMarked g assumed k starts = (n : ℕ) → IsMarked starts n → HoldsOfNode g assumed k n

-- the table has a witness for each class that the list covers. Here h has the nodes with class numbers; from the old graph it grew to g
pub record AreWitnessed (h old g : Graph) (numbers : List ℕ) (k : Condition) (starts : List Bool) (list : List ℕ) (table : List (Option ℕ)) : Type 0 where
  pub grows : GrowsBy h g (IsOldOrCopied h old g numbers)
  pub kept : Extends old g
  pub distinct : KeepsDistinct old g
  pub long : length table ≡ length h.nodes
  pub each : (c w : ℕ) → slice_get table c ≡ Some (Some w) → IsWitness h g numbers c w
  pub has : (assumed : List ℕ) (c w : ℕ) → HoldsOfMarked h assumed k starts → slice_get table c ≡ Some (Some w) → HoldsOfNode g assumed k w
  pub all : (c : ℕ) → Covers numbers list c → (w : ℕ) × (slice_get table c ≡ Some (Some w))

-- w is the witness of the class of n, or n where there is none
abbrev pub IsChosen : List ℕ → List (Option ℕ) → ℕ → ℕ → Type 0
IsChosen numbers table n w = (slice_get table (class_of numbers n) ≡ Some (Some w)) ⊎ ((slice_get table (class_of numbers n) ≡ Some None) × (w ≡ n))

abbrev pub AreChosen : List ℕ → List (Option ℕ) → List ℕ → List ℕ → Type 0
AreChosen numbers table ks ws = AllZip (IsChosen numbers table) ks ws

-- m is the node n again, over the witnesses of its kids' classes
pub record IsMadeAgain (old new : Graph) (numbers : List ℕ) (table : List (Option ℕ)) (n m : ℕ) : Type 0 where
  pub node : Node
  pub is : slice_get old.nodes n ≡ Some node
  pub over : List ℕ
  pub chosen : AreChosen numbers table node.kids over
  pub added : Added old new node.op over m

-- over such kids the node fits
abbrev pub FitsAgain : Graph → List ℕ → List (Option ℕ) → ℕ → Type 0
FitsAgain g numbers table n = (node : Node) (ws : List ℕ) → slice_get g.nodes n ≡ Some node → AreChosen numbers table node.kids ws → FitsOver g node.op ws

-- n itself, where it is marked, else the node again
abbrev pub IsTaken : Graph → Graph → List ℕ → List Bool → List (Option ℕ) → ℕ → ℕ → Type 0
IsTaken old new numbers starts table n m = (IsMarked starts n × (m ≡ n) × (new ≡ old)) ⊎ ((IsMarked starts n → ⊥) × IsMadeAgain old new numbers table n m)

-- the kids of the node have class numbers, and those have a place in the table
pub record HasNumberedKids (g : Graph) (numbers : List ℕ) (table : List (Option ℕ)) (n : ℕ) : Type 0 where
  pub kids : (node : Node) (k : ℕ) → slice_get g.nodes n ≡ Some node → In node.kids k → k < length numbers
  pub places : (node : Node) (k : ℕ) → slice_get g.nodes n ≡ Some node → In node.kids k → class_of numbers k < length table
