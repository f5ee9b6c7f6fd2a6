-- What a condition says of a node and of a class, and marks by which it is known of nodes.
use Rattle.std.specs.Prelude.{ℕ, ◌≤◌, Bool, List, length}
use Rattle.pv_graph.specs.Walks.{Free, IsSettled}
use Rattle.pv_graph.specs.Reach.{IsMarked}
use Rattle.pv_graph.specs.Graphs.{Graph, form_at, IsGraph, Extends}
use Rattle.pv_steps.specs.Facts.{View}
use Rattle.pv_heights.specs.Heights.{IsBase}
use Rattle.pv_heights.specs.Conditions.{Settled, NotFree}
use Rattle.pv_heights.specs.Searches.{nodes, IsNode, OneClass}
use Rattle.pv_witness.specs.Numbered.{numbered}
use Rattle.pv_witness.specs.declared.condition.Condition.{Condition}
use Rattle.pv_witness.specs.declared.condition.Condition.TheVariants as condition

-- the condition holds of a node, where the assumed nodes count as ending
abbrev pub HoldsAt : View → List ℕ → Condition → ℕ → Type 0
HoldsAt view assumed condition.Settled n = IsSettled view assumed n
HoldsAt view assumed (condition.NotFree d) n = Free view d n → ⊥

-- the same of a node of a graph
abbrev pub HoldsOfNode : Graph → List ℕ → Condition → ℕ → Type 0
HoldsOfNode g assumed k n = HoldsAt (form_at g.nodes) assumed k n

-- it holds of the class of node n, as a match asks it. The view has the nodes of the least graph
abbrev pub HoldsOfClass : View → List ℕ → Graph → List ℕ → Condition → ℕ → Type 0
HoldsOfClass view assumed g numbers condition.Settled n = Settled view assumed (nodes g) (IsNode g) (OneClass numbers) n
HoldsOfClass view assumed g numbers (condition.NotFree d) n = NotFree view d (nodes g) (IsNode g) (OneClass numbers) n

-- marks of nodes: it holds of each marked node, and each node of the least graph of which it holds is marked
pub record AreStarts (view : View) (assumed : List ℕ) (g : Graph) (k : Condition) (starts : List Bool) : Type 0 where
  pub hold : (n : ℕ) → IsMarked starts n → HoldsOfNode g assumed k n
  pub least : (n : ℕ) → IsBase view n → HoldsAt view assumed k n → IsMarked starts n

-- .. whichever graph is the least one, from which the others grew
abbrev pub AreStartsOver : Graph → List ℕ → List ℕ → Condition → List Bool → Type 0
AreStartsOver g numbers assumed k starts =
    (least : Graph) → IsGraph least → Extends least g → length least.nodes ≤ length numbers → AreStarts (form_at least.nodes) assumed (numbered g numbers) k starts
