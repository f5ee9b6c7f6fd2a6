-- The axioms of a table by the operations with which their left sides begin, and the nodes that have these operations.
use Rattle.std.specs.Prelude.{◌≡◌, ℕ, Bool, List, Some, slice_get}
use Rattle.pv_graph.specs.declared.node.Node.{Node}
use Rattle.pv_graph.specs.Walks.{In}
use Rattle.pv_pattern.specs.Patterns.{Head, over, Patterns, Axiom}
use Rattle.pv_pattern.specs.Numbers.{op_number}
use Rattle.pv_match.specs.declared.members.Group.{Group}
use Rattle.pv_match.specs.Bindings.{head_number, with_number}
use Rattle.pv_match.specs.Kept.{IsKept}

-- each axiom whose left side is an operation is found under the number of its head, by its place in the table
abbrev pub AreRules : List Axiom → List Group → Type 0
AreRules table rules = (i : ℕ) (a : Axiom) (h : Head) (ps : Patterns) → slice_get table i ≡ Some a → a.left ≡ over h ps → In (with_number rules (head_number h)) i

-- an axiom is put under the number of its head, and others stay
pub record AddsRule (a : Axiom) (i : ℕ) (old new : List Group) : Type 0 where
  pub kept : (k j : ℕ) → In (with_number old k) j → In (with_number new k) j
  pub has : (h : Head) (ps : Patterns) → a.left ≡ over h ps → In (with_number new (head_number h)) i

-- each node that is kept is listed whose operation has this number, if there is a rule under it
abbrev pub HasItems : List Node → List Bool → List Group → ℕ → List ℕ → Type 0
HasItems nodes kept rules number items = (n i : ℕ) (node : Node) → slice_get nodes n ≡ Some node → IsKept kept n → op_number node.op ≡ number → In (with_number rules number) i → In items n

-- each node that is kept is listed whose operation has the number of some rule
abbrev pub AreItems : List Node → List Bool → List Group → List ℕ → Type 0
AreItems nodes kept rules items = (n i : ℕ) (node : Node) → slice_get nodes n ≡ Some node → IsKept kept n → In (with_number rules (op_number node.op)) i → In items n
