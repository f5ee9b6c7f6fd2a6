-- Graphs: nodes with their sorts, a base in which cycles may stand, and thetas that are not tied yet.
use Rattle.std.specs.Prelude.{◌≡◌, ◌≢◌, ◌⊎◌, ℕ, ◌<◌, ◌≤◌, Bool, true, false, List, [], length, Option, Some, slice_get, FitsSigned}
use Rattle.std.specs.Int.{w32, w64}
use Rattle.pv_value.specs.Spelled.{bind}
use Rattle.pv_graph.specs.declared.node.Op.{Op}
use Rattle.pv_graph.specs.declared.node.Op.TheVariants as op
use Rattle.pv_graph.specs.declared.node.OpSort.{OpSort}
use Rattle.pv_graph.specs.declared.node.OpSort.TheVariants.{R}
use Rattle.pv_graph.specs.declared.node.Node.{Node}
use Rattle.pv_graph.specs.Ops.{is_depth, is_variable, HasSort}
use Rattle.pv_graph.specs.Forms.{Form, form}
use Rattle.pv_graph.specs.Walks.{In, KeepsRule}

-- a theta that is not tied yet has no kids, and its stated sort
pub record Graph : Type 0 where
  pub nodes : List Node
  pub sorts : List OpSort
  pub is_open : Bool
  pub base : ℕ
  pub is_prepared : Bool

abbrev pub form_of : Node → Form ℕ
form_of node = form node.op node.kids

-- the operation and kids of a node, by its number
abbrev pub form_at : List Node → ℕ → Option (Form ℕ)
form_at nodes n = bind (slice_get nodes n) (λ node. Some (form_of node))

-- a theta of this sort that is not tied
pub record IsUnfinished (node : Node) (s : OpSort) : Type 0 where
  pub depth : ℕ
  pub theta_ : node.op ≡ op.Theta depth
  pub loop : is_depth depth ≡ true
  pub kids : node.kids ≡ []
  pub sort_ : s ≢ R

-- a constant in the range of its sort
abbrev pub IsRanged : Op → Type 0
IsRanged (op.Int c) = FitsSigned w32 c
IsRanged (op.Long c) = FitsSigned w64 c
IsRanged o = Unit {0}

-- what every graph is: sorts fit, only an open graph has thetas that are not tied, nodes of the base
-- have their kids in the base, and each later node has smaller kids and is no variable
pub record IsGraph (g : Graph) : Type 0 where
  pub long : length g.sorts ≡ length g.nodes
  pub base : g.base ≤ length g.nodes
  pub open_ : g.is_open ≡ true → g.base ≡ length g.nodes
  pub sorted : (n : ℕ) (node : Node) (s : OpSort) → slice_get g.nodes n ≡ Some node → slice_get g.sorts n ≡ Some s
      → HasSort g.sorts node.op node.kids s ⊎ ((g.is_open ≡ true) × IsUnfinished node s)
  pub early : (n k : ℕ) (node : Node) → slice_get g.nodes n ≡ Some node → n < g.base → In node.kids k → k < g.base
  pub late : (n k : ℕ) (node : Node) → slice_get g.nodes n ≡ Some node → g.base ≤ n → In node.kids k → k < n
  pub ranged : (n : ℕ) (node : Node) → slice_get g.nodes n ≡ Some node → IsRanged node.op
  pub variables : (n : ℕ) (node : Node) → slice_get g.nodes n ≡ Some node → g.base ≤ n → is_variable node.op ≡ false

-- .. whose cycles keep the rule
pub record IsWellMade (g : Graph) : Type 0 where
  pub graph : IsGraph g
  pub rule : KeepsRule (form_at g.nodes)

-- old nodes stay, with their sorts
pub record Extends (old new : Graph) : Type 0 where
  pub nodes : (n : ℕ) (node : Node) → slice_get old.nodes n ≡ Some node → slice_get new.nodes n ≡ Some node
  pub sorts : (n : ℕ) (s : OpSort) → slice_get old.sorts n ≡ Some s → slice_get new.sorts n ≡ Some s
