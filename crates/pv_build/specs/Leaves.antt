-- What is found for the leaves and tests of a tree; private to this crate.
use Rattle.std.specs.Prelude.{◌≡◌, ℕ, ◌<◌, List, [], ◌∷◌, length, Option, Some, None, option_map, slice_get}
use Rattle.pv_flow.specs.declared.block.Exit as kinds
use Rattle.pv_flow.specs.declared.block.Block.{Block}
use Rattle.pv_loops.specs.declared.forest.Loop.{Loop}
use Rattle.pv_graph.specs.Graphs.{Graph}
use Rattle.pv_decide.specs.declared.tree.Target.{Target}
use Rattle.pv_decide.specs.declared.tree.Target.TheVariants as target
use Rattle.pv_decide.specs.declared.tree.TreeNode.{TreeNode}
use Rattle.pv_terms.specs.declared.names.Named.{Named}
use Rattle.pv_block.specs.declared.ran.Leaving.{Leaving}
use Rattle.pv_block.specs.declared.ran.Ran.{Ran}
use Rattle.pv_build.specs.declared.method.Method.{Method}
use Rattle.pv_build.specs.declared.method.Made.{Made}
use Rattle.pv_build.specs.declared.source.Source.{Source}
use Rattle.pv_build.specs.Giving.{IsLeafFor, IsSourceFor}

-- ---- where the loop is left

-- the header of the loop at a place
abbrev pub header_at : List Loop → Option ℕ → Option ℕ
header_at loops None = None
header_at loops (Some i) = option_map (λ l. l.header) (slice_get loops i)

abbrev pub header_list : Option ℕ → List ℕ
header_list None = []
header_list (Some h) = h ∷ []

-- the block has an exit of this number
abbrev pub HasExitAt : List Block → ℕ → ℕ → Type 0
HasExitAt blocks b e = (k : Block) × (slice_get blocks b ≡ Some k) × (e < length k.exits)

-- .. of this kind
abbrev pub IsExitAt : List Block → ℕ → ℕ → kinds.Exit → Type 0
IsExitAt blocks b e x = (k : Block) × (slice_get blocks b ≡ Some k) × (slice_get k.exits e ≡ Some x)

-- whether the loop is left by an exit, with whatever names
abbrev pub IsLeaveFor : Method → Graph → Option ℕ → ℕ → ℕ → Source → Type 0
IsLeaveFor m g at b e k = (names : List Named) → IsLeafFor m g names at target.Leave b e k

-- ---- what a block left

-- the block is done, and has left an exit of this number
abbrev pub HasLeft : Made → ℕ → ℕ → Type 0
HasLeft made b e = (ran : Ran) × (slice_get made.blocks.items b ≡ Some (Some ran)) × (e < length ran.exits.items)

abbrev pub Left : Made → ℕ → ℕ → Leaving → Type 0
Left made b e x = (ran : Ran) × (slice_get made.blocks.items b ≡ Some (Some ran)) × (slice_get ran.exits.items e ≡ Some x)

-- .. a test of this number
abbrev pub HasTested : Made → ℕ → ℕ → Type 0
HasTested made b t = (ran : Ran) × (slice_get made.blocks.items b ≡ Some (Some ran)) × (t < length ran.tests.items)

abbrev pub Tested : Made → ℕ → ℕ → ℕ → Type 0
Tested made b t n = (ran : Ran) × (slice_get made.blocks.items b ≡ Some (Some ran)) × (slice_get ran.tests.items t ≡ Some n)

-- ---- all nodes of a tree

-- what is given for each node
pub record AreSourcesFor (m : Method) (g : Graph) (names : List Named) (at : Option ℕ) (t : Target) (nodes : List TreeNode) (sources : List Source) : Type 0 where
  pub size : length sources ≡ length nodes
  pub each : (n : ℕ) (y : TreeNode) (k : Source) → slice_get nodes n ≡ Some y → slice_get sources n ≡ Some k → IsSourceFor m g names at t y k
