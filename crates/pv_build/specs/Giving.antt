-- What is given for the tree of a region and a target; private to this crate.
use Rattle.std.specs.Prelude.{◌≡◌, ℕ, ◌-◌, ◌<◌, List, length, Option, Some, slice_get, ⊤}
use Rattle.std.specs.List.{AllZip}
use Rattle.pv_flow.specs.declared.block.Exit as kinds
use Rattle.pv_graph.specs.declared.node.OpSort.TheVariants.{I}
use Rattle.pv_graph.specs.Graphs.{Graph}
use Rattle.pv_equations.specs.Exp.{Exp}
use Rattle.pv_equations.specs.Equations.{Values, AreEquations, tree_of, Leaving}
use Rattle.pv_decide.specs.declared.tree.Target.{Target}
use Rattle.pv_decide.specs.declared.tree.Target.TheVariants as target
use Rattle.pv_decide.specs.declared.tree.TreeNode.{TreeNode}
use Rattle.pv_decide.specs.declared.tree.TreeNode.TheVariants as node
use Rattle.pv_decide.specs.declared.aim.Scope.{Scope}
use Rattle.pv_decide.specs.Sites.{dest_of, Inside}
use Rattle.pv_decide.specs.Folds.{AimsAt, IsEarly}
use Rattle.pv_decide.specs.Walks as walks
use Rattle.pv_decide.specs.Walks.{target_of, inner, leaves_of, tests_of}
use Rattle.pv_decide.specs.Trees.{scope_in, IsAsked}
use Rattle.pv_runs.specs.Blocks.{numbered_dest}
use Rattle.pv_terms.specs.declared.names.Named.{Named}
use Rattle.pv_terms.specs.Reads.{Reads}
use Rattle.pv_terms.specs.Terms.{IsOfSort}
use Rattle.pv_block.specs.declared.ran.Leaving as exits
use Rattle.pv_block.specs.Ran.{slot_at, dest_at, IsSortedExit}
use Rattle.pv_build.specs.declared.method.Method.{Method}
use Rattle.pv_build.specs.declared.method.Made.{Made}
use Rattle.pv_build.specs.declared.method.Closed.{Closed}
use Rattle.pv_build.specs.declared.source.Source.{Source}
use Rattle.pv_build.specs.declared.source.Source.TheVariants as source
use Rattle.pv_build.specs.declared.source.Given.{Given}
use Rattle.pv_build.specs.Sources.{IsTree}
use Rattle.pv_build.specs.Stages.{flow_in, region_at, loops_at, loops_around, IsLoopAt, IsMethod, IsStage, StandsAs, HasRun, IsClosed}

-- ---- what is asked

-- the region of a loop or of the whole method
abbrev pub scope_at : Method → Option ℕ → Scope
scope_at m at = scope_in m.forest.now (region_at at)

-- what is made of the method stands where the open loops are those of the region
pub record IsWalk (m : Method) (g : Graph) (made : Made) (at : Option ℕ) : Type 0 where
  pub method : IsMethod m
  pub stage : IsStage m g made (loops_at m at)
  pub region : IsLoopAt m at

-- the blocks of the region that come before the target in every order are done
abbrev pub AreReadyFor : Method → Made → Option ℕ → Target → Type 0
AreReadyFor m made at t = (b : ℕ) → b < length m.trees.sites.items → Inside m.trees.sites.items (scope_at m at) b → IsEarly m.trees.sites.items t b → HasRun made b

-- the target is one of the region
abbrev pub IsTargetIn : Method → Option ℕ → Target → Type 0
IsTargetIn m at t = IsAsked (flow_in m) (scope_at m at) t

-- ---- loops that are left

-- the closed loops between a block and the region
abbrev pub AreClosedFrom : Method → Graph → Made → Option ℕ → ℕ → List Closed → Type 0
AreClosedFrom m g made at b left = AllZip (λ (h : ℕ) (c : Closed). IsClosed m g made.names h c) (inner (loops_at m at) (loops_around m b)) left

-- ---- what is given

-- an int for an expression of the equations
abbrev pub IsIntFor : Method → Graph → List Named → Source → (Values → Exp) → Type 0
IsIntFor m g names k e = (n : ℕ) × (k ≡ source.Value n) × IsOfSort g n I × StandsAs m g names n e

-- what holds at the exit e of the block b, as it is outside the loops inside the region
pub record IsExitFor (m : Method) (g : Graph) (names : List Named) (at : Option ℕ) (t : Target) (b e : ℕ) (k : Source) : Type 0 where
  pub exit : exits.Leaving
  pub is : k ≡ source.Exit exit
  pub of : kinds.Exit
  pub aims : AimsAt (scope_at m at) t of
  pub leads : numbered_dest m.flow.now.blocks (dest_at exit) ≡ dest_of of
  pub sorted : IsSortedExit g m.typed.now.program m.typed.now.frames exit
  pub reads : (v : Values) → AreEquations (flow_in m) v → (s n : ℕ) → slot_at exit s ≡ Some n → Reads g.nodes names n (leaves_of (flow_in m) v (loops_at m at) (target_of t) s b e)

-- for a leaf: whether the loop is left, where that is asked, and else the exit
abbrev pub IsLeafFor : Method → Graph → List Named → Option ℕ → Target → ℕ → ℕ → Source → Type 0
IsLeafFor m g names at target.Leave b e k = IsIntFor m g names k (λ v. leaves_of (flow_in m) v (loops_at m at) Leaving 0 b e)
IsLeafFor m g names at t b e k = IsExitFor m g names at t b e k

abbrev pub IsSourceFor : Method → Graph → List Named → Option ℕ → Target → TreeNode → Source → Type 0
IsSourceFor m g names at t (node.Leaf b e) k = IsLeafFor m g names at t b e k
IsSourceFor m g names at t (node.Test b e y z) k = IsIntFor m g names k (λ v. tests_of (flow_in m) v (loops_at m at) b e)
IsSourceFor m g names at t node.Nothing k = ⊤
IsSourceFor m g names at t node.Dead k = ⊤

-- the tree of the region for the target, with what is given for its nodes
pub record IsGivenFor (m : Method) (g : Graph) (names : List Named) (at : Option ℕ) (t : Target) (x : Given) : Type 0 where
  pub tree : IsTree x.nodes.items
  pub size : length x.sources.items ≡ length x.nodes.items
  pub each : (n : ℕ) (y : TreeNode) (k : Source) → slice_get x.nodes.items n ≡ Some y → slice_get x.sources.items n ≡ Some k → IsSourceFor m g names at t y k
  pub folds : (v : Values) → AreEquations (flow_in m) v → (s : ℕ) → walks.Gives (flow_in m) v (scope_at m at) t s x.nodes.items (length x.nodes.items - 1) (tree_of (flow_in m) v (loops_at m at) (target_of t) s)
