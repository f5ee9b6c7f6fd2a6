-- What walks need of a flow and its forest, and the trees that they make.
use Rattle.std.specs.Prelude.{◌≡◌, ℕ, ◌-◌, ◌<◌, ◌^◌, List, length, map, Some, slice_get, slice_index, ⊤}
use Rattle.std.specs.List.{All}
use Rattle.pv_flow.specs.declared.block.Block.{Block}
use Rattle.pv_flow.specs.declared.block.Flow as code
use Rattle.pv_flow.specs.Edges.{edges_of}
use Rattle.pv_loops.specs.declared.forest.Forest.{Forest}
use Rattle.pv_loops.specs.Shapes.{IsShape}
use Rattle.pv_loops.specs.Forests.{IsForest}
use Rattle.pv_loops.specs.Ranks.{around, IsOrdered, Heads}
use Rattle.pv_equations.specs.Flow.{Flow, Shape}
use Rattle.pv_equations.specs.Equations.{Values, tree_of}
use Rattle.pv_decide.specs.declared.aim.Scope.{Scope}
use Rattle.pv_decide.specs.declared.aim.Scope.TheVariants as scope
use Rattle.pv_decide.specs.declared.site.Site.{Site}
use Rattle.pv_decide.specs.declared.tree.Region.{Region}
use Rattle.pv_decide.specs.declared.tree.Region.TheVariants.{Top, Loop}
use Rattle.pv_decide.specs.declared.tree.Target.{Target}
use Rattle.pv_decide.specs.declared.tree.Tree.{Tree}
use Rattle.pv_decide.specs.declared.trees.Trees.{Trees}
use Rattle.pv_decide.specs.Sites.{GoTo, AreInRange, AreOrdered, loops_of}
use Rattle.pv_decide.specs.Folds.{AreSound}
use Rattle.pv_decide.specs.Walks.{target_of, IsAimed, HasTrees, Gives}
use Rattle.pv_decide.specs.Reaching.{AreEnds}

-- the forest and the order of the blocks are those of the flow's edges, each edge goes to a block, and each block has an exit
pub record AreForWalks (flow : code.Flow) (forest : Forest) : Type 0 where
  pub shape : IsShape (edges_of flow.blocks)
  pub loops : IsForest (edges_of flow.blocks) forest
  pub ordered : IsOrdered (edges_of flow.blocks) forest
  pub few : length flow.blocks < 2 ^ 32
  pub exits : All (λ (b : Block). 0 < length b.exits) flow.blocks

-- a block as walks see it
pub record IsSite (k : Block) (forest : Forest) (b : ℕ) (site : Site) : Type 0 where
  pub exits : site.exits.items ≡ k.exits
  pub few : length site.exits.items < 2 ^ 32
  pub around : site.around.items ≡ around forest b

-- the blocks as walks see them
pub record AreSites (flow : code.Flow) (forest : Forest) (sites : List Site) : Type 0 where
  pub size : length sites ≡ length flow.blocks
  pub each : (b : ℕ) (k : Block) (site : Site) → slice_get flow.blocks b ≡ Some k → slice_get sites b ≡ Some site → IsSite k forest b site

-- what is kept fits together
pub record AreReady (t : Trees) : Type 0 where
  pub range : AreInRange t.sites.items
  pub ordered : AreOrdered t.sites.items t.order.items
  pub headers : (i h : ℕ) → slice_get t.headers.items i ≡ Some h → h < length t.sites.items
  pub size : length t.ends.items ≡ length t.sites.items
  pub ends : AreEnds t.sites.items t.ends.items

-- what is kept is that of this flow and this forest: its blocks, the order, and the headers of the loops
pub record AreOf (flow : code.Flow) (forest : Forest) (t : Trees) : Type 0 where
  pub sites : AreSites flow forest t.sites.items
  pub follows : t.order.items ≡ forest.order.items
  pub headers : t.headers.items ≡ map (λ l. l.header) forest.loops.items
  pub ready : AreReady t

-- the region is the whole method or one of the loops
abbrev pub IsRegion : Trees → Region → Type 0
IsRegion t Top = ⊤
IsRegion t (Loop i) = i < length t.headers.items

-- the region, by the header of its loop, where these are the headers of the loops
abbrev pub scope_by : List ℕ → Region → Scope
scope_by headers Top = scope.Whole
scope_by headers (Loop i) = scope.Loop (slice_index headers i)

-- .. those that are kept
abbrev pub scope_of : Trees → Region → Scope
scope_of t r = scope_by t.headers.items r

-- .. those of a forest
abbrev pub scope_in : Forest → Region → Scope
scope_in forest r = scope_by (map (λ l. l.header) forest.loops.items) r

-- the flow of equations is one over these blocks and loops
pub record IsOver (f : Flow) (rank : ℕ → ℕ) (flow : code.Flow) (forest : Forest) : Type 0 where
  pub shape : Shape f rank
  pub entry : f.entry ≡ 0
  pub around : (b : ℕ) → b < length flow.blocks → f.around b ≡ around forest b
  pub chains : (b : ℕ) (k : Block) → slice_get flow.blocks b ≡ Some k → GoTo (f.chain b) k.exits

-- the header of the region's loop heads it, and the target is one of the region
pub record IsAsked (f : Flow) (r : Scope) (t : Target) : Type 0 where
  pub heads : (h : ℕ) → r ≡ scope.Loop h → Heads (f.around h) h
  pub aimed : IsAimed f (loops_of f r) (target_of t)

-- For each flow of equations over the blocks and loops, and all values that have the trees of the equations for this region, target and slot:
-- folded with what the values give at exits and tests, the tree gives theirs
abbrev pub IsTreeOf : Trees → Region → Target → Tree → Type 0
IsTreeOf trees r t tree = (flow : code.Flow) (forest : Forest) → AreOf flow forest trees → (f : Flow) (rank : ℕ → ℕ) → IsOver f rank flow forest → IsAsked f (scope_in forest r) t
    → (v : Values) (s : ℕ) → HasTrees f v (loops_of f (scope_in forest r)) (target_of t) s
    → Gives f v (scope_in forest r) t s tree.nodes.items (length tree.nodes.items - 1) (tree_of f v (loops_of f (scope_in forest r)) (target_of t) s)

-- There is a root. Leaves are exits that are looked for, and leaves and tests are of the region's blocks, before the target where that is a block; each node names earlier ones alone
pub record IsSound (trees : Trees) (r : Region) (t : Target) (tree : Tree) : Type 0 where
  pub root : 0 < length tree.nodes.items
  pub nodes : AreSound trees.sites.items (scope_of trees r) t tree.nodes.items
