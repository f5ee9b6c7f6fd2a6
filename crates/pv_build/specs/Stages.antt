-- The graph of a method while it is made; private to this crate.
--
-- The blocks are made in an order in which those of a loop stand together. A loop is open from its header on, whose carried slots
-- are thetas without kids, until its last block is done; then its thetas are tied, and it is closed. The loops that are open at a
-- time are those with headers R, the loops of a region.
use Rattle.std.specs.Prelude.{◌≡◌, ◌⊎◌, ℕ, ◌<◌, ◌≤◌, true, List, length, Option, Some, None, slice_get, ⊤}
use Rattle.std.specs.List.{Contains}
use Rattle.pv_frame.specs.declared.frame.Frame.{Frame}
use Rattle.pv_frame.specs.Frames.{IsFrameAt}
use Rattle.pv_flow.specs.declared.block.Block.{Block}
use Rattle.pv_loops.specs.declared.forest.Loop.{Loop}
use Rattle.pv_loops.specs.Ranks.{around}
use Rattle.pv_graph.specs.declared.node.Op.{Op}
use Rattle.pv_graph.specs.declared.node.Op.TheVariants as op
use Rattle.pv_graph.specs.declared.node.OpSort.{OpSort}
use Rattle.pv_graph.specs.declared.node.OpSort.TheVariants.{I, T}
use Rattle.pv_graph.specs.declared.node.Node.{Node}
use Rattle.pv_graph.specs.Walks.{In}
use Rattle.pv_graph.specs.Graphs.{Graph, IsGraph, IsWellMade}
use Rattle.pv_graph.specs.Calls.{IsOpenTheta}
use Rattle.pv_equations.specs.Exp.{Exp}
use Rattle.pv_equations.specs.Flow.{Flow, Chain}
use Rattle.pv_equations.specs.Equations.{Values, AreEquations, first_kid}
use Rattle.pv_decide.specs.Trees.{AreOf}
use Rattle.pv_decide.specs.declared.tree.Region.{Region}
use Rattle.pv_decide.specs.declared.tree.Region.TheVariants as region
use Rattle.pv_runs.specs.Blocks.{place_chain}
use Rattle.pv_runs.specs.Methods.{flow_of}
use Rattle.pv_terms.specs.declared.names.Named.{Named}
use Rattle.pv_terms.specs.Reads.{named, Reads, AreNames, Within}
use Rattle.pv_terms.specs.Terms.{IsFlat, IsOfSort, GrowsBy}
use Rattle.pv_terms.specs.Laws.{depths, IsUnfinishedName, IsTiedName}
use Rattle.pv_block.specs.declared.ran.Ran.{Ran}
use Rattle.pv_block.specs.Standing.{Entry, IsEntered}
use Rattle.pv_block.specs.Ran.{RanFor, IsSortedRan}
use Rattle.pv_build.specs.declared.slot.Slot.{Slot}
use Rattle.pv_build.specs.declared.method.Method.{Method}
use Rattle.pv_build.specs.declared.method.Theta.{Theta}
use Rattle.pv_build.specs.declared.method.Opened.{Opened}
use Rattle.pv_build.specs.declared.method.Closed.{Closed}
use Rattle.pv_build.specs.declared.method.Stage.{Stage}
use Rattle.pv_build.specs.declared.method.Stage.TheVariants as stage
use Rattle.pv_build.specs.declared.method.Made.{Made}
use Rattle.pv_layout.specs.Routine.{IsRoutine}
use Rattle.pv_layout.specs.Carried.{AreCarried}
use Rattle.pv_layout.specs.Homes.{up}
use Rattle.pv_build.specs.Slots.{number}
use Rattle.pv_build.specs.States.{HasSlot}

-- ---- the method

-- there is a frame at this place
abbrev pub HasFrameAt : List (Option Frame) → ℕ → Type 0
HasFrameAt frames place = (f : Frame) × IsFrameAt frames place f

-- what is kept of the method is right
pub record IsMethod (m : Method) : Type 0 where
  pub routine : IsRoutine m.typed.now.program m.typed.now.frames m.flow.now.blocks m.forest.now
  pub trees : AreOf m.flow.now m.forest.now m.trees
  pub carries : AreCarried m.typed.now.program m.typed.now.frames m.flow.now.blocks m.forest.now m.carried.items

-- its flow
abbrev pub flow_in : Method → Flow
flow_in m = flow_of m.typed.now.program m.typed.now.frames m.flow.now.blocks m.forest.now

-- the region of a loop, or the whole method
abbrev pub region_at : Option ℕ → Region
region_at None = region.Top
region_at (Some i) = region.Loop i

-- the headers of the loops from this one outwards
abbrev pub loops_at : Method → Option ℕ → List ℕ
loops_at m at = up m.forest.now at

-- .. around a block
abbrev pub loops_around : Method → ℕ → List ℕ
loops_around m b = around m.forest.now b

-- the loop has a place in the list, or it is the whole method
abbrev pub IsLoopAt : Method → Option ℕ → Type 0
IsLoopAt m None = ⊤
IsLoopAt m (Some i) = i < length m.forest.now.loops.items

-- whatever solves the equations, the node stands for this
abbrev pub StandsAs : Method → Graph → List Named → ℕ → (Values → Exp) → Type 0
StandsAs m g names n e = (v : Values) → AreEquations (flow_in m) v → Reads g.nodes names n (e v)

-- ---- blocks that are done

-- Block b is done: its tests and the slots at its exits stand for those of its chain, over nodes that stood for its slots when it
-- was begun, with the names that there were
pub record IsDone (m : Method) (g : Graph) (names : List Named) (b : ℕ) (ran : Ran) : Type 0 where
  pub block : Block
  pub there : slice_get m.flow.now.blocks b ≡ Some block
  pub chain : Chain
  pub is : place_chain m.typed.now.program m.typed.now.frames block ≡ Some chain
  pub at : Entry
  pub stands : RanFor at g.nodes ran chain
  pub sorted : IsSortedRan g m.typed.now.program m.typed.now.frames ran
  pub earlier : List Named
  pub within : Within earlier names
  pub entered : (v : Values) → AreEquations (flow_in m) v → IsEntered at (depths (flow_in m)) earlier (v.value b)

abbrev pub HasRun : Made → ℕ → Type 0
HasRun made b = (ran : Ran) × (slice_get made.blocks.items b ≡ Some (Some ran))

-- the first k blocks of the order are done, and no others
pub record AreDone (m : Method) (made : Made) (k : ℕ) : Type 0 where
  pub first : (j b : ℕ) → j < k → slice_get m.forest.now.order.items j ≡ Some b → HasRun made b
  pub only : (b : ℕ) → HasRun made b → (j : ℕ) × (j < k) × (slice_get m.forest.now.order.items j ≡ Some b)

-- ---- loops

-- the operation is of a loop of depth d or deeper, or of no loop: a theta of depth d may stand there, and what takes values out of deeper loops
abbrev pub IsInside : ℕ → Op → Type 0
IsInside d o = (e : ℕ) → (o ≡ op.Theta e → d ≤ e) × (o ≡ op.Eval e → d < e) × (o ≡ op.Pass e → d < e) × (o ≡ op.Shift e → d < e)

-- no node before `base` leads to one from there on; and those are of a loop of depth d or deeper, or of no loop
pub record HasBase (g : Graph) (base d : ℕ) : Type 0 where
  pub low : base ≤ length g.nodes
  pub shut : (n k : ℕ) (x : Node) → slice_get g.nodes n ≡ Some x → n < base → In x.kids k → k < base
  pub inside : (n : ℕ) (x : Node) → slice_get g.nodes n ≡ Some x → base ≤ n → IsInside d x.op

-- the frame of block b knows the sort of the slot, and nodes of it have this sort
abbrev pub HasSlotAt : Method → ℕ → Slot → OpSort → Type 0
HasSlotAt m b s t = (block : Block) × (f : Frame) × (slice_get m.flow.now.blocks b ≡ Some block) × IsFrameAt m.typed.now.frames block.first f × HasSlot f s t

-- a theta of the loop with header h that has no kids yet, and what will be its first kid; both are of the sort of the slot in the
-- header's frame
pub record IsThetaOf (m : Method) (g : Graph) (names : List Named) (h base : ℕ) (x : Theta) : Type 0 where
  pub is : In names (named h (number x.slot) x.node)
  pub first : StandsAs m g names x.first (λ v. first_kid v h (number x.slot))
  pub sort : (t : OpSort) × IsOfSort g x.node t × IsOfSort g x.first t × HasSlotAt m h x.slot t
  pub untied : IsUnfinishedName (flow_in m) g.nodes h x.node
  pub before : x.first < base
  pub after : base ≤ x.node

-- an open loop: its token where it is entered, its base, and its thetas, each once, which are all of its names; there are some
pub record IsOpened (m : Method) (g : Graph) (names : List Named) (h : ℕ) (o : Opened) : Type 0 where
  pub token : IsOfSort g o.token T
  pub enters : StandsAs m g names o.token (λ v. v.entering h 0)
  pub has_base : HasBase g o.base (depths (flow_in m) h)
  pub thetas : (i : ℕ) (x : Theta) → slice_get o.thetas.items i ≡ Some x → IsThetaOf m g names h o.base x
  pub all : (s n : ℕ) → In names (named h s n) → (i : ℕ) × (x : Theta) × (slice_get o.thetas.items i ≡ Some x) × (number x.slot ≡ s) × (x.node ≡ n)
  pub once : (i j : ℕ) (x y : Theta) → slice_get o.thetas.items i ≡ Some x → slice_get o.thetas.items j ≡ Some y → x.node ≡ y.node → i ≡ j
  pub some : (i : ℕ) × (x : Theta) × (slice_get o.thetas.items i ≡ Some x)

-- a closed loop: its depth, its token where it is entered, and whether it is left
pub record IsClosed (m : Method) (g : Graph) (names : List Named) (h : ℕ) (c : Closed) : Type 0 where
  pub depth : c.depth ≡ depths (flow_in m) h
  pub token : IsOfSort g c.token T
  pub enters : StandsAs m g names c.token (λ v. v.entering h 0)
  pub ending_sort : IsOfSort g c.ending I
  pub ends : StandsAs m g names c.ending (λ v. v.ending h)

-- the stage of the loop with header h
abbrev pub IsAt : Method → Graph → Made → List ℕ → ℕ → Stage → Type 0
IsAt m g made R h stage.Ahead = (s n : ℕ) → In made.names (named h s n) → ⊥
IsAt m g made R h (stage.Open o) = In R h × IsOpened m g made.names h o × (made.start ≤ o.base)
IsAt m g made R h (stage.Closed c) = IsClosed m g made.names h c × ((b : ℕ) → b < length m.flow.now.blocks → Contains (around m.forest.now b) h → HasRun made b)

-- ---- all of it

-- What is made so far, where the open loops are those with headers R
pub record IsStage (m : Method) (g : Graph) (made : Made) (R : List ℕ) : Type 0 where
  pub well : IsWellMade g
  pub open_ : g.is_open ≡ true
  pub low : made.start ≤ length g.nodes
  -- thetas without kids are those of open loops, but for those from before the method
  pub left : (n : ℕ) → IsOpenTheta g n → (n < made.start) ⊎ ((h : ℕ) × (s : ℕ) × In made.names (named h s n) × In R h)
  pub names : AreNames (depths (flow_in m)) g.nodes made.names
  pub later : (h s n : ℕ) → In made.names (named h s n) → made.start ≤ n
  -- each name has its kids, or no kids and is one of an open loop
  pub each_name : (h s n : ℕ) → In made.names (named h s n)
      → (In R h × IsUnfinishedName (flow_in m) g.nodes h n) ⊎ ((v : Values) → AreEquations (flow_in m) v → IsTiedName (flow_in m) v g.nodes made.names h s n)
  pub blocks_size : length made.blocks.items ≡ length m.flow.now.blocks
  pub blocks : (b : ℕ) (ran : Ran) → slice_get made.blocks.items b ≡ Some (Some ran) → IsDone m g made.names b ran
  pub loops_size : length made.loops.items ≡ length m.forest.now.loops.items
  pub loops : (i : ℕ) (l : Loop) (st : Stage) → slice_get m.forest.now.loops.items i ≡ Some l → slice_get made.loops.items i ≡ Some st → IsAt m g made R l.header st
  pub opens : (i : ℕ) (l : Loop) → slice_get m.forest.now.loops.items i ≡ Some l → In R l.header → (o : Opened) × (slice_get made.loops.items i ≡ Some (stage.Open o))
  -- the loops around a block that is done are open or closed
  pub passed : (b i : ℕ) (l : Loop) → HasRun made b → slice_get m.forest.now.loops.items i ≡ Some l → Contains (around m.forest.now b) l.header
      → In R l.header ⊎ ((c : Closed) × (slice_get made.loops.items i ≡ Some (stage.Closed c)))

-- ---- steps

-- the operation is of no loop, or takes a value out of a loop deeper than d
abbrev pub IsBeyond : ℕ → Op → Type 0
IsBeyond d o = IsFlat o ⊎ ((e : ℕ) × (d < e) × ((o ≡ op.Eval e) ⊎ (o ≡ op.Pass e)))

-- nodes of such operations were added, where d is the depth of the region
abbrev pub GrowsIn : ℕ → Graph → Graph → Type 0
GrowsIn d old new = GrowsBy (IsBeyond d) old new

-- the nodes from before the method are as they were, and all nodes keep their sorts
pub record KeepsFirst (start : ℕ) (old new : Graph) : Type 0 where
  pub graph : IsGraph new
  pub nodes : (n : ℕ) (x : Node) → n < start → slice_get old.nodes n ≡ Some x → slice_get new.nodes n ≡ Some x
  pub sorts : (n : ℕ) (s : OpSort) → slice_get old.sorts n ≡ Some s → slice_get new.sorts n ≡ Some s
