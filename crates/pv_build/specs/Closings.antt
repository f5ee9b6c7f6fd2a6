-- How the thetas of a loop are tied; private to this crate.
use Rattle.std.specs.Prelude.{◌≡◌, ◌≢◌, ◌⊎◌, ℕ, ◌<◌, ◌≤◌, true, List, [], ◌∷◌, length, Option, Some, None, slice_get}
use Rattle.std.specs.List.{Contains}
use Rattle.pv_loops.specs.declared.forest.Loop.{Loop}
use Rattle.pv_graph.specs.declared.node.Op.TheVariants as op
use Rattle.pv_graph.specs.declared.node.OpSort.{OpSort}
use Rattle.pv_graph.specs.declared.node.OpSort.TheVariants.{T}
use Rattle.pv_graph.specs.declared.node.Node.{Node}
use Rattle.pv_graph.specs.Nodes.{node_of}
use Rattle.pv_graph.specs.Graphs.{Graph, IsWellMade}
use Rattle.pv_graph.specs.Calls.{IsOpenTheta, Tied}
use Rattle.pv_equations.specs.Equations.{Values, AreEquations, never_exp}
use Rattle.pv_decide.specs.declared.tree.Target.TheVariants as target
use Rattle.pv_terms.specs.declared.names.Named.{Named}
use Rattle.pv_terms.specs.Reads.{Reads, AreNames, Stand}
use Rattle.pv_terms.specs.Terms.{IsFlat, Grows, IsOfSort}
use Rattle.pv_terms.specs.Laws.{depths, IsTiedName}
use Rattle.pv_build.specs.declared.slot.Slot.{Slot}
use Rattle.pv_build.specs.declared.slot.Slot.TheVariants as slot
use Rattle.pv_build.specs.declared.source.Given.{Given}
use Rattle.pv_build.specs.declared.method.Method.{Method}
use Rattle.pv_build.specs.declared.method.Theta.{Theta}
use Rattle.pv_build.specs.declared.method.Opened.{Opened}
use Rattle.pv_build.specs.declared.method.Stage.TheVariants as stage
use Rattle.pv_build.specs.declared.method.Made.{Made}
use Rattle.pv_build.specs.Slots.{number}
use Rattle.pv_build.specs.Sources.{Gives, IsReadFold}
use Rattle.pv_build.specs.Giving.{IsGivenFor}
use Rattle.pv_build.specs.Stages.{IsMethod, flow_in, loops_at, loops_around, HasRun, HasBase, IsThetaOf, GrowsIn}

-- ---- one theta

-- what a tree gives for a slot from where no end is ahead: `never` for the token
abbrev pub dead_at : Slot → ℕ → Option ℕ
dead_at slot.Token never = Some never
dead_at s never = None

-- a theta without kids; its first kid, and what is given for its slot, are of its sort
pub record MayTie (g : Graph) (again : Given) (never : ℕ) (x : Theta) : Type 0 where
  pub open_ : IsOpenTheta g x.node
  pub sort_ : OpSort
  pub node : IsOfSort g x.node sort_
  pub first : IsOfSort g x.first sort_
  pub gives : Gives g again (number x.slot) (dead_at x.slot never) sort_

-- the theta has as its kids its first kid, and what the tree gives for its slot; nodes without a depth were added for that
pub record TiesOne (old : Graph) (again : Given) (never : ℕ) (x : Theta) (new : Graph) : Type 0 where
  pub mid : Graph
  pub second : ℕ
  pub grows : Grows old mid
  pub reads : IsReadFold old again (number x.slot) (dead_at x.slot never) mid second
  pub tied : Tied mid new x.node x.first second

-- ---- all of them

-- a loop that is closed: its method, the names so far, its place and its header, and its base
pub record Closing : Type 0 where
  pub method : Method
  pub names : List Named
  pub place : ℕ
  pub header : ℕ
  pub base : ℕ

abbrev pub depth_of : Closing → ℕ
depth_of c = depths (flow_in c.method) c.header

-- the thetas of the loop may be tied, where `again` is what is given for the slots where it begins again
pub record MayTieAll (c : Closing) (g : Graph) (again : Given) (never : ℕ) (thetas : List Theta) : Type 0 where
  pub is : IsMethod c.method
  pub loop_ : Loop
  pub there : slice_get c.method.forest.now.loops.items c.place ≡ Some loop_
  pub header : loop_.header ≡ c.header
  pub well : IsWellMade g
  pub open_ : g.is_open ≡ true
  pub names : AreNames (depths (flow_in c.method)) g.nodes c.names
  pub gives : IsGivenFor c.method g c.names (Some c.place) target.Back again
  pub never_reads : Reads g.nodes c.names never never_exp
  pub never_sort : IsOfSort g never T
  pub has_base : HasBase g c.base (depth_of c)
  pub each : (i : ℕ) (x : Theta) → slice_get thetas i ≡ Some x → IsThetaOf c.method g c.names c.header c.base x
  pub once : (i j : ℕ) (x y : Theta) → slice_get thetas i ≡ Some x → slice_get thetas j ≡ Some y → x.node ≡ y.node → i ≡ j

-- a theta of the loop that has its kids
abbrev pub IsTiedTheta : Closing → Node → Type 0
IsTiedTheta c x = (first : ℕ) × (second : ℕ) × (x ≡ node_of (op.Theta (depth_of c)) (first ∷ second ∷ []))

-- the first k thetas have the kids that the equations give them; all other nodes are as they were, and nodes without a depth were added
pub record AreTied (c : Closing) (old : Graph) (thetas : List Theta) (k : ℕ) (new : Graph) : Type 0 where
  pub well : IsWellMade new
  pub open_ : new.is_open ≡ old.is_open
  pub stand : Stand old.nodes new.nodes
  pub sorts : (n : ℕ) (t : OpSort) → slice_get old.sorts n ≡ Some t → slice_get new.sorts n ≡ Some t
  pub long : length old.nodes ≤ length new.nodes
  pub same : (n : ℕ) (x : Node) → slice_get old.nodes n ≡ Some x → ((j : ℕ) (y : Theta) → j < k → slice_get thetas j ≡ Some y → y.node ≢ n) → slice_get new.nodes n ≡ Some x
  pub each : (n : ℕ) (x : Node) → slice_get new.nodes n ≡ Some x → (slice_get old.nodes n ≡ Some x) ⊎ (IsFlat x.op ⊎ IsTiedTheta c x)
  pub tied : (j : ℕ) (y : Theta) → j < k → slice_get thetas j ≡ Some y → (v : Values) → AreEquations (flow_in c.method) v → IsTiedName (flow_in c.method) v new.nodes c.names c.header (number y.slot) y.node

-- ---- a loop

-- all blocks of the loop at this place have run
abbrev pub AllHaveRun : Method → Made → ℕ → Type 0
AllHaveRun m made i = (l : Loop) (b : ℕ) → slice_get m.forest.now.loops.items i ≡ Some l → b < length m.flow.now.blocks → Contains (loops_around m b) l.header → HasRun made b

abbrev pub IsOpenAt : Made → ℕ → Opened → Type 0
IsOpenAt made i o = slice_get made.loops.items i ≡ Some (stage.Open o)

-- the closing of the loop at a place of the forest, by its opening
abbrev pub closing_of : Method → Made → ℕ → Loop → Opened → Closing
closing_of m made i l o = record { method = m; names = made.names; place = i; header = l.header; base = o.base }

-- the thetas of the open loop at this place are tied, and it was entered with this token
pub record TiesLoop (m : Method) (old : Graph) (made : Made) (i : ℕ) (new : Graph) (token : ℕ) : Type 0 where
  pub loop_ : Loop
  pub there : slice_get m.forest.now.loops.items i ≡ Some loop_
  pub opened : Opened
  pub at : IsOpenAt made i opened
  pub token_is : opened.token ≡ token
  pub mid : Graph
  pub grows : GrowsIn (length (loops_at m (Some i))) old mid
  pub may : (again : Given) × (never : ℕ) × MayTieAll (closing_of m made i loop_ opened) mid again never opened.thetas.items
  pub tied : AreTied (closing_of m made i loop_ opened) mid opened.thetas.items (length opened.thetas.items) new
