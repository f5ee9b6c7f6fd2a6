-- The thetas of a loop while it is opened, slot by slot; private to this crate.
use Rattle.std.specs.Prelude.{◌≡◌, ◌≢◌, ◌⊎◌, ℕ, ◌<◌, ◌≤◌, Bool, true, false, List, [], length, get_or, if◌then◌else◌, Option, Some, None, slice_get, unwrap_or, IsTrue}
use Rattle.pv_graph.specs.declared.node.Op.TheVariants as op
use Rattle.pv_graph.specs.declared.node.OpSort.{OpSort}
use Rattle.pv_graph.specs.declared.node.OpSort.TheVariants.{R}
use Rattle.pv_graph.specs.declared.node.Node.{Node}
use Rattle.pv_graph.specs.Nodes.{node_of}
use Rattle.pv_graph.specs.Ops.{is_depth}
use Rattle.pv_graph.specs.Walks.{In}
use Rattle.pv_graph.specs.Graphs.{Graph, IsGraph, IsWellMade, Extends}
use Rattle.pv_graph.specs.Calls.{IsOpenTheta}
use Rattle.pv_terms.specs.declared.names.Named.{Named}
use Rattle.pv_terms.specs.Reads.{named, Within}
use Rattle.pv_terms.specs.Terms.{IsOfSort, IsUnnamed, StayNames}
use Rattle.pv_runs.specs.Held.{slots, by_turns}
use Rattle.pv_block.specs.declared.held.Cell.{Cell}
use Rattle.pv_block.specs.declared.ran.State.{State}
use Rattle.pv_block.specs.Ran.{slot_of}
use Rattle.pv_build.specs.declared.method.Theta.{Theta}
use Rattle.pv_build.specs.declared.opening.Head.{Head}
use Rattle.pv_layout.specs.declared.carrying.Writes.{Writes}
use Rattle.pv_build.specs.declared.slot.Part.{Part}
use Rattle.pv_build.specs.declared.slot.Part.TheVariants as part
use Rattle.pv_build.specs.Slots.{number, number_in}

-- ---- first kids

-- the number is above those of all slots whose nodes are known
abbrev pub IsAboveSlots : State → ℕ → Type 0
IsAboveSlots c limit = (s n : ℕ) → slot_of c s ≡ Some n → s < limit

-- whether the loop carries the slot of this number, whose node is known where the loop is entered
abbrev pub carried_at : Writes → ℕ → Bool
carried_at w = slots true true true w.heap (by_turns (λ k. get_or w.locals.items k false) (λ j. true))

-- the first kid of the slot's theta: its node where the loop is entered, if the loop carries it and the node is known
abbrev pub first_at : Writes → State → ℕ → Option ℕ
first_at w c s = if carried_at w s then slot_of c s else None

-- .. of each slot whose node is known
pub record AreFirstKids (w : Writes) (c : State) (kids : List (Option ℕ)) : Type 0 where
  pub above : IsAboveSlots c (length kids)
  pub each : (s : ℕ) (kid : Option ℕ) → slice_get kids s ≡ Some kid → kid ≡ first_at w c s

-- ---- thetas

-- thetas may be begun: the first kids have sorts, and no slot of the header has a name
pub record CanBegin (head : Head) (kids : List (Option ℕ)) (g : Graph) (names : List Named) : Type 0 where
  pub graph : IsGraph g
  pub open_ : g.is_open ≡ true
  pub depth : IsTrue (is_depth head.depth)
  pub sorted : (s n : ℕ) → slice_get kids s ≡ Some (Some n) → (t : OpSort) × IsOfSort g n t × (t ≢ R)
  pub fresh : (s : ℕ) → IsUnnamed names head.header s

-- a theta without kids that was begun when there were `base` nodes, and its first kid
pub record IsBegun (head : Head) (kids : List (Option ℕ)) (base : ℕ) (g : Graph) (names : List Named) (x : Theta) : Type 0 where
  pub meant : slice_get kids (number x.slot) ≡ Some (Some x.first)
  pub is : In names (named head.header (number x.slot) x.node)
  pub unfinished : slice_get g.nodes x.node ≡ Some (node_of (op.Theta head.depth) [])
  pub sort : (t : OpSort) × IsOfSort g x.node t × IsOfSort g x.first t
  pub after : base ≤ x.node

-- thetas were begun, each once, with their names, and nothing else: all old nodes and names stay
pub record Begins (head : Head) (kids : List (Option ℕ)) (old : Graph) (names : List Named) (new : Graph) (more : List Named) (thetas : List Theta) : Type 0 where
  pub graph : IsGraph new
  pub made : IsWellMade old → IsWellMade new
  pub extends : Extends old new
  pub open_ : new.is_open ≡ old.is_open
  pub left : (n : ℕ) → IsOpenTheta new n → IsOpenTheta old n ⊎ ((s : ℕ) × In more (named head.header s n))
  pub added : (n : ℕ) (x : Node) → slice_get new.nodes n ≡ Some x → (slice_get old.nodes n ≡ Some x) ⊎ (x.op ≡ op.Theta head.depth)
  pub stay : StayNames old names head.header head.depth new more
  pub within : Within names more
  pub each : (i : ℕ) (x : Theta) → slice_get thetas i ≡ Some x → IsBegun head kids (length old.nodes) new more x
  pub once : (i j : ℕ) (x y : Theta) → slice_get thetas i ≡ Some x → slice_get thetas j ≡ Some y → x.node ≡ y.node → i ≡ j

-- the theta of the slot of this number is listed
abbrev pub HasTheta : List Theta → ℕ → ℕ → Type 0
HasTheta thetas s n = (i : ℕ) × (x : Theta) × (slice_get thetas i ≡ Some x) × (number x.slot ≡ s) × (x.node ≡ n)

-- the thetas of the first slots by the numbers of the slots; the header has no other names
pub record AreNodes (head : Head) (kids : List (Option ℕ)) (names more : List Named) (thetas : List Theta) (nodes : List (Option ℕ)) : Type 0 where
  pub some : (s n : ℕ) → slice_get nodes s ≡ Some (Some n) → HasTheta thetas s n
  pub none : (s : ℕ) → slice_get nodes s ≡ Some None → slice_get kids s ≡ Some None
  pub only : (h s n : ℕ) → In more (named h s n) → In names (named h s n) ⊎ ((h ≡ head.header) × (slice_get nodes s ≡ Some (Some n)))

-- a theta was begun for each first kid
pub record AreBegun (head : Head) (kids : List (Option ℕ)) (old : Graph) (names : List Named) (new : Graph) (more : List Named) (thetas : List Theta) (nodes : List (Option ℕ)) : Type 0 where
  pub begins : Begins head kids old names new more thetas
  pub nodes_are : AreNodes head kids names more thetas nodes
  pub size : length nodes ≡ length kids

-- ---- what is held at the header

-- the theta of the slot of this number, or else its own node
abbrev pub node_or : List (Option ℕ) → ℕ → ℕ → ℕ
node_or nodes s own = unwrap_or (get_or nodes s None) own

-- a cell at the header: the one with which the loop is entered, with the theta of its slot
abbrev pub IsHeaderCell : List (Option ℕ) → Part → List Cell → ℕ → Cell → Type 0
IsHeaderCell nodes which cells i d = (c : Cell) × (slice_get cells i ≡ Some c) × (d ≡ record { sort = c.sort; node = node_or nodes (number_in which (length cells) i) c.node })

pub record AreHeaderCells (nodes : List (Option ℕ)) (which : Part) (cells made : List Cell) : Type 0 where
  pub size : length made ≡ length cells
  pub each : (i : ℕ) (d : Cell) → slice_get made i ≡ Some d → IsHeaderCell nodes which cells i d

pub record IsHeaderState (nodes : List (Option ℕ)) (c d : State) : Type 0 where
  pub token : d.token ≡ node_or nodes 0 c.token
  pub heap : d.heap ≡ node_or nodes 3 c.heap
  pub locals : AreHeaderCells nodes part.Locals c.locals d.locals
  pub stack : AreHeaderCells nodes part.Stack c.stack d.stack
