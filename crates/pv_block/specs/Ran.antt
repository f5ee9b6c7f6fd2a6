-- What a block computes as a whole: the nodes of its tests and of the slots at its exits.
use Rattle.std.specs.Prelude.{◌≡◌, ◌⊎◌, ℕ, zero, suc, ◌==◌, if◌then◌else◌, List, [], ◌∷◌, length, Option, Some, None}
use Rattle.std.specs.List.{AllZip, AllByRecursion}
use Rattle.pv_value.specs.declared.descriptor.JType.{JType}
use Rattle.pv_frame.specs.declared.sort.Sort.{Sort}
use Rattle.pv_frame.specs.declared.sort.Sort.TheVariants as sort
use Rattle.pv_frame.specs.declared.frame.Frame.{Frame}
use Rattle.pv_frame.specs.declared.program.Program.{Program}
use Rattle.pv_frame.specs.Effects.{sort_of_type}
use Rattle.pv_frame.specs.Frames.{IsFrameAt}
use Rattle.pv_graph.specs.declared.node.Node.{Node}
use Rattle.pv_graph.specs.declared.node.OpSort.TheVariants.{I, F, T, H}
use Rattle.pv_graph.specs.Graphs.{Graph}
use Rattle.pv_equations.specs.Flow as flow
use Rattle.pv_equations.specs.Flow.{Return, Throw, Dest, To, End, Exit, Chain, Leave}
use Rattle.pv_terms.specs.Terms.{IsOfSort}
use Rattle.pv_runs.specs.Held.{slots, by_turns}
use Rattle.pv_block.specs.declared.held.Cell.{Cell}
use Rattle.pv_block.specs.declared.ran.State.{State}
use Rattle.pv_block.specs.declared.ran.Ending.{Ending}
use Rattle.pv_block.specs.declared.ran.Leaving.{Leaving}
use Rattle.pv_block.specs.declared.ran.Leaving.TheVariants.{Goes, Returns, Throws}
use Rattle.pv_block.specs.declared.ran.Ran.{Ran}
use Rattle.pv_block.specs.Standing.{Entry, StandsFor}
use Rattle.pv_block.specs.Sorted.{op_sort, IsSortedCell}

-- ---- the nodes of slots

-- the node of a cell whose sort is known
abbrev pub known_by : Sort → ℕ → Option ℕ
known_by sort.Unknown n = None
known_by s n = Some n

abbrev pub node_of_cell : Cell → Option ℕ
node_of_cell c = known_by c.sort c.node

abbrev pub local_node : List Cell → ℕ → Option ℕ
local_node [] k = None
local_node (c ∷ cells) zero = node_of_cell c
local_node (c ∷ cells) (suc k) = local_node cells k

-- the place of the operand stack above j others
abbrev pub stack_node : List Cell → ℕ → Option ℕ
stack_node [] j = None
stack_node (c ∷ cells) j = if j == length cells then node_of_cell c else stack_node cells j

-- each slot whose sort is known
abbrev pub slot_of : State → ℕ → Option ℕ
slot_of c = slots (Some c.token) None None (Some c.heap) (by_turns (local_node c.locals) (stack_node c.stack))

-- where the method ends nothing is known of the locals and the stack
abbrev pub ending_slot : Ending → ℕ → Option ℕ
ending_slot e = slots (Some e.token) (Some e.fault) (Some e.result) (Some e.heap) (λ n. None)

abbrev pub slot_at : Leaving → ℕ → Option ℕ
slot_at (Goes place c) = slot_of c
slot_at (Returns e) = ending_slot e
slot_at (Throws e) = ending_slot e

-- ---- what the nodes stand for

-- where a block begins
abbrev pub entry_of : Graph → State → Entry
entry_of g c = record { nodes = g.nodes; slots = slot_of c }

-- exits of chains go to places
abbrev pub dest_at : Leaving → Dest
dest_at (Goes place c) = To place
dest_at (Returns e) = End Return
dest_at (Throws e) = End Throw

-- the exit goes there, and the node of each slot stands for the exit's part
pub record ExitStands (at : Entry) (nodes : List Node) (e : Leaving) (x : Exit) : Type 0 where
  pub dest : dest_at e ≡ x.dest
  pub slots_ : (s n : ℕ) → slot_at e s ≡ Some n → StandsFor at nodes n (x.slots s)

-- test by test and exit by exit
abbrev pub RunsAlong : Entry → List Node → List ℕ → List Leaving → Chain → Type 0
RunsAlong at nodes [] (e ∷ []) (Leave x) = ExitStands at nodes e x
RunsAlong at nodes (t ∷ ts) (e ∷ es) (flow.Test p x rest) = StandsFor at nodes t p × ExitStands at nodes e x × RunsAlong at nodes ts es rest
RunsAlong at nodes ts es c = ⊥

abbrev pub RanFor : Entry → List Node → Ran → Chain → Type 0
RanFor at nodes ran c = RunsAlong at nodes ran.tests.items ran.exits.items c

-- ---- sorts

-- a cell of this sort, with a node of it
abbrev pub IsCellOf : Graph → Cell → Sort → Type 0
IsCellOf g c s = (c.sort ≡ s) × IsSortedCell g c

-- what is held where a frame is
pub record IsStateOf (g : Graph) (c : State) (f : Frame) : Type 0 where
  pub stack : AllZip (IsCellOf g) c.stack f.stack
  pub locals : AllZip (IsCellOf g) c.locals f.locals
  pub heap : IsOfSort g c.heap H
  pub token : IsOfSort g c.token T

-- .. at this place
abbrev pub BeginsAt : Graph → List (Option Frame) → ℕ → State → Type 0
BeginsAt g frames place c = (f : Frame) × IsFrameAt frames place f × IsStateOf g c f

-- a cell that has the sort, where that is known, with a node of its own sort
abbrev pub FitsSort : Graph → Cell → Sort → Type 0
FitsSort g c s = ((c.sort ≡ s) ⊎ (s ≡ sort.Unknown)) × IsSortedCell g c

-- what is held where an edge leads to a frame, whose locals may know less
pub record FitsFrame (g : Graph) (c : State) (f : Frame) : Type 0 where
  pub stack : AllZip (IsCellOf g) c.stack f.stack
  pub locals : AllZip (FitsSort g) c.locals f.locals
  pub heap : IsOfSort g c.heap H
  pub token : IsOfSort g c.token T

-- the sort of the result; without one the result is unit
abbrev pub result_sort : Option JType → Sort
result_sort (Some t) = sort_of_type t
result_sort None = sort.Unknown

pub record IsSortedEnding (g : Graph) (result : Sort) (e : Ending) : Type 0 where
  pub token : IsOfSort g e.token T
  pub fault : IsOfSort g e.fault F
  pub result_is : IsOfSort g e.result (op_sort result)
  pub heap : IsOfSort g e.heap H

abbrev pub IsSortedExit : Graph → Program → List (Option Frame) → Leaving → Type 0
IsSortedExit g p frames (Goes place c) = (f : Frame) × IsFrameAt frames place f × FitsFrame g c f
IsSortedExit g p frames (Returns e) = IsSortedEnding g (result_sort p.desc.result) e
IsSortedExit g p frames (Throws e) = IsSortedEnding g sort.Unknown e

abbrev pub IsTest : Graph → ℕ → Type 0
IsTest g n = IsOfSort g n I

-- tests are ints, and what goes on fits the frame to which it goes
pub record IsSortedRan (g : Graph) (p : Program) (frames : List (Option Frame)) (ran : Ran) : Type 0 where
  pub tests : AllByRecursion (IsTest g) ran.tests.items
  pub exits : AllByRecursion (IsSortedExit g p frames) ran.exits.items
