-- How a block is left, on nodes: the tests and exits of its last action. All of this is private to the crate.
use Rattle.std.specs.Prelude.{◌≡◌, ◌≢◌, ℕ, List, [], ◌∷◌, Option, Some, map, if◌then◌else◌}
use Rattle.std.specs.List.{AllZip, AllByRecursion}
use Rattle.pv_pool.specs.Readers.{◌>>=◌}
use Rattle.pv_value.specs.declared.descriptor.JType.{JType}
use Rattle.pv_frame.specs.declared.sort.Sort.{Sort}
use Rattle.pv_frame.specs.declared.sort.Sort.TheVariants as sort
use Rattle.pv_frame.specs.declared.action.Action.{Action}
use Rattle.pv_frame.specs.declared.action.Action.TheVariants as act
use Rattle.pv_frame.specs.declared.frame.Frame.{Frame}
use Rattle.pv_frame.specs.Effects.{sorts_given, sorts_of_result}
use Rattle.pv_graph.specs.declared.node.Node.{Node}
use Rattle.pv_graph.specs.declared.node.OpSort.TheVariants.{H, T}
use Rattle.pv_graph.specs.Graphs.{Graph}
use Rattle.pv_equations.specs.Flow as flow
use Rattle.pv_equations.specs.Flow.{Exit, Chain, Leave}
use Rattle.pv_terms.specs.Terms.{IsOfSort}
use Rattle.pv_runs.specs.Held.{cell_sort, unit_part, clear_part, held_at, acted_on, acted}
use Rattle.pv_runs.specs.Held as parts
use Rattle.pv_runs.specs.Chains.{to, chain_with, last_chain, ends_method, chain_of}
use Rattle.pv_block.specs.declared.held.Cell.{Cell}
use Rattle.pv_block.specs.declared.held.Held.{Held}
use Rattle.pv_block.specs.declared.ran.State.{State}
use Rattle.pv_block.specs.declared.ran.Ending.{Ending}
use Rattle.pv_block.specs.declared.ran.Leaving.{Leaving}
use Rattle.pv_block.specs.declared.ran.Leaving.TheVariants.{Goes, Returns, Throws}
use Rattle.pv_block.specs.declared.ran.Ran.{Ran}
use Rattle.pv_block.specs.Cells.{sort_in}
use Rattle.pv_block.specs.Standing.{Entry, StandsFor, CellStands, HoldsFor}
use Rattle.pv_block.specs.Sorted.{AreSorted}
use Rattle.pv_block.specs.Ran.{entry_of, ExitStands, IsStateOf, IsTest, IsSortedEnding}

-- ---- operands

-- each has a value
abbrev pub AreKnown : List Cell → Type 0
AreKnown cells = AllByRecursion (λ s. s ≢ sort.Unknown) (map sort_in cells)

-- ---- where a block begins

-- whatever frame the state is one of, what is held in nodes stands for what is held in parts there
abbrev pub HoldsFirst : Graph → State → List Node → Held → Type 0
HoldsFirst old state new c = (f : Frame) → IsStateOf old state f → HoldsFor (entry_of old state) new c (held_at f)

-- ---- one exit

abbrev pub state_of : Held → State
state_of c = record { stack = c.stack; locals = c.locals; heap = c.heap; token = c.token }

-- where the method ends with what is held, by no fault and with no value
abbrev pub ended : Held → Ending
ended c = record { token = c.token; fault = c.clear; result = c.unit; heap = c.heap }

abbrev pub faulted : Ending → ℕ → Leaving
faulted e fault = Throws (record e { fault = fault })

-- .. stands for what is held in parts
pub record EndsFor (at : Entry) (nodes : List Node) (e : Ending) (h : parts.Held) : Type 0 where
  pub token : StandsFor at nodes e.token h.token
  pub fault : StandsFor at nodes e.fault clear_part
  pub result_ : StandsFor at nodes e.result unit_part
  pub heap : StandsFor at nodes e.heap h.heap

-- cell by cell
pub record StateStands (at : Entry) (nodes : List Node) (c : State) (h : parts.Held) : Type 0 where
  pub stack : AllZip (CellStands at nodes) c.stack h.stack
  pub locals : AllZip (CellStands at nodes) c.locals h.locals
  pub heap : StandsFor at nodes c.heap h.heap
  pub token : StandsFor at nodes c.token h.token

-- something is held after the action, and g has the sorts of that: a type test holds one of two numbers
pub record HasSortsAfter (after : Option parts.Held) (g : parts.Held) : Type 0 where
  pub held : parts.Held
  pub is : after ≡ Some held
  pub stack : map cell_sort held.stack ≡ map cell_sort g.stack
  pub locals : map cell_sort held.locals ≡ map cell_sort g.locals

-- the exit goes on with what is held after the action, or with other values of the same sorts
abbrev pub IsExit : Entry → List Node → Option parts.Held → Leaving → Exit → Type 0
IsExit at nodes after (Goes place c) x = (g : parts.Held) × HasSortsAfter after g × (to place g ≡ x) × StateStands at nodes c g
IsExit at nodes after e x = ExitStands at nodes e x

-- test by test and exit by exit
abbrev pub LeavesAlong : Entry → List Node → Option parts.Held → List ℕ → List Leaving → Chain → Type 0
LeavesAlong at nodes after [] (e ∷ []) (Leave x) = IsExit at nodes after e x
LeavesAlong at nodes after (t ∷ ts) (e ∷ es) (flow.Test p x rest) = StandsFor at nodes t p × IsExit at nodes after e x × LeavesAlong at nodes after ts es rest
LeavesAlong at nodes after ts es c = ⊥

abbrev pub LeavesBy : Entry → List Node → Option parts.Held → Ran → Chain → Type 0
LeavesBy at nodes after ran c = LeavesAlong at nodes after ran.tests.items ran.exits.items c

-- ---- the sorts of exits

pub record IsSortedState (g : Graph) (c : State) : Type 0 where
  pub stack : AreSorted g c.stack
  pub locals : AreSorted g c.locals
  pub heap : IsOfSort g c.heap H
  pub token : IsOfSort g c.token T

-- where the method gives a value of this sort
abbrev pub IsSortedLeaving : Graph → Sort → Leaving → Type 0
IsSortedLeaving g s (Goes place c) = IsSortedState g c
IsSortedLeaving g s (Returns e) = IsSortedEnding g s e
IsSortedLeaving g s (Throws e) = IsSortedEnding g sort.Unknown e

abbrev pub AreTests : Graph → List ℕ → Type 0
AreTests g tests = AllByRecursion (IsTest g) tests

pub record AreSortedExits (g : Graph) (s : Sort) (ran : Ran) : Type 0 where
  pub tests : AreTests g ran.tests.items
  pub exits : AllByRecursion (IsSortedLeaving g s) ran.exits.items

-- ---- the last action

-- the chain of an action that goes on to the place `next`, from what is held without its operands
abbrev pub chain_from : Option JType → ℕ → Action → parts.Held → List parts.Cell → Option Chain
chain_from r next a h cells = if ends_method a then last_chain r a h cells else acted_on a h cells >>= λ after. chain_with r a h cells (to next after)

-- whatever is held in parts without these operands, the block is left along that chain
abbrev pub LeavesFrom : Option JType → ℕ → Action → List Node → Held → List Cell → List Node → Option Ran → Type 0
LeavesFrom r next a old rest cells new o = (at : Entry) (h : parts.Held) (ds : List parts.Cell) (x : Chain) → HoldsFor at old rest h → AllZip (CellStands at old) cells ds → chain_from r next a h ds ≡ Some x
    → (ran : Ran) × (o ≡ Some ran) × LeavesBy at new (acted_on a h ds) ran x

-- whatever is held in parts, the block is left along the chain of its last action
abbrev pub LeavesAs : Option JType → ℕ → Action → List Node → Held → List Node → Option Ran → Type 0
LeavesAs result place a old held new o = (at : Entry) (h : parts.Held) (x : Chain) → HoldsFor at old held h → chain_of result place a h ≡ Some x → (ran : Ran) × (o ≡ Some ran) × LeavesBy at new (acted a h) ran x

-- a return gives a value of the sort of the method's result
abbrev pub GivesResult : Option JType → Action → Type 0
GivesResult result (act.Give s) = sorts_given s ≡ sorts_of_result result
GivesResult result a = Unit {0}
