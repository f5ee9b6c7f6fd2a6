-- What is taken out of one loop, part by part; private to this crate.
use Rattle.std.specs.Prelude.{◌≡◌, ℕ, List}
use Rattle.std.specs.List.{AllZip}
use Rattle.pv_graph.specs.declared.node.OpSort.TheVariants.{T, H}
use Rattle.pv_graph.specs.Graphs.{Graph}
use Rattle.pv_equations.specs.Exp.{Exp}
use Rattle.pv_equations.specs.Flow.{Flow}
use Rattle.pv_equations.specs.Equations.{Values, token_out}
use Rattle.pv_terms.specs.declared.names.Named.{Named}
use Rattle.pv_terms.specs.Reads.{Reads}
use Rattle.pv_terms.specs.Terms.{IsOfSort, KeepsSort}
use Rattle.pv_block.specs.declared.held.Cell.{Cell}
use Rattle.pv_block.specs.declared.ran.State.{State}
use Rattle.pv_block.specs.declared.ran.Ending.{Ending}
use Rattle.pv_block.specs.Sorted.{AreSorted}
use Rattle.pv_build.specs.declared.method.Closed.{Closed}
use Rattle.pv_build.specs.States.{IsKnown}
use Rattle.pv_build.specs.Taken.{IsLeft}

-- ---- nodes

-- r stands for what n stands for, taken out of the loop
abbrev pub ReadsNodeOut : Graph → Closed → ℕ → Graph → ℕ → Type 0
ReadsNodeOut old c n new r = (f : Flow) (v : Values) (names : List Named) (h : ℕ) (e : Exp) → IsLeft f v old.nodes names h c → Reads old.nodes names n e → Reads new.nodes names r (v.out h e)

-- .. where n is the token
abbrev pub ReadsTokenOf : Graph → Closed → ℕ → Graph → ℕ → Type 0
ReadsTokenOf old c n new r = (f : Flow) (v : Values) (names : List Named) (h : ℕ) (e : Exp) → IsLeft f v old.nodes names h c → Reads old.nodes names n e → Reads new.nodes names r (token_out v f h e)

-- .. and it has the sort of n
pub record IsNodeOut (old : Graph) (c : Closed) (n : ℕ) (new : Graph) (r : ℕ) : Type 0 where
  pub reads : ReadsNodeOut old c n new r
  pub sort : KeepsSort old n new r

pub record IsTokenOut (old : Graph) (c : Closed) (n : ℕ) (new : Graph) (r : ℕ) : Type 0 where
  pub reads : ReadsTokenOf old c n new r
  pub sort : IsOfSort new r T

-- ---- cells

-- y is the cell x, taken out of the loop; where its sort isn't known, it has no value to take
pub record IsCellOut (old : Graph) (c : Closed) (new : Graph) (x y : Cell) : Type 0 where
  pub sort : y.sort ≡ x.sort
  pub keeps : KeepsSort old x.node new y.node
  pub reads : IsKnown x.sort → ReadsNodeOut old c x.node new y.node

abbrev pub AreCellsOut : Graph → Closed → List Cell → Graph → List Cell → Type 0
AreCellsOut old c xs new ys = AllZip (IsCellOut old c new) xs ys

-- ---- what is held, and ends

-- all that is held has its sort
pub record IsSortedState (g : Graph) (s : State) : Type 0 where
  pub token : IsOfSort g s.token T
  pub heap : IsOfSort g s.heap H
  pub locals : AreSorted g s.locals
  pub stack : AreSorted g s.stack

-- y is the state x, taken out of the loop
pub record IsStateOut (old : Graph) (c : Closed) (x : State) (new : Graph) (y : State) : Type 0 where
  pub token : IsTokenOut old c x.token new y.token
  pub heap : IsNodeOut old c x.heap new y.heap
  pub locals : AreCellsOut old c x.locals new y.locals
  pub stack : AreCellsOut old c x.stack new y.stack

-- y is the end x, taken out of the loop
pub record IsEndOut (old : Graph) (c : Closed) (x : Ending) (new : Graph) (y : Ending) : Type 0 where
  pub token : IsTokenOut old c x.token new y.token
  pub fault : IsNodeOut old c x.fault new y.fault
  pub result_is : IsNodeOut old c x.result new y.result
  pub heap : IsNodeOut old c x.heap new y.heap
