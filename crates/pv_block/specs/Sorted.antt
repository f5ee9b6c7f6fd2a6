-- The sorts of the nodes in a block.
use Rattle.std.specs.Prelude.{List}
use Rattle.std.specs.List.{AllByRecursion}
use Rattle.pv_frame.specs.declared.sort.Sort.{Sort}
use Rattle.pv_frame.specs.declared.sort.Sort.TheVariants as sort
use Rattle.pv_graph.specs.declared.node.OpSort.{OpSort}
use Rattle.pv_graph.specs.declared.node.OpSort.TheVariants.{I, L, A, F, T, H}
use Rattle.pv_graph.specs.Graphs.{Graph, IsGraph}
use Rattle.pv_terms.specs.Terms.{IsOfSort}
use Rattle.pv_block.specs.declared.held.Cell.{Cell}
use Rattle.pv_block.specs.declared.held.Held.{Held}

-- the sort of the nodes of a cell; where no value is known, the node is unit
abbrev pub op_sort : Sort → OpSort
op_sort sort.Int = I
op_sort sort.Long = L
op_sort sort.Ref = A
op_sort sort.Unknown = T

abbrev pub IsSortedCell : Graph → Cell → Type 0
IsSortedCell g c = IsOfSort g c.node (op_sort c.sort)

abbrev pub AreSorted : Graph → List Cell → Type 0
AreSorted g cells = AllByRecursion (IsSortedCell g) cells

-- all that is held has its sort
pub record IsSorted (g : Graph) (c : Held) : Type 0 where
  pub graph : IsGraph g
  pub stack : AreSorted g c.stack
  pub locals : AreSorted g c.locals
  pub heap : IsOfSort g c.heap H
  pub token : IsOfSort g c.token T
  pub unit : IsOfSort g c.unit T
  pub clear : IsOfSort g c.clear F
  pub start : IsOfSort g c.start T
