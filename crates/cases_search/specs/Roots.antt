-- The roots of a least graph.
use Rattle.std.specs.Prelude.{◌<◌, length}
use Rattle.pv_alike.specs.Least.{Rooted}

-- the roots are nodes of the graph
pub record HasRoots (l : Rooted) : Type 0 where
  pub first : l.first < length l.graph.nodes
  pub second : l.second < length l.graph.nodes
