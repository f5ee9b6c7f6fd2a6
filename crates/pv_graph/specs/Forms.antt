-- What stands at a node: an operation over kids, whatever a kid is.
use Rattle.std.specs.Prelude.{List}
use Rattle.pv_graph.specs.declared.node.Op.{Op}

pub data Form (N : Type 0) : Type 0 where
  form : Op → List N → Form N
