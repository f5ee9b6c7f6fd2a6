use Rattle.std.proofs.Common.{ℕ, take}
use Rattle.std.specs.List.{Contains}
use Rattle.pv_graph.specs.Walks.{In}
use Rattle.pv_alike.proofs.bottom_up.missing_kid.Given as goal

abbrev pub invariant-loop-k : goal.invariant-loop-k
invariant-loop-k l = (k : ℕ) → In (take l.k-index l.k-items) k → Contains l.order k
