use Rattle.std.proofs.Common.{◌≡◌, length}
use Rattle.pv_touched.specs.Far.{AreFar}
use Rattle.pv_touched.proofs.near.near.Given as goal

abbrev pub invariant-loop : goal.invariant-loop
invariant-loop l = record { long : length l.near.items ≡ length l.graph.nodes; far : AreFar l.graph l.since l.counter l.near.items }
