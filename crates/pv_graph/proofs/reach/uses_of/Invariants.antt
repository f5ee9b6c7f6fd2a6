use Rattle.std.proofs.Common.{◌≡◌, length, vec_len}
use Rattle.pv_graph.proofs.Reaching.{AreUsesOf}
use Rattle.pv_graph.proofs.reach.uses_of.Given as goal

abbrev pub invariant-loop-n : goal.invariant-loop-n
invariant-loop-n l = record { len : vec_len l.uses ≡ length l.nodes; uses : AreUsesOf l.first l.nodes l.out l.n l.uses.items }
