use Rattle.std.proofs.Common.{◌≡◌, ℕ, ◌+◌}
use Rattle.pv_block.proofs.Words.{Grows, IsSorted}
use Rattle.pv_block.proofs.Reaching.{Reaches}
use Rattle.pv_block.proofs.along.along.Given as goal

abbrev pub invariant-loop-done : goal.invariant-loop-done
invariant-loop-done l = record {
  reaches : (m : ℕ) → m + l.done ≡ l.count → Reaches l.program l.count l.first m (l.first + l.done) l.fn.g.nodes l.fn.held l.g.nodes l.after;
  sorted : IsSorted l.g l.after;
  grows : Grows l.fn.g l.g;
}
