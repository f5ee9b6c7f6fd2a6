use Rattle.std.proofs.Common.{◌+◌, ◌-◌, ◌≤◌, vec_len}
use Rattle.std.specs.Io.KnownBytes.{Consumes}
use Rattle.pv_base.proofs.host.take_all.Given as goal

-- what was taken so far is at the front of what there was, and is one byte too much at most
abbrev pub invariant-loop-piece : goal.invariant-loop-piece
invariant-loop-piece g l = record {
  taken : Consumes (g.F.Read.remaining l.fn.from) (g.F.Read.remaining l.from) l.bytes.items;
  few : vec_len l.bytes ≤ l.limit + 1;
}

abbrev pub decreases-loop-piece : goal.decreases-loop-piece
decreases-loop-piece g l = (l.limit + 1) - vec_len l.bytes
