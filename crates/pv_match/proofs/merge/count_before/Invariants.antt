use Rattle.std.proofs.Common.{◌<◌, ◌-◌, ◌^◌, length, take, suc}
use Rattle.pv_match.proofs.Merging.{AreBefore}
use Rattle.pv_match.proofs.merge.count_before.Given as goal

abbrev pub invariant-loop-x : goal.invariant-loop-x
invariant-loop-x g l = record {
  some : 0 < l.count;
  few : l.count < 2 ^ 63;
  before : AreBefore g.T.Ord.cmp l.bound (take l.count l.queue.items);
}

abbrev pub decreases-loop-x : goal.decreases-loop-x
decreases-loop-x g l = suc (length l.queue.items) - l.count
