use Rattle.std.proofs.Common.{◌≡◌, take, length}
use Rattle.pv_classes.specs.Learning.{Tells}
use Rattle.pv_classes.proofs.known.put_parent.Given as goal

abbrev pub invariant-loop-k : goal.invariant-loop-k
invariant-loop-k l = record {
  long : length l.parents ≡ length l.initial.parents;
  tells : Tells l.initial.parents l.parents (take l.k-index l.kids) l.n;
}
