use Rattle.std.proofs.Common.{◌≡◌, slice_get}
use Rattle.pv_build.proofs.Words.{AreDone, KeepsFirst, IsStageFor}
use Rattle.pv_build.proofs.building.blocks.Given as goal

abbrev pub invariant-loop-k : goal.invariant-loop-k
invariant-loop-k l = record {
  stage : IsStageFor l.fn.method l.g l.made (slice_get l.fn.method.forest.now.order.items l.k);
  done : AreDone l.fn.method l.made l.k;
  start : l.made.start ≡ l.fn.made.start;
  keeps : KeepsFirst l.fn.made.start l.fn.g l.g;
}
