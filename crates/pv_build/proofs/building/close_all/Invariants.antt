use Rattle.std.proofs.Common.{◌≡◌, drop}
use Rattle.pv_build.specs.Stages.{IsStage, KeepsFirst, loops_around}
use Rattle.pv_build.specs.Building.{IsLast}
use Rattle.pv_build.proofs.building.close_all.Given as goal

abbrev pub invariant-loop-i : goal.invariant-loop-i
invariant-loop-i l = record {
  last : IsLast l.fn.method l.made l.fn.b l.fn.next;
  stage : IsStage l.fn.method l.g l.made (drop l.i-index (loops_around l.fn.method l.fn.b));
  blocks : l.made.blocks ≡ l.fn.made.blocks;
  start : l.made.start ≡ l.fn.made.start;
  keeps : KeepsFirst l.fn.made.start l.fn.g l.g;
}
