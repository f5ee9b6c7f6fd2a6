use Rattle.std.specs.List.{AllByRecursion}
use Rattle.std.proofs.Common.{take}
use Rattle.pv_explain.specs.Marks.{IsMarked, MarksMore}
use Rattle.pv_explain.proofs.named.mark_below.Given as goal

abbrev pub invariant-loop-n : goal.invariant-loop-n
invariant-loop-n l = record {
  more : MarksMore l.before l.initial.marks.items l.marks.items;
  marked : AllByRecursion (IsMarked l.marks.items) (take l.n-index l.nodes);
}
