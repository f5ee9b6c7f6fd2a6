use Rattle.std.specs.List.{AllByRecursion}
use Rattle.std.proofs.Common.{take}
use Rattle.pv_explain.specs.Marks.{KeepsMarks}
use Rattle.pv_explain.specs.Named.{IsMarkedNode, OfJoin}
use Rattle.pv_explain.proofs.named.mark_joins.Given as goal

abbrev pub invariant-loop-join : goal.invariant-loop-join
invariant-loop-join l = record {
  keeps : KeepsMarks l.initial.marks.items l.marks.items;
  marked : AllByRecursion (OfJoin (IsMarkedNode l.marks.items)) (take l.join-index l.joins);
}
