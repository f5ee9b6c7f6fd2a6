use Rattle.std.specs.List.{AllByRecursion}
use Rattle.std.proofs.Common.{take}
use Rattle.pv_explain.specs.Marks.{KeepsMarks}
use Rattle.pv_explain.specs.Named.{IsMarkedNode}
use Rattle.pv_explain.proofs.named.mark_nodes.Given as goal

abbrev pub invariant-loop-n : goal.invariant-loop-n
invariant-loop-n l = record {
  keeps : KeepsMarks l.initial.marks.items l.marks.items;
  marked : AllByRecursion (IsMarkedNode l.marks.items) (take l.n-index l.nodes);
}
