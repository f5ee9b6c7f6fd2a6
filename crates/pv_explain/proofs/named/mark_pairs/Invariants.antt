use Rattle.std.specs.List.{AllByRecursion}
use Rattle.std.proofs.Common.{take}
use Rattle.pv_explain.specs.Marks.{KeepsMarks}
use Rattle.pv_explain.specs.Named.{IsMarkedNode, OfPair}
use Rattle.pv_explain.proofs.named.mark_pairs.Given as goal

abbrev pub invariant-loop-pair : goal.invariant-loop-pair
invariant-loop-pair l = record {
  keeps : KeepsMarks l.initial.marks.items l.marks.items;
  marked : AllByRecursion (OfPair (IsMarkedNode l.marks.items)) (take l.pair-index l.pairs);
}
