use Rattle.std.proofs.Common.{ℕ, ◌<◌}
use Rattle.pv_explain.specs.Marks.{IsMarked, KeepsMarks}
use Rattle.pv_explain.specs.Named.{IsMarkedWithKids}
use Rattle.pv_explain.proofs.named.mark_all_with_kids.Given as goal

abbrev pub invariant-loop-n : goal.invariant-loop-n
invariant-loop-n l = record {
  keeps : KeepsMarks l.initial.marks.items l.marks.items;
  marked : (k : ℕ) → k < l.n → IsMarked l.named k → IsMarkedWithKids l.graph l.marks.items k;
}
