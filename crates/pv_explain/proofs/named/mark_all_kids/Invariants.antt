use Rattle.std.proofs.Common.{◌+◌, ◌≤◌, ℕ}
use Rattle.pv_explain.specs.Marks.{IsMarked, KeepsMarks}
use Rattle.pv_explain.specs.Named.{AreKidsMarked}
use Rattle.pv_explain.proofs.named.mark_all_kids.Given as goal

abbrev pub invariant-loop-k : goal.invariant-loop-k
invariant-loop-k l = record {
  keeps : KeepsMarks l.initial.marks.items l.marks.items;
  closed : (i : ℕ) → l.nodes ≤ i + l.k → l.graph.base ≤ i → IsMarked l.marks.items i → AreKidsMarked l.graph l.marks.items i;
}
