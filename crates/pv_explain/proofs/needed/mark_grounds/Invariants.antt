use Rattle.std.proofs.Common.{◌≡◌, ℕ, ◌+◌, ◌≤◌, length}
use Rattle.pv_explain.specs.Needed.{AreRested, RestsOnMarked}
use Rattle.pv_explain.specs.Marks.{IsMarked, MarksMore}
use Rattle.pv_explain.proofs.needed.mark_grounds.Given as goal

abbrev pub invariant-loop-k : goal.invariant-loop-k
invariant-loop-k l = record {
  more : MarksMore l.joins l.initial.needed.items l.needed.items;
  blocks : length l.rested.items ≡ length l.search.blocks.now;
  rested : AreRested l.search l.needed.items l.rested.items;
  rests : (i : ℕ) → l.joins ≤ i + l.k → IsMarked l.needed.items i → RestsOnMarked l.search l.needed.items i;
}
