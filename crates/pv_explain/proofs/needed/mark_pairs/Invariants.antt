use Rattle.std.proofs.Common.{ℕ, ◌<◌, get_or}
use Rattle.pv_explain.specs.Needed.{LinkedByMarked}
use Rattle.pv_explain.specs.Marks.{MarksMore}
use Rattle.pv_explain.proofs.needed.mark_pairs.Given as goal

abbrev pub invariant-loop-pair : goal.invariant-loop-pair
invariant-loop-pair l = record {
  more : MarksMore l.joins l.initial.needed.items l.needed.items;
  linked : (k : ℕ) → k < l.pair-index → LinkedByMarked l.forest l.needed.items l.joins (get_or l.pairs k (0, 0)).0 (get_or l.pairs k (0, 0)).1;
}
