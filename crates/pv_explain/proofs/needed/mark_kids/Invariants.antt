use Rattle.std.proofs.Common.{ℕ, ◌<◌, get_or}
use Rattle.pv_explain.specs.Needed.{LinkedByMarked}
use Rattle.pv_explain.specs.Marks.{MarksMore}
use Rattle.pv_explain.proofs.needed.mark_kids.Given as goal

abbrev pub invariant-loop-i : goal.invariant-loop-i
invariant-loop-i l = record {
  more : MarksMore l.before l.initial.needed.items l.needed.items;
  linked : (k : ℕ) → k < l.i → LinkedByMarked l.forest l.needed.items l.before (get_or l.lefts k 0) (get_or l.rights k 0);
}
