use Rattle.std.proofs.Common.{◌≡◌, ℕ, ◌<◌}
use Rattle.std.specs.Prelude.{Some, slice_get}
use Rattle.pv_explain.specs.Marks.{IsMarked, MarksMore}
use Rattle.pv_explain.specs.Needed.{LinkedByMarked}
use Rattle.pv_explain.proofs.needed.mark_all_up.Given as goal

abbrev pub invariant-loop-n : goal.invariant-loop-n
invariant-loop-n l = record {
  more : MarksMore l.before l.initial.needed.items l.needed.items;
  linked : (k r : ℕ) → k < l.n → IsMarked l.nodes k → slice_get l.tops k ≡ Some r → LinkedByMarked l.forest l.needed.items l.before k r;
}
