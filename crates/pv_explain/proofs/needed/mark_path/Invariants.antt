use Rattle.std.proofs.Common.{◌≡◌, ℕ, ◌<◌}
use Rattle.std.specs.Prelude.{Some, slice_get}
use Rattle.pv_paths.specs.declared.forest.Way.{Way}
use Rattle.pv_paths.specs.Paths.{join_of}
use Rattle.pv_explain.specs.Marks.{IsMarked, MarksMore}
use Rattle.pv_explain.proofs.needed.mark_path.Given as goal

abbrev pub invariant-loop-way : goal.invariant-loop-way
invariant-loop-way l = record {
  more : MarksMore l.before l.initial.needed.items l.needed.items;
  crossed : (k : ℕ) (w : Way) → k < l.way-index → slice_get l.path k ≡ Some w → IsMarked l.needed.items (join_of w);
}
