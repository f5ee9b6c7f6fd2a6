use Rattle.std.proofs.Common.{◌≡◌, ◌++◌, ℕ, List, length}
use Rattle.std.specs.Vec.Iter.{into_iter_items, into_iter_len}
use Rattle.pv_class.specs.declared.file.Method.{Method}
use Rattle.pv_pieces.specs.Cut.{joined}
use Rattle.pv_report.specs.declared.pair.Pair.{Pair}
use Rattle.pv_report.specs.declared.verdict.Means.{Means}
use Rattle.pv_report.specs.Pieces.{AreJudged, AreParts}
use Rattle.pv_report.proofs.pairs.put_together.Given as goal

abbrev pub invariant-loop-part : goal.invariant-loop-part
invariant-loop-part l = (l.yielded ++ into_iter_items l.part-iterator ≡ into_iter_items l.initial.part-iterator)
    × (into_iter_len l.part-iterator ≡ length (into_iter_items l.part-iterator))
    × ((means : Means) (pair : Pair) (methods : ℕ → List Method) → AreParts means pair methods (into_iter_items l.initial.part-iterator) → AreJudged means pair (joined methods (length l.yielded)) l.all)
