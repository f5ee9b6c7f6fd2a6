use Rattle.std.proofs.Common.{◌≡◌, ◌+◌, sym, subst}
use Rattle.std.specs.Prelude.{slice_index}
use Rattle.pv_touched.specs.Far.{HaveMarks}
use Rattle.pv_touched.proofs.Clear.{marks_more, on_false}
use Rattle.pv_touched.proofs.changed.marked_anew.Goals as goal

pub loop-class-preserved : goal.loop-class-preserved
loop-class-preserved c =
    let s = c.args.since.now in
    let k = c.loop-class.class in
    subst (HaveMarks (k + 1) s) (sym c.in_ok-push.ensures.items)
    (marks_more s k c.loop-class.changed.items c.has_other_mark-is_other.result (λ e. on_false c.has_other_mark-is_other.result (slice_index s.old_marks.now k ≡ slice_index s.marks.now k) e c.has_other_mark-is_other.ensures) c.loop-class.invariant)
