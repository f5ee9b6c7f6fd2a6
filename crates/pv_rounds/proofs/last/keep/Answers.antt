use Rattle.pv_rounds.proofs.last.keep.Goals as goal

pub returns : goal.returns
returns c = record { list_ = c.in_ok-copies.ensures; numbers_ = c.in_ok-from_slice.ensures.items; marks_ = c.in_ok-class_marks.ensures }
