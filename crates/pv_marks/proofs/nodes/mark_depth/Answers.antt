use Rattle.std.proofs.Common.{arith}
use Rattle.pv_marks.proofs.nodes.mark_depth.Goals as goal

pub returns-clause-marks : goal.returns-clause-marks
returns-clause-marks c assumed are = record {
  long = omega (arith, c.loop-n.marks.ok.0, c.loop-n.invariant.long, c.requires.long);
  each = λ n lt. c.loop-n.invariant.done assumed n (omega (arith, lt, c.loop-n-test.false, c.len-n-end.ensures, c.in_ok-free.ensures.long)) (are.each n lt);
}
