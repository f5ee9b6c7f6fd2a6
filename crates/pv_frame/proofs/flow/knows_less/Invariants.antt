use Rattle.std.proofs.Common.{length, ◌↔◌}
use Rattle.pv_frame.proofs.Words.{KnowsLess}
use Rattle.pv_frame.proofs.flow.knows_less.Given as goal

abbrev pub invariant-loop-left : goal.invariant-loop-left
invariant-loop-left l = KnowsLess l.left l.others ↔ KnowsLess l.source l.target

abbrev pub decreases-loop-left : goal.decreases-loop-left
decreases-loop-left l = length l.left
