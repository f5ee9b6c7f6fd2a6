use Rattle.std.proofs.Common.{take}
use Rattle.pv_explain.specs.Iterations.{AreLinesOf}
use Rattle.pv_explain.proofs.induction.lines_of.Given as goal

abbrev pub invariant-loop-pair : goal.invariant-loop-pair
invariant-loop-pair l = AreLinesOf l.step (take l.pair-index l.begun) l.lines.items
