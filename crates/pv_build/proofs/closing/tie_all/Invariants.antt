use Rattle.pv_build.proofs.Words.{Closing, MayTieAll, AreTied}
use Rattle.pv_build.proofs.closing.tie_all.Given as goal

abbrev pub invariant-loop-x : goal.invariant-loop-x
invariant-loop-x l = record { tied : (c : Closing) → MayTieAll c l.fn.g l.again l.never l.thetas → AreTied c l.fn.g l.thetas l.x-index l.g }
