use Rattle.std.proofs.Common.{◌≡◌, take}
use Rattle.pv_explain.specs.Iterations.{both_copies}
use Rattle.pv_explain.proofs.induction.copies_of_pairs.Given as goal

abbrev pub invariant-loop-pair : goal.invariant-loop-pair
invariant-loop-pair l = l.pairs.items ≡ both_copies (take l.pair-index l.begun)
