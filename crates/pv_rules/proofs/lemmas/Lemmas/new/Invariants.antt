use Rattle.std.proofs.Common.{take}
use Rattle.std.specs.Prelude.{reverse}
use Rattle.pv_rules.specs.Known.{AreKnown}
use Rattle.pv_rules.proofs.lemmas.Lemmas.new.Given as goal

abbrev pub invariant-loop-k : goal.invariant-loop-k
invariant-loop-k g l = AreKnown (reverse (take l.k l.lemmas)) (reverse l.so_far.items)
