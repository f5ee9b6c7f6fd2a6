use Rattle.std.proofs.Common.{drop}
use Rattle.std.specs.List.{AllByRecursion}
use Rattle.pv_trim.specs.Spelling.{FactPairFits}
use Rattle.pv_trim.proofs.spelled.fact_pairs_fit.Given as goal

abbrev pub invariant-loop-pair : goal.invariant-loop-pair
invariant-loop-pair l = AllByRecursion FactPairFits (drop l.pair-index l.pairs) → AllByRecursion FactPairFits l.pairs
