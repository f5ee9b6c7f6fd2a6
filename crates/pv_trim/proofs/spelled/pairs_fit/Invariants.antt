use Rattle.std.proofs.Common.{drop}
use Rattle.std.specs.List.{AllByRecursion}
use Rattle.pv_trim.specs.Spelling.{PairFits}
use Rattle.pv_trim.proofs.spelled.pairs_fit.Given as goal

abbrev pub invariant-loop-pair : goal.invariant-loop-pair
invariant-loop-pair l = AllByRecursion PairFits (drop l.pair-index l.pairs) → AllByRecursion PairFits l.pairs
