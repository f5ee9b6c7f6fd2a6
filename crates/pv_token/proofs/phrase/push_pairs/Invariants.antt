use Rattle.std.proofs.Common.{◌≡◌, ◌++◌, take}
use Rattle.pv_format.specs.Combinators.{each_pair}
use Rattle.pv_token.specs.Words.{spaced}
use Rattle.pv_token.proofs.phrase.push_pairs.Given as goal

abbrev pub invariant-loop-pair : goal.invariant-loop-pair
invariant-loop-pair g l = l.out.items ≡ l.fn.out.items ++ spaced ((each_pair g.T.Token.token).spells (take l.pair-index l.list))
