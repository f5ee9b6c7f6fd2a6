use Rattle.std.proofs.Common.{◌≡◌, ◌++◌, map, take}
use Rattle.pv_token.specs.Words.{spaced}
use Rattle.pv_token.proofs.phrase.push_each.Given as goal

abbrev pub invariant-loop-value : goal.invariant-loop-value
invariant-loop-value g l = l.out.items ≡ l.fn.out.items ++ spaced (map g.T.Token.token.spells (take l.value-index l.list))
