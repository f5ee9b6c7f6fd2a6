use Rattle.std.proofs.Common.{sym, ◌∙◌}
use Rattle.pv_format.proofs.Cited.{pairs_odd}
use Rattle.pv_token.proofs.phrase.read_pairs.Goals as goal

pub returns-else-is_empty : goal.returns-else-is_empty
returns-else-is_empty g c = pairs_odd g.T.Token.token.reads c.loop-rest.list.items c.loop-rest.rest.now _ c.in_default.len_below (sym c.is_empty.ensures ∙ c.if-is_empty.false) c.loop-rest.invariant
