use Rattle.std.proofs.Common.{sym, ◌∙◌, arith}
use Rattle.pv_token.specs.Tokens.{int_token}
use Rattle.pv_listing.specs.WordReading.{read_label}
use Rattle.pv_listing.proofs.Twos.{twos_more, twos_odd}
use Rattle.pv_listing.proofs.operands.read_pairs.Goals as goal

pub returns-else-is_empty : goal.returns-else-is_empty
returns-else-is_empty c = twos_odd int_token.reads read_label c.loop-rest.list.items c.loop-rest.rest.now _ c.in_default.len_below (sym c.is_empty.ensures ∙ c.if-is_empty.false) c.loop-rest.invariant

pub loop-rest-preserved : goal.loop-rest-preserved
loop-rest-preserved c =
    twos_more int_token.reads read_label c.loop-rest.list.items _ c.in_ok-pair.field-0 c.in-Some.pair c.loop-rest.rest.now _ _ _ c.in-len2-up.len_at_least (omega arith) c.in_ok-pair.ensures c.in-Some.is c.in_ok-push.ensures.items c.loop-rest.invariant
