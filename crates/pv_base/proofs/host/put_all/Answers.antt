use Rattle.pv_base.proofs.Known.{Appends-kept, part_of, one_more, none_more, on_err}
use Rattle.pv_base.proofs.host.put_all.Goals as goal

pub returns-in_err-count-clause-err : goal.returns-in_err-count-clause-err
returns-in_err-count-clause-err g c = on_err _ _ (part_of _ _ _ _ _ c.loop-rest.invariant.1 (Appends-kept _ _ _ _ c.loop-rest.invariant.2 c.in_err-count.ensures.bytes))

pub returns-then-count-eq0-clause-err : goal.returns-then-count-eq0-clause-err
returns-then-count-eq0-clause-err g c = none_more _ _ _ _ _ _ _ c.if-count-eq0.true c.loop-rest.invariant.1 c.loop-rest.invariant.2 c.in_ok-count.ensures.bytes

pub loop-rest-preserved : goal.loop-rest-preserved
loop-rest-preserved g c = one_more _ _ _ _ _ _ c.in_ok-count.count c.loop-rest.invariant.1 c.loop-rest.invariant.2 c.in_ok-count.ensures.bytes

pub returns-clause-err : goal.returns-clause-err
returns-clause-err g c = on_err _ _ (part_of _ _ _ _ _ c.loop-rest.invariant.1 (Appends-kept _ _ _ _ c.loop-rest.invariant.2 c.flush.ensures.bytes))
