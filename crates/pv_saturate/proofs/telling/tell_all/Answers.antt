use Rattle.pv_instances.specs.Seen.{params_seen}
use Rattle.pv_saturate.proofs.Hearing.{heard_next}
use Rattle.pv_saturate.proofs.telling.tell_all.Goals as goal

pub loop-name-preserved : goal.loop-name-preserved
loop-name-preserved c =
    heard_next c.args.family c.args.names.now c.args.list.now c.loop-name.name-index _ c.loop-name.rest.now c.split_at.result.0.now c.split_at.result.1.now (params_seen c.loop-name.params) (params_seen c.tell.new.params) c.min-count.result c.own_count.result
    c.loop-name-test.true c.loop-name.invariant c.split_at.ensures.front c.split_at.ensures.back c.min-count.ensures c.own_count.ensures c.in_ok-tell.ensures
