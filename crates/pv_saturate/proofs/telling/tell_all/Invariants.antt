use Rattle.pv_instances.specs.Seen.{params_seen}
use Rattle.pv_saturate.proofs.Hearing.{AreHeard}
use Rattle.pv_saturate.proofs.telling.tell_all.Given as goal

abbrev pub invariant-loop-name : goal.invariant-loop-name
invariant-loop-name l = AreHeard l.family l.names l.list l.name-index l.rest (params_seen l.params)
