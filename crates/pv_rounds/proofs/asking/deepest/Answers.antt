use Rattle.std.proofs.Common.{List, map, sym, subst, take_all}
use Rattle.pv_saturate.specs.declared.decoding.Decoded.{Decoded}
use Rattle.pv_saturate.specs.Decoding.{decoded_seen}
use Rattle.pv_rounds.specs.Asking.{SomeNotFree}
use Rattle.pv_rounds.proofs.Deepest.{deeper}
use Rattle.pv_rounds.proofs.asking.deepest.Goals as goal

pub loop-m-preserved : goal.loop-m-preserved
loop-m-preserved c = deeper c.args.list.now c.loop-m.m-index c.m-item.result c.loop-m.most c.greater-most.result c.loop-m-test.true c.m-item.is c.greater-most.ensures.first c.greater-most.ensures.second c.loop-m.invariant

pub returns : goal.returns
returns c d s = c.loop-m.invariant d (subst (λ (ds : List Decoded). SomeNotFree (map decoded_seen ds) d) (sym (take_all c.loop-m.m-index c.args.list.now c.loop-m-test.false)) s)
