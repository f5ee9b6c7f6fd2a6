use Rattle.std.proofs.Common.{arith}
use Rattle.pv_value.specs.declared.heap.Kind.TheVariants as kind
use Rattle.pv_saturate.proofs.Setting.{put_padded, put_there}
use Rattle.pv_saturate.proofs.telling.put_kind.Goals as goal

pub returns : goal.returns
returns c =
    put_padded kind.Int c.args.kinds.now.items c.loop-k.kinds.items _ c.args.k c.args.value c.loop-k.invariant.same
    (put_there kind.Int c.loop-k.kinds.items c.args.k c.args.value (omega (arith, c.loop-k.invariant.long, c.loop-k-test.false)))
