use Rattle.std.proofs.Common.{sym, ap}
use Rattle.pv_insn.specs.Reading.{listed}
use Rattle.pv_format.proofs.Cited.{items_begin, items_more, items_cut, items_end}
use Rattle.pv_insn.proofs.reading.items_at.Goals as goal

pub loop-init : goal.loop-init
loop-init g c = rw c.new-items.ensures.items (items_begin g.T.Item.takes c.args.size c.args.bytes.now)

pub returns-in_default : goal.returns-in_default
returns-in_default g c = ap listed (items_cut g.T.Item.takes c.args.size c.args.bytes.now c.loop.counter c.loop.items.items c.loop.rest.now c.loop-test.true (sym c.in_default.ensures) c.loop.invariant)

pub loop-preserved : goal.loop-preserved
loop-preserved g c =
    rw c.in_ok-push.ensures.items (items_more g.T.Item.takes c.args.size c.args.bytes.now c.loop.counter c.loop.items.items c.loop.rest.now c.in-Some.item c.in-Some.after.now c.loop-test.true (sym c.in-Some.ensures) c.loop.invariant)

pub returns : goal.returns
returns g c = ap listed (items_end g.T.Item.takes c.args.size c.args.bytes.now c.loop.counter c.loop.items.items c.loop.rest.now c.loop-test.false c.loop.invariant)
