use Rattle.std.proofs.Common.{arith}
use Rattle.pv_build.proofs.Around.{loop_read, own_none, own_other}
use Rattle.pv_build.proofs.building.own_loop.Goals as goal

pub index-requires : goal.index-requires
index-requires c = let low = c.in-Some.ensures.region in omega (arith, low, c.args.method.now.forest.now.loops.ok)

pub returns-then-index-b : goal.returns-then-index-b
returns-then-index-b c = (c.index.result.now, loop_read c.args.method.now c.requires.method c.in-Some.i c.in-Some.ensures.region c.index.result.now c.index.ensures, c.if-index-b.true)

pub returns-else-index-b : goal.returns-else-index-b
returns-else-index-b c =
    let m = c.args.method.now in
    own_other m c.requires.method c.args.b c.in-Some.i c.index.result.now (loop_read m c.requires.method c.in-Some.i c.in-Some.ensures.region c.index.result.now c.index.ensures) c.in-Some.ensures.loops c.if-index-b.false

pub returns-in_default : goal.returns-in_default
returns-in_default c = own_none c.args.method.now c.requires.method c.args.b c.in_default.ensures.loops
