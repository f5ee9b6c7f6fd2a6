use Rattle.pv_build.proofs.Around.{outer_header}
use Rattle.pv_build.proofs.building.outer_loop.Goals as goal

pub returns-in-Some-clause-outer : goal.returns-in-Some-clause-outer
returns-in-Some-clause-outer c = outer_header c.args.method.now c.requires.method c.args.b c.in-Some.field-0 c.loop_around.result c.in-Some.ensures c.loop_around.ensures.loops
