use Rattle.pv_counted.proofs.Recognizing.{counter_low, test_through}
use Rattle.pv_counted.proofs.loops.start_and_bound.Goals as goal

pub counter_start-requires-clause-there : goal.counter_start-requires-clause-there
counter_start-requires-clause-there c = counter_low c.args.g.now c.args.test c.in-Some.counter c.in-Some.bound c.requires.graph c.in-Some.ensures

pub returns-in-None-counter_start : goal.returns-in-None-counter_start
returns-in-None-counter_start c start bound t =
    c.in-None-counter_start.ensures start (test_through c.args.g.now c.args.depth c.args.test start bound c.in-Some.counter c.in-Some.bound c.in-Some.ensures t).0

pub returns-in-None : goal.returns-in-None
returns-in-None c start bound t = c.in-None.ensures t.0 bound t.1
