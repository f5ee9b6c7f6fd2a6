use Rattle.std.proofs.lemmas.Option.{MatchOption-at_none}
use Rattle.pv_counted.proofs.Recognizing.{loop_bound_low}
use Rattle.pv_counted.proofs.loops.staying.Goals as goal

pub free_now-requires-clause-there : goal.free_now-requires-clause-there
free_now-requires-clause-there c = loop_bound_low c.args.g.now c.args.p c.args.depth c.in-Some.start c.in-Some.bound c.requires.graph c.in-Some.ensures

pub returns-in_default-2 : goal.returns-in_default-2
returns-in_default-2 c start bound l = MatchOption-at_none _ _ c.in_default.is c.loop_at.ensures start bound l.0
