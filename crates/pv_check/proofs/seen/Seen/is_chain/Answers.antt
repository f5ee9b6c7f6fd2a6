use Rattle.pv_check.proofs.Chained.{chain_some, chain_other, chain_none}
use Rattle.pv_check.proofs.seen.Seen.is_chain.Goals as goal

pub returns-then-left-a : goal.returns-then-left-a
returns-then-left-a c = chain_some c.visible.result c.args.self.now.steps.now c.args.first c.args.second c.in-Some.left c.in-Some.middle c.args.a c.args.b c.visible.ensures c.in-Some.is c.if-left-a.true c.shows.result c.shows.ensures

pub returns-else-left-a : goal.returns-else-left-a
returns-else-left-a c = chain_other c.visible.result c.args.self.now.steps.now c.args.first c.args.second c.in-Some.left c.in-Some.middle c.args.a c.args.b c.visible.ensures c.in-Some.is c.if-left-a.false

pub returns-in-None : goal.returns-in-None
returns-in-None c = chain_none c.visible.result c.args.self.now.steps.now c.args.first c.args.second c.args.a c.args.b c.visible.ensures c.in-None.is
