use Rattle.pv_check.proofs.Replaying.{is_stuck, all_right_at}
use Rattle.pv_check.proofs.checker.Checker.step_is_right.Goals as goal

pub returns-in_default : goal.returns-in_default
returns-in_default g c = record { right = is_stuck (g.R.Rules.instances c.args.self.now.rules.now) c.args.self.now.graph.now c.args.self.now.steps.now c.args.k (rw c.in_default.is at c.in_ok-front.ensures.none) }

pub returns : goal.returns
returns g c = record {
  right = all_right_at (g.R.Rules.instances c.args.self.now.rules.now) (g.met.R.Rules.prepared c.args.self.now.rules.now) c.args.self.now.graph.now c.in-Some.front.graph c.args.self.now.steps.now c.args.k c.in-Some.front.tables.innermost.items c.in-Some.front.tables.opened.items (rw c.in-Some.is at c.in_ok-front.ensures.some) c.requires.first c.requires.last c.index-self-k.result c.takes.result c.takes.ensures.right;
}
