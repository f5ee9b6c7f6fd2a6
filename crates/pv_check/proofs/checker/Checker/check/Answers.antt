use Rattle.pv_check.specs.Checking.{claimed}
use Rattle.pv_check.proofs.Judged.{accepts_all, rejects_all}
use Rattle.pv_check.proofs.checker.Checker.check.Goals as goal

pub returns-clause-accepts : goal.returns-clause-accepts
returns-clause-accepts g c = accepts_all (g.R.Rules.instances c.args.self.now.rules.now) (claimed c.args.self.now.graph.now c.args.self.now.first c.args.self.now.second) c.args.self.now.steps.now c.judge.result c.judge.ensures

pub returns-clause-rejects : goal.returns-clause-rejects
returns-clause-rejects g c = rejects_all (g.R.Rules.instances c.args.self.now.rules.now) (claimed c.args.self.now.graph.now c.args.self.now.first c.args.self.now.second) c.args.self.now.steps.now c.judge.result c.judge.ensures
