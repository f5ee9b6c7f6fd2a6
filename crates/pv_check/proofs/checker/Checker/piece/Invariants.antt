use Rattle.pv_check.specs.Checking.{IsSoFar}
use Rattle.pv_check.proofs.checker.Checker.piece.Given as goal

abbrev pub invariant-loop-k : goal.invariant-loop-k
invariant-loop-k g l = IsSoFar (g.R.Rules.instances l.self.rules.now) l.self.graph.now l.self.steps.now l.from l.k l.front.tables.innermost.items l.front.tables.opened.items l.front.graph
