use Rattle.pv_check.specs.Checking.{IsReplayed}
use Rattle.pv_check.proofs.checker.Checker.front.Given as goal

abbrev pub invariant-loop-k : goal.invariant-loop-k
invariant-loop-k g l = IsReplayed l.self.graph.now l.self.steps.now l.k l.tables.innermost.items l.tables.opened.items l.graph
