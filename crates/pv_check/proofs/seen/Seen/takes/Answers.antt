use Rattle.std.proofs.Common.{◌↔◌, IfOk, IsTrue, List, ℕ, reverse, sym, subst}
use Rattle.pv_steps.specs.declared.step.Step.{Step}
use Rattle.pv_steps.specs.declared.step.Step.TheVariants as steps
use Rattle.pv_steps.specs.Right.{RightOver}
use Rattle.pv_check.specs.Growth.{GrowsTo}
use Rattle.pv_check.proofs.Moments.{stays, always, node_right}
use Rattle.pv_check.proofs.seen.Seen.takes.Goals as goal

pub returns-in-Node-clause-right : goal.returns-in-Node-clause-right
returns-in-Node-clause-right g c =
    subst (λ (s : Step). IfOk c.grow.result (λ yes. IsTrue yes ↔ RightOver (g.R.Rules.instances c.args.rules.now) c.args.graph.now (reverse c.args.self.now.steps.now) s)) (sym c.in-Node.is)
    (subst (λ (ks : List ℕ). IfOk c.grow.result (λ yes. IsTrue yes ↔ RightOver (g.R.Rules.instances c.args.rules.now) c.args.graph.now (reverse c.args.self.now.steps.now) (steps.Node c.in-Node.n c.in-Node.op ks))) c.as_slice.ensures
    (node_right (g.R.Rules.instances c.args.rules.now) c.grow.result c.args.graph.now c.grow.new.graph (reverse c.args.self.now.steps.now) c.in-Node.n c.in-Node.op c.as_slice.result.now c.grow.ensures.yes c.grow.ensures.no))

pub returns-in-Assume-clause-right : goal.returns-in-Assume-clause-right
returns-in-Assume-clause-right g c =
    subst (λ (s : Step). IfOk c.is_assume.result (λ yes. IsTrue yes ↔ RightOver (g.R.Rules.instances c.args.rules.now) c.args.graph.now (reverse c.args.self.now.steps.now) s)) (sym c.in-Assume.is)
    (subst (λ (ns : List ℕ). IfOk c.is_assume.result (λ yes. IsTrue yes ↔ RightOver (g.R.Rules.instances c.args.rules.now) c.args.graph.now (reverse c.args.self.now.steps.now) (steps.Assume c.in-Assume.p ns))) c.as_slice-in-Assume.ensures c.is_assume.ensures.right)

pub returns-in_default : goal.returns-in_default
returns-in_default g c = record { right = c.is_right.ensures; grows = always c.is_right.result (GrowsTo c.args.step.now c.args.graph.now c.args.graph.now) (stays c.args.step.now c.in_default.not-Node c.args.graph.now) }
