use Rattle.std.proofs.Common.{◌≡◌, ◌↔◌, reverse}
use Rattle.std.specs.Prelude.{IfOk, IfSome, IfNone}
use Rattle.pv_graph.specs.Graphs.{Graph}
use Rattle.pv_graph.specs.Calls.{IsSame}
use Rattle.pv_steps.specs.Right.{GraphAfter, Instances}
use Rattle.pv_steps.specs.Accepted.{Derives}
use Rattle.pv_check.specs.declared.checker.Checked.TheVariants.{Accepted}
use Rattle.pv_check.specs.Checking.{IsAfter}
use Rattle.pv_lemmas.specs.Lemmas.{InLemma, Uses, variables_graph}
use Rattle.pv_lemmas.proofs.Cited.{in_lemma_prepared}
use Rattle.pv_rules.proofs.Accepting.{not_shown, shown_if}
use Rattle.pv_rules.proofs.inside.LemmaRules.graph_of.Goals as goal

pub returns-in-Accepted : goal.returns-in-Accepted
returns-in-Accepted g c =
    let R : Instances = InLemma (Uses (reverse c.args.self.now.before.now)) c.args.self.now.settled.now in
    let start : IsSame (variables_graph c.args.lemma.now.vars) c.in_ok-start.start = rw c.as_slice.ensures at c.in_ok-start.ensures in
    let derives : Derives R c.in_ok-start.start c.args.lemma.now.left c.args.lemma.now.right c.args.lemma.now.steps =
    rw (c.new-checker.ensures.rules, c.new-checker.ensures.graph, c.new-checker.ensures.first, c.new-checker.ensures.second, c.new-checker.ensures.steps, c.as_slice-2.ensures) at (c.in_ok-check.ensures.accepts.0 c.in-Accepted.is) in
    let some : IfOk c.graph_after.result (λ found. IfSome found (λ after. IsAfter c.in_ok-start.start c.args.lemma.now.steps after)) = rw (c.new-checker.ensures.graph, c.new-checker.ensures.steps, c.as_slice-2.ensures) at c.graph_after.ensures.some in
    let none : IfOk c.graph_after.result (λ found. IfNone found ((after : Graph) → GraphAfter c.in_ok-start.start (reverse c.args.lemma.now.steps) after → ⊥)) = rw (c.new-checker.ensures.graph, c.new-checker.ensures.steps, c.as_slice-2.ensures) at c.graph_after.ensures.none in
    shown_if R (in_lemma_prepared (reverse c.args.self.now.before.now) c.args.self.now.settled.now) c.args.lemma.now c.in_ok-start.start start c.graph_after.result derives some none

pub returns : goal.returns
returns g c =
    let R : Instances = InLemma (Uses (reverse c.args.self.now.before.now)) c.args.self.now.settled.now in
    let start : IsSame (variables_graph c.args.lemma.now.vars) c.in_ok-start.start = rw c.as_slice.ensures at c.in_ok-start.ensures in
    let accepts : (c.in_ok-check.field-0 ≡ Accepted) ↔ Derives R c.in_ok-start.start c.args.lemma.now.left c.args.lemma.now.right c.args.lemma.now.steps =
    rw (c.new-checker.ensures.rules, c.new-checker.ensures.graph, c.new-checker.ensures.first, c.new-checker.ensures.second, c.new-checker.ensures.steps, c.as_slice-2.ensures) at c.in_ok-check.ensures.accepts in
    not_shown R (in_lemma_prepared (reverse c.args.self.now.before.now) c.args.self.now.settled.now) c.args.lemma.now c.in_ok-start.start start (λ h. absurd (let z = accepts.1 h in let w = c.in-Rejected.is in cc (z, w)))
