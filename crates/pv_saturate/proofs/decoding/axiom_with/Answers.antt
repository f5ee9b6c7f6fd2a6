use Rattle.std.proofs.Common.{List, map, take, take_all, inl, inr, sym, ap, ◌∙◌, subst}
use Rattle.pv_graph.specs.Walks.{In}
use Rattle.pv_graph.proofs.Cited.{in_cases}
use Rattle.pv_pattern.specs.Patterns.{Axiom}
use Rattle.pv_pattern.specs.declared.pattern.Axiom as declared
use Rattle.pv_pattern.specs.Seen.{axiom_seen}
use Rattle.pv_instances.proofs.Cited.{mapped_at, mapped_more}
use Rattle.pv_saturate.proofs.Lists.{get_in}
use Rattle.pv_saturate.proofs.decoding.axiom_with.Goals as goal

pub returns-then-rule-number : goal.returns-then-rule-number
returns-then-rule-number c =
    (get_in (map axiom_seen c.args.table.now) c.loop-rule.rule-index (axiom_seen c.rule-item.result) (mapped_at axiom_seen c.args.table.now c.loop-rule.rule-index c.rule-item.result c.loop-rule-test.true c.rule-item.is), c.if-rule-number.true)

pub loop-rule-preserved : goal.loop-rule-preserved
loop-rule-preserved c a there e =
    let more = mapped_more axiom_seen c.args.table.now c.loop-rule.rule-index c.rule-item.result c.loop-rule-test.true c.rule-item.is in
    elim (in_cases (map axiom_seen (take c.loop-rule.rule-index c.args.table.now)) (axiom_seen c.rule-item.result) a (subst (λ (zs : List Axiom). In zs a) more there)) [
      | inl old ↦ c.loop-rule.invariant a old e
      | inr s ↦ c.if-rule-number.false (ap (λ (b : Axiom). b.number) s ∙ e)
    ]

pub returns : goal.returns
returns c a there e = c.loop-rule.invariant a (subst (λ (zs : List declared.Axiom). In (map axiom_seen zs) a) (sym (take_all c.loop-rule.rule-index c.args.table.now c.loop-rule-test.false)) there) e
