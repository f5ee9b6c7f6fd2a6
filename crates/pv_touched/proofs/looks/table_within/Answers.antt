use Rattle.std.proofs.Common.{true≢false, sym, ◌∙◌}
use Rattle.pv_pattern.specs.Seen.{axiom_seen}
use Rattle.pv_touched.proofs.Tables.{rule_in, rule_more}
use Rattle.pv_touched.proofs.looks.table_within.Goals as goal

pub returns-then-not-parts_within : goal.returns-then-not-parts_within
returns-then-not-parts_within c = (
  (λ h. absurd (true≢false (sym h))),
  (λ all. absurd (true≢false (sym (all (axiom_seen c.rule-item.result) (rule_in c.args.table.now c.loop-rule.rule-index c.rule-item.result c.loop-rule-test.true c.rule-item.is)) ∙ (sym c.parts_within.ensures ∙ c.if-not-parts_within.true)))),
)

pub loop-rule-preserved : goal.loop-rule-preserved
loop-rule-preserved c = rule_more c.args.steps c.args.table.now c.loop-rule.rule-index c.rule-item.result c.loop-rule-test.true c.rule-item.is c.loop-rule.invariant (sym c.parts_within.ensures ∙ c.if-not-parts_within.false)
