use Rattle.std.proofs.Common.{sym, ◌∙◌}
use Rattle.pv_check.proofs.Visible.{visible_found, hidden_found}
use Rattle.pv_check.proofs.seen.Seen.visible.Goals as goal

pub returns-then-is_seen : goal.returns-then-is_seen
returns-then-is_seen c =
    visible_found c.args.self.now.steps.now c.args.self.now.innermost.now c.args.self.now.opened.now c.args.self.now.kept c.args.within c.args.fact c.in-Some.found (sym c.found.ensures ∙ c.in-Some.is)
    (c.is_seen.ensures.0 c.if-is_seen.true)

pub returns-else-is_seen : goal.returns-else-is_seen
returns-else-is_seen c =
    hidden_found c.args.self.now.steps.now c.args.self.now.innermost.now c.args.self.now.opened.now c.args.self.now.kept c.args.within c.args.fact c.in-Some.found (sym c.found.ensures ∙ c.in-Some.is)
    (λ s. let z = c.is_seen.ensures.1 s in let y = c.if-is_seen.false in absurd (cc))
