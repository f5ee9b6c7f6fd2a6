use Rattle.std.proofs.Common.{sym, ◌∙◌, ◌↔◌, IsTrue, reverse, subst}
use Rattle.pv_steps.specs.declared.step.Reason.{Reason}
use Rattle.pv_steps.specs.Right.{IsOutside}
use Rattle.pv_check.proofs.Fresh.{outside_found}
use Rattle.pv_check.proofs.seen.Seen.is_outside.Goals as goal

pub is_fresh-requires : goal.is_fresh-requires
is_fresh-requires c =
    let block = (outside_found c.args.self.now.steps.now c.in-By.fact c.in-Some.found c.args.depth (sym c.found.ensures ∙ c.in-Some.is)).0 in
    record { known = block.known; block = block.number }

pub returns-in-Some : goal.returns-in-Some
returns-in-Some c =
    let same = (outside_found c.args.self.now.steps.now c.in-By.fact c.in-Some.found c.args.depth (sym c.found.ensures ∙ c.in-Some.is)).1 in
    subst (λ (r : Reason). IsTrue c.is_fresh.result ↔ IsOutside (reverse c.args.self.now.steps.now) c.args.depth r) (sym c.in-By.is)
    (λ e. same.0 (c.is_fresh.ensures.0 e), λ h. c.is_fresh.ensures.1 (same.1 h))
