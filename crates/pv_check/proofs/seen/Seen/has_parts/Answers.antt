use Rattle.pv_check.proofs.seen.Seen.has_parts.Goals as goal

pub returns-then-all_alike : goal.returns-then-all_alike
returns-then-all_alike c = (λ e. (c.all_alike.ensures.0 c.if-all_alike.true, c.keeps_depths.ensures.0 e), λ h. c.keeps_depths.ensures.1 h.1)
