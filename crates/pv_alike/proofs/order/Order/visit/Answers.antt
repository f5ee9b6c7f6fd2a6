use Rattle.std.proofs.Common.{ℕ, List, subst}
use Rattle.pv_alike.specs.Visits.{Visited}
use Rattle.pv_alike.proofs.Seen.{visit_found}
use Rattle.pv_alike.proofs.order.Order.visit.Goals as goal

pub returns : goal.returns
returns c =
    subst (λ (old : List ℕ). Visited old c.insert.new.self.keys c.args.n c.in_ok-insert.field-0) c.self.view_is
    (visit_found c.self.inside.nodes.keys c.insert.new.self.keys c.args.n c.in_ok-insert.field-0 c.in_ok-insert.ensures.added c.in_ok-insert.ensures.keys)
