use Rattle.std.proofs.Common.{◌↔◌, ◌∙◌, ℕ, List, IsTrue, sym, subst}
use Rattle.std.specs.List.{Contains}
use Rattle.pv_alike.proofs.Seen.{has_found, found_has}
use Rattle.pv_alike.proofs.order.Order.has.Goals as goal

pub returns : goal.returns
returns c =
    subst (λ (order : List ℕ). IsTrue c.contains.result ↔ Contains order c.args.n) c.self.view_is
    ((λ t. has_found c.self.inside.nodes.keys c.args.n (sym c.contains.ensures ∙ t)), (λ there. c.contains.ensures ∙ found_has c.self.inside.nodes.keys c.args.n there))
