use Rattle.std.proofs.Common.{◌≡◌, ℕ, List, Some, slice_get, ◌∙◌, sym, subst}
use Rattle.pv_alike.proofs.Seen.{place_found}
use Rattle.pv_alike.proofs.order.Order.place.Goals as goal

pub returns : goal.returns
returns c =
    subst (λ (order : List ℕ). slice_get order c.unwrap.result ≡ Some c.args.n) c.self.view_is
    (place_found c.self.inside.nodes.keys c.args.n c.unwrap.result (sym c.get_index_of.ensures.index ∙ c.unwrap.ensures))
