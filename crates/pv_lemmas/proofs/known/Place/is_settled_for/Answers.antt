use Rattle.std.proofs.Common.{◌≡◌, Some, None, slice_get, refl, sym, subst, ◌∙◌}
use Rattle.std.proofs.lemmas.Option.{same_Some}
use Rattle.pv_graph.specs.Graphs.{form_at}
use Rattle.pv_graph.specs.Walks.{IsSettled}
use Rattle.pv_lemmas.proofs.known.Place.is_settled_for.Goals as goal

pub returns-in-Some : goal.returns-in-Some
returns-in-Some c =
    let at : slice_get c.args.self.now.nodes.now c.args.j ≡ Some c.in-Some.n = sym c.node_for.ensures ∙ c.in-Some.is in (
      λ yes n get. subst (IsSettled (form_at c.args.self.now.graph.now.nodes) c.args.self.now.assumed.now) (same_Some c.in-Some.n n (sym at ∙ get)) (c.is_settled.ensures.0 yes),
      λ all. c.is_settled.ensures.1 (all c.in-Some.n at),
    )

pub returns-in-None : goal.returns-in-None
returns-in-None c =
    let at : slice_get c.args.self.now.nodes.now c.args.j ≡ None = sym c.node_for.ensures ∙ c.in-None.is in
    (λ e n get. absurd (let z = sym at ∙ get in cc), λ all. refl)
