use Rattle.std.proofs.Common.{◌≡◌, ◌∙◌, ◌∷◌, [], ℕ, List, Some, sym, ap, subst, arith}
use Rattle.pv_graph.specs.declared.node.Node.{Node}
use Rattle.pv_alike.specs.Renumbered.{IsClosed, IsRenumbered}
use Rattle.pv_alike.specs.Visits.{Visits}
use Rattle.pv_alike.specs.Keys.{number_at}
use Rattle.pv_alike.proofs.Search.{search_finds}
use Rattle.pv_alike.proofs.found.least_nodes.Goals as goal

pub renumbered-requires-clause-closed : goal.renumbered-requires-clause-closed
renumbered-requires-clause-closed c =
    subst (λ (q : List Node). IsClosed q c.in_ok-visits.visits) (c.deref.ensures.value ∙ sym c.deref-2.ensures.value) c.in_ok-visits.ensures.closed

pub returns : goal.returns
returns c =
    let number = number_at c.in_ok-numbers.numbers.of.items in
    let q = c.in_ok-nodes.nodes.items in
    let order = c.in_ok-visits.visits in
    let a = c.args.first in
    let b = c.args.second in
    let first : c.at-first.result ≡ number a = c.at-first.ensures in
    let second : c.at-second.result ≡ number b = c.at-second.ensures in
    let visits : Visits q order [] (number a ∷ number b ∷ []) =
    subst (λ (m : ℕ). Visits q order [] (m ∷ number b ∷ [])) first
    (subst (λ (n : ℕ). Visits q order [] (c.at-first.result ∷ n ∷ [])) second
    (subst (λ (ns : List Node). Visits ns order [] (c.at-first.result ∷ c.at-second.result ∷ [])) c.deref.ensures.value c.in_ok-visits.ensures.visits)) in
    let copies : IsRenumbered q order c.in_ok-renumbered.field-0.items =
    subst (λ (ns : List Node). IsRenumbered ns order c.in_ok-renumbered.field-0.items) c.deref-2.ensures.value c.in_ok-renumbered.ensures in
    search_finds c.args.g.now number q a b c.in_ok-renumbered.field-0.items c.place.result c.place-2.result c.requires.made.graph c.in_ok-numbers.ensures.numbered c.in_ok-nodes.ensures.by_number c.requires.first c.requires.second
    (record { order = order; visits = visits; copies = copies; first = c.place.ensures ∙ ap Some first; second = c.place-2.ensures ∙ ap Some second })

pub visited-requires-clause-small : goal.visited-requires-clause-small
visited-requires-clause-small c = let long = c.in_ok-nodes.ensures.long in let few = c.in_ok-numbers.ensures.few in let same = c.deref.ensures.len in omega (arith, long, few, same)
