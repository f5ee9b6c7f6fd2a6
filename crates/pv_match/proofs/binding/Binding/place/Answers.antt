use Rattle.std.proofs.Common.{◌≡◌, ◌<◌, ◌||◌, ◌∷◌, [], Bool, false, List, length, map, take, get_or, sym, ap, ◌∙◌, subst, arith}
use Rattle.std.proofs.lemmas.List.{take_more, map-append}
use Rattle.pv_graph.specs.Walks.{In}
use Rattle.pv_graph.proofs.Cited.{in_at}
use Rattle.pv_pattern.specs.declared.names.NameId.{NameId}
use Rattle.pv_pattern.specs.declared.names.NameId.TheVariants.{Depth}
use Rattle.pv_match.specs.declared.binding.Named.{Named}
use Rattle.pv_match.specs.Parameters.{is_among}
use Rattle.pv_match.specs.Bindings.{named}
use Rattle.pv_pattern.specs.Found.{same_name}
use Rattle.pv_match.proofs.Naming.{same_names}
use Rattle.pv_match.proofs.Finish.{among_in, among_append, or_none}
use Rattle.pv_match.proofs.binding.Binding.place.Goals as goal

abbrev d : Named
d = record { name = Depth; node = 0 }

here : (c : goal.Then-is_same) → In c.args.self.now.names.items (named c.args.name (get_or c.deref-named-items.result.now c.loop-named.named-index d).node)
here c =
    let x : Named = get_or c.deref-named-items.result.now c.loop-named.named-index d in
    let i : In c.deref-named-items.result.now x = in_at c.deref-named-items.result.now c.loop-named.named-index d c.loop-named-test.true in
    let e : x.name ≡ c.args.name = same_names x.name c.args.name (sym c.is_same.ensures ∙ c.if-is_same.true) in
    subst (λ (xs : List Named). In xs (named c.args.name x.node)) c.deref-named-items.ensures.value (subst (λ (n : NameId). In c.deref-named-items.result.now (named n x.node)) e i)

pub returns-then-is_same : goal.returns-then-is_same
returns-then-is_same c = (among_in c.args.self.now.names.items (named c.args.name (get_or c.deref-named-items.result.now c.loop-named.named-index d).node) (here c), here c)

pub loop-named-preserved : goal.loop-named-preserved
loop-named-preserved c =
    let x : Named = get_or c.deref-named-items.result.now c.loop-named.named-index d in
    let lt : c.loop-named.named-index < length c.args.self.now.names.items = omega (arith, c.loop-named-test.true, ap (λ (xs : List Named). length xs) c.deref-named-items.ensures.value) in
    let at : x ≡ get_or c.args.self.now.names.items c.loop-named.named-index d = ap (λ (xs : List Named). get_or xs c.loop-named.named-index d) c.deref-named-items.ensures.value in
    ap (λ (xs : List Named). is_among (map (λ y. y.name) xs) c.args.name) (take_more c.args.self.now.names.items c.loop-named.named-index d lt)
    ∙ (ap (λ (ns : List NameId). is_among ns c.args.name) (map-append (λ (y : Named). y.name) (take c.loop-named.named-index c.args.self.now.names.items) (get_or c.args.self.now.names.items c.loop-named.named-index d ∷ []))
    ∙ (among_append (map (λ y. y.name) (take c.loop-named.named-index c.args.self.now.names.items)) ((get_or c.args.self.now.names.items c.loop-named.named-index d).name ∷ []) c.args.name
    ∙ or_none (is_among (map (λ y. y.name) (take c.loop-named.named-index c.args.self.now.names.items)) c.args.name) (is_among ((get_or c.args.self.now.names.items c.loop-named.named-index d).name ∷ []) c.args.name) c.loop-named.invariant
    (ap (λ (t : Bool). t || false) (ap (λ (y : Named). same_name y.name c.args.name) (sym at) ∙ (sym c.is_same.ensures ∙ c.if-is_same.false)))))
