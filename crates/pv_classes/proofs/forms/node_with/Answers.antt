use Rattle.std.proofs.Common.{List, ℕ, get_or, sym, ◌∙◌, ap, subst, ◌<◌}
use Rattle.std.specs.List.{Contains}
use Rattle.std.proofs.lemmas.Result.{IfOk-weaker}
use Rattle.std.proofs.lemmas.List.Elements.{Contains-get_or}
use Rattle.pv_graph.specs.declared.node.Node.{Node}
use Rattle.pv_classes.specs.Index.{found_by}
use Rattle.pv_classes.specs.Congruence.{index_of}
use Rattle.pv_classes.specs.Keyed.{IsKeyedIn}
use Rattle.pv_classes.proofs.Keying.{found_form, keyed_with}
use Rattle.pv_classes.proofs.forms.node_with.Goals as goal

pub returns-in-Some : goal.returns-in-Some
returns-in-Some c =
    let i = index_of c.args.congruence.now in
    found_form c.args.g.now.nodes i c.requires.index c.args.op.now c.args.over.now c.requires.over c.in-Some.n (ap (found_by i) (sym c.in_ok-key.ensures) ∙ sym c.get.ensures ∙ c.in-Some.is)

pub with_key-requires-clause-list : goal.with_key-requires-clause-list
with_key-requires-clause-list c k d lt =
    let list = c.deref.result.now in
    c.requires.index.waiting_in (get_or list k d) (subst (λ (ns : List ℕ). Contains ns (get_or list k d)) c.deref.ensures.value (Contains-get_or list k d lt))

pub with_key-requires-clause-kids : goal.with_key-requires-clause-kids
with_key-requires-clause-kids c n k node there has = subst (λ (m : ℕ). k < m) (sym c.requires.index.long) (c.requires.index.kids n k node there has)

pub returns : goal.returns
returns c =
    let i = index_of c.args.congruence.now in let nodes = c.args.g.now.nodes in let labels = c.args.congruence.now.parts.labels in
    IfOk-weaker c.with_key.result _ _
    (λ found h. keyed_with nodes i c.requires.index c.args.op.now c.args.over.now c.requires.over c.requires.tracked (ap (found_by i) (sym c.in_ok-key.ensures) ∙ sym c.get.ensures ∙ c.in-None.is) found
    (subst (λ (key : Node). IsKeyedIn nodes labels c.args.congruence.now.waiting.items key found) c.in_ok-key.ensures (subst (λ (ns : List ℕ). IsKeyedIn nodes labels ns c.in_ok-key.key found) c.deref.ensures.value h)))
    c.with_key.ensures
