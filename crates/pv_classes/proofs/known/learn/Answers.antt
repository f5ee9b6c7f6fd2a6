use Rattle.std.proofs.Common.{◌≡◌, [], ℕ, List, length, inl, inr, ap, ◌∙◌, sym, subst, arith}
use Rattle.std.proofs.lemmas.Result.{on_ok_weaker}
use Rattle.pv_graph.specs.declared.node.Node.{Node}
use Rattle.pv_classes.specs.declared.congruence.Known.{Known}
use Rattle.pv_classes.specs.Index.{Index, IsIndex, IsTracked}
use Rattle.pv_classes.specs.Congruence.{index_of, index_with}
use Rattle.pv_classes.specs.Learning.{AreParents, HasMore, WaitToo}
use Rattle.pv_classes.proofs.Elements.{none_in}
use Rattle.pv_classes.proofs.Growing.{learnt_index, old_parents, grown_index, grown_tracked}
use Rattle.pv_classes.proofs.Learnt.{kid_below}
use Rattle.pv_classes.proofs.known.learn.Goals as goal

pub extend-requires-clause-parents : goal.extend-requires-clause-parents
extend-requires-clause-parents c =
    let nodes = c.args.g.now.nodes in
    let from = length c.args.congruence.now.parts.labels in
    let more = subst (λ (m : ℕ). HasMore c.args.congruence.now.parts c.add_parts.new.parts m) c.len-len.ensures.len c.in_ok-add_parts.ensures.more in
    let h = old_parents nodes from c.requires.few (index_of c.args.congruence.now) c.requires.index c.add_parts.new.parts c.add_parts.ensures.joined.parts more in
    subst (λ (m : ℕ). AreParents nodes m m c.in-Some.known.now.parents) (sym c.len-from.ensures.len) (subst (λ (v : Known). AreParents nodes from from v.parents) (sym c.in-Some.ensures.value) h)

pub returns-in_ok-extend-in-Some-clause-ok : goal.returns-in_ok-extend-in-Some-clause-ok
returns-in_ok-extend-in-Some-clause-ok c =
    let nodes = c.args.g.now.nodes in
    let from = length c.args.congruence.now.parts.labels in
    let old = index_of c.args.congruence.now in
    let p = c.add_parts.new.parts in
    let part = c.add_parts.ensures.joined.parts in
    let k = c.extend.new.known in
    let more = subst (λ (m : ℕ). HasMore c.args.congruence.now.parts p m) c.len-len.ensures.len c.in_ok-add_parts.ensures.more in
    let w = c.add_waiting.new.waiting.items in
    let same : ◌≡◌ {A = Index} (record { parts = p; parents = k.parents; by_number = k.by_number; shared = old.shared; own = old.own; waiting = w; by_own = old.by_own }) (index_with p k old.own w old.by_own) =
    ap (λ (t : List (Node × ℕ)). record { parts = p; parents = k.parents; by_number = k.by_number; shared = t; own = old.own; waiting = w; by_own = old.by_own })
    (ap (λ (v : Known). v.table) (sym c.in-Some.ensures.value) ∙ sym c.extend.ensures.table) in
    on_ok_weaker c.add_waiting.result
    (λ waits.
    let waits' = subst (λ (m : ℕ). WaitToo old.waiting w m (length nodes)) c.len-from.ensures.len (subst (λ (m : ℕ). WaitToo old.waiting w c.len-from.result m) c.len-len.ensures.len waits) in
    record {
      more = more;
      index = subst (λ (i : Index). IsIndex nodes i) same
          (grown_index nodes from c.requires.few old c.requires.index p part more k.parents k.by_number w (λ n l node is there. kid_below c.args.g.now c.len-len.ensures.graph n l node is there)
          c.in_ok-extend-in-Some.ensures.parents c.in_ok-extend-in-Some.ensures.numbered waits');
      tracked = λ n lt. subst (λ (i : Index). IsTracked nodes i n) same
          (grown_tracked nodes from c.requires.few old c.requires.index p part more k.parents k.by_number w (λ n l node is there. kid_below c.args.g.now c.len-len.ensures.graph n l node is there)
          c.in_ok-extend-in-Some.ensures.parents c.in_ok-extend-in-Some.ensures.numbered waits' c.requires.tracked n lt);
    })
    c.add_waiting.ensures

pub returns-in_ok-congruence-in-None-clause-ok : goal.returns-in_ok-congruence-in-None-clause-ok
returns-in_ok-congruence-in-None-clause-ok c =
    let nodes = c.args.g.now.nodes in
    let p = c.add_parts.new.parts in
    let k = c.extend-in-None.new.known in
    let w = c.add_waiting-in-None.new.waiting.items in
    let made : List (Node × ℕ) → List (Node × ℕ) → List ℕ → Index = λ shared own by_own_. record { parts = p; parents = k.parents; by_number = k.by_number; shared = shared; own = own; waiting = w; by_own = by_own_ } in
    let same = ap (λ (v : Known). index_with p v c.new-in-None.result w c.new-in-None-2.result.items) c.in_ok-congruence-in-None.ensures.ok
    ∙ ap (λ (t : List (Node × ℕ)). made t c.new-in-None.result c.new-in-None-2.result.items) (c.extend-in-None.ensures.table ∙ c.in_ok-known-in-None.ensures.table)
    ∙ ap (λ (t : List (Node × ℕ)). made [] t c.new-in-None-2.result.items) c.new-in-None.ensures
    ∙ ap (λ (s : List ℕ). made [] [] s) c.new-in-None-2.ensures.items in
    let more = subst (λ (m : ℕ). HasMore c.args.congruence.now.parts p m) c.len-len.ensures.len c.in_ok-add_parts.ensures.more in
    let waits = subst (λ (m : ℕ). WaitToo [] w 0 m) c.len-len.ensures.len
    (subst (λ (xs : List ℕ). WaitToo xs w 0 c.len-len.result) c.new-waiting.ensures.items c.in_ok-add_waiting-in-None.ensures) in
    record {
      more = more;
      index = subst (λ (i : Index). IsIndex nodes i) (sym same)
          (learnt_index nodes p k.parents k.by_number w c.add_parts.ensures.joined.parts more.long (λ n l node is there. kid_below c.args.g.now c.len-len.ensures.graph n l node is there)
          c.in_ok-extend-in-None.ensures.parents c.in_ok-extend-in-None.ensures.numbered (λ m there. elim ((waits m).0 there) [ inl d ↦ absurd (none_in m d) | inr d ↦ d.1 ]));
      tracked = λ n lt. inl ((waits n).1 (inr (omega arith, lt)));
    }
