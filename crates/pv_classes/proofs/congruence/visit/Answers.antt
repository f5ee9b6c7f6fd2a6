use Rattle.std.proofs.Common.{◌≡◌, ◌<◌, ℕ, get_or, sym, ap, ◌∙◌, subst}
use Rattle.std.proofs.lemmas.Result.{on_ok_weaker}
use Rattle.std.proofs.lemmas.List.Elements.{Contains-get_or}
use Rattle.pv_classes.specs.declared.congruence.Known.{Known}
use Rattle.pv_classes.specs.Index.{found_by, first_of, found_in}
use Rattle.pv_classes.specs.Congruence.{index_of}
use Rattle.pv_classes.proofs.Visiting.{found_below, same_advances, join_tracked, join_advances, insert_tracked, insert_advances}
use Rattle.pv_classes.proofs.congruence.visit.Goals as goal

pub key_of-requires : goal.key_of-requires
key_of-requires c k d lt =
    subst (λ (m : ℕ). get_or c.node.result.now.kids k d < m) (sym c.requires.index.long)
    (c.requires.index.kids c.args.n (get_or c.node.result.now.kids k d) c.node.result.now c.node.ensures (Contains-get_or c.node.result.now.kids k d lt))

pub label-requires : goal.label-requires
label-requires c =
    let own = c.args.congruence.now.own in
    let found : found_by (index_of c.args.congruence.now) c.in_ok-key.key ≡ c.in_ok-e.field-0 = ap (λ (v : Known). first_of (found_in own c.in_ok-key.key) (found_in v.table c.in_ok-key.key)) (sym c.deref.ensures) ∙ sym c.in_ok-e.ensures.found in
    subst (λ (m : ℕ). c.in-Some.e < m) (sym c.requires.index.long) (found_below c.args.g.now.nodes (index_of c.args.congruence.now) c.requires.index c.args.n c.node.result.now c.node.ensures c.in_ok-key.key c.in_ok-key.ensures c.look_up.new.by_own.items c.in_ok-e.ensures.notes c.in-Some.e (found ∙ c.in-Some.is))

pub join_nodes-requires-clause-first : goal.join_nodes-requires-clause-first
join_nodes-requires-clause-first c =
    let own = c.args.congruence.now.own in
    let found : found_by (index_of c.args.congruence.now) c.in_ok-key.key ≡ c.in_ok-e.field-0 = ap (λ (v : Known). first_of (found_in own c.in_ok-key.key) (found_in v.table c.in_ok-key.key)) (sym c.deref.ensures) ∙ sym c.in_ok-e.ensures.found in
    subst (λ (m : ℕ). c.in-Some.e < m) (sym c.requires.index.long) (found_below c.args.g.now.nodes (index_of c.args.congruence.now) c.requires.index c.args.n c.node.result.now c.node.ensures c.in_ok-key.key c.in_ok-key.ensures c.look_up.new.by_own.items c.in_ok-e.ensures.notes c.in-Some.e (found ∙ c.in-Some.is))

pub returns-then-label-clause-ok : goal.returns-then-label-clause-ok
returns-then-label-clause-ok c =
    let own = c.args.congruence.now.own in
    let found : found_by (index_of c.args.congruence.now) c.in_ok-key.key ≡ c.in_ok-e.field-0 = ap (λ (v : Known). first_of (found_in own c.in_ok-key.key) (found_in v.table c.in_ok-key.key)) (sym c.deref.ensures) ∙ sym c.in_ok-e.ensures.found in
    (λ fixed out. same_advances c.args.g.now.nodes (index_of c.args.congruence.now) c.requires.index c.args.n c.node.result.now c.node.ensures c.in_ok-key.key c.in_ok-key.ensures c.look_up.new.by_own.items c.in_ok-e.ensures.notes c.in-Some.e (found ∙ c.in-Some.is) fixed c.args.joins.now.items)

pub returns-in_default-clause-tracked : goal.returns-in_default-clause-tracked
returns-in_default-clause-tracked c =
    let own = c.args.congruence.now.own in
    let found : found_by (index_of c.args.congruence.now) c.in_ok-key.key ≡ c.in_ok-e.field-0 = ap (λ (v : Known). first_of (found_in own c.in_ok-key.key) (found_in v.table c.in_ok-key.key)) (sym c.deref.ensures) ∙ sym c.in_ok-e.ensures.found in
    on_ok_weaker c.insert.result (λ h. insert_tracked c.args.g.now.nodes (index_of c.args.congruence.now) c.requires.index c.args.n c.node.result.now c.node.ensures c.in_ok-key.key c.in_ok-key.ensures c.look_up.new.by_own.items c.in_ok-e.ensures.notes (found ∙ c.in_default.is) _ (h c.args.congruence.now.parts c.args.congruence.now.waiting.items)) c.insert.ensures

pub returns-in_default-clause-ok : goal.returns-in_default-clause-ok
returns-in_default-clause-ok c =
    let own = c.args.congruence.now.own in
    let found : found_by (index_of c.args.congruence.now) c.in_ok-key.key ≡ c.in_ok-e.field-0 = ap (λ (v : Known). first_of (found_in own c.in_ok-key.key) (found_in v.table c.in_ok-key.key)) (sym c.deref.ensures) ∙ sym c.in_ok-e.ensures.found in
    on_ok_weaker c.insert.result (λ h. (λ fixed out. insert_advances c.args.g.now.nodes (index_of c.args.congruence.now) c.requires.index c.args.n c.node.result.now c.node.ensures c.in_ok-key.key c.in_ok-key.ensures c.look_up.new.by_own.items c.in_ok-e.ensures.notes (found ∙ c.in_default.is) _ (h c.args.congruence.now.parts c.args.congruence.now.waiting.items) fixed c.args.joins.now.items)) c.insert.ensures

pub returns-clause-tracked : goal.returns-clause-tracked
returns-clause-tracked c =
    let own = c.args.congruence.now.own in
    let found : found_by (index_of c.args.congruence.now) c.in_ok-key.key ≡ c.in_ok-e.field-0 = ap (λ (v : Known). first_of (found_in own c.in_ok-key.key) (found_in v.table c.in_ok-key.key)) (sym c.deref.ensures) ∙ sym c.in_ok-e.ensures.found in
    on_ok_weaker c.join_nodes.result (λ h. join_tracked c.args.g.now.nodes (index_of c.args.congruence.now) c.requires.index c.args.n c.node.result.now c.node.ensures c.in_ok-key.key c.in_ok-key.ensures c.look_up.new.by_own.items c.in_ok-e.ensures.notes c.in-Some.e (found ∙ c.in-Some.is) _ _ _ h) c.join_nodes.ensures.ok

pub returns-clause-ok : goal.returns-clause-ok
returns-clause-ok c =
    let own = c.args.congruence.now.own in
    let found : found_by (index_of c.args.congruence.now) c.in_ok-key.key ≡ c.in_ok-e.field-0 = ap (λ (v : Known). first_of (found_in own c.in_ok-key.key) (found_in v.table c.in_ok-key.key)) (sym c.deref.ensures) ∙ sym c.in_ok-e.ensures.found in
    on_ok_weaker c.join_nodes.result
    (λ h. join_advances c.args.g.now.nodes (index_of c.args.congruence.now) c.requires.index c.args.n c.node.result.now c.node.ensures c.in_ok-key.key c.in_ok-key.ensures c.look_up.new.by_own.items c.in_ok-e.ensures.notes c.in-Some.e (found ∙ c.in-Some.is) _ _ _ h c.requires.joined
    (λ one. c.if-label.false (c.label.ensures ∙ one ∙ sym c.label-2.ensures)))
    c.join_nodes.ensures.ok
