use Rattle.std.proofs.Common.{ℕ, List, [], ◌≡◌, ◌∙◌, sym, subst, ap, arith, eqb-true}
use Rattle.pv_loops.proofs.Words.{Groups, group_of, AreRest, IsOrder}
use Rattle.pv_loops.proofs.Orders.{reversed_shape, one_reduces, one_ordered, none_left}
use Rattle.pv_loops.proofs.order.ordered.Goals as goal

pub collapse-requires-clause-shape : goal.collapse-requires-clause-shape
collapse-requires-clause-shape c = reversed_shape c.args.shape.now c.args.sources.now c.requires.shape c.requires.sources

pub into_stuck-requires-clause-shape : goal.into_stuck-requires-clause-shape
into_stuck-requires-clause-shape c = reversed_shape c.args.shape.now c.args.sources.now c.requires.shape c.requires.sources

pub returns-clause-reducible : goal.returns-clause-reducible
returns-clause-reducible c =
    let none : c.in_ok-reduction.rest.items ≡ [] = none_left c.in_ok-reduction.rest.items (omega (arith, c.in_ok-reduction.rest.ok, eqb-true _ _ (sym c.is_empty.ensures ∙ c.if-not-is_empty.false))) in
    one_reduces c.args.shape.now c.in_ok-reduction.reduction c.in_ok-reduction.ensures.groups (subst (λ (l : List ℕ). AreRest c.in_ok-reduction.reduction.groups l) none c.in_ok-reduction.ensures.rest) (c.in_ok-reduction.ensures.reduced c.args.shape.now c.requires.sources)

pub returns-clause-order : goal.returns-clause-order
returns-clause-order c =
    let none : c.in_ok-reduction.rest.items ≡ [] = none_left c.in_ok-reduction.rest.items (omega (arith, c.in_ok-reduction.rest.ok, eqb-true _ _ (sym c.is_empty.ensures ∙ c.if-not-is_empty.false))) in
    let order = one_ordered c.args.shape.now c.args.sources.now c.in_ok-reduction.reduction (reversed_shape c.args.shape.now c.args.sources.now c.requires.shape c.requires.sources) c.requires.sources c.in_ok-reduction.ensures.groups
    (subst (λ (l : List ℕ). AreRest c.in_ok-reduction.reduction.groups l) none c.in_ok-reduction.ensures.rest) (c.in_ok-reduction.ensures.reduced c.args.shape.now c.requires.sources) in
    subst (λ (l : List ℕ). IsOrder c.args.sources.now l c.into_order-nodes.result.1.items) (sym (c.into_order-nodes.ensures.nodes ∙ ap (λ (g : Groups). group_of g 0) c.into_groups.ensures))
    (subst (λ (l : List ℕ). IsOrder c.args.sources.now (group_of c.in_ok-reduction.reduction.groups 0) l) (sym (c.into_order-nodes.ensures.place ∙ ap (λ (g : Groups). g.place.items) c.into_groups.ensures)) order)
