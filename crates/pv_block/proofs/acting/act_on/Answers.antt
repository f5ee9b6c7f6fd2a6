use Rattle.std.proofs.Common.{◌≡◌, List, ℕ, ap, sym, subst, ◌∙◌}
use Rattle.pv_block.proofs.Words.{IfOk-weaker, Fit, given_nodes, HoldsAfter, SortedAfter}
use Rattle.pv_block.proofs.Holding.{rearranged_holds}
use Rattle.pv_block.proofs.Rearranged.{if_sorted}
use Rattle.pv_block.proofs.Changed.{reads_none, acts_by_effect, effect_fit, sorted_by_effect}
use Rattle.pv_block.proofs.acting.act_on.Goals as goal

pub returns-in_default-clause-acts : goal.returns-in_default-clause-acts
returns-in_default-clause-acts c =
    let none = rw c.in_default.is at c.in_ok-effect.ensures in
    IfOk-weaker c.rearranged.result _ _
    (λ o is. λ at h g ds hold z i.
    let b = rearranged_holds at c.args.g.now.nodes c.args.action.now c.args.held h g c.args.operands.now ds (sym none) hold z i in
    (b.0, is ∙ b.1, b.2))
    c.rearranged.ensures

pub returns-in_default-clause-sorted : goal.returns-in_default-clause-sorted
returns-in_default-clause-sorted c = IfOk-weaker c.rearranged.result _ _ (λ o is. if_sorted c.args.g.now c.args.action.now c.args.held c.args.operands.now o c.requires.sorted c.requires.operands is) c.rearranged.ensures

pub returns-in_default-2-clause-acts : goal.returns-in_default-2-clause-acts
returns-in_default-2-clause-acts c =
    let none = rw c.in_default-2.is at c.in_ok-cells.ensures in
    reads_none c.args.action.now c.in-Some.effect (sym c.in_ok-effect.ensures ∙ c.in-Some.is) c.args.g.now c.args.held c.args.operands.now c.args.g.now c.requires.known (sym none)

pub affected-requires-clause-fit : goal.affected-requires-clause-fit
affected-requires-clause-fit c =
    let e = c.in-Some.effect in
    let cells = c.in-Some-2.cells.items in
    let read = rw c.in-Some-2.is at c.in_ok-cells.ensures in
    let given : c.deref-2.result.now ≡ given_nodes c.args.held cells = c.deref-2.ensures.value ∙ c.in_ok-given.ensures ∙ ap (given_nodes c.args.held) c.deref.ensures.value in
    subst (λ (ns : List ℕ). Fit c.args.g.now ns e.lines) (sym given)
    (effect_fit c.args.action.now e (sym c.in_ok-effect.ensures ∙ c.in-Some.is) c.args.g.now c.args.held c.args.operands.now cells (sym read) c.requires.plain c.requires.sorted c.requires.operands c.requires.takes)

pub returns-clause-acts : goal.returns-clause-acts
returns-clause-acts c =
    let e = c.in-Some.effect in
    let cells = c.in-Some-2.cells.items in
    let after = c.in_ok-affected.field-0 in
    let read = rw c.in-Some-2.is at c.in_ok-cells.ensures in
    let given : c.deref-2.result.now ≡ given_nodes c.args.held cells = c.deref-2.ensures.value ∙ c.in_ok-given.ensures ∙ ap (given_nodes c.args.held) c.deref.ensures.value in
    acts_by_effect c.args.action.now e (sym c.in_ok-effect.ensures ∙ c.in-Some.is) c.args.g.now c.args.held c.args.operands.now cells (sym read) c.affected.new.g after c.requires.known
    (subst (λ (ns : List ℕ). HoldsAfter e c.args.g.now.nodes ns c.args.held c.affected.new.g.nodes after) given c.in_ok-affected.ensures.holds)

pub returns-clause-sorted : goal.returns-clause-sorted
returns-clause-sorted c =
    let e = c.in-Some.effect in
    let cells = c.in-Some-2.cells.items in
    let after = c.in_ok-affected.field-0 in
    let read = rw c.in-Some-2.is at c.in_ok-cells.ensures in
    let given : c.deref-2.result.now ≡ given_nodes c.args.held cells = c.deref-2.ensures.value ∙ c.in_ok-given.ensures ∙ ap (given_nodes c.args.held) c.deref.ensures.value in
    sorted_by_effect c.args.action.now e (sym c.in_ok-effect.ensures ∙ c.in-Some.is) c.args.g.now c.args.held c.args.operands.now cells (sym read) c.requires.plain c.requires.sorted c.requires.operands c.requires.takes c.affected.new.g after
    (subst (λ (ns : List ℕ). SortedAfter e c.args.g.now ns c.affected.new.g after) given c.in_ok-affected.ensures.sorted)
