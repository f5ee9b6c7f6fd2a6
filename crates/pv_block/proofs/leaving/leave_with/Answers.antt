use Rattle.std.proofs.Common.{sym, subst, ◌∙◌}
use Rattle.pv_block.proofs.Words.{grows_same, grows_then, IsSortedEnding, ended}
use Rattle.pv_frame.specs.declared.sort.Sort.TheVariants as sort
use Rattle.pv_block.proofs.Exits.{ending_on, ended_sorted}
use Rattle.pv_block.proofs.Operands.{row_fit, same_left, left_sorted, ends_from, goes_from, goes_none}
use Rattle.pv_block.proofs.leaving.leave_with.Goals as goal

pub left-requires-clause-fit : goal.left-requires-clause-fit
left-requires-clause-fit c =
    row_fit c.args.g.now c.args.g.now c.args.gives c.args.next c.args.action.now c.args.held c.args.operands.now c.in_ok-row.row c.deref.result.now c.in_ok-row.ensures (c.deref.ensures.value ∙ c.in_ok-given.ensures) (grows_same c.args.g.now c.requires.sorted.graph)
    c.requires.plain c.requires.gives c.requires.sorted c.requires.operands c.requires.takes

pub returns-then-ends_method-clause-stands : goal.returns-then-ends_method-clause-stands
returns-then-ends_method-clause-stands c =
    ends_from c.args.gives c.args.next c.args.action.now c.args.g.now c.left.new.g c.args.held c.args.operands.now c.requires.known c.in_ok-left.field-0 (sym c.ends_method.ensures ∙ c.if-ends_method.true)
    (same_left c.in_ok-row.row _ c.deref.result.now _ c.ended-ends.result _ c.args.g.now.nodes c.left.new.g.nodes c.args.held c.in_ok-left.field-0 c.in_ok-row.ensures (c.deref.ensures.value ∙ c.in_ok-given.ensures) c.ended-ends.ensures c.in_ok-left.ensures.leaves)

pub returns-then-ends_method-clause-sorted : goal.returns-then-ends_method-clause-sorted
returns-then-ends_method-clause-sorted c =
    left_sorted c.args.g.now c.left.new.g c.args.g.now c.args.gives c.args.next c.args.action.now c.args.held c.args.operands.now c.in_ok-row.row c.deref.result.now c.in_ok-left.field-0 (grows_same c.args.g.now c.requires.sorted.graph)
    c.requires.plain c.requires.gives c.requires.sorted c.requires.operands c.requires.takes c.in_ok-row.ensures (c.deref.ensures.value ∙ c.in_ok-given.ensures) c.in_ok-left.ensures.sorted

pub returns-in_default-clause-stands : goal.returns-in_default-clause-stands
returns-in_default-clause-stands c =
    let acts = rw c.in_default.is at c.in_ok-after.ensures.acts in
    goes_none c.args.gives c.args.next c.args.action.now c.args.g.now c.act_on.new.g c.act_on.new.g c.args.held c.args.operands.now (sym c.ends_method.ensures ∙ c.if-ends_method.false) acts

pub left-requires-2-clause-ends : goal.left-requires-2-clause-ends
left-requires-2-clause-ends c = subst (IsSortedEnding c.act_on.new.g sort.Unknown) (sym c.ended-ends.ensures) (ending_on c.args.g.now c.act_on.new.g sort.Unknown (ended c.args.held) c.in_ok-after.ensures.grows (ended_sorted c.args.g.now c.args.held c.requires.sorted))

pub left-requires-2-clause-fit : goal.left-requires-2-clause-fit
left-requires-2-clause-fit c =
    row_fit c.args.g.now c.act_on.new.g c.args.gives c.args.next c.args.action.now c.args.held c.args.operands.now c.in_ok-row.row c.deref-2.result.now c.in_ok-row.ensures (c.deref-2.ensures.value ∙ c.in_ok-given.ensures) c.in_ok-after.ensures.grows
    c.requires.plain c.requires.gives c.requires.sorted c.requires.operands c.requires.takes

pub returns-in_err-left-2-clause-grows : goal.returns-in_err-left-2-clause-grows
returns-in_err-left-2-clause-grows c = grows_then c.args.g.now c.act_on.new.g c.left-2.new.g c.in_ok-after.ensures.grows c.left-2.ensures.grows

pub returns-clause-stands : goal.returns-clause-stands
returns-clause-stands c =
    let acts = rw c.in-Some.is at c.in_ok-after.ensures.acts in
    goes_from c.args.gives c.args.next c.args.action.now c.args.g.now c.left-2.new.g c.args.held c.args.operands.now c.requires.known c.in_ok-left-2.field-0 c.act_on.new.g c.in_ok-after.ensures.grows (sym c.ends_method.ensures ∙ c.if-ends_method.false) c.in-Some.after acts
    (same_left c.in_ok-row.row _ c.deref-2.result.now _ c.ended-ends.result _ c.act_on.new.g.nodes c.left-2.new.g.nodes c.in-Some.after c.in_ok-left-2.field-0 c.in_ok-row.ensures (c.deref-2.ensures.value ∙ c.in_ok-given.ensures) c.ended-ends.ensures c.in_ok-left-2.ensures.leaves)

pub returns-clause-sorted : goal.returns-clause-sorted
returns-clause-sorted c =
    left_sorted c.args.g.now c.left-2.new.g c.act_on.new.g c.args.gives c.args.next c.args.action.now c.args.held c.args.operands.now c.in_ok-row.row c.deref-2.result.now c.in_ok-left-2.field-0 c.in_ok-after.ensures.grows
    c.requires.plain c.requires.gives c.requires.sorted c.requires.operands c.requires.takes c.in_ok-row.ensures (c.deref-2.ensures.value ∙ c.in_ok-given.ensures) c.in_ok-left-2.ensures.sorted

pub returns-clause-grows : goal.returns-clause-grows
returns-clause-grows c = grows_then c.args.g.now c.act_on.new.g c.left-2.new.g c.in_ok-after.ensures.grows c.in_ok-left-2.ensures.grows
