use Rattle.std.proofs.Common.{◌≡◌, ◌+◌, Bool, ap, sym, ◌∙◌, subst}
use Rattle.pv_layout.proofs.Words.{◌||◌, held_at, writes_heap, Walked}
use Rattle.pv_layout.proofs.Carries.{walk_begins, walk_goes_on, walk_ends}
use Rattle.pv_layout.proofs.carrying.written.Goals as goal
use Rattle.pv_layout.proofs.carrying.written.Goals.{then-heap, else-heap}

pub loop-action-init : goal.loop-action-init
loop-action-init c =
    walk_begins c.args.typed.now.program c.args.typed.now.frames c.args.block.now c.requires c.as_slice.result.now c.in-Some.frame c.in_ok-walk.walk _ c.as_slice.ensures (sym c.in-Some.is ∙ c.index-as_slice-block.is) c.in_ok-walk.ensures.knows c.in_ok-walk.ensures.written

pub loop-action-preserved : goal.loop-action-preserved
loop-action-preserved c f there =
    let heap : c.if-heap.heap ≡ (c.loop-action.heap || writes_heap c.action-item.result) = elim c.if-heap.branch [
      | then-heap w ↦ w.heap-is ∙ w.if-heap.true ∙ sym (ap (λ (b : Bool). b || writes_heap c.action-item.result) w.if-heap.true)
      | else-heap w ↦ w.heap-is ∙ w.writes_heap-heap.ensures ∙ sym (ap (λ (b : Bool). b || writes_heap c.action-item.result) w.if-heap.false)
    ] in
    subst (λ (b : Bool). Walked c.args.typed.now.program (held_at f) c.args.block.now.first (c.loop-action.action-index + 1) b c.act.new.self) (sym heap)
    (walk_goes_on c.args.typed.now.program c.args.typed.now.frames c.args.block.now c.requires c.as_slice-actions.result.now c.loop-action.action-index c.action-item.result _ c.loop-action.heap c.loop-action.walk c.act.new.self
    c.as_slice-actions.ensures c.loop-action-test.true c.action-item.is c.act.ensures f there (c.loop-action.invariant f there))

pub returns : goal.returns
returns c =
    walk_ends c.args.typed.now.program c.args.typed.now.frames c.args.block.now c.requires c.as_slice-actions.result.now c.loop-action.action-index c.loop-action.heap c.loop-action.walk c.as_slice-actions.ensures c.loop-action.auto.action-index-end
    c.loop-action-test.false c.loop-action.invariant
