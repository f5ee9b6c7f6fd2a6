use Rattle.std.proofs.Common.{◌≡◌, ℕ, ◌+◌, List, [], ◌∷◌, length, length-append, ◌<◌, Some, slice_get, ap, sym, ◌∙◌, subst, arith}
use Rattle.pv_layout.proofs.Words.{Contains, Block, Loop, Writes, AllRunThrough, AreWritten, Unites, IsCarried}
use Rattle.pv_layout.proofs.Carries.{run_through, loop_at, members_low, are_of_size, is_carried, carried_more}
use Rattle.pv_layout.proofs.carrying.slots_carried.Goals as goal

pub all_written-requires : goal.all_written-requires
all_written-requires c =
    subst (λ (blocks : List Block). AllRunThrough c.args.typed.now.program c.args.typed.now.frames blocks) (sym c.as_slice.ensures)
    (run_through c.args.typed.now.program c.args.typed.now.frames c.args.flow.now.blocks c.args.forest.now c.requires)

pub united-requires-clause-size : goal.united-requires-clause-size
united-requires-clause-size c n w at =
    let here : slice_get c.in_ok-blocks.blocks.items n ≡ Some w = ap (λ (all : List Writes). slice_get all n) (sym c.deref.ensures.value) ∙ at in
    are_of_size c.args.typed.now.program c.args.typed.now.frames c.as_slice.result.now c.in_ok-blocks.blocks.items c.in_ok-blocks.ensures n w here ∙ sym c.from-count.ensures

pub united-requires-clause-below : goal.united-requires-clause-below
united-requires-clause-below c m among =
    let at = loop_at c.args.forest.now c.deref-one-items.result.now c.loop-one.one-index c.one-item.result _ c.deref-one-items.ensures.value c.loop-one-test.true c.one-item.is in
    let low = members_low c.args.typed.now.program c.args.typed.now.frames c.args.flow.now.blocks c.args.forest.now c.requires c.loop-one.one-index c.one-item.result at m (subst (λ (ms : List ℕ). Contains ms m) c.deref-in-loop-one.ensures.value among) in
    let size : length c.deref.result.now ≡ length c.args.flow.now.blocks = ap length c.deref.ensures.value ∙ c.in_ok-blocks.ensures.size ∙ ap length c.as_slice.ensures in
    subst (λ (n : ℕ). m < n) (sym size) low

pub loop-one-preserved : goal.loop-one-preserved
loop-one-preserved c =
    let p = c.args.typed.now.program in
    let frames = c.args.typed.now.frames in
    let blocks = c.args.flow.now.blocks in
    let forest = c.args.forest.now in
    let one = c.one-item.result in
    let at = loop_at forest c.deref-one-items.result.now c.loop-one.one-index one _ c.deref-one-items.ensures.value c.loop-one-test.true c.one-item.is in
    let written : AreWritten p frames blocks c.in_ok-blocks.blocks.items = subst (λ (bs : List Block). AreWritten p frames bs c.in_ok-blocks.blocks.items) c.as_slice.ensures c.in_ok-blocks.ensures in
    let w = c.in_ok-united.field-0 in
    let unites : Unites p.max_locals c.in_ok-blocks.blocks.items one.members.items w =
    subst (λ (ms : List ℕ). Unites p.max_locals c.in_ok-blocks.blocks.items ms w) c.deref-in-loop-one.ensures.value
    (subst (λ (all : List Writes). Unites p.max_locals all c.deref-in-loop-one.result.now w) c.deref.ensures.value (subst (λ (n : ℕ). Unites n c.deref.result.now c.deref-in-loop-one.result.now w) c.from-count.ensures c.in_ok-united.ensures)) in
    record {
      count = ap length c.in_ok-push.ensures.items ∙ length-append c.loop-one.all.items (w ∷ []) ∙ ap (λ (n : ℕ). n + 1) c.loop-one.invariant.count;
      each = subst (λ (all : List Writes). (i : ℕ) (v : Writes) → slice_get all i ≡ Some v → (k : Loop) → slice_get forest.loops.items i ≡ Some k → IsCarried p frames blocks forest k.header v) (sym c.in_ok-push.ensures.items)
          (carried_more p frames blocks forest c.loop-one.all.items c.loop-one.one-index one w c.loop-one.invariant.count at (is_carried p frames blocks forest c.requires c.in_ok-blocks.blocks.items written c.loop-one.one-index one at w unites)
          c.loop-one.invariant.each);
    }

pub returns : goal.returns
returns c =
    let all : c.loop-one.one-index ≡ length c.deref-one-items.result.now = omega (arith, c.loop-one-test.false, c.loop-one.auto.one-index-end) in
    record { size = c.loop-one.invariant.count ∙ all ∙ ap length c.deref-one-items.ensures.value; each = λ i l w at here. c.loop-one.invariant.each i w here l at }
