use Rattle.std.proofs.Common.{◌≡◌, ℕ, ◌+◌, List, [], ◌∷◌, length, length-append, Some, slice_get, ap, sym, ◌∙◌, subst, arith}
use Rattle.pv_layout.proofs.Words.{Block, Writes, IsWritten}
use Rattle.pv_layout.proofs.Carries.{written_more}
use Rattle.pv_layout.proofs.carrying.all_written.Goals as goal

pub loop-block-preserved : goal.loop-block-preserved
loop-block-preserved c = record {
  count = ap length c.in_ok-push.ensures.items ∙ length-append c.loop-block.all.items (c.in_ok-written.field-0 ∷ []) ∙ ap (λ (n : ℕ). n + 1) c.loop-block.invariant.count;
  each = subst (λ (all : List Writes). (n : ℕ) (w : Writes) → slice_get all n ≡ Some w → (b : Block) → slice_get c.args.blocks.now n ≡ Some b → IsWritten c.args.typed.now.program c.args.typed.now.frames b w) (sym c.in_ok-push.ensures.items)
      (written_more c.args.typed.now.program c.args.typed.now.frames c.args.blocks.now c.loop-block.all.items c.loop-block.block-index c.block-item.result _ c.in_ok-written.field-0 c.loop-block.invariant.count c.block-item.is c.in_ok-written.ensures
      c.loop-block.invariant.each);
}

pub returns : goal.returns
returns c = record {
  size = c.loop-block.invariant.count ∙ (let z : c.loop-block.block-index ≡ length c.args.blocks.now = omega (arith, c.loop-block-test.false, c.loop-block.auto.block-index-end) in z);
  each = λ n b w at here. c.loop-block.invariant.each n w here b at;
}
