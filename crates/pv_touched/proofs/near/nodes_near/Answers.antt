use Rattle.std.proofs.Common.{◌+◌, ℕ, Vec, true≢false, sym, ap, ◌∙◌, subst}
use Rattle.std.specs.declared.alloc.Global.{Global}
use Rattle.pv_match.specs.Kept.{IsKept}
use Rattle.pv_touched.specs.Far.{IsOld, ListsNearBelow}
use Rattle.pv_touched.proofs.Clear.{lists_pushed, lists_kept, on_true}
use Rattle.pv_touched.proofs.near.nodes_near.Goals.{then-is_kept+then-not-is_untouched+in_ok-push, else-is_kept, else-is_kept-via-then-is_kept+else-not-is_untouched, else-is_kept-via-else-is_kept}
use Rattle.pv_touched.proofs.near.nodes_near.Goals as goal

pub loop-n-preserved : goal.loop-n-preserved
loop-n-preserved c =
    let g = c.args.graph.now in
    let s = c.args.since.now in
    let kept = c.args.kept.now in
    let near = c.args.near.now in
    let n = c.loop-n.n in
    elim c.if-is_kept.branch [
      | then-is_kept+then-not-is_untouched+in_ok-push w ↦
          subst (ListsNearBelow (n + 1) g s kept near) (sym (ap (λ (v : Vec ℕ Global). v.items) w.touched-is ∙ w.in_ok-push.ensures.items)) (lists_pushed g s kept near n c.loop-n.touched.items c.loop-n.invariant)
      | else-is_kept w ↦
          let old : IsKept kept n → IsOld g s near n = elim w.else-is_kept.branch [
            | else-is_kept-via-then-is_kept+else-not-is_untouched v ↦ λ k. on_true v.is_untouched.result (IsOld g s near n) v.if-not-is_untouched.false v.is_untouched.ensures
            | else-is_kept-via-else-is_kept v ↦ λ k. absurd (true≢false (sym (c.is_kept.ensures.1 k) ∙ v.if-is_kept.false))
          ] in
          subst (ListsNearBelow (n + 1) g s kept near) (sym (ap (λ (v : Vec ℕ Global). v.items) w.touched-is)) (lists_kept g s kept near n c.loop-n.touched.items c.loop-n.invariant old)
    ]
