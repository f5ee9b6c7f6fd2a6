use Rattle.std.proofs.Common.{◌++◌, ◌∷◌, [], ℕ, List, take, slice_index, true≢false, sym, ap, ◌∙◌, subst}
use Rattle.std.specs.declared.alloc.Global.{Global}
use Rattle.std.proofs.Common.{Vec}
use Rattle.std.proofs.lemmas.List.{take_more}
use Rattle.pv_match.specs.Kept.{AddsKept}
use Rattle.pv_match.proofs.Forms.{adds_one, adds_other}
use Rattle.pv_match.proofs.kept.add_kept.Goals.{then-is_kept+in_ok-push, else-is_kept}
use Rattle.pv_match.proofs.kept.add_kept.Goals as goal

pub loop-n-preserved : goal.loop-n-preserved
loop-n-preserved c =
    let n : ℕ = slice_index c.args.nodes.now c.loop-n.n-index in
    let before : List ℕ = take c.loop-n.n-index c.args.nodes.now in
    subst (λ (ns : List ℕ). AddsKept c.args.kept.now ns c.args.list.now.items c.if-is_kept.list.items) (sym (take_more c.args.nodes.now c.loop-n.n-index 0 c.loop-n-test.true))
    (elim c.if-is_kept.branch [
      | then-is_kept+in_ok-push w ↦
          subst (AddsKept c.args.kept.now (before ++ n ∷ []) c.args.list.now.items) (sym (ap (λ (v : Vec ℕ Global). v.items) w.list-is ∙ w.in_ok-push.ensures.items)) (adds_one c.args.kept.now before c.args.list.now.items c.loop-n.list.items n c.loop-n.invariant)
      | else-is_kept w ↦
          subst (AddsKept c.args.kept.now (before ++ n ∷ []) c.args.list.now.items) (sym (ap (λ (v : Vec ℕ Global). v.items) w.list-is))
          (adds_other c.args.kept.now before c.args.list.now.items c.loop-n.list.items n (λ k. true≢false (sym (c.is_kept.ensures.1 k) ∙ w.if-is_kept.false)) c.loop-n.invariant)
    ])
