use Rattle.std.proofs.Math.ListN.{get_or}
use Rattle.std.proofs.Common.{ℕ, List, ◌∷◌, ◌++◌, [], ◌∙◌, ap, sym, take, take_all}
use Rattle.pv_explain.specs.Iterations.{both_copies}
use Rattle.pv_explain.proofs.Beginning.{copies_more, no_begun, take_at}
use Rattle.pv_explain.proofs.induction.copies_of_pairs.Goals as goal

pub loop-pair-preserved : goal.loop-pair-preserved
loop-pair-preserved c =
    let i = c.loop-pair.pair-index in
    let b = (get_or c.args.begun.now c.loop-pair.pair-index no_begun) in
    c.in_ok-push.ensures.items ∙ ap (λ (ps : List (ℕ × ℕ)). ps ++ (b.left.copy, b.right.copy) ∷ []) c.loop-pair.invariant ∙ sym (copies_more (take i c.args.begun.now) b) ∙ ap both_copies (take_at c.args.begun.now i no_begun c.loop-pair-test.true)

pub returns : goal.returns
returns c = c.loop-pair.invariant ∙ ap both_copies (take_all c.loop-pair.pair-index c.args.begun.now c.loop-pair-test.false)
