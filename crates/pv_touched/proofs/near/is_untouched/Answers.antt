use Rattle.std.proofs.Common.{ℕ, List, subst, arith}
use Rattle.pv_touched.specs.Far.{AllClear, IsOld}
use Rattle.pv_touched.proofs.Clear.{kids_clear, on_true_more}
use Rattle.pv_touched.proofs.near.is_untouched.Goals as goal

pub returns : goal.returns
returns c =
    let s = c.args.since.now in
    on_true_more c.all_clear.result (AllClear s.numbers.now c.args.near.now c.as_slice.result.now) (IsOld c.args.graph.now s c.args.near.now c.args.n)
    (λ all. (
      omega (arith, c.if-n-since.false),
      kids_clear c.args.graph.now s.numbers.now c.args.near.now c.args.n c.node.result.now c.node.ensures (subst (λ (ks : List ℕ). AllClear s.numbers.now c.args.near.now ks) c.as_slice.ensures all),
    ))
    c.all_clear.ensures
