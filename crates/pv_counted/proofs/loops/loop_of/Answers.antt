use Rattle.std.proofs.Common.{ℕ, subst}
use Rattle.pv_counted.specs.Recognized.{IsLoopThatStays}
use Rattle.pv_counted.proofs.Recognizing.{counts_up_is, depth_at, is_counts_up, match_same}
use Rattle.pv_counted.proofs.loops.loop_of.Goals as goal

pub returns-in-Some : goal.returns-in-Some
returns-in-Some c =
    match_same c.staying.result _ _ _ _ c.staying.ensures
    (λ none start bound up.
    let l = counts_up_is c.args.g.now c.args.p start bound up in
    let same = depth_at c.args.g.now c.args.p l.0 start bound c.node.result.now c.in-Some.depth l.1.0 c.node.ensures c.in-Some.ensures in
    none start bound (subst (λ (d : ℕ). IsLoopThatStays c.args.g.now c.args.p d start bound) same l.1))
    (λ l h. (h.0, is_counts_up c.args.g.now c.args.p c.in-Some.depth l.start l.bound h.1))
