use Rattle.std.proofs.Common.{ℕ, List, take, refl, subst, sym, arith, ◌+◌}
use Rattle.pv_loops.proofs.Words.{AddsSources}
use Rattle.pv_loops.proofs.Sources.{adds_more}
use Rattle.pv_loops.proofs.shape.add_sources.Goals as goal

pub loop-t-preserved : goal.loop-t-preserved
loop-t-preserved c =
    subst (λ (g : List (List ℕ)). AddsSources c.args.sources.now g c.args.n (take (c.loop-t.t-index + 1) c.args.targets.now)) (sym c.in_ok-push.ensures)
    (adds_more c.args.sources.now c.loop-t.sources c.args.n _ c.args.targets.now c.loop-t.t-index (omega arith) refl (omega (arith, c.requires c.loop-t.t-index 0 (omega arith), c.loop-t.invariant.size)) c.loop-t.invariant)
