use Rattle.std.proofs.Common.{◌≡◌, ◌<◌, ℕ, List, length, get_or, subst, arith}
use Rattle.pv_loops.proofs.Words.{Contains-get_or, Contains}
use Rattle.pv_loops.proofs.Sources.{AreSourcesBelow, sources_more, sources_all}
use Rattle.pv_loops.proofs.shape.sources.Goals as goal

pub add_sources-requires : goal.add_sources-requires
add_sources-requires c = λ k d h.
    let at : Contains c.targets.result.now (get_or c.targets.result.now k d) = Contains-get_or c.targets.result.now k d h in
    let lt : get_or c.targets.result.now k d < length c.args.shape.now = c.requires.within c.loop-n.n (get_or c.targets.result.now k d) (subst (λ (l : List ℕ). Contains l (get_or c.targets.result.now k d)) c.targets.ensures at) in
    omega (arith, lt, c.loop-n.invariant.size)

pub loop-n-preserved : goal.loop-n-preserved
loop-n-preserved c = sources_more c.args.shape.now c.loop-n.sources c.add_sources.new.sources c.loop-n.n c.targets.result.now c.targets.ensures c.loop-n.invariant c.in_ok-add_sources.ensures

pub returns : goal.returns
returns c =
    let at : c.loop-n.n ≡ length c.args.shape.now = omega arith in
    sources_all c.args.shape.now c.loop-n.sources (subst (λ (n : ℕ). AreSourcesBelow c.args.shape.now c.loop-n.sources n) at c.loop-n.invariant)
