use Rattle.std.proofs.Common.{◌≡◌, ℕ, ◌+◌, List, [], ◌∷◌, length, length-append, Some, slice_get, sym, ap, ◌∙◌, subst}
use Rattle.pv_build.proofs.Words.{TreeNode, grows_by_then, Source, loops_at, IsBeyond, IsSourceFor}
use Rattle.pv_decide.specs.declared.tree.TreeNode.TheVariants as node
use Rattle.pv_build.proofs.Staged.{stage_grown}
use Rattle.pv_build.proofs.Regions.{region_deep}
use Rattle.pv_build.proofs.Sourced.{sources_push}
use Rattle.pv_build.proofs.giving.sources.Goals as goal

pub returns-in_err-next-clause-grows : goal.returns-in_err-next-clause-grows
returns-in_err-next-clause-grows c = grows_by_then (IsBeyond (length (loops_at c.args.walk.now.method.now c.args.walk.now.at))) c.args.g.now c.loop-node.g c.source.new.g c.loop-node.invariant.grows c.source.ensures.grows

pub returns-in_err-push-clause-grows : goal.returns-in_err-push-clause-grows
returns-in_err-push-clause-grows c = grows_by_then (IsBeyond (length (loops_at c.args.walk.now.method.now c.args.walk.now.at))) c.args.g.now c.loop-node.g c.source.new.g c.loop-node.invariant.grows c.source.ensures.grows

pub loop-node-preserved : goal.loop-node-preserved
loop-node-preserved c =
    let R : List ℕ = loops_at c.args.walk.now.method.now c.args.walk.now.at in
    let old : List Source = c.loop-node.sources.items in
    let k : Source = c.in_ok-next.next in
    record {
      grows = grows_by_then (IsBeyond (length R)) c.args.g.now c.loop-node.g c.source.new.g c.loop-node.invariant.grows c.source.ensures.grows;
      stage = stage_grown c.args.walk.now.method.now c.loop-node.g c.source.new.g c.args.walk.now.made.now R (length R) (region_deep c.args.walk.now.method.now c.requires.walk.method c.args.walk.now.at c.requires.walk.region) c.source.ensures.grows c.loop-node.invariant.stage;
      count = ap length c.in_ok-push.ensures.items ∙ length-append old (k ∷ []) ∙ ap (λ (n : ℕ). n + 1) c.loop-node.invariant.count;
      each = subst (λ (ks : List Source). (n : ℕ) (y : TreeNode) (l : Source) → slice_get c.args.nodes.now n ≡ Some y → slice_get ks n ≡ Some l → IsSourceFor c.args.walk.now.method.now c.source.new.g c.args.walk.now.made.now.names c.args.walk.now.at c.args.walk.now.target y l) (sym c.in_ok-push.ensures.items)
          (sources_push c.args.walk.now.method.now c.requires.walk.method (IsBeyond (length R)) c.loop-node.g c.source.new.g c.source.ensures.grows c.args.walk.now.made.now.names c.args.walk.now.at c.args.walk.now.target c.args.nodes.now old c.loop-node.node-index (node.Leaf 0 0) k
          c.loop-node.invariant.count c.loop-node-test.true c.in_ok-next.ensures.source c.loop-node.invariant.each);
    }
