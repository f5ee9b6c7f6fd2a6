use Rattle.std.proofs.Common.{List, sym, subst}
use Rattle.pv_build.proofs.Words.{TreeNode, AreSound, IsTreeOf, IsSound, region_at, scope_at, AreSourcesFor}
use Rattle.pv_decide.specs.declared.tree.Region.{Region}
use Rattle.pv_build.proofs.Sourced.{sound_in, tree_gives, given_for}
use Rattle.pv_build.proofs.giving.tree_for.Goals as goal

pub sources-requires-clause-fits : goal.sources-requires-clause-fits
sources-requires-clause-fits c =
    let sound : IsSound c.args.method.now.trees (region_at c.args.at) c.args.target c.in_ok-tree.tree = subst (λ (r : Region). IsSound c.args.method.now.trees r c.args.target c.in_ok-tree.tree) c.region.ensures c.in_ok-tree.ensures.sound in
    subst (λ (nodes : List TreeNode). AreSound c.args.method.now.trees.sites.items (scope_at c.args.method.now c.args.at) c.args.target nodes) (sym c.deref.ensures.value)
    (sound_in c.args.method.now c.requires.method c.args.at c.requires.region c.args.target c.in_ok-tree.tree.nodes.items sound.nodes)

pub returns-clause-given : goal.returns-clause-given
returns-clause-given c =
    let sound : IsSound c.args.method.now.trees (region_at c.args.at) c.args.target c.in_ok-tree.tree = subst (λ (r : Region). IsSound c.args.method.now.trees r c.args.target c.in_ok-tree.tree) c.region.ensures c.in_ok-tree.ensures.sound in
    let gives : IsTreeOf c.args.method.now.trees (region_at c.args.at) c.args.target c.in_ok-tree.tree = subst (λ (r : Region). IsTreeOf c.args.method.now.trees r c.args.target c.in_ok-tree.tree) c.region.ensures c.in_ok-tree.ensures.gives in
    given_for c.args.method.now c.requires.method c.args.at c.requires.region c.args.target c.sources.new.g c.args.made.now.names (record { nodes = c.in_ok-tree.tree.nodes; sources = c.in_ok-sources.sources }) sound.root
    (sound_in c.args.method.now c.requires.method c.args.at c.requires.region c.args.target c.in_ok-tree.tree.nodes.items sound.nodes)
    (subst (λ (nodes : List TreeNode). AreSourcesFor c.args.method.now c.sources.new.g c.args.made.now.names c.args.at c.args.target nodes c.in_ok-sources.sources.items) c.deref.ensures.value c.in_ok-sources.ensures.sources)
    (tree_gives c.args.method.now c.requires.method c.args.at c.requires.region c.args.target c.in_ok-tree.tree gives c.requires.target)
