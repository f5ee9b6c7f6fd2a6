-- The unfolding of a node: the tree of operations under it, cut at a depth.
use Rattle.std.specs.Prelude.{◌≡◌, ℕ, zero, suc, List, [], ◌∷◌, Option, Some, None}
use Rattle.pv_graph.specs.declared.node.Op.{Op}
use Rattle.pv_graph.specs.Forms.{Form, form}

mutual
  -- an operation over trees, or the place of a cut
  pub data Tree : Type 0 where
    cut : Tree
    over : Op → Trees → Tree

  pub data Trees : Type 0 where
    none : Trees
    first : Tree → Trees → Trees

abbrev pub trees_of : {N : Type 0} → List N → (N → Tree) → Trees
trees_of [] tree = none
trees_of (k ∷ ks) tree = first (tree k) (trees_of ks tree)

abbrev pub tree_at : {N : Type 0} → Option (Form N) → (N → Tree) → Tree
tree_at (Some (form o ks)) tree = over o (trees_of ks tree)
tree_at None tree = cut

-- so deep the tree goes
unfoldable pub unfold_at : {N : Type 0} → (N → Option (Form N)) → ℕ → N → Tree
unfold_at view zero n = cut
unfold_at view (suc m) n = tree_at (view n) (unfold_at view m)

-- a node unfolds as a node of another graph, to every depth
abbrev pub UnfoldsAs : {N M : Type 0} → (N → Option (Form N)) → (M → Option (Form M)) → N → M → Type 0
UnfoldsAs view other a b = (m : ℕ) → unfold_at view m a ≡ unfold_at other m b

-- two nodes of one graph unfold equally
abbrev pub UnfoldEqually : {N : Type 0} → (N → Option (Form N)) → N → N → Type 0
UnfoldEqually view a b = UnfoldsAs view view a b
