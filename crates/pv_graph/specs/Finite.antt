-- Finite trees of operations: a tree cut at a depth, its height, and the nodes that have a tree.
use Rattle.std.specs.Prelude.{◌≡◌, ℕ, zero, suc, max, List, [], ◌∷◌, Option, Some}
use Rattle.pv_graph.specs.Forms.{Form, form}
use Rattle.pv_graph.specs.Unfold.{Tree, Trees, cut, over, none, first}

unfoldable mutual
  -- a tree, cut at a depth
  pub cut_at : ℕ → Tree → Tree
  cut_at m cut = cut
  cut_at zero (over op kids) = cut
  cut_at (suc m) (over op kids) = over op (cut_all m kids)

  pub cut_all : ℕ → Trees → Trees
  cut_all m none = none
  cut_all m (first t ts) = first (cut_at m t) (cut_all m ts)

unfoldable mutual
  -- the operations on the longest way down
  pub height : Tree → ℕ
  height cut = 0
  height (over op kids) = suc (height_all kids)

  pub height_all : Trees → ℕ
  height_all none = 0
  height_all (first t ts) = max (height t) (height_all ts)

unfoldable mutual
  -- the node has the operation at the top, and its kids have the trees under it; cut is the tree of no node
  pub IsTree : {N : Type 0} → (N → Option (Form N)) → N → Tree → Type 0
  IsTree view n cut = ⊥
  IsTree {N} view n (over op ts) = (kids : List N) × (view n ≡ Some (form op kids)) × AreTrees view kids ts

  -- each kid has the tree at its place, and there are no more of either
  pub AreTrees : {N : Type 0} → (N → Option (Form N)) → List N → Trees → Type 0
  AreTrees view [] none = Unit {0}
  AreTrees view [] (first t ts) = ⊥
  AreTrees view (k ∷ ks) none = ⊥
  AreTrees view (k ∷ ks) (first t ts) = IsTree view k t × AreTrees view ks ts
