-- Nodes that have finite trees: they unfold to them, have at most one, and keep them in a graph that keeps its nodes.
use Rattle.std.specs.Prelude.{◌≡◌, ℕ, zero, suc, ◌+◌, ◌<◌, ◌≤◌, List, [], ◌∷◌, length, Option, Some, refl}
use Rattle.std.proofs.Common.{ap, ◌∙◌, sym, arith}
use Rattle.std.proofs.lemmas.Option.{slice_get_within}
use Rattle.pv_graph.specs.declared.node.Op.{Op}
use Rattle.pv_graph.specs.declared.node.Node.{Node}
use Rattle.pv_graph.specs.Forms.{Form, form}
use Rattle.pv_graph.specs.Unfold.{Tree, Trees, cut, over, none, first, trees_of, tree_at, unfold_at, UnfoldsAs}
use Rattle.pv_graph.specs.Graphs.{Graph, form_at, Extends}
use Rattle.pv_graph.specs.Finite.{cut_at, cut_all, height, height_all, IsTree, AreTrees}
use Rattle.pv_graph.proofs.NodeLaws.{node_at, form_there}

-- ---- nodes and their trees

-- the tree of a node over the trees of its kids
pub node_tree : {N : Type 0} (view : N → Option (Form N)) (n : N) (o : Op) (kids : List N) (ts : Trees) → view n ≡ Some (form o kids) → AreTrees view kids ts → IsTree view n (over o ts)
unfolding IsTree
node_tree view n o kids ts is are = (kids, is, are)

-- trees of no kids, and of a kid more
pub no_trees : {N : Type 0} (view : N → Option (Form N)) → AreTrees view [] none
unfolding IsTree
no_trees view = tt

pub more_trees : {N : Type 0} (view : N → Option (Form N)) (k : N) (ks : List N) (t : Tree) (ts : Trees) → IsTree view k t → AreTrees view ks ts → AreTrees view (k ∷ ks) (first t ts)
unfolding IsTree
more_trees view k ks t ts is are = (is, are)

-- the tree of a node without kids
pub leaf_tree : {N : Type 0} (view : N → Option (Form N)) (n : N) (o : Op) → view n ≡ Some (form o []) → IsTree view n (over o none)
leaf_tree view n o is = node_tree view n o [] none is (no_trees view)

-- a node that has a tree is one of the graph
pub is_tree_in_range : (nodes : List Node) (n : ℕ) (t : Tree) → IsTree (form_at nodes) n t → n < length nodes
unfolding IsTree
is_tree_in_range nodes n cut is = absurd is
is_tree_in_range nodes n (over o ts) is = let node = node_at nodes n o is.0 is.1 in slice_get_within nodes n node.0 node.1

mutual
  unfolding IsTree cut_at unfold_at

  -- a node unfolds to its tree, cut at the depth
  pub is_tree_unfolds : {N : Type 0} (view : N → Option (Form N)) (n : N) (t : Tree) → IsTree view n t → (m : ℕ) → unfold_at view m n ≡ cut_at m t
  is_tree_unfolds view n cut is m = absurd is
  is_tree_unfolds view n (over o ts) is zero = refl
  is_tree_unfolds {N} view n (over o ts) is (suc m) = ap (λ (q : Option (Form N)). tree_at q (unfold_at view m)) is.1 ∙ ap (over o) (are_trees_unfold view is.0 ts is.2 m)

  are_trees_unfold : {N : Type 0} (view : N → Option (Form N)) (ks : List N) (ts : Trees) → AreTrees view ks ts → (m : ℕ) → trees_of ks (unfold_at view m) ≡ cut_all m ts
  are_trees_unfold view [] none are m = refl
  are_trees_unfold view [] (first t ts) are m = absurd are
  are_trees_unfold view (k ∷ ks) none are m = absurd are
  are_trees_unfold view (k ∷ ks) (first t ts) are m = rw (is_tree_unfolds view k t are.0 m, are_trees_unfold view ks ts are.1 m) refl

-- each operation over kids stays
abbrev pub KeepsForms : {N : Type 0} → (N → Option (Form N)) → (N → Option (Form N)) → Type 0
KeepsForms {N} view other = (n : N) (o : Op) (ks : List N) → view n ≡ Some (form o ks) → other n ≡ Some (form o ks)

mutual
  unfolding IsTree

  -- what stays keeps its trees
  pub is_tree_kept : {N : Type 0} (view other : N → Option (Form N)) (n : N) (t : Tree) → KeepsForms view other → IsTree view n t → IsTree other n t
  is_tree_kept view other n cut keeps is = is
  is_tree_kept view other n (over o ts) keeps is = (is.0, keeps n o is.0 is.1, are_trees_kept view other is.0 ts keeps is.2)

  pub are_trees_kept : {N : Type 0} (view other : N → Option (Form N)) (ks : List N) (ts : Trees) → KeepsForms view other → AreTrees view ks ts → AreTrees other ks ts
  are_trees_kept view other [] none keeps are = tt
  are_trees_kept view other [] (first t ts) keeps are = are
  are_trees_kept view other (k ∷ ks) none keeps are = are
  are_trees_kept view other (k ∷ ks) (first t ts) keeps are = (is_tree_kept view other k t keeps are.0, are_trees_kept view other ks ts keeps are.1)

-- a graph that keeps its nodes keeps their operations over kids
pub extends_keeps : (old new : Graph) → Extends old new → KeepsForms (form_at old.nodes) (form_at new.nodes)
extends_keeps old new grows n o ks e =
    let node = node_at old.nodes n o ks e in
    form_there new.nodes n node.0 (grows.nodes n node.0 node.1)
    ∙ ap (λ (x : Op). Some (form x node.0.kids)) node.2 ∙ ap (λ (ls : List ℕ). Some (form o ls)) node.3

pub extends_same : (g : Graph) → Extends g g
extends_same g = record { nodes = λ n node at. at; sorts = λ n s at. at }

pub extends_then : (a b c : Graph) → Extends a b → Extends b c → Extends a c
extends_then a b c p q = record { nodes = λ n node at. q.nodes n node (p.nodes n node at); sorts = λ n s at. q.sorts n s (p.sorts n s at) }

mutual
  unfolding height cut_at

  -- a cut at its height or deeper leaves a tree as it is
  pub cut_whole : (t : Tree) (m : ℕ) → height t ≤ m → cut_at m t ≡ t
  cut_whole cut m le = refl
  cut_whole (over op ts) zero le = absurd (omega arith)
  cut_whole (over op ts) (suc m) le = ap (over op) (cut_all_whole ts m (omega arith))

  cut_all_whole : (ts : Trees) (m : ℕ) → height_all ts ≤ m → cut_all m ts ≡ ts
  cut_all_whole none m le = refl
  cut_all_whole (first t ts) m le = rw (cut_whole t m (omega arith), cut_all_whole ts m (omega arith)) refl

-- nodes that unfold equally, also in two graphs, have one tree
pub one_tree_of_both : {N M : Type 0} (view : N → Option (Form N)) (other : M → Option (Form M)) (a : N) (b : M) (t u : Tree) → UnfoldsAs view other a b → IsTree view a t → IsTree other b u → t ≡ u
one_tree_of_both view other a b t u same p q =
    let m = height t + height u in
    let cuts : cut_at m t ≡ cut_at m u = sym (is_tree_unfolds view a t p m) ∙ same m ∙ is_tree_unfolds other b u q m in
    sym (cut_whole t m (omega arith)) ∙ cuts ∙ cut_whole u m (omega arith)
