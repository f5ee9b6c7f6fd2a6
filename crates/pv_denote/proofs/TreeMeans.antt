-- Nodes that have finite trees have the values of their trees.
use Rattle.std.specs.Prelude.{◌≡◌, ◌↔◌, List, [], ◌∷◌, Option, Some, refl}
use Rattle.std.specs.List.{AllZip}
use Rattle.std.proofs.Common.{sym, subst}
use Rattle.pv_value.specs.declared.world.World.{World}
use Rattle.pv_value.specs.declared.outcome.Input.{Input}
use Rattle.pv_value.specs.declared.outcome.Val.{Val}
use Rattle.pv_graph.specs.declared.node.Op.{Op}
use Rattle.pv_graph.specs.Ops.{shape}
use Rattle.pv_graph.specs.Forms.{Form, form}
use Rattle.pv_graph.specs.Unfold.{Tree, Trees, cut, over, none, first}
use Rattle.pv_graph.specs.Finite.{IsTree, AreTrees}
use Rattle.pv_graph.specs.Graphs.{form_at}
use Rattle.pv_graph.proofs.Cited.{Matched, Bisimulates}
use Rattle.pv_denote.specs.Denote.{Index, Value}
use Rattle.pv_denote.specs.Means.{Means}
use Rattle.pv_denote.specs.TreeValues.{list_of, top_of, TreeValue}
use Rattle.pv_denote.specs.Laws.{TreesMean}
use Rattle.pv_denote.proofs.Values.{value_once, den_makes}
use Rattle.pv_denote.proofs.Simulated.{bisimulated}
use Rattle.pv_denote.proofs.Independent.{value_says}

kids_zip : {N : Type 0} (view : N → Option (Form N)) (ks : List N) (ts : Trees) → AreTrees view ks ts → AllZip (IsTree view) ks (list_of ts)
unfolding IsTree
kids_zip view [] none h = tt
kids_zip view [] (first t ts) h = h
kids_zip view (k ∷ ks) none h = h
kids_zip view (k ∷ ks) (first t ts) h = (h.0, kids_zip view ks ts h.1)

-- a node and its tree have one operation, over kids and their trees
pub tree_pairs : {N : Type 0} (view : N → Option (Form N)) → Bisimulates view top_of (IsTree view)
unfolding IsTree
tree_pairs view n cut h = absurd h
tree_pairs {N} view n (over o ts) h =
    let paired : Matched (IsTree view) (Some (form o h.0)) (Some (form o (list_of ts))) = (refl, kids_zip view h.0 ts h.2) in
    subst (λ (p : Option (Form N)). Matched (IsTree view) p (Some (form o (list_of ts)))) (sym h.1) paired

pub tree_means : {N : Type 0} (view : N → Option (Form N)) (w : World) (x : Input) (n : N) (t : Tree) (i : Index) (v : Val) → IsTree view n t → Value view w x n i v ↔ TreeValue w x t i v
tree_means view w x n t i v is = bisimulated view top_of (IsTree view) (tree_pairs view) w x n t i v is

pub tree_says : (w : World) (x : Input) (o : Op) (ts : Trees) (i : Index) (v : Val) → TreeValue w x (over o ts) i v → Means w x (TreeValue w x) (shape o) o (list_of ts) i v
tree_says w x o ts i v h = value_says top_of w x (over o ts) i v o (list_of ts) refl h

pub tree_makes : (w : World) (x : Input) (o : Op) (ts : Trees) (i : Index) (v : Val) → Means w x (TreeValue w x) (shape o) o (list_of ts) i v → TreeValue w x (over o ts) i v
tree_makes w x o ts i v h = den_makes top_of w x (over o ts) i v o (list_of ts) refl h

pub tree_once : (w : World) (x : Input) (t : Tree) (i : Index) (u v : Val) → TreeValue w x t i u → TreeValue w x t i v → u ≡ v
tree_once w x t i u v a b = value_once top_of w x t i u v a b

pub trees_mean : TreesMean
trees_mean = record {
  node = λ g w x n t i v is. tree_means (form_at g.nodes) w x n t i v is;
  means = λ w x o ts i v. (tree_says w x o ts i v, tree_makes w x o ts i v);
  once = tree_once;
}
