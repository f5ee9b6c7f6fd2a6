-- The laws of bases.
use Rattle.std.specs.Prelude.{◌≡◌, ℕ, zero, suc, false, List, Some, slice_get, refl}
use Rattle.std.proofs.Common.{sym, ◌∙◌, subst}
use Rattle.std.proofs.lemmas.Option.{slice_get_within}
use Rattle.pv_graph.specs.declared.node.Node.{Node}
use Rattle.pv_graph.specs.Unfold.{unfold_at, UnfoldEqually}
use Rattle.pv_graph.specs.Walks.{KeepsRule}
use Rattle.pv_graph.specs.Graphs.{Graph, form_at, IsGraph, IsWellMade}
use Rattle.pv_graph.specs.Calls.{AreSorts, IsBase}
use Rattle.pv_graph.specs.Laws.{BasesAreMade}
use Rattle.pv_graph.proofs.NodeLaws.{unfold_of, tied}

-- equal nodes unfold equally
same_unfold : (nodes : List Node) (a b : ℕ) (node : Node) → slice_get nodes a ≡ Some node → slice_get nodes b ≡ Some node → UnfoldEqually (form_at nodes) a b
unfolding unfold_at
same_unfold nodes a b node at_a at_b zero = refl
same_unfold nodes a b node at_a at_b (suc m) = unfold_of nodes a m node at_a ∙ sym (unfold_of nodes b m node at_b)

base_made : (g : Graph) (nodes : List Node) → IsBase g nodes → KeepsRule (form_at nodes) → IsWellMade g
base_made g nodes is rule = record { graph = is.graph; rule = subst (λ (xs : List Node). KeepsRule (form_at xs)) (sym is.nodes_) rule }

sealed_sorts : (g : Graph) → IsGraph g → g.is_open ≡ false → AreSorts g.nodes g.sorts
sealed_sorts g is closed = record { long = is.long; each = λ n node s at at_s. tied g closed node s (is.sorted n node s at at_s) }

pub bases_are_made : BasesAreMade
bases_are_made = record {
  distinct = λ nodes apart a b node at_a at_b. apart a b (slice_get_within nodes a node at_a) (slice_get_within nodes b node at_b) (same_unfold nodes a b node at_a at_b);
  cycles = λ nodes rule n m ms w. let f = rule n m ms w in (f.d, f.takes);
  made = base_made;
  sorts = sealed_sorts;
}
