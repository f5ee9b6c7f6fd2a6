-- The least graph is the base of a graph.
use Rattle.std.specs.Prelude.{◌≡◌, ℕ, false, List, length, refl}
use Rattle.std.proofs.Common.{sym, ap, ◌∙◌, subst}
use Rattle.pv_graph.specs.declared.node.Node.{Node}
use Rattle.pv_graph.specs.declared.node.OpSort.{OpSort}
use Rattle.pv_graph.specs.Calls.{IsDistinct, LeavesNoSortOpen, AreSorts, IsBase}
use Rattle.pv_graph.specs.Graphs.{Graph, IsWellMade}
use Rattle.pv_graph.proofs.Cited.{bases_are_made}
use Rattle.pv_alike.specs.Least.{Rooted, IsLeast, IsLeastOf}
use Rattle.pv_alike.proofs.Made.{based, least_made}
use Rattle.pv_alike.proofs.Ruled.{least_keeps_rule}

-- no two nodes of the least graph are equal
pub least_distinct : {g : List Node} {a b : ℕ} {h : List Node} {r s : ℕ} → IsLeast g a b h r s → IsDistinct h
least_distinct {h = h} least = bases_are_made.distinct h least.distinct

pub least_cycles : (g : Graph) (a b : ℕ) (h : List Node) (r s : ℕ) → IsWellMade g → IsLeast g.nodes a b h r s → LeavesNoSortOpen h
least_cycles g a b h r s made least = bases_are_made.cycles h (least_keeps_rule g.nodes a b h r s least made.rule)

-- its nodes have sorts
pub least_sorts : (g : Graph) (a b : ℕ) (h : List Node) (r s : ℕ) → IsWellMade g → g.is_open ≡ false → IsLeast g.nodes a b h r s → (sorts : List OpSort) × AreSorts h sorts
least_sorts g a b h r s made closed least = let of = least_made g a b h r s made closed least in (of.0, bases_are_made.sorts (based h of.0) of.1.graph refl)

-- the graph of which they are the base
pub least_of : (g : Graph) (a b : ℕ) (h : List Node) (l : Rooted) → IsWellMade g → IsLeast g.nodes a b h l.first l.second → IsBase l.graph h → IsLeastOf g a b l
least_of g a b h l made least base = record {
  least = subst (λ (xs : List Node). IsLeast g.nodes a b xs l.first l.second) (sym base.nodes_) least;
  sealed = base.sealed;
  base = base.base ∙ ap length (sym base.nodes_);
  made = bases_are_made.made l.graph h base (least_keeps_rule g.nodes a b h l.first l.second least made.rule);
}
