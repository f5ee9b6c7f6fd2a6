-- Clearing: tokens that are known to end are replaced by the unit.
use Rattle.std.specs.Prelude.{◌≡◌, ◌⊎◌, ℕ, ◌<◌, false, List, [], length, Some, slice_get}
use Rattle.pv_graph.specs.declared.node.Op.TheVariants as op
use Rattle.pv_graph.specs.declared.node.OpSort.TheVariants.{T}
use Rattle.pv_graph.specs.declared.node.Node.{Node}
use Rattle.pv_graph.specs.Nodes.{node_of}
use Rattle.pv_graph.specs.Walks.{IsSettled}
use Rattle.pv_graph.specs.Graphs.{Graph, form_at}
use Rattle.pv_alike.specs.Least.{Rooted, IsLeastOf}
use Rattle.pv_counted.specs.Counted.{AreCounted}

-- a token that is settled with the counted nodes assumed
abbrev pub IsDead : Graph → List ℕ → ℕ → Type 0
IsDead g counted n = (slice_get g.sorts n ≡ Some T) × IsSettled (form_at g.nodes) counted n

-- the graph with a unit in place of each such token; all else stays
pub record IsClearing (g : Graph) (counted : List ℕ) (h : Graph) : Type 0 where
  pub long : length h.nodes ≡ length g.nodes
  pub sorts : h.sorts ≡ g.sorts
  pub open_ : h.is_open ≡ g.is_open
  pub base : h.base ≡ g.base
  pub each : (n : ℕ) → n < length g.nodes → (IsDead g counted n × (slice_get h.nodes n ≡ Some (node_of op.Unit []))) ⊎ ((IsDead g counted n → ⊥) × (slice_get h.nodes n ≡ slice_get g.nodes n))

-- the graph with other nodes
abbrev pub with_nodes : Graph → List Node → Graph
with_nodes g nodes = record { nodes = nodes; sorts = g.sorts; is_open = g.is_open; base = g.base; is_prepared = false }

-- m is the least graph of the roots of l after that
abbrev pub IsCleared : Rooted → Rooted → Type 0
IsCleared l m = (counted : List ℕ) × (h : Graph) × AreCounted l.graph.nodes counted × IsClearing l.graph counted h × IsLeastOf h l.first l.second m
