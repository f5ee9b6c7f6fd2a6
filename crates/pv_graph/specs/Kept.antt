-- A graph as it is kept: with the numbers of its nodes, with what `prepare` has found, and with what is known of its first nodes.
use Rattle.std.specs.Prelude.{◌≡◌, ◌+◌, ◌<◌, ◌^◌, ℕ, Bool, List, [], length, Option, Some, slice_get, is_some, Vec}
use Rattle.std.specs.declared.alloc.Global.{Global}
use Rattle.pv_graph.specs.declared.node.Node.{Node}
use Rattle.pv_graph.specs.declared.node.OpSort.{OpSort}
use Rattle.pv_graph.specs.declared.prepared.Prepared.{Prepared}
use Rattle.pv_graph.specs.declared.reach.Look.TheVariants as look
use Rattle.pv_graph.specs.declared.known.Known.{Known}
use Rattle.pv_graph.specs.Reach.{IsSearched}
use Rattle.pv_graph.specs.Known.{AreKnown}
use Rattle.pv_graph.specs.Graphs.{Graph, IsGraph}
use Rattle.pv_graph.specs.Index.{Numbers, IsIndex}

-- the marks of a search for each depth, and those of the search for what may not end
pub record IsPrepared (nodes : List Node) (p : Prepared) : Type 0 where
  pub depths : length p.free.items ≡ 16
  pub free : (d : ℕ) (marks : Vec Bool Global) → slice_get p.free.items d ≡ Some marks → IsSearched nodes [] (look.Free (d + 1)) marks.items
  pub unsettled : IsSearched nodes [] look.All p.unsettled.items

-- a graph of these parts
abbrev pub graph_of : List Node → List OpSort → Bool → ℕ → Option Prepared → Graph
graph_of nodes sorts open_ base prepared = record { nodes = nodes; sorts = sorts; is_open = open_; base = base; is_prepared = is_some prepared }

-- a graph, of whose nodes each has a number of 32 bits, these numbers, and what was found of the nodes, if anything
pub record IsKept (g : Graph) (numbers : Numbers) (prepared : Option Prepared) : Type 0 where
  pub graph : IsGraph g
  pub few : length g.nodes < 2 ^ 32
  pub index : IsIndex g.nodes numbers
  pub tables : (p : Prepared) → prepared ≡ Some p → IsPrepared g.nodes p

-- .. with the depths that are known to be free in its first nodes
pub record IsStored (g : Graph) (numbers : Numbers) (prepared : Option Prepared) (known : Known) : Type 0 where
  pub kept : IsKept g numbers prepared
  pub free : AreKnown g.nodes known
