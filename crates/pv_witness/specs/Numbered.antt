-- Class numbers of the first nodes of a graph, which may have grown since its nodes got them.
use Rattle.std.specs.Prelude.{ℕ, ◌<◌, ◌≤◌, false, List, length, take}
use Rattle.pv_graph.specs.Graphs.{Graph}
use Rattle.pv_marks.specs.Classes.{class_of}

-- each of the first nodes has a class number, which is that of one of them, and the base is among them
pub record AreNumbered (g : Graph) (numbers : List ℕ) : Type 0 where
  pub few : length numbers ≤ length g.nodes
  pub base : g.base ≤ length numbers
  pub within : (n : ℕ) → n < length numbers → class_of numbers n < length numbers

-- these nodes with their sorts: the graph as it was when they got their numbers, with nothing prepared
abbrev pub numbered : Graph → List ℕ → Graph
numbered g numbers = record g { nodes = take (length numbers) g.nodes; sorts = take (length numbers) g.sorts; is_prepared = false }
