-- What `induct` leaves, and what is joined of the nodes of a graph.
use Rattle.std.specs.Prelude.{Bool}
use Rattle.pv_graph.specs.Graphs.{Graph}
use Rattle.pv_classes.specs.Calls.{Classes, IsNew}
use Rattle.pv_induct.specs.Inducts.{Inducts}
use Rattle.pv_heights.specs.Heights.{Nothing}
use Rattle.pv_heights.specs.SameClasses.{IsCongruence}
use Rattle.pv_heights.specs.Searches.{nodes, IsNode, OneClass, AreJoined, base_view}

-- after `induct` two nodes have one class number exactly where they are joined over the classes that were
abbrev pub InductJoins : Type 0
InductJoins = (h : Graph) (old new : Classes) (found : Bool) → Inducts h.nodes old new found → AreJoined h (OneClass old.numbers) new.numbers

-- where each node had a class of its own, exactly where they are joined with nothing given
abbrev pub FirstJoins : Type 0
FirstJoins = (h : Graph) (old new : Classes) (found : Bool) → IsNew h.nodes old → Inducts h.nodes old new found → AreJoined h Nothing new.numbers

-- these classes are an equivalence and a congruence on the nodes
abbrev pub InductCongruence : Type 0
InductCongruence = (h : Graph) (old new : Classes) (found : Bool) → Inducts h.nodes old new found → IsCongruence (base_view h) (nodes h) (IsNode h) (OneClass new.numbers)
