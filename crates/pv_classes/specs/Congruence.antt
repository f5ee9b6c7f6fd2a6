-- The index of a congruence.
use Rattle.std.specs.Prelude.{ℕ, List}
use Rattle.pv_graph.specs.declared.node.Node.{Node}
use Rattle.pv_classes.specs.declared.congruence.Congruence.{Congruence}
use Rattle.pv_classes.specs.declared.congruence.Known.{Known}
use Rattle.pv_classes.specs.Partition.{Parts}
use Rattle.pv_classes.specs.Index.{Index}

-- the index of these parts
abbrev pub index_with : Parts → Known → List (Node × ℕ) → List ℕ → List ℕ → Index
index_with p known own waiting by_own_ = record { parts = p; parents = known.parents; by_number = known.by_number; shared = known.table; own = own; waiting = waiting; by_own = by_own_ }

abbrev pub index_of : Congruence → Index
index_of k = index_with k.parts k.known.value k.own k.waiting.items k.by_own.items
