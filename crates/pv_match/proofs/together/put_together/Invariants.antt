use Rattle.std.proofs.Common.{◌≡◌, ◌≤◌, ◌++◌, ℕ, List, length}
use Rattle.std.specs.List.Sorted.{IsStrictlySortedBy}
use Rattle.std.specs.Vec.Iter.{into_iter_items, into_iter_len}
use Rattle.pv_graph.specs.Graphs.{Graph}
use Rattle.pv_pattern.specs.Patterns.{Axiom}
use Rattle.pv_pieces.specs.Cut.{joined}
use Rattle.pv_match.specs.Orders.{match_cmp}
use Rattle.pv_match.specs.Reading.{AreReadable}
use Rattle.pv_match.specs.All.{AreMatchesOf}
use Rattle.pv_match.specs.Gathering.{AreParts}
use Rattle.pv_match.proofs.together.put_together.Given as goal

-- the list has what the parts so far have, in order, and is within the limit
abbrev pub invariant-loop-part : goal.invariant-loop-part
invariant-loop-part l = record {
  steps : l.yielded ++ into_iter_items l.part-iterator ≡ into_iter_items l.initial.part-iterator;
  long : into_iter_len l.part-iterator ≡ length (into_iter_items l.part-iterator);
  ordered : IsStrictlySortedBy match_cmp l.list.items;
  few : length l.list.items ≤ l.limit;
  found : (g : Graph) (numbers assumed : List ℕ) (table : List Axiom) (items : ℕ → List ℕ) → AreReadable table → AreParts g numbers assumed table l.limit items (into_iter_items l.initial.part-iterator)
      → AreMatchesOf g numbers assumed table (joined items (length l.yielded)) l.list.items;
}
