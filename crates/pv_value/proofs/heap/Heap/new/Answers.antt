use Rattle.std.proofs.Common.{ap, sym, subst}
use Rattle.std.specs.FinMap.{from_entries}
use Rattle.pv_value.specs.Heaps.{IsHeap}
use Rattle.pv_value.proofs.Writes.{IsHeap-empty}
use Rattle.pv_value.proofs.heap.Heap.new.Goals as goal

pub invariant_of-result : goal.invariant_of-result
invariant_of-result c = record {
  sorted = c.new.ensures.ordered;
  heap = subst IsHeap (sym (ap from_entries c.new.ensures.empty)) IsHeap-empty;
}
