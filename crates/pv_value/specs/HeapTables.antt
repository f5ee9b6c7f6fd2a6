-- What the entries of a heap keep.
use Rattle.std.specs.Prelude.{ℤ, List}
use Rattle.std.specs.Map.{keys_of}
use Rattle.std.specs.List.Sorted.{IsStrictlySortedBy}
use Rattle.std.specs.FinMap.{from_entries}
use Rattle.pv_value.specs.declared.heap.Loc.{Loc}
use Rattle.pv_value.specs.Order.{loc_cmp}
use Rattle.pv_value.specs.Heaps.{IsHeap}

-- they stand in the order of their locations, and make a heap
pub record IsHeapTable (es : List (Loc × ℤ)) : Type 0 where
  pub sorted : IsStrictlySortedBy loc_cmp (keys_of es)
  pub heap : IsHeap (from_entries es)
