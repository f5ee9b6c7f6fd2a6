-- The order of heaps, entry by entry.
use Rattle.std.specs.Prelude.{ℤ}
use Rattle.std.specs.Ordering.{int_cmp, on, then_cmp}
use Rattle.std.specs.declared.cmp.Ordering.{Ordering}
use Rattle.std.specs.Cmp.{IsTotalOrder, on_total, then_total, int_cmp_total}
use Rattle.std.specs.Cmp.Lexicographic.{slice_cmp, lists_total}
use Rattle.std.specs.FinMap.{FinMap, entries}
use Rattle.pv_value.specs.declared.heap.Loc.{Loc}
use Rattle.pv_value.specs.Order.{loc_cmp}
use Rattle.pv_value.specs.contracts.heap.LocOrd.TheImpl.Laws.{total-law}

-- by location, then by the number there
abbrev pub entry_cmp : Loc × ℤ → Loc × ℤ → Ordering
entry_cmp = then_cmp (on (λ e. e.0) loc_cmp) (on (λ e. e.1) int_cmp)

-- heaps, entry by entry
abbrev pub heap_cmp : FinMap loc_cmp ℤ → FinMap loc_cmp ℤ → Ordering
heap_cmp = on entries (slice_cmp entry_cmp)

entries_total : IsTotalOrder entry_cmp
entries_total = then_total (on_total (λ (e : Loc × ℤ). e.0) total-law) (on_total (λ (e : Loc × ℤ). e.1) int_cmp_total)

pub heaps_total : IsTotalOrder heap_cmp
heaps_total = on_total (λ (h : FinMap loc_cmp ℤ). entries h) (lists_total entries_total)
