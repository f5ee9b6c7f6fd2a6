use Rattle.std.proofs.Common.{ap, sym, ◌∙◌, ℤ, List}
use Rattle.std.specs.FinMap.{entries}
use Rattle.std.specs.Cmp.Lexicographic.{slice_cmp}
use Rattle.pv_value.specs.declared.heap.Loc.{Loc}
use Rattle.pv_value.specs.Order.{loc_cmp}
use Rattle.pv_value.specs.HeapOrder.{entry_cmp}
use Rattle.pv_value.proofs.Maps.{entries_again}
use Rattle.pv_value.proofs.Places.{locs_total, exact_places}
use Rattle.pv_value.proofs.heap.HeapOrd.cmp.Goals as goal

pub returns : goal.returns
returns c =
    let es = c.self.inside.entries.entries in
    let fs = c.other.inside.entries.entries in
    let own = sym (entries_again loc_cmp locs_total exact_places es c.self.invariant.sorted) ∙ ap entries c.self.view_is in
    let others = sym (entries_again loc_cmp locs_total exact_places fs c.other.invariant.sorted) ∙ ap entries c.other.view_is in
    c.cmp.ensures ∙ ap (λ (xs : List (Loc × ℤ)). slice_cmp entry_cmp xs fs) own ∙ ap (slice_cmp entry_cmp (entries c.args.self.now)) others
