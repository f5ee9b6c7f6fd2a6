-- Heaps that compare alike are one.
use Rattle.std.proofs.Common.{◌≡◌, ◌↔◌, ℤ, Bool, true, refl, sym, ap, ◌∙◌}
use Rattle.std.specs.Prelude.{IsTrue}
use Rattle.std.specs.Ordering.{eq_by_cmp, int_cmp, is_eq}
use Rattle.std.specs.declared.cmp.Ordering.{Ordering}
use Rattle.std.specs.declared.cmp.Ordering.TheVariants.{Less, Equal, Greater}
use Rattle.std.specs.Cmp.{eq_by_cmp_equiv}
use Rattle.std.specs.FinMap.{FinMap, entries, same_entries_map, slice_cmp-IsAntisymmetric}
use Rattle.std.proofs.lemmas.Map.Lookups.{CmpEqualImpliesEq, exact_pairs, exact_signed}
use Rattle.pv_value.specs.Order.{loc_cmp}
use Rattle.pv_value.specs.HeapOrder.{entry_cmp, heap_cmp, heaps_total}
use Rattle.pv_value.proofs.Cited.{exact_places}

exact_entries : CmpEqualImpliesEq entry_cmp
exact_entries a b h = exact_pairs loc_cmp int_cmp exact_places exact_signed a b h

exact_heaps : CmpEqualImpliesEq heap_cmp
exact_heaps g h e = same_entries_map g h (slice_cmp-IsAntisymmetric exact_entries (entries g) (entries h) e)

level : (o : Ordering) → is_eq o ≡ true → o ≡ Equal
level Less e = absurd (cc e)
level Equal e = refl
level Greater e = absurd (cc e)

-- the answer of a comparison says whether two heaps are one
pub same_heaps : (g h : FinMap loc_cmp ℤ) (b : Bool) → b ≡ eq_by_cmp heap_cmp g h → IsTrue b ↔ (g ≡ h)
same_heaps g h b is = (
  λ yes. exact_heaps g h (level (heap_cmp g h) (sym is ∙ yes)),
  λ same. is ∙ ap (λ (k : FinMap loc_cmp ℤ). eq_by_cmp heap_cmp g k) (sym same) ∙ (eq_by_cmp_equiv heaps_total).refl g,
)
