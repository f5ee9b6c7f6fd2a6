-- The symbols of facts give booleans, and telling a fact changes its entry alone.
use Rattle.std.proofs.Common.{◌≡◌, ◌≢◌, ℕ, ℤ, Bool, List, [], ◌∷◌, Option, Some, cond, true, false, refl, sym, ap, subst, ◌∙◌}
use Rattle.std.specs.FinMap.{FinMap, get, insert, get-insert}
use Rattle.std.specs.Ordering.{eq_by_cmp, is_eq}
use Rattle.std.specs.declared.cmp.Ordering.{Ordering}
use Rattle.std.specs.declared.cmp.Ordering.TheVariants.{Less, Equal, Greater}
use Rattle.std.proofs.lemmas.Cmp.{eq_by_cmp_equiv}
use Rattle.pv_value.specs.CallOrder.{key_cmp}
use Rattle.pv_value.specs.Laws.{CallsOrdered}
use Rattle.pv_value.specs.Order.{loc_cmp}
use Rattle.pv_value.specs.Reading.{field_at}
use Rattle.pv_value.specs.Spelled.{method_type, params_at}
use Rattle.pv_value.specs.declared.descriptor.Descriptor.{Descriptor}
use Rattle.pv_value.specs.declared.descriptor.JType.TheVariants.{A, Z}
use Rattle.pv_value.specs.declared.outcome.Outcome.{Outcome}
use Rattle.pv_value.specs.declared.world.CallKey.{CallKey}
use Rattle.pv_value.specs.declared.world.World.{World}
use Rattle.pv_value.proofs.Cited.{method_spelled}
use Rattle.pv_types.specs.Facts.{is_sym, fits_sym, IsTold, tells, told, is, fits, is_key, fits_key}

-- ---- the descriptors of the symbols

abbrev of_object : Descriptor
of_object = record { params = A ∷ []; result = Some Z }

abbrev of_objects : Descriptor
of_objects = record { params = A ∷ A ∷ []; result = Some Z }

pub is_told : (class : List ℕ) → IsTold (is_sym class)
unfolding params_at field_at
is_told class = (of_object, (method_spelled (is_sym class).desc of_object).0 refl, refl)

pub fits_told : IsTold fits_sym
unfolding params_at field_at
fits_told = (of_objects, (method_spelled fits_sym.desc of_objects).0 refl, refl)

-- ---- the table of calls after an entry more

is_equal : (r : Ordering) → is_eq r ≡ true → r ≡ Equal
is_equal Less e = absurd (cc)
is_equal Equal e = refl
is_equal Greater e = absurd (cc)

has_new : CallsOrdered → (m : FinMap key_cmp Outcome) (key : CallKey) (o : Outcome) → get (insert m key o) key ≡ Some o
has_new ordered m key o = get-insert ordered.total m key o key ∙ ap (λ (b : Bool). cond b (Some o) (get m key)) ((eq_by_cmp_equiv ordered.total).refl key)

keeps_other : CallsOrdered → (m : FinMap key_cmp Outcome) (key other : CallKey) (o : Outcome) → other ≢ key → get (insert m key o) other ≡ get m other
keeps_other ordered m key other o apart =
    get-insert ordered.total m key o other ∙
    (elim (eq_by_cmp key_cmp other key) as (λ b. eq_by_cmp key_cmp other key ≡ b → cond b (Some o) (get m other) ≡ get m other) [
      | true ↦ λ tied. absurd (apart (ordered.exact other key (is_equal (key_cmp other key) tied)))
      | false ↦ λ _. refl
    ] refl)

-- ---- facts

pub is_holds : CallsOrdered → (w : World) (start : FinMap loc_cmp ℤ) (class : List ℕ) (o : ℕ) → is (told w (is_key start class o)) start class o ≡ true
is_holds ordered w start class o = ap tells (has_new ordered w.calls (is_key start class o) _)

pub fits_holds : CallsOrdered → (w : World) (start : FinMap loc_cmp ℤ) (a v : ℕ) → fits (told w (fits_key start a v)) start a v ≡ true
fits_holds ordered w start a v = ap tells (has_new ordered w.calls (fits_key start a v) _)

pub others_stay : CallsOrdered → (w : World) (key other : CallKey) → other ≢ key → get (told w key).calls other ≡ get w.calls other
others_stay ordered w key other apart = keeps_other ordered w.calls key other _ apart
