-- A set of numbers in order: whether it has a number, and at which place.
use Rattle.std.proofs.Common.{◌≡◌, ℕ, Bool, true, false, not, List, [], ◌∷◌, ◌++◌, get_or, slice_get, position, Some, refl, sym, ap, ◌∙◌, subst, true≢false, if◌then◌else◌, eqb}
use Rattle.std.specs.List.{Contains, list_any}
use Rattle.std.proofs.lemmas.Bool.Decides.{Decides-eqb}
use Rattle.std.proofs.lemmas.Option.{slice_get-get_or}
use Rattle.std.proofs.lemmas.List.Folds.{list_any_at}
use Rattle.std.proofs.lemmas.List.Quantifiers.{position-Some}
use Rattle.indexmap.specs.IndexSet.{insert_key}
use Rattle.indexmap.proofs.CallerLemmas.{Contains-list_any}
use Rattle.pv_alike.specs.Visits.{Visited}

-- what a test finds is there, and what is there is found
pub has_found : (xs : List ℕ) (n : ℕ) → list_any (eqb n) xs ≡ true → Contains xs n
has_found xs n e = Contains-list_any eqb (λ x y same. (Decides-eqb x y).0 same) xs n e

pub found_has : (xs : List ℕ) (n : ℕ) → Contains xs n → list_any (eqb n) xs ≡ true
found_has xs n there = list_any_at (eqb n) xs there.0 n there.1 ((Decides-eqb n (get_or xs there.0 n)).1 (sym there.2))

pub visit_found : (old new : List ℕ) (n : ℕ) (is_new : Bool) → is_new ≡ not (list_any (eqb n) old) → new ≡ insert_key eqb old n → Visited old new n is_new
visit_found old new n is_new e e' = by (list_any (eqb n) old) refl
  where
    by : (b : Bool) → list_any (eqb n) old ≡ b → Visited old new n is_new
    by true found =
        let old_one : is_new ≡ false = e ∙ ap not found in
        subst (Visited old new n) (sym old_one) (has_found old n found, e' ∙ ap (λ b. if b then old else old ++ n ∷ []) found)
    by false none =
        let new_one : is_new ≡ true = e ∙ ap not none in
        subst (Visited old new n) (sym new_one) ((λ there. true≢false (sym (found_has old n there) ∙ none)), e' ∙ ap (λ b. if b then old else old ++ n ∷ []) none)

-- a place that a test finds has the number
pub place_found : (xs : List ℕ) (n p : ℕ) → position (eqb n) xs ≡ Some p → slice_get xs p ≡ Some n
place_found xs n p e =
    let at = position-Some (eqb n) xs p n e in
    slice_get-get_or xs p n at.0 ∙ ap Some (sym ((Decides-eqb n (get_or xs p n)).0 at.1))
