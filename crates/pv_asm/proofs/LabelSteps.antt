-- Labels with their addresses: how one is put there.
use Rattle.std.proofs.Common.{◌≡◌, ℕ, Bool, true, false, List, [], ◌∷◌, ◌++◌, Option, Some, None, refl, sym, ap, ◌∙◌}
use Rattle.std.specs.Map.{lookup}
use Rattle.std.specs.Option.{is_some}
use Rattle.std.specs.Str.{bytes_eq}
use Rattle.std.proofs.lemmas.Bool.{cond-true, cond-false}
use Rattle.indexmap.specs.IndexMap.{insert_entry}
use Rattle.pv_asm.specs.Labels.{Labels, put}

-- a label that isn't there is put after the others
inserted : (labels : Labels) (l : List ℕ) (at : ℕ) → lookup (bytes_eq l) labels ≡ None → insert_entry bytes_eq labels l at ≡ labels ++ (l, at) ∷ []
inserted [] l at none = refl
inserted (p ∷ labels) l at none = by_test (bytes_eq l p.0) refl (inserted labels l at)
  where
    by_test : (b : Bool) → bytes_eq l p.0 ≡ b → (lookup (bytes_eq l) labels ≡ None → insert_entry bytes_eq labels l at ≡ labels ++ (l, at) ∷ []) → insert_entry bytes_eq (p ∷ labels) l at ≡ (p ∷ labels) ++ (l, at) ∷ []
    by_test true is more = let some = sym (cond-true (bytes_eq l p.0) (Some p.1) (lookup (bytes_eq l) labels) is) ∙ none in absurd (cc)
    by_test false is more =
        cond-false (bytes_eq l p.0) ((p.0, at) ∷ labels) (p ∷ insert_entry bytes_eq labels l at) is
        ∙ ap (λ (rest : Labels). p ∷ rest) (more (sym (cond-false (bytes_eq l p.0) (Some p.1) (lookup (bytes_eq l) labels) is) ∙ none))

absent : (o : Option ℕ) → is_some o ≡ false → o ≡ None
absent None is = refl
absent (Some at) is = absurd (cc)

pub put_new : (labels later : Labels) (l : List ℕ) (at : ℕ) → is_some (lookup (bytes_eq l) labels) ≡ false → later ≡ insert_entry bytes_eq labels l at → later ≡ put labels l at
put_new labels later l at new is =
    is ∙ inserted labels l at (absent (lookup (bytes_eq l) labels) new) ∙ sym (cond-false (is_some (lookup (bytes_eq l) labels)) labels (labels ++ (l, at) ∷ []) new)
