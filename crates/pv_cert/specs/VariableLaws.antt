-- The sorts of variables, and that what is found in a list by its name is one of the list.
use Rattle.std.proofs.Common.{◌≡◌, ◌≢◌, ℕ, Bool, true, false, cond, List, [], ◌∷◌, Option, Some, refl, sym, ap, subst, ◌∙◌, ◌⊎◌, inl, inr}
use Rattle.std.specs.List.{AllByRecursion}
use Rattle.std.specs.Str.{bytes_eq}
use Rattle.std.proofs.lemmas.Slice.Eq.{bytes_eq-Decides}
use Rattle.pv_graph.specs.declared.node.OpSort.TheVariants as sort
use Rattle.pv_format.specs.Reading.{find_named}

-- none of these is the sort of roots
pub no_roots : AllByRecursion (λ s. s ≢ sort.R) (sort.I ∷ sort.L ∷ sort.A ∷ sort.N ∷ sort.F ∷ sort.T ∷ sort.H ∷ [])
no_roots = (λ e. absurd (cc), (λ e. absurd (cc), (λ e. absurd (cc), (λ e. absurd (cc), (λ e. absurd (cc), (λ e. absurd (cc), (λ e. absurd (cc), tt)))))))

one_more : {A : Type 0} (b : Bool) (x a : A) (more : Option A) → cond b (Some x) more ≡ Some a → ((b ≡ true) × (x ≡ a)) ⊎ (more ≡ Some a)
one_more true x a more e = inl (refl, cc)
one_more false x a more e = inr e

-- what holds of the whole list holds of what is found in it
pub found_holds : {A : Type 0} (P : A → Type 0) (name : A → List ℕ) (all : List A) → AllByRecursion P all → (word : List ℕ) (a : A) → find_named name all word ≡ Some a → P a × (word ≡ name a)
found_holds P name [] holds word a e = absurd (cc)
found_holds P name (x ∷ all) holds word a e =
    elim (one_more (bytes_eq (name x) word) x a (find_named name all word) e) [
      | inl p ↦ (subst P p.1 holds.0, sym ((bytes_eq-Decides (name x) word).0 p.0) ∙ ap name p.1)
      | inr more ↦ found_holds P name all holds.1 word a more
    ]
