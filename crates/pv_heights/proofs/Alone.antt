-- At height 0 of a graph without thetas, of whose nodes no two have one operation and kids, each node is a class of its own.
use Rattle.std.proofs.Common.{◌≡◌, ℕ, Bool, true, false, List, [], ◌∷◌, map, length, Option, Some, slice_get, refl, sym, ap, ◌∙◌, subst}
use Rattle.std.specs.List.{AllZip}
use Rattle.pv_graph.specs.declared.node.Op.{Op}
use Rattle.pv_graph.specs.declared.node.Op.TheVariants as op
use Rattle.pv_graph.specs.Forms.{Form, form}
use Rattle.pv_graph.specs.Walks.{In}
use Rattle.pv_steps.specs.Facts.{View}
use Rattle.pv_heights.specs.Systems.{IsOutside, Joined}
use Rattle.pv_heights.specs.Terms.{Term, base, over, TermHas, terms}
use Rattle.pv_heights.specs.Heights.{IsBase, FirstMember, Nothing, first_height}
use Rattle.pv_heights.specs.Closing.{With, IsInduction}
use Rattle.pv_heights.proofs.Zips.{zip_of}
use Rattle.pv_heights.proofs.Nest.{close-into}

pub true_false : true ≡ false → ⊥
true_false e = cc

abbrev pub is_theta : Option (Form ℕ) → Bool
is_theta (Some (form (op.Theta d) ks)) = true
is_theta f = false

lists_equal : {A : Type 0} (xs ys : List A) → AllZip (λ a b. a ≡ b) xs ys → xs ≡ ys
lists_equal [] [] z = refl
lists_equal [] (y ∷ ys) z = absurd z
lists_equal (x ∷ xs) [] z = absurd z
lists_equal (x ∷ xs) (y ∷ ys) z = ap (λ v. v ∷ xs) z.0 ∙ ap (λ vs. y ∷ vs) (lists_equal xs ys z.1)

abbrev pub number_of : Term → ℕ
number_of (base n) = n
number_of (over o ts) = 0

numbers_of : (ns : List ℕ) → map number_of (map base ns) ≡ ns
numbers_of [] = refl
numbers_of (n ∷ ns) = ap (λ v. n ∷ v) (numbers_of ns)

-- each node has a label that its operation and kids give
module _ (view : View) (label : Option (Form ℕ) → ℕ) (labelled : (n : ℕ) → IsBase view n → n ≡ label (view n)) (flat : (n : ℕ) → is_theta (view n) ≡ false) where
  pub form_of_term : (a : Term) (o : Op) (ks : List Term) → FirstMember view a → TermHas view a o ks → (n : ℕ) × (ns : List ℕ) × (a ≡ base n) × (view n ≡ Some (form o ns)) × (ks ≡ map base ns)
  form_of_term a o ks m h = let k : TermHas view (base m.0) o ks = subst (λ v. TermHas view v o ks) m.2 h in (m.0, k.0, m.2, k.1, k.2)

  one_form : (m n : ℕ) (o : Op) (ks ls : List ℕ) → view m ≡ Some (form o ks) → view n ≡ Some (form o ls) → ks ≡ ls → m ≡ n
  one_form m n o ks ls e f s = labelled m (o, ks, e) ∙ (ap label (e ∙ (ap (λ v. Some (form o v)) s ∙ sym f)) ∙ sym (labelled n (o, ls, f)))

  kids_alone : (a b : Term) (o : Op) (ks ls : List Term) → FirstMember view a → FirstMember view b → TermHas view a o ks → TermHas view b o ls → IsOutside {A = Term} [] [] o → length ks ≡ length ls
      → ((j : ℕ) (k l : Term) → slice_get ks j ≡ Some k → slice_get ls j ≡ Some l → k ≡ l) → a ≡ b
  kids_alone a b o ks ls p q h k out l each =
      let f = form_of_term a o ks p h in
      let g = form_of_term b o ls q k in
      let same : map base f.1 ≡ map base g.1 = sym f.4 ∙ (lists_equal ks ls (zip_of (λ a b. a ≡ b) ks ls l each) ∙ g.4) in
      let numbers : f.1 ≡ g.1 = sym (numbers_of f.1) ∙ (ap (map number_of) same ∙ numbers_of g.1) in
      f.2 ∙ (ap base (one_form f.0 g.0 o f.1 g.1 f.3 g.3 numbers) ∙ sym g.2)

  no_theta : (n d : ℕ) (ks : List ℕ) → view n ≡ Some (form (op.Theta d) ks) → ⊥
  no_theta n d ks e = true_false (sym (ap is_theta e) ∙ flat n)

  thetas_alone : (d : ℕ) (P : List (Term × Term)) → IsInduction (terms view) (FirstMember view) [] d P (λ a b. a ≡ b) (Joined (terms view) (FirstMember view) (d ∷ []) (With (λ a b. a ≡ b) P) [])
      → (x y : Term) → In P (x, y) → x ≡ y
  thetas_alone d P h x y i =
      let t = h.thetas x y i in let f = form_of_term x (op.Theta d) (t.p ∷ t.q ∷ []) t.is_left t.left in
      absurd (no_theta f.0 d f.1 f.3)

  pub alone : (a b : Term) → (first_height view).Joins a b → a ≡ b
  alone =
      close-into (terms view) (FirstMember view) [] Nothing (λ a b. a ≡ b) (λ a b f. absurd f) (λ a c. refl) (λ a b e. sym e) (λ a b c e f. e ∙ f) kids_alone thetas_alone
