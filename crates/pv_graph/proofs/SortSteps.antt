-- Steps of the code that finds sorts: equal lists of sorts, descriptors that are read, and the sorts of parameters.
use Rattle.std.proofs.Common.{◌≡◌, ℕ, zero, suc, ◌+◌, ◌<◌, Bool, List, [], ◌∷◌, ◌++◌, length, get_or, take, slice_get, subst, MatchOption, Option, Some, None, refl, sym, ap, ◌∙◌, arith, add-one, if◌then◌else◌}
use Rattle.std.specs.Cmp.Lexicographic.{pointwise}
use Rattle.std.proofs.lemmas.Option.{slice_get-get_or}
use Rattle.std.proofs.lemmas.List.{take_more}
use Rattle.pv_value.specs.Spelled.{bind, field_type, method_type}
use Rattle.pv_value.specs.Descriptors.{IsFieldType, IsMethodType}
use Rattle.pv_value.specs.declared.descriptor.JType.{JType}
use Rattle.pv_value.specs.declared.descriptor.Descriptor.{Descriptor}
use Rattle.pv_value.proofs.Cited.{field_spelled, method_spelled}
use Rattle.pv_graph.proofs.NodeLaws.{bind_some}
use Rattle.pv_graph.specs.contracts.node.OpSortPartialEq.TheImpl.{eq-value as sort_eq}
use Rattle.pv_graph.specs.declared.node.OpSort.{OpSort}
use Rattle.pv_graph.specs.declared.node.OpSort.TheVariants.{I, L, A, N, F, T, H, R}
use Rattle.pv_graph.specs.Ops.{same_sort, same_sorts, exactly, type_sort, type_sorts, HaveSorts}

pub same_sort_test : (s t : OpSort) → sort_eq.it s t ≡ same_sort s t
same_sort_test I I = refl
same_sort_test L L = refl
same_sort_test A A = refl
same_sort_test N N = refl
same_sort_test F F = refl
same_sort_test T T = refl
same_sort_test H H = refl
same_sort_test R R = refl
same_sort_test s t = refl

same_sorts_test : (ss ts : List OpSort) → pointwise sort_eq.it ss ts ≡ same_sorts ss ts
same_sorts_test [] [] = refl
same_sorts_test [] (t ∷ ts) = refl
same_sorts_test (s ∷ ss) [] = refl
same_sorts_test (s ∷ ss) (t ∷ ts) = rw (same_sort_test s t, same_sorts_test ss ts) refl

-- what the test of two lists of sorts chooses
pub chosen : (takes kids : List OpSort) (gives : OpSort) (b : Bool) → b ≡ pointwise sort_eq.it takes kids → (if b then Some gives else None) ≡ exactly takes gives kids
chosen takes kids gives b e = ap (λ (t : Bool). if t then Some gives else None) (e ∙ same_sorts_test takes kids)

-- what is read from a text is the type that it spells
pub field_read : (text : List ℕ) (r : Option JType) → MatchOption r ((t : JType) → IsFieldType text t → ⊥) (λ t. IsFieldType text t) → r ≡ field_type text
field_read text (Some t) h = sym ((field_spelled text t).1 h)
field_read text None h = by (field_type text) refl
  where
    by : (o : Option JType) → field_type text ≡ o → None ≡ o
    by None e = refl
    by (Some t) e = absurd (h t ((field_spelled text t).0 e))

pub method_read : (text : List ℕ) (r : Option Descriptor) → MatchOption r ((d : Descriptor) → IsMethodType text d → ⊥) (λ d. IsMethodType text d) → r ≡ method_type text
method_read text (Some d) h = sym ((method_spelled text d).1 h)
method_read text None h = by (method_type text) refl
  where
    by : (o : Option Descriptor) → method_type text ≡ o → None ≡ o
    by None e = refl
    by (Some d) e = absurd (h d ((method_spelled text d).0 e))

module _ (d : JType) where
  sorts_suc : (ts : List JType) (i : ℕ) (ss : List OpSort) (s : OpSort) → i < length ts → type_sorts (take i ts) ≡ Some ss → type_sort (get_or ts i d) ≡ Some s → type_sorts (take (suc i) ts) ≡ Some (ss ++ s ∷ [])
  sorts_suc [] i ss s lt e f = absurd (omega arith)
  sorts_suc (t ∷ ts) zero ss s lt e f =
      let none : ss ≡ [] = cc in
      rw (f, none) refl
  sorts_suc (t ∷ ts) (suc i) ss s lt e f =
      let first = bind_some (type_sort t) (λ u. bind (type_sorts (take i ts)) (λ us. Some (u ∷ us))) ss e in
      let others = bind_some (type_sorts (take i ts)) (λ us. Some (first.0 ∷ us)) ss first.2 in
      let all : first.0 ∷ others.0 ≡ ss = (let z = others.2 in cc) in
      rw (first.1, sorts_suc ts i others.0 s (omega arith) others.1 f) (ap (λ (us : List OpSort). Some (us ++ s ∷ [])) all)

  -- one parameter more
  pub type_sorts_more : (ts : List JType) (i : ℕ) (ss : List OpSort) (s : OpSort) → i < length ts → type_sorts (take i ts) ≡ Some ss → type_sort (get_or ts i d) ≡ Some s → type_sorts (take (i + 1) ts) ≡ Some (ss ++ s ∷ [])
  type_sorts_more ts i ss s lt e f = rw add-one (sorts_suc ts i ss s lt e f)

  -- a parameter without a sort
  pub type_sorts_none : (ts : List JType) (i : ℕ) → i < length ts → type_sort (get_or ts i d) ≡ None → type_sorts ts ≡ None
  type_sorts_none [] i lt f = absurd (omega arith)
  type_sorts_none (t ∷ ts) zero lt f = rw f refl
  type_sorts_none (t ∷ ts) (suc i) lt f = rw (type_sorts_none ts i (omega arith) f) (stopped (type_sort t))
    where
      stopped : (o : Option OpSort) → bind {B = List OpSort} o (λ s. None) ≡ None
      stopped None = refl
      stopped (Some s) = refl

-- ---- the sorts of kids

have_also : (all : List OpSort) (kids : List ℕ) (sorts : List OpSort) (k : ℕ) (s : OpSort) → HaveSorts all kids sorts → slice_get all k ≡ Some s → HaveSorts all (kids ++ k ∷ []) (sorts ++ s ∷ [])
have_also all [] [] k s h at = (at, tt)
have_also all [] (t ∷ ts) k s h at = absurd h
have_also all (l ∷ ls) [] k s h at = absurd h
have_also all (l ∷ ls) (t ∷ ts) k s h at = (h.0, have_also all ls ts k s h.1 at)

-- the sorts of one kid more
pub have_push : (all : List OpSort) (kids : List ℕ) (sorts : List OpSort) (i : ℕ) (s : OpSort) → i < length kids → HaveSorts all (take i kids) sorts → get_or kids i 0 < length all → s ≡ get_or all (get_or kids i 0) s → HaveSorts all (take (i + 1) kids) (sorts ++ s ∷ [])
have_push all kids sorts i s lt have within at =
    subst (λ (ks : List ℕ). HaveSorts all ks (sorts ++ s ∷ [])) (sym (take_more kids i 0 lt))
    (have_also all (take i kids) sorts (get_or kids i 0) s have (slice_get-get_or all (get_or kids i 0) s within ∙ ap Some (sym at)))
