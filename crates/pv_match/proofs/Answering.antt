-- What is found by class numbers is what `matches` answers.
use Rattle.std.proofs.Common.{◌≡◌, ◌⊎◌, ℕ, zero, suc, ◌<◌, Bool, List, [], ◌∷◌, Some, slice_get, inl, inr, refl, sym, ap, ◌∙◌, subst, arith}
use Rattle.std.specs.List.{AllZip}
use Rattle.std.specs.List.Sorted.{IsStrictlySortedBy}
use Rattle.std.specs.declared.cmp.Ordering.{Ordering}
use Rattle.std.specs.declared.cmp.Ordering.TheVariants.{Less, Equal}
use Rattle.std.proofs.lemmas.Option.{same_Some}
use Rattle.pv_graph.specs.Walks.{In}
use Rattle.pv_graph.specs.Graphs.{Graph}
use Rattle.pv_pattern.specs.declared.names.NameId.{NameId}
use Rattle.pv_pattern.specs.declared.names.NameId.TheVariants as name
use Rattle.pv_pattern.specs.Patterns.{Axiom, Pattern}
use Rattle.pv_pattern.specs.Instances.{Names}
use Rattle.pv_pattern.specs.Binding.{names}
use Rattle.pv_axioms.specs.Entries.{NumbersOnce}
use Rattle.pv_heights.specs.Filled.{named}
use Rattle.pv_heights.specs.Sides as sides
use Rattle.pv_heights.specs.SameClasses.{IsCongruence}
use Rattle.pv_heights.specs.Searches.{nodes, IsNode, OneClass, base_view}
use Rattle.pv_heights.specs.Searches as searches
use Rattle.pv_heights.proofs.Cited.{zip_join, zip_length, zip_left, zip_right}
use Rattle.pv_match.specs.declared.found.Match.{Match}
use Rattle.pv_match.specs.declared.found.Matches as answers
use Rattle.pv_match.specs.declared.found.Matches.TheVariants.{All, More}
use Rattle.pv_match.specs.declared.members.Group.{Group}
use Rattle.pv_match.specs.Parameters.{name_params, once_more, params_of}
use Rattle.pv_match.specs.Reading.{AreReadable}
use Rattle.pv_match.specs.Matches.{IsMatch}
use Rattle.pv_match.specs.All.{AreMatchesOf}
use Rattle.pv_match.specs.Orders.{match_cmp, AreOne}
use Rattle.pv_match.specs.Kept.{KeepsForms}
use Rattle.pv_match.specs.Rules.{AreRules, AreItems}
use Rattle.pv_match.specs.Gathering.{AreMatchesAll, IsFound, IsFoundAll}
use Rattle.pv_match.specs.AllMatches.{Shows, IsAnswer}
use Rattle.pv_match.specs.Agreeing.{AreLeast, Found, IsFoundMatch, AreSomeFound, AreFound}
use Rattle.pv_match.proofs.Numbered.{all_at}
use Rattle.pv_match.proofs.Ordered.{ordered}
use Rattle.pv_match.proofs.Gathers.{in_place, match_from, all_found}
use Rattle.pv_match.proofs.Decoded.{flat_same}
use Rattle.pv_match.proofs.Agreed.{Sees, seen_all, sees_each, sees_once, sees_all}

-- ---- a list in order has each match once

sorted_apart : (xs : List Match) → IsStrictlySortedBy match_cmp xs → (i j : ℕ) (x y : Match) → i < j → slice_get xs i ≡ Some x → slice_get xs j ≡ Some y → match_cmp x y ≡ Less
unfolding IsStrictlySortedBy
sorted_apart [] s i j x y l e f = absurd (cc)
sorted_apart (z ∷ xs) s zero zero x y l e f = absurd (omega (arith, l))
sorted_apart (z ∷ xs) s zero (suc j) x y l e f = subst (λ (w : Match). match_cmp w y ≡ Less) (same_Some z x e) (all_at (λ (w : Match). match_cmp z w ≡ Less) xs s.0 j y f)
sorted_apart (z ∷ xs) s (suc i) zero x y l e f = absurd (omega (arith, l))
sorted_apart (z ∷ xs) s (suc i) (suc j) x y l e f = sorted_apart xs s.1 i j x y (omega (arith, l)) e f

less_or_more : (i j : ℕ) → (i < j) ⊎ (j < i) ⊎ (i ≡ j)
less_or_more i j = grind arith

less_not_equal : (o : Ordering) → o ≡ Less → o ≡ Equal → ⊥
less_not_equal o e f = absurd (cc)

sorted_once : (xs : List Match) → IsStrictlySortedBy match_cmp xs → (i j : ℕ) (x y : Match) → slice_get xs i ≡ Some x → slice_get xs j ≡ Some y → AreOne x y → i ≡ j
sorted_once xs s i j x y e f o = elim (less_or_more i j) [
  | inl l ↦ absurd (less_not_equal (match_cmp x y) (sorted_apart xs s i j x y l e f) ((ordered.exact x y).1 o))
  | inr r ↦ elim r [
    | inl l ↦ absurd (less_not_equal (match_cmp y x) (sorted_apart xs s j i y x l f e) ((ordered.exact y x).1 (sym o.0, sym o.1, sym o.2)))
    | inr q ↦ q
  ]
]

-- ---- the parameters don't look at nodes

same_params : (m : Names) (i : NameId) → name_params m i ≡ name_params (named (searches.params_of m)) i
same_params m name.Depth = refl
same_params m (name.Symbol s) = refl
same_params m (name.Kind k) = refl
same_params m (name.Constant j) = refl
same_params m name.Operation = refl

pub named_params : (m : Names) (left : Pattern) → params_of m left ≡ params_of (named (searches.params_of m)) left
named_params m left = flat_same (name_params m) (name_params (named (searches.params_of m))) (once_more [] (names left)) (λ i k. same_params m i)

module _ (g : Graph) (numbers assumed : List ℕ) (table : List Axiom) (a : AreLeast g numbers) (c : IsCongruence (base_view g) (nodes g) (IsNode g) (OneClass numbers)) (readable : AreReadable table) (once : NumbersOnce table) where
  -- x is a match of the table, with its axiom
  abbrev IsOf : Match → Found → Type 0
  IsOf x f = IsFoundMatch g numbers assumed table f × (x.axiom ≡ f.entry.number) × (x.params.items ≡ f.params) × (x.classes.items ≡ f.classes)

  abbrev HasAxiom : Match → Type 0
  HasAxiom x = (b : Axiom) × In table b × (x.axiom ≡ b.number) × IsMatch g numbers assumed b x.params.items x.classes.items

  axioms_of : (xs : List Match) → ((x : Match) → In xs x → HasAxiom x) → (fs : List Found) × AllZip IsOf xs fs
  axioms_of [] h = ([], tt)
  axioms_of (x ∷ xs) h =
      let k = h x (inl refl) in
      let r = axioms_of xs (λ y i. h y (inr i)) in
      (record { entry = k.0; params = x.params.items; classes = x.classes.items } ∷ r.0, (((k.1, k.3), k.2, refl, refl), r.1))

  one_axiom : (d e : Axiom) → In table d → In table e → d.number ≡ e.number → d ≡ e
  one_axiom d e i k n =
      let x = in_place table d i in
      let y = in_place table e k in
      same_Some d e (sym x.1 ∙ ap (slice_get table) (once x.0 y.0 d e x.1 y.1 n) ∙ y.1)

  same_entry : (f h : Found) → f.entry ≡ h.entry → f.params ≡ h.params → f.classes ≡ h.classes → f ≡ h
  same_entry f h e p q = ap (λ d. record f { entry = d }) e ∙ (ap (λ ps. record h { params = ps; classes = f.classes }) p ∙ ap (λ cs. record h { classes = cs }) q)

  some_found : (xs : List Match) (fs : List Found) → IsStrictlySortedBy match_cmp xs → AllZip IsOf xs fs → AreSomeFound g numbers assumed table fs
  some_found xs fs s zip = record {
    each = λ i f e. (zip_right IsOf xs fs zip i f e).2.0;
    once = λ i j f d e.
        let x = zip_right IsOf xs fs zip i f d in
        let y = zip_right IsOf xs fs zip j f e in
        sorted_once xs s i j x.0 y.0 x.1 y.1 (x.2.1 ∙ sym y.2.1, x.2.2 ∙ sym y.2.2, x.2.3 ∙ sym y.2.3);
  }

  all_founds : (xs : List Match) (fs : List Found) → AreMatchesAll g numbers assumed table xs → IsStrictlySortedBy match_cmp xs → AllZip IsOf xs fs → AreFound g numbers assumed table fs
  all_founds xs fs is s zip = record {
    some_ = some_found xs fs s zip;
    all = λ f h.
        let x = is.all f.entry f.params f.classes h.0 h.1 in
        let i = in_place xs x.0 x.1 in
        let o = zip_left IsOf xs fs zip i.0 x.0 i.1 in
        (i.0, o.1 ∙ ap Some (same_entry o.0 f (one_axiom o.0.entry f.entry o.2.0.0 h.0 (sym o.2.1 ∙ x.2)) (sym o.2.2 ∙ x.3) (sym o.2.3 ∙ x.4)));
  }

  shows : (x : Match) (f : Found) (m : sides.Match ℕ) → IsOf x f → Sees g numbers assumed table a c readable f m → Shows x m
  shows x f m h s = subst (Shows x) (sym s.2) (record {
    number = h.1;
    params = h.2 ∙ (s.1.fits.params_ ∙ named_params s.1.names f.entry.left);
    classes = h.3 ∙ s.1.fits.are;
  })

  pub answer_by : (limit : ℕ) (answer : answers.Matches) → IsFoundAll g numbers assumed table limit answer → IsAnswer g numbers assumed table limit answer
  answer_by limit (All list) is =
      let fs = axioms_of list.items is.0.each in
      let found = all_founds list.items fs.0 is.0 is.1 fs.1 in
      let ms = seen_all g numbers assumed table a c readable fs.0 found.some_.each in (
        record {
          matches = ms.0;
          shown = zip_join IsOf (Sees g numbers assumed table a c readable) Shows shows list.items fs.0 ms.0 fs.1 ms.1;
          all = sees_all g numbers assumed table a c readable fs.0 ms.0 ms.1 found;
          ordered = is.1;
        },
        is.2,
      )
  answer_by limit (More n) is =
      let fs = axioms_of is.1 is.2.each in
      let found = some_found is.1 fs.0 is.3 fs.1 in
      let ms = seen_all g numbers assumed table a c readable fs.0 found.each in (
        is.0,
        record {
          list = ms.0;
          long = sym (zip_length (Sees g numbers assumed table a c readable) fs.0 ms.0 ms.1) ∙ (sym (zip_length IsOf is.1 fs.0 fs.1) ∙ (is.2.long ∙ sym is.0));
          each = sees_each g numbers assumed table a c readable fs.0 ms.0 ms.1;
          once = sees_once g numbers assumed table a c readable fs.0 ms.0 ms.1 found;
        },
      )

  -- ---- what is found at the items of a table

  axiom_in : (items : List ℕ) (xs : List Match) → AreMatchesOf g numbers assumed table items xs → (x : Match) → In xs x → HasAxiom x
  axiom_in items xs is x i =
      let r = is.each x i in
      (r.0, r.2.0, r.3, match_from g numbers assumed table readable r.0 r.1 x.params.items x.classes.items r.2.0 r.4)

  found_all : (kept : List Bool) (rules : List Group) (items : List ℕ) (limit : ℕ) (answer : answers.Matches) → KeepsForms g numbers kept → AreRules table rules → AreItems g.nodes kept rules items → IsFound g numbers assumed table limit items answer
      → IsFoundAll g numbers assumed table limit answer
  found_all kept rules items limit (All list) k r w is = (
    record { each = axiom_in items list.items is.0; all = all_found g numbers assumed table kept rules items list.items readable k r w is.0 },
    is.1,
    is.2,
  )
  found_all kept rules items limit (More n) k r w is = is

  pub answer_of : (kept : List Bool) (rules : List Group) (items : List ℕ) (limit : ℕ) (answer : answers.Matches) → KeepsForms g numbers kept → AreRules table rules → AreItems g.nodes kept rules items → IsFound g numbers assumed table limit items answer → IsAnswer g numbers assumed table limit answer
  answer_of kept rules items limit answer k r w is = answer_by limit answer (found_all kept rules items limit answer k r w is)
