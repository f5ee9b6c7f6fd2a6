-- The first node of each form in each class is kept, and nothing that a class holds is lost.
use Rattle.std.proofs.Common.{◌≡◌, ◌⊎◌, ℕ, zero, suc, ◌<◌, Bool, List, [], ◌∷◌, ◌++◌, map, Option, Some, None, slice_get, inl, inr, refl, sym, ap, ◌∙◌, subst, arith}
use Rattle.std.specs.List.{AllZip}
use Rattle.std.proofs.lemmas.Option.{slice_get_within, same_Some, none-some}
use Rattle.pv_graph.specs.declared.node.Op.{Op}
use Rattle.pv_graph.specs.declared.node.Node.{Node}
use Rattle.pv_graph.specs.Nodes.{node_of}
use Rattle.pv_graph.specs.Forms.{form}
use Rattle.pv_graph.specs.Graphs.{Graph, form_at}
use Rattle.pv_graph.proofs.Cited.{node_at, form_there, same_or_other}
use Rattle.pv_classes.specs.Partition.{AreOne}
use Rattle.pv_classes.specs.Forms as forms
use Rattle.pv_heights.specs.Searches.{nodes}
use Rattle.pv_marks.specs.Classes.{class_of, HasForm}
use Rattle.pv_match.specs.Kept.{IsKept, KeepsForms, AddsKept}
use Rattle.pv_match.proofs.Adding.{in_left, in_right, in_both}

-- ---- a list of nodes that are kept

pub adds_none : (kept : List Bool) (old : List ℕ) → AddsKept kept [] old old
adds_none kept old = record { stay = λ n i. i; added = λ n i k. absurd i }

pub adds_one : (kept : List Bool) (nodes old new : List ℕ) (n : ℕ) → AddsKept kept nodes old new → AddsKept kept (nodes ++ n ∷ []) old (new ++ n ∷ [])
adds_one kept nodes old new n adds = record {
  stay = λ m i. in_left new (n ∷ []) m (adds.stay m i);
  added = λ m i k. elim (in_both nodes (n ∷ []) m i) [ inl j ↦ in_left new (n ∷ []) m (adds.added m j k) | inr j ↦ in_right new (n ∷ []) m j ];
}

pub adds_other : (kept : List Bool) (nodes old new : List ℕ) (n : ℕ) → (IsKept kept n → ⊥) → AddsKept kept nodes old new → AddsKept kept (nodes ++ n ∷ []) old new
adds_other kept nodes old new n no_ adds = record {
  stay = adds.stay;
  added = λ m i k. elim (in_both nodes (n ∷ []) m i) [ inl j ↦ adds.added m j k | inr j ↦ elim j [ inl e ↦ absurd (no_ (subst (IsKept kept) (sym e) k)) | inr v ↦ absurd v ] ];
}

-- ---- the first node of a form

same_number : (a b : ℕ) → (a ≡ b) ⊎ (a ≡ b → ⊥)
same_number a b = grind arith

below_or_at : (n i : ℕ) → n < suc i → (n < i) ⊎ (n ≡ i)
below_or_at n i lt = grind arith

module _ (all : List Node) (numbers : List ℕ) (c : ℕ) where
  -- the form of a node: its operation over the classes of its kids
  abbrev form_in : Node → Node
  form_in node = node_of node.op (map (class_of numbers) node.kids)

  -- node n of the class has the form
  abbrev IsFormOf : Node → ℕ → Type 0
  IsFormOf f n = (node : Node) × (slice_get all n ≡ Some node) × (form_in node ≡ f) × (class_of numbers n ≡ c)

  is_or_not : (f : Node) (n : ℕ) → IsFormOf f n ⊎ (IsFormOf f n → ⊥)
  is_or_not f n = go (slice_get all n) refl
    where
      go : (o : Option Node) → slice_get all n ≡ o → IsFormOf f n ⊎ (IsFormOf f n → ⊥)
      go None e = inr (λ h. none-some h.0 (sym e ∙ h.1))
      go (Some node) e = elim (same_or_other (form_in node) f) [
        | inl same ↦ elim (same_number (class_of numbers n) c) [ inl at ↦ inl (node, e, same, at) | inr ne ↦ inr (λ h. ne h.3) ]
        | inr ne ↦ inr (λ h. ne (ap form_in (same_Some node h.0 (sym e ∙ h.1)) ∙ h.2))
      ]

  -- the first of some nodes that has the form
  abbrev FirstBelow : Node → ℕ → Type 0
  FirstBelow f b = (n : ℕ) × (n < b) × IsFormOf f n × ((i : ℕ) → i < n → IsFormOf f i → ⊥)

  first_below : (f : Node) (b : ℕ) → FirstBelow f b ⊎ ((i : ℕ) → i < b → IsFormOf f i → ⊥)
  first_below f zero = inr (λ i l. absurd (omega (arith, l)))
  first_below f (suc b) = elim (first_below f b) [
    | inl h ↦ inl (h.0, (let l = h.1 in omega (arith, l)), h.2, h.3)
    | inr none ↦ elim (is_or_not f b) [
      | inl h ↦ inl (b, omega arith, h, none)
      | inr no_ ↦ inr (λ i l h. elim (below_or_at i b l) [ inl low ↦ none i low h | inr e ↦ no_ (subst (IsFormOf f) e h) ])
    ]
  ]

  same_classes : (ks ls : List ℕ) → AllZip (AreOne numbers) ks ls → map (class_of numbers) ks ≡ map (class_of numbers) ls
  same_classes [] [] z = refl
  same_classes [] (l ∷ ls) z = absurd z
  same_classes (k ∷ ks) [] z = absurd z
  same_classes (k ∷ ks) (l ∷ ls) z = ap (λ (c : ℕ). c ∷ map (class_of numbers) ks) z.0 ∙ ap (λ (cs : List ℕ). class_of numbers l ∷ cs) (same_classes ks ls z.1)

  has_form : (node : Node) (n : ℕ) → forms.HasForm all numbers node.op node.kids n → class_of numbers n ≡ c → IsFormOf (form_in node) n
  has_form node n h at = (node_of node.op h.kids, h.is, ap (node_of node.op) (same_classes h.kids node.kids h.one), at)

  -- .. is kept
  first_is_kept : (firsts : List Bool) → forms.AreFirst all numbers firsts → (f : Node) (n : ℕ) → IsFormOf f n → ((i : ℕ) → i < n → IsFormOf f i → ⊥) → IsKept firsts n
  first_is_kept firsts are f n h none =
      (are.each n (slice_get_within all n h.0 h.1)).1 (λ i node l at one has. none i l (subst (λ (e : Node). IsFormOf e i) (ap form_in (same_Some node h.0 (sym at ∙ h.1)) ∙ h.2) (has_form node i has (one ∙ h.3))))

-- ---- what a class holds

module _ (g : Graph) (numbers : List ℕ) where
  -- what a class holds it holds at its first node of that form
  pub firsts_keep : (firsts : List Bool) → forms.AreFirst g.nodes numbers firsts → KeepsForms g numbers firsts
  firsts_keep firsts are c o over h = elim (first_below g.nodes numbers c f (suc h.node)) [
    | inl first ↦ (held first.0 first.2, first_is_kept g.nodes numbers c firsts are f first.0 first.2 first.3)
    | inr none ↦ absurd (none h.node (omega arith) here)
  ]
    where
      f : Node
      f = node_of o over

      at : (node : Node) × (slice_get g.nodes h.node ≡ Some node) × (node.op ≡ o) × (node.kids ≡ h.kids)
      at = node_at g.nodes h.node o h.kids h.is

      here : IsFormOf g.nodes numbers c f h.node
      here = (at.0, at.1, ap (λ (p : Op). node_of p (map (class_of numbers) at.0.kids)) at.2 ∙ ap (node_of o) (ap (map (class_of numbers)) at.3 ∙ h.classes), h.here)

      held : (n : ℕ) → IsFormOf g.nodes numbers c f n → HasForm g numbers c o over
      held n is =
          let op : is.0.op ≡ o = ap (λ (x : Node). x.op) is.2 in
          let classes : map (class_of numbers) is.0.kids ≡ over = ap (λ (x : Node). x.kids) is.2 in
          let there : form_at g.nodes n ≡ Some (form o is.0.kids) = subst (λ (p : Op). form_at g.nodes n ≡ Some (form p is.0.kids)) op (form_there g.nodes n is.0 is.1) in
          record { node = n; kids = is.0.kids; is = there; here = is.3; classes = classes }
