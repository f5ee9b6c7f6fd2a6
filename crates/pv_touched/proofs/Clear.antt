-- Lists of classes that are clear or not.
use Rattle.std.specs.Prelude.{◌≡◌, ◌≢◌, ◌⊎◌, ℕ, zero, suc, ◌+◌, ◌<◌, Bool, true, false, List, [], ◌∷◌, ◌++◌, length, take, Some, slice_get, slice_index, slice_set}
use Rattle.std.specs.Bool.{OnTrue, OnFalse}
use Rattle.std.proofs.Common.{inl, inr, sym, ap, ◌∙◌, subst, arith}
use Rattle.std.proofs.lemmas.List.{length-append, take_more}
use Rattle.std.proofs.lemmas.Option.{same_Some, slice_get_within}
use Rattle.pv_graph.specs.declared.node.Op.{Op}
use Rattle.pv_graph.specs.declared.node.Node.{Node}
use Rattle.pv_graph.specs.Forms.{form}
use Rattle.pv_graph.specs.Walks.{In}
use Rattle.pv_graph.specs.Graphs.{Graph, form_at}
use Rattle.pv_graph.proofs.Cited.{equal_or_not, in_cases, in_front, in_last, node_at, push_cases, set_same, set_other}
use Rattle.pv_marks.specs.Classes.{class_of}
use Rattle.pv_match.specs.Kept.{IsKept}
use Rattle.pv_touched.specs.declared.since.Since.{Since}
use Rattle.pv_touched.specs.Far.{Stayed, IsFar, IsClear, AreFar, AllClear, HaveMarks, StayedBelow, SpreadsBelow, Spreads, IsOld, ListsNearBelow}

true_not_false : {A : Type 0} → Some true ≡ Some false → A
true_not_false e = absurd (cc)

-- a class that is clear after another was set was clear before, and is not that one
pub clear_before : (near : List Bool) (c k : ℕ) → c < length near → IsClear (slice_set near c true) k → IsClear near k × (k ≢ c)
clear_before near c k low e = elim (equal_or_not k c) [
  | inl same ↦ true_not_false (sym (set_same near c true low) ∙ subst (λ (j : ℕ). slice_get (slice_set near c true) j ≡ Some false) same e)
  | inr other ↦ (sym (set_other near c true k other) ∙ e, other)
]

-- ---- the classes of nodes

pub clear_more : (numbers : List ℕ) (near : List Bool) (kids : List ℕ) (i : ℕ) → i < length kids → AllClear numbers near (take i kids) → IsClear near (class_of numbers (slice_index kids i)) → AllClear numbers near (take (i + 1) kids)
clear_more numbers near kids i lt all one k m = elim (in_cases (take i kids) (slice_index kids i) k (subst (λ (ks : List ℕ). In ks k) (take_more kids i 0 lt) m)) [
  | inl j ↦ all k j
  | inr e ↦ subst (λ (j : ℕ). IsClear near (class_of numbers j)) e one
]

-- the kids of a node, by its form
pub kids_clear : (g : Graph) (numbers : List ℕ) (near : List Bool) (n : ℕ) (node : Node) → slice_get g.nodes n ≡ Some node → AllClear numbers near node.kids → (o : Op) (ks : List ℕ) → form_at g.nodes n ≡ Some (form o ks) → AllClear numbers near ks
kids_clear g numbers near n node at all o ks e =
    let w = node_at g.nodes n o ks e in
    subst (λ (xs : List ℕ). AllClear numbers near xs) (ap (λ (x : Node). x.kids) (same_Some node w.0 (sym at ∙ w.1)) ∙ w.3) all

below_or_at : (k n : ℕ) → k < n + 1 → (k < n) ⊎ (k ≡ n)
below_or_at k n lt = grind arith

-- ---- marks

pub marks_more : (s : Since) (bound : ℕ) (changed : List Bool) (x : Bool) → (x ≡ false → slice_index s.old_marks.now bound ≡ slice_index s.marks.now bound) → HaveMarks bound s changed → HaveMarks (bound + 1) s (changed ++ x ∷ [])
marks_more s bound changed x same have = record {
  long = (let l = have.long in omega (arith, l, length-append changed (x ∷ [])));
  same = λ c e. elim (push_cases changed x false c e) [
    | inl old ↦ have.same c old
    | inr here ↦ subst (λ (k : ℕ). slice_index s.old_marks.now k ≡ slice_index s.marks.now k) (sym (here.0 ∙ have.long)) (same here.1)
  ];
}

-- ---- members

module _ (s : Since) (n : ℕ) (changed : List Bool) (is : StayedBelow n s changed) where
  pub stayed_set : class_of s.numbers.now n < length changed → StayedBelow (n + 1) s (slice_set changed (class_of s.numbers.now n) true)
  stayed_set low = record {
    members = λ c k e lt is_in.
        let b = clear_before changed (class_of s.numbers.now n) c low e in
        elim (below_or_at k n lt) [
          | inl old ↦ is.members c k b.0 old is_in
          | inr here ↦ absurd (b.1 (sym is_in ∙ ap (class_of s.numbers.now) here))
        ];
    mark = λ c e. is.mark c (clear_before changed (class_of s.numbers.now n) c low e).0;
  }

  pub stayed_kept : (n < length s.old_numbers.now) × (class_of s.old_numbers.now n ≡ class_of s.numbers.now n) → StayedBelow (n + 1) s changed
  stayed_kept same = record {
    members = λ c k e lt is_in. elim (below_or_at k n lt) [
      | inl old ↦ is.members c k e old is_in
      | inr here ↦ (
        subst (λ (j : ℕ). j < length s.old_numbers.now) (sym here) same.0,
        ap (class_of s.old_numbers.now) here ∙ (same.1 ∙ (ap (class_of s.numbers.now) (sym here) ∙ is_in)),
      )
    ];
    mark = is.mark;
  }

-- ---- one step

module _ (g : Graph) (numbers : List ℕ) (n : ℕ) (old new : List Bool) (is : SpreadsBelow n g numbers old new) where
  pub spreads_set : class_of numbers n < length new → SpreadsBelow (n + 1) g numbers old (slice_set new (class_of numbers n) true)
  spreads_set low = record {
    stay = λ c e. is.stay c (clear_before new (class_of numbers n) c low e).0;
    kids = λ c k o ks lt e at is_in.
        let b = clear_before new (class_of numbers n) c low e in
        elim (below_or_at k n lt) [
          | inl before ↦ is.kids c k o ks before b.0 at is_in
          | inr here ↦ absurd (b.1 (sym is_in ∙ ap (class_of numbers) here))
        ];
  }

  pub spreads_kept : ((o : Op) (ks : List ℕ) → form_at g.nodes n ≡ Some (form o ks) → AllClear numbers old ks) → SpreadsBelow (n + 1) g numbers old new
  spreads_kept all = record {
    stay = is.stay;
    kids = λ c k o ks lt e at is_in. elim (below_or_at k n lt) [
      | inl before ↦ is.kids c k o ks before e at is_in
      | inr here ↦ all o ks (subst (λ (j : ℕ). form_at g.nodes j ≡ Some (form o ks)) here at)
    ];
  }

-- ---- several steps

module _ (g : Graph) (s : Since) where
  pub far_stayed : (d c : ℕ) → IsFar g s d c → Stayed s c
  far_stayed zero c h = h
  far_stayed (suc d) c h = h.0

  pub far_more : (d : ℕ) (near next : List Bool) → Spreads g s.numbers.now near next → AreFar g s d near → AreFar g s (d + 1) next
  far_more d near next spreads far c e = subst (λ (k : ℕ). IsFar g s k c) (one_more d) (
    far_stayed d c (far c (spreads.stay c e)),
    (λ n o ks at is_in k m. far (class_of s.numbers.now k) (spreads.kids c n o ks (within n o ks at) e at is_in k m)),
  )
    where
      one_more : (d : ℕ) → suc d ≡ d + 1
      one_more d = omega arith

      within : (n : ℕ) (o : Op) (ks : List ℕ) → form_at g.nodes n ≡ Some (form o ks) → n < length g.nodes
      within n o ks at = let w = node_at g.nodes n o ks at in slice_get_within g.nodes n w.0 w.1

-- ---- nodes

module _ (g : Graph) (s : Since) (kept near : List Bool) (n : ℕ) (touched : List ℕ) (is : ListsNearBelow n g s kept near touched) where
  pub lists_pushed : ListsNearBelow (n + 1) g s kept near (touched ++ n ∷ [])
  lists_pushed k lt keep = elim (below_or_at k n lt) [
    | inl before ↦ elim (is k before keep) [ inl i ↦ inl (in_front touched n k i) | inr u ↦ inr u ]
    | inr here ↦ inl (subst (In (touched ++ n ∷ [])) (sym here) (in_last touched n))
  ]

  pub lists_kept : (IsKept kept n → IsOld g s near n) → ListsNearBelow (n + 1) g s kept near touched
  lists_kept old k lt keep = elim (below_or_at k n lt) [
    | inl before ↦ is k before keep
    | inr here ↦ inr (subst (λ (j : ℕ). IsOld g s near j) (sym here) (old (subst (IsKept kept) here keep)))
  ]

pub all_pushed : (all : List ℕ) (n : ℕ) → ((k : ℕ) → k < n → In all k) → (k : ℕ) → k < n + 1 → In (all ++ n ∷ []) k
all_pushed all n is k lt = elim (below_or_at k n lt) [ inl before ↦ in_front all n k (is k before) | inr here ↦ subst (In (all ++ n ∷ [])) (sym here) (in_last all n) ]

-- ---- tests

pub on_true_more : (b : Bool) (P Q : Type 0) → (P → Q) → OnTrue b P → OnTrue b Q
on_true_more true P Q f h = f h
on_true_more false P Q f h = tt

pub on_true : (b : Bool) (P : Type 0) → b ≡ true → OnTrue b P → P
on_true b P e h = subst (λ (v : Bool). OnTrue v P) e h

pub on_false : (b : Bool) (P : Type 0) → b ≡ false → OnFalse b P → P
on_false b P e h = subst (λ (v : Bool). OnFalse v P) e h
