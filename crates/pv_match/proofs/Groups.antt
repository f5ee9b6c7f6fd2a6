-- Nodes in groups by the numbers of their operations.
use Rattle.std.specs.Prelude.{◌≡◌, ◌≢◌, ◌⊎◌, ℕ, zero, suc, ◌<◌, ◌+◌, Bool, true, false, List, [], ◌∷◌, ◌++◌, length, Option, Some, None, slice_get, slice_set, nat_eq, if◌then◌else◌, Vec, refl}
use Rattle.std.specs.declared.alloc.Global.{Global}
use Rattle.std.proofs.Common.{inl, inr, sym, ap, ◌∙◌, subst, arith, eq-eqb}
use Rattle.std.proofs.lemmas.Option.{slice_get_within, same_Some}
use Rattle.pv_graph.proofs.Cited.{equal_or_not, in_cases, in_front, in_last, push_cases, set_same, set_other, node_at, form_there}
use Rattle.pv_graph.specs.declared.node.Node.{Node}
use Rattle.pv_graph.specs.Forms.{form}
use Rattle.pv_graph.specs.Walks.{In}
use Rattle.pv_graph.specs.Graphs.{Graph, form_at}
use Rattle.pv_pattern.specs.Numbers.{op_number}
use Rattle.pv_marks.specs.Classes.{class_of}
use Rattle.pv_match.specs.declared.members.Group.{Group}
use Rattle.pv_match.specs.Bindings.{with_number, groups_in, groups_at, members_of, IsMembers}
use Rattle.pv_match.specs.Kept.{IsKept, KeepsForms}
use Rattle.pv_match.specs.Grouping.{HasNoGroup, IsGroupAt, Gains, IsNoMember, IsListedAs, AreListed}

same_test : (a b : ℕ) → a ≡ b → nat_eq a b ≡ true
same_test a b e = eq-eqb a b e

other_test : (a b : ℕ) → a ≢ b → nat_eq a b ≡ false
other_test a b ne = grind arith

if_same : (x : Group) (rest : List Group) (number : ℕ) → x.number ≡ number → with_number (x ∷ rest) number ≡ x.members.items
if_same x rest number e = ap (λ (t : Bool). if t then x.members.items else with_number rest number) (same_test x.number number e)

if_other : (x : Group) (rest : List Group) (number : ℕ) → x.number ≢ number → with_number (x ∷ rest) number ≡ with_number rest number
if_other x rest number ne = ap (λ (t : Bool). if t then x.members.items else with_number rest number) (other_test x.number number ne)

pub none_with : (groups : List Group) (number : ℕ) → HasNoGroup groups number → with_number groups number ≡ []
none_with [] number no_ = refl
none_with (x ∷ groups) number no_ = if_other x groups number (no_ 0 x refl) ∙ none_with groups number (λ i y e. no_ (suc i) y e)

-- a group that is pushed
pub pushed_here : (groups : List Group) (x : Group) (number : ℕ) → HasNoGroup groups number → x.number ≡ number → with_number (groups ++ x ∷ []) number ≡ x.members.items
pushed_here [] x number no_ e = if_same x [] number e
pushed_here (y ∷ groups) x number no_ e = if_other y (groups ++ x ∷ []) number (no_ 0 y refl) ∙ pushed_here groups x number (λ i z f. no_ (suc i) z f) e

pub pushed_other : (groups : List Group) (x : Group) (k : ℕ) → x.number ≢ k → with_number (groups ++ x ∷ []) k ≡ with_number groups k
pushed_other [] x k ne = if_other x [] k ne
pushed_other (y ∷ groups) x k ne = elim (equal_or_not y.number k) [
  | inl e ↦ if_same y (groups ++ x ∷ []) k e ∙ sym (if_same y groups k e)
  | inr f ↦ if_other y (groups ++ x ∷ []) k f ∙ (pushed_other groups x k ne ∙ sym (if_other y groups k f))
]

-- a group that changes
pub set_here : (groups : List Group) (number i : ℕ) (x y : Group) → slice_get groups i ≡ Some x → x.number ≡ number → y.number ≡ number → ((k : ℕ) (z : Group) → k < i → slice_get groups k ≡ Some z → z.number ≢ number)
    → (with_number groups number ≡ x.members.items) × (with_number (slice_set groups i y) number ≡ y.members.items)
set_here [] number i x y at e f least = absurd (cc)
set_here (z ∷ groups) number zero x y at e f least =
    let same : z ≡ x = same_Some z x at in
    (if_same z groups number (ap (λ (w : Group). w.number) same ∙ e) ∙ ap (λ (w : Group). w.members.items) same, if_same y groups number f)
set_here (z ∷ groups) number (suc i) x y at e f least =
    let ne : z.number ≢ number = least 0 z (omega arith) refl in
    let r = set_here groups number i x y at e f (λ k w lt g. least (suc k) w (omega arith) g) in
    (if_other z groups number ne ∙ r.0, if_other z (slice_set groups i y) number ne ∙ r.1)

pub set_others : (groups : List Group) (k i : ℕ) (x y : Group) → slice_get groups i ≡ Some x → x.number ≢ k → y.number ≢ k → with_number (slice_set groups i y) k ≡ with_number groups k
set_others [] k i x y at e f = absurd (cc)
set_others (z ∷ groups) k zero x y at e f =
    let same : z ≡ x = same_Some z x at in
    if_other y groups k f ∙ sym (if_other z groups k (λ g. e (sym (ap (λ (w : Group). w.number) same) ∙ g)))
set_others (z ∷ groups) k (suc i) x y at e f = elim (equal_or_not z.number k) [
  | inl g ↦ if_same z (slice_set groups i y) k g ∙ sym (if_same z groups k g)
  | inr g ↦ if_other z (slice_set groups i y) k g ∙ (set_others groups k i x y at e f ∙ sym (if_other z groups k g))
]

pub gains_pushed : (groups : List Group) (x : Group) (number n : ℕ) → HasNoGroup groups number → x.number ≡ number → x.members.items ≡ n ∷ [] → Gains groups (groups ++ x ∷ []) number n
gains_pushed groups x number n no_ e f = record {
  here = pushed_here groups x number no_ e ∙ (f ∙ ap (λ (xs : List ℕ). xs ++ n ∷ []) (sym (none_with groups number no_)));
  other = λ k ne. pushed_other groups x k (λ g. ne (sym g ∙ e));
}

pub gains_set : (groups : List Group) (number i n : ℕ) (y : Group) (at : IsGroupAt groups number i) → y.number ≡ at.group.number → y.members.items ≡ at.group.members.items ++ n ∷ [] → Gains groups (slice_set groups i y) number n
gains_set groups number i n y at e f =
    let r = set_here groups number i at.group y at.there at.number_ (e ∙ at.number_) at.least in
    record {
      here = r.1 ∙ (f ∙ ap (λ (xs : List ℕ). xs ++ n ∷ []) (sym r.0));
      other = λ k ne. set_others groups k i at.group y at.there (λ g. ne (sym g ∙ at.number_)) (λ g. ne (sym g ∙ (e ∙ at.number_)));
    }

-- ---- all classes

pub no_member_more : (lists : List (Vec Group Global)) (v : Vec Group Global) → v.items ≡ [] → IsNoMember lists → IsNoMember (lists ++ v ∷ [])
no_member_more lists v empty none c number n m = go (slice_get (lists ++ v ∷ []) c) refl
  where
    go : (o : Option (Vec Group Global)) → slice_get (lists ++ v ∷ []) c ≡ o → ⊥
    go None e = subst (λ (o : Option (Vec Group Global)). In (with_number (groups_in o) number) n) e m
    go (Some w) e = elim (push_cases lists v w c e) [
      | inl old ↦ none c number n (subst (λ (o : Option (Vec Group Global)). In (with_number (groups_in o) number) n) (e ∙ sym old) m)
      | inr new ↦ subst (λ (xs : List Group). In (with_number xs number) n) (ap (λ (u : Vec Group Global). u.items) (sym new.1) ∙ empty) (subst (λ (o : Option (Vec Group Global)). In (with_number (groups_in o) number) n) e m)
    ]

pub no_member_none : (lists : List (Vec Group Global)) → lists ≡ [] → IsNoMember lists
no_member_none lists e c number n m = subst (λ (ls : List (Vec Group Global)). In (members_of ls c number) n) e m

module _ (g : Graph) (numbers : List ℕ) (kept : List Bool) where
  pub listed_none : (lists : List (Vec Group Global)) → IsNoMember lists → AreListed g numbers kept 0 lists
  listed_none lists none c number n = ((λ m. absurd (none c number n m)), (λ h. absurd (omega (arith, h.low))))

  below_or_at : (n i : ℕ) → n < i + 1 → (n < i) ⊎ (n ≡ i)
  below_or_at n i lt = grind arith

  more : (i c number n : ℕ) → IsListedAs g numbers kept i c number n → IsListedAs g numbers kept (i + 1) c number n
  more i c number n h = record { low = omega (arith, h.low); kept_ = h.kept_; o = h.o; ks = h.ks; is = h.is; here = h.here; number_ = h.number_ }

  less : (i c number n : ℕ) → IsListedAs g numbers kept (i + 1) c number n → n < i → IsListedAs g numbers kept i c number n
  less i c number n h low = record { low = low; kept_ = h.kept_; o = h.o; ks = h.ks; is = h.is; here = h.here; number_ = h.number_ }

  -- a node that is not kept is passed over
  pub listed_skip : (lists : List (Vec Group Global)) (i : ℕ) → (IsKept kept i → ⊥) → AreListed g numbers kept i lists → AreListed g numbers kept (i + 1) lists
  listed_skip lists i no_ is c number n = (
    (λ m. more i c number n ((is c number n).0 m)),
    (λ h. elim (below_or_at n i h.low) [ inl low ↦ (is c number n).1 (less i c number n h low) | inr same ↦ absurd (no_ (subst (IsKept kept) same h.kept_)) ]),
  )

  pub listed_more : (lists : List (Vec Group Global)) (i : ℕ) (node : Node) (v w : Vec Group Global) → IsKept kept i → slice_get g.nodes i ≡ Some node → slice_get lists (class_of numbers i) ≡ Some v → Gains v.items w.items (op_number node.op) i
      → AreListed g numbers kept i lists → AreListed g numbers kept (i + 1) (slice_set lists (class_of numbers i) w)
  listed_more lists i node v w keep at there gains is c number n = elim (equal_or_not c (class_of numbers i)) [
    | inl e ↦ elim (equal_or_not number (op_number node.op)) [
      | inl f ↦ (
        (λ m. elim (in_cases (members_of lists c number) i n (subst (λ (xs : List ℕ). In xs n) (here_now e f) m)) [
          | inl old ↦ more i c number n ((is c number n).0 old)
          | inr new ↦ record { low = omega (arith, new); kept_ = subst (IsKept kept) new keep; o = node.op; ks = node.kids; is = subst (λ (k : ℕ). form_at g.nodes k ≡ Some (form node.op node.kids)) new (form_there g.nodes i node at); here = subst (λ (k : ℕ). class_of numbers k ≡ c) new (sym e); number_ = sym f }
        ]),
        (λ h. subst (λ (xs : List ℕ). In xs n) (sym (here_now e f)) (elim (below_or_at n i h.low) [
          | inl low ↦ in_front (members_of lists c number) i n ((is c number n).1 (less i c number n h low))
          | inr same ↦ subst (λ (k : ℕ). In (members_of lists c number ++ i ∷ []) k) (sym same) (in_last (members_of lists c number) i)
        ])),
      )
      | inr f ↦ (
        (λ m. more i c number n ((is c number n).0 (subst (λ (xs : List ℕ). In xs n) (other_number e f) m))),
        (λ h. subst (λ (xs : List ℕ). In xs n) (sym (other_number e f)) (elim (below_or_at n i h.low) [
          | inl low ↦ (is c number n).1 (less i c number n h low)
          | inr same ↦ absurd (f (sym h.number_ ∙ op_here h same))
        ])),
      )
    ]
    | inr e ↦ (
      (λ m. more i c number n ((is c number n).0 (subst (λ (xs : List ℕ). In xs n) (other_class e) m))),
      (λ h. subst (λ (xs : List ℕ). In xs n) (sym (other_class e)) (elim (below_or_at n i h.low) [
        | inl low ↦ (is c number n).1 (less i c number n h low)
        | inr same ↦ absurd (e (sym h.here ∙ ap (class_of numbers) same))
      ])),
    )
  ]
    where
      op_here : (h : IsListedAs g numbers kept (i + 1) c number n) → n ≡ i → op_number h.o ≡ op_number node.op
      op_here h same =
          let e : Some (form h.o h.ks) ≡ Some (form node.op node.kids) = sym h.is ∙ (ap (form_at g.nodes) same ∙ form_there g.nodes i node at) in
          let f : h.o ≡ node.op = cc in
          ap op_number f

      groups_now : c ≡ class_of numbers i → (groups_at (slice_set lists (class_of numbers i) w) c ≡ w.items) × (groups_at lists c ≡ v.items)
      groups_now e = (ap (λ (k : ℕ). groups_at (slice_set lists (class_of numbers i) w) k) e ∙ ap groups_in (set_same lists (class_of numbers i) w (slice_get_within lists (class_of numbers i) v there)), ap (groups_at lists) e ∙ ap groups_in there)

      here_now : c ≡ class_of numbers i → number ≡ op_number node.op → members_of (slice_set lists (class_of numbers i) w) c number ≡ members_of lists c number ++ i ∷ []
      here_now e f =
          ap (λ (gs : List Group). with_number gs number) (groups_now e).0 ∙ (ap (with_number w.items) f ∙ (gains.here ∙ ap (λ (xs : List ℕ). xs ++ i ∷ []) (sym (ap (λ (gs : List Group). with_number gs number) (groups_now e).1 ∙ ap (with_number v.items) f))))

      other_number : c ≡ class_of numbers i → number ≢ op_number node.op → members_of (slice_set lists (class_of numbers i) w) c number ≡ members_of lists c number
      other_number e f = ap (λ (gs : List Group). with_number gs number) (groups_now e).0 ∙ (gains.other number f ∙ sym (ap (λ (gs : List Group). with_number gs number) (groups_now e).1))

      other_class : c ≢ class_of numbers i → members_of (slice_set lists (class_of numbers i) w) c number ≡ members_of lists c number
      other_class e = ap (λ (o : Option (Vec Group Global)). with_number (groups_in o) number) (set_other lists (class_of numbers i) w c e)

  pub members_all : (lists : List (Vec Group Global)) → KeepsForms g numbers kept → AreListed g numbers kept (length g.nodes) lists → IsMembers g numbers lists
  members_all lists keeps is c number = (
    (λ n m. let h = (is c number n).0 m in (h.o, h.ks, h.is, h.here, h.number_)),
    (λ o cs f e.
        let h = keeps c o cs f in
        let node = node_at g.nodes h.0.node o h.0.kids h.0.is in (
          h.0.node,
          h.0.kids,
          (is c number h.0.node).1 (record { low = slice_get_within g.nodes h.0.node node.0 node.1; kept_ = h.1; o = o; ks = h.0.kids; is = h.0.is; here = h.0.here; number_ = e }),
          h.0.is,
          h.0.classes,
        )),
  )
