-- One more step back keeps what the marks say.
use Rattle.std.specs.Prelude.{◌≡◌, ◌≢◌, ◌⊎◌, ℕ, zero, suc, ◌<◌, ◌≤◌, Bool, true, false, List, [], ◌∷◌, length, Option, Some, None, slice_get, slice_set, nat_le, if◌then◌else◌, refl}
use Rattle.std.proofs.Common.{inl, inr, sym, ap, ◌∙◌, subst, arith}
use Rattle.std.proofs.lemmas.List.{get_or-set_same, get_or-set_other, length-set}
use Rattle.std.proofs.lemmas.Bool.Decides.{nat_tests}
use Rattle.std.proofs.lemmas.Option.{slice_get_within, same_Some}
use Rattle.pv_graph.specs.declared.node.Op.{Op}
use Rattle.pv_graph.specs.Walks.{In}
use Rattle.pv_steps.specs.declared.step.Fact.{Fact}
use Rattle.pv_steps.specs.declared.step.Step.{Step}
use Rattle.pv_steps.specs.declared.step.Step.TheVariants as steps
use Rattle.pv_trim.specs.Citing.{named, facts}
use Rattle.pv_trim.specs.Keeping.{is_node}
use Rattle.pv_trim.specs.Marks.{is_on, IsOn, marking, marking_step, marking_end, marking_facts, own_mark, steps_with, nodes_with, IsNaming, IsCiting, MarksCited, AreMarks}
use Rattle.pv_trim.proofs.Counting.{yes_or_no}

-- ---- one mark

same_or_other : (a b : ℕ) → (a ≡ b) ⊎ (a ≢ b)
same_or_other a b = grind arith

low_or_high : (a b : ℕ) → (a < b) ⊎ (b ≤ a)
low_or_high a b = grind arith

pub on_within : (marks : List Bool) (n : ℕ) → IsOn marks n → n < length marks
on_within [] n h = absurd (cc)
on_within (b ∷ marks) zero h = omega arith
on_within (b ∷ marks) (suc n) h = let z = on_within marks n h in omega (arith, z)

set_at : (marks : List Bool) (n : ℕ) (b : Bool) → n < length marks → is_on (slice_set marks n b) n ≡ b
set_at marks n b low = get_or-set_same marks n b false low

set_other : (marks : List Bool) (n m : ℕ) (b : Bool) → m ≢ n → is_on (slice_set marks n b) m ≡ is_on marks m
set_other marks n m b ne = get_or-set_other marks n m b false ne

pub set_more : (marks : List Bool) (n m : ℕ) → IsOn marks m → IsOn (slice_set marks n true) m
set_more marks n m h = elim (same_or_other m n) [
  | inl e ↦ subst (λ (k : ℕ). IsOn (slice_set marks n true) k) (sym e) (set_at marks n true (subst (λ (k : ℕ). k < length marks) e (on_within marks m h)))
  | inr ne ↦ set_other marks n m true ne ∙ h
]

set_only : (marks : List Bool) (n m : ℕ) → IsOn (slice_set marks n true) m → IsOn marks m ⊎ (m ≡ n)
set_only marks n m h = elim (same_or_other m n) [ inl e ↦ inr e | inr ne ↦ inl (sym (set_other marks n m true ne) ∙ h) ]

-- ---- nodes

marking_long : (ns : List ℕ) (marks : List Bool) → length (marking ns marks) ≡ length marks
marking_long [] marks = refl
marking_long (n ∷ ns) marks = marking_long ns (slice_set marks n true) ∙ length-set marks n true

marking_more : (ns : List ℕ) (marks : List Bool) (m : ℕ) → IsOn marks m → IsOn (marking ns marks) m
marking_more [] marks m h = h
marking_more (n ∷ ns) marks m h = marking_more ns (slice_set marks n true) m (set_more marks n m h)

marking_all : (ns : List ℕ) (marks : List Bool) (m : ℕ) → In ns m → m < length marks → IsOn (marking ns marks) m
marking_all [] marks m i low = absurd i
marking_all (n ∷ ns) marks m (inl e) low = marking_more ns (slice_set marks n true) m (subst (λ (k : ℕ). IsOn (slice_set marks n true) k) e (set_at marks n true (subst (λ (k : ℕ). k < length marks) (sym e) low)))
marking_all (n ∷ ns) marks m (inr i) low = marking_all ns (slice_set marks n true) m i (let z = length-set marks n true in omega (arith, z, low))

marking_only : (ns : List ℕ) (marks : List Bool) (m : ℕ) → IsOn (marking ns marks) m → IsOn marks m ⊎ In ns m
marking_only [] marks m h = inl h
marking_only (n ∷ ns) marks m h = elim (marking_only ns (slice_set marks n true) m h) [
  | inl z ↦ elim (set_only marks n m z) [ inl y ↦ inl y | inr e ↦ inr (inl (sym e)) ]
  | inr i ↦ inr (inr i)
]

-- ---- steps

within : (j k : ℕ) → nat_le (suc j) k ≡ true → j < k
within j k h = grind (arith, nat_tests)

is_within : (j k : ℕ) → j < k → nat_le (suc j) k ≡ true
is_within j k h = grind (arith, nat_tests)

step_yes : (k j : ℕ) (marks : List Bool) → j < k → marking_step k (suc j) marks ≡ slice_set marks j true
step_yes k j marks h = ap (λ (b : Bool). if b then slice_set marks j true else marks) (is_within j k h)

step_cases : (k m : ℕ) (marks : List Bool) → (marking_step k m marks ≡ marks) ⊎ ((j : ℕ) × (m ≡ suc j) × (j < k) × (marking_step k m marks ≡ slice_set marks j true))
step_cases k zero marks = inl refl
step_cases k (suc j) marks = elim (yes_or_no (nat_le (suc j) k)) [
  | inl h ↦ inr (j, refl, within j k h, step_yes k j marks (within j k h))
  | inr h ↦ inl (ap (λ (b : Bool). if b then slice_set marks j true else marks) h)
]

step_long : (k m : ℕ) (marks : List Bool) → length (marking_step k m marks) ≡ length marks
step_long k m marks = elim (step_cases k m marks) [ inl e ↦ ap length e | inr r ↦ (let (j, a, b, e) = r in ap length e ∙ length-set marks j true) ]

step_more : (k m : ℕ) (marks : List Bool) (i : ℕ) → IsOn marks i → IsOn (marking_step k m marks) i
step_more k m marks i h = elim (step_cases k m marks) [
  | inl e ↦ subst (λ (q : List Bool). IsOn q i) (sym e) h
  | inr r ↦ (let (j, a, b, e) = r in subst (λ (q : List Bool). IsOn q i) (sym e) (set_more marks j i h))
]

step_all : (k j : ℕ) (marks : List Bool) → j < k → j < length marks → IsOn (marking_step k (suc j) marks) j
step_all k j marks low there = subst (λ (q : List Bool). IsOn q j) (sym (step_yes k j marks low)) (set_at marks j true there)

step_only : (k m : ℕ) (marks : List Bool) (i : ℕ) → IsOn (marking_step k m marks) i → IsOn marks i ⊎ ((m ≡ suc i) × (i < k))
step_only k m marks i h = elim (step_cases k m marks) [
  | inl e ↦ inl (subst (λ (q : List Bool). IsOn q i) e h)
  | inr r ↦ (let (j, a, b, e) = r in elim (set_only marks j i (subst (λ (q : List Bool). IsOn q i) e h)) [
    | inl z ↦ inl z
    | inr same ↦ inr (a ∙ ap suc (sym same), subst (λ (n : ℕ). n < k) (sym same) b)
  ])
]

facts_long : (k : ℕ) (xs : List Fact) (marks : List Bool) → length (marking_facts k xs marks) ≡ length marks
facts_long k [] marks = refl
facts_long k (x ∷ xs) marks = facts_long k xs (marking_step k x.step marks) ∙ step_long k x.step marks

facts_more : (k : ℕ) (xs : List Fact) (marks : List Bool) (i : ℕ) → IsOn marks i → IsOn (marking_facts k xs marks) i
facts_more k [] marks i h = h
facts_more k (x ∷ xs) marks i h = facts_more k xs (marking_step k x.step marks) i (step_more k x.step marks i h)

facts_all : (k : ℕ) (xs : List Fact) (marks : List Bool) (x : Fact) (j : ℕ) → In xs x → x.step ≡ suc j → j < k → j < length marks → IsOn (marking_facts k xs marks) j
facts_all k [] marks x j i e low there = absurd i
facts_all k (y ∷ xs) marks x j (inl same) e low there =
    facts_more k xs (marking_step k y.step marks) j
    (subst (λ (m : ℕ). IsOn (marking_step k m marks) j) (sym (ap (λ (z : Fact). z.step) same ∙ e)) (step_all k j marks low there))
facts_all k (y ∷ xs) marks x j (inr i) e low there = facts_all k xs (marking_step k y.step marks) x j i e low (let z = step_long k y.step marks in omega (arith, z, there))

facts_only : (k : ℕ) (xs : List Fact) (marks : List Bool) (i : ℕ) → IsOn (marking_facts k xs marks) i → IsOn marks i ⊎ (((x : Fact) × In xs x × (x.step ≡ suc i)) × (i < k))
facts_only k [] marks i h = inl h
facts_only k (y ∷ xs) marks i h = elim (facts_only k xs (marking_step k y.step marks) i h) [
  | inl z ↦ elim (step_only k y.step marks i z) [ inl w ↦ inl w | inr w ↦ inr ((y, inl refl, w.0), w.1) ]
  | inr z ↦ inr ((z.0.0, inr z.0.1, z.0.2), z.1)
]

-- ---- the end of a block

end_long : (k : ℕ) (e : Option ℕ) (marks : List Bool) → length (marking_end k e marks) ≡ length marks
end_long k None marks = refl
end_long k (Some m) marks = step_long k m marks

end_more : (k : ℕ) (e : Option ℕ) (marks : List Bool) (i : ℕ) → IsOn marks i → IsOn (marking_end k e marks) i
end_more k None marks i h = h
end_more k (Some m) marks i h = step_more k m marks i h

end_only : (k : ℕ) (e : Option ℕ) (marks : List Bool) (i : ℕ) → IsOn (marking_end k e marks) i → IsOn marks i ⊎ ((e ≡ Some (suc i)) × (i < k))
end_only k None marks i h = inl h
end_only k (Some m) marks i h = elim (step_only k m marks i h) [ inl z ↦ inl z | inr z ↦ inr (ap Some z.0, z.1) ]

-- ---- one step

own_long : (s : Step) (k : ℕ) (marks nodes : List Bool) → length (own_mark s k marks nodes) ≡ length marks
own_long (steps.Node n o kids) k marks nodes = length-set marks k (is_on nodes n)
own_long s k marks nodes = refl

own_other : (s : Step) (k : ℕ) (marks nodes : List Bool) (i : ℕ) → i ≢ k → is_on (own_mark s k marks nodes) i ≡ is_on marks i
own_other (steps.Node n o kids) k marks nodes i ne = set_other marks k i (is_on nodes n) ne
own_other s k marks nodes i ne = refl

own_same : (s : Step) (k : ℕ) (marks nodes : List Bool) → is_node s ≡ false → own_mark s k marks nodes ≡ marks
own_same (steps.Node n o kids) k marks nodes is = absurd (cc)
own_same s k marks nodes is = refl

module _ (s : Step) (k : ℕ) (e : Option ℕ) (marks nodes : List Bool) where
  steps_yes : IsOn (own_mark s k marks nodes) k → steps_with s k e marks nodes ≡ marking_end k e (marking_facts k (facts s) (own_mark s k marks nodes))
  steps_yes h = ap (λ (b : Bool). if b then marking_end k e (marking_facts k (facts s) (own_mark s k marks nodes)) else own_mark s k marks nodes) h

  steps_no : is_on (own_mark s k marks nodes) k ≡ false → steps_with s k e marks nodes ≡ own_mark s k marks nodes
  steps_no h = ap (λ (b : Bool). if b then marking_end k e (marking_facts k (facts s) (own_mark s k marks nodes)) else own_mark s k marks nodes) h

  nodes_yes : IsOn (own_mark s k marks nodes) k → nodes_with s k marks nodes ≡ marking (named s) nodes
  nodes_yes h = ap (λ (b : Bool). if b then marking (named s) nodes else nodes) h

  nodes_no : is_on (own_mark s k marks nodes) k ≡ false → nodes_with s k marks nodes ≡ nodes
  nodes_no h = ap (λ (b : Bool). if b then marking (named s) nodes else nodes) h

  with_long : length (steps_with s k e marks nodes) ≡ length marks
  with_long = elim (yes_or_no (is_on (own_mark s k marks nodes) k)) [
    | inl h ↦ ap length (steps_yes h) ∙ end_long k e (marking_facts k (facts s) (own_mark s k marks nodes)) ∙ facts_long k (facts s) (own_mark s k marks nodes) ∙ own_long s k marks nodes
    | inr h ↦ ap length (steps_no h) ∙ own_long s k marks nodes
  ]

  nodes_long : length (nodes_with s k marks nodes) ≡ length nodes
  nodes_long = elim (yes_or_no (is_on (own_mark s k marks nodes) k)) [ inl h ↦ ap length (nodes_yes h) ∙ marking_long (named s) nodes | inr h ↦ ap length (nodes_no h) ]

  -- own marks stay
  with_own : (i : ℕ) → IsOn (own_mark s k marks nodes) i → IsOn (steps_with s k e marks nodes) i
  with_own i z = elim (yes_or_no (is_on (own_mark s k marks nodes) k)) [
    | inl h ↦ subst (λ (q : List Bool). IsOn q i) (sym (steps_yes h)) (end_more k e (marking_facts k (facts s) (own_mark s k marks nodes)) i (facts_more k (facts s) (own_mark s k marks nodes) i z))
    | inr h ↦ subst (λ (q : List Bool). IsOn q i) (sym (steps_no h)) z
  ]

  nodes_more : (n : ℕ) → IsOn nodes n → IsOn (nodes_with s k marks nodes) n
  nodes_more n z = elim (yes_or_no (is_on (own_mark s k marks nodes) k)) [
    | inl h ↦ subst (λ (q : List Bool). IsOn q n) (sym (nodes_yes h)) (marking_more (named s) nodes n z)
    | inr h ↦ subst (λ (q : List Bool). IsOn q n) (sym (nodes_no h)) z
  ]

  -- another mark is one of an earlier step that this one cites
  with_only : (i : ℕ) → IsOn (steps_with s k e marks nodes) i → IsOn (own_mark s k marks nodes) i ⊎ ((i < k) × IsOn (own_mark s k marks nodes) k × (((x : Fact) × In (facts s) x × (x.step ≡ suc i)) ⊎ (e ≡ Some (suc i))))
  with_only i z = elim (yes_or_no (is_on (own_mark s k marks nodes) k)) [
    | inl h ↦ elim (end_only k e (marking_facts k (facts s) (own_mark s k marks nodes)) i (subst (λ (q : List Bool). IsOn q i) (steps_yes h) z)) [
      | inl y ↦ elim (facts_only k (facts s) (own_mark s k marks nodes) i y) [ inl x ↦ inl x | inr x ↦ inr (x.1, h, inl x.0) ]
      | inr y ↦ inr (y.1, h, inr y.0)
    ]
    | inr h ↦ inl (subst (λ (q : List Bool). IsOn q i) (steps_no h) z)
  ]

  nodes_only : (n : ℕ) → IsOn (nodes_with s k marks nodes) n → IsOn nodes n ⊎ (IsOn (own_mark s k marks nodes) k × In (named s) n)
  nodes_only n z = elim (yes_or_no (is_on (own_mark s k marks nodes) k)) [
    | inl h ↦ elim (marking_only (named s) nodes n (subst (λ (q : List Bool). IsOn q n) (nodes_yes h) z)) [ inl y ↦ inl y | inr y ↦ inr (h, y) ]
    | inr h ↦ inl (subst (λ (q : List Bool). IsOn q n) (nodes_no h) z)
  ]

  -- later marks are own marks
  with_later : (i : ℕ) → k ≤ i → IsOn (steps_with s k e marks nodes) i → IsOn (own_mark s k marks nodes) i
  with_later i low z = elim (with_only i z) [ inl y ↦ y | inr y ↦ (let l = y.0 in absurd (omega (arith, l, low))) ]

-- ---- the marks after it

module _ (all : List Step) (ends : List (Option ℕ)) (base bound k : ℕ) (marks nodes : List Bool) (h : AreMarks all ends base bound (suc k) marks nodes) (s : Step) (e : Option ℕ) (at : slice_get all k ≡ Some s) (end : slice_get ends k ≡ Some e) where
  -- an old mark of another step stays
  stays : (i : ℕ) → i ≢ k → IsOn marks i → IsOn (steps_with s k e marks nodes) i
  stays i ne z = with_own s k e marks nodes i (own_other s k marks nodes i ne ∙ z)

  -- so does one of this step, where it makes no node
  stays_plain : (i : ℕ) (t : Step) → slice_get all i ≡ Some t → is_node t ≡ false → IsOn marks i → IsOn (steps_with s k e marks nodes) i
  stays_plain i t there is z = elim (same_or_other i k) [
    | inl same ↦
        (let one : t ≡ s = same_Some t s (sym there ∙ ap (slice_get all) same ∙ at) in
        let plain : is_node s ≡ false = subst (λ (q : Step). is_node q ≡ false) one is in
        with_own s k e marks nodes i (subst (λ (q : List Bool). IsOn q i) (sym (own_same s k marks nodes plain)) z))
    | inr ne ↦ stays i ne z
  ]

  naming_stays : (n j : ℕ) → k < j → IsNaming all marks n j → IsNaming all (steps_with s k e marks nodes) n j
  naming_stays n j low (t, there, on, i) = (t, there, stays j (λ z. let y = z in absurd (omega (arith, y, low))) on, i)

  citing_stays : (i j : ℕ) → k < j → IsCiting all ends marks i j → IsCiting all ends (steps_with s k e marks nodes) i j
  citing_stays i j low (t, there, on, c) = (t, there, stays j (λ z. let y = z in absurd (omega (arith, y, low))) on, c)

  own_here : IsOn (own_mark s k marks nodes) k → IsOn (steps_with s k e marks nodes) k
  own_here z = with_own s k e marks nodes k z

  own_low : k < length (own_mark s k marks nodes)
  own_low = let a = slice_get_within all k s at in let b = h.steps_long in let c = own_long s k marks nodes in omega (arith, a, b, c)

  -- what the step itself cites
  cited_here : IsOn (steps_with s k e marks nodes) k → MarksCited all ends bound (steps_with s k e marks nodes) (nodes_with s k marks nodes) k s
  cited_here z =
      let o = with_later s k e marks nodes k (omega arith) z in
      let own_list = own_mark s k marks nodes in
      let long = own_low in
      record {
        nodes_ = λ n i low. subst (λ (q : List Bool). IsOn q n) (sym (nodes_yes s k e marks nodes o)) (marking_all (named s) nodes n i (let l = h.nodes_long in omega (arith, l, low)));
        facts_ = λ x j t i same low there is.
            subst (λ (q : List Bool). IsOn q j) (sym (steps_yes s k e marks nodes o))
            (end_more k e (marking_facts k (facts s) own_list) j (facts_all k (facts s) own_list x j i same low (omega (arith, low, long))));
        ends_ = λ j t same low there is.
            let is_e : e ≡ Some (suc j) = same_Some e (Some (suc j)) (sym end ∙ same) in
            subst (λ (q : List Bool). IsOn q j) (sym (steps_yes s k e marks nodes o))
            (subst (λ (m : Option ℕ). IsOn (marking_end k m (marking_facts k (facts s) own_list)) j) (sym is_e)
            (step_all k j (marking_facts k (facts s) own_list) low (let l = facts_long k (facts s) own_list in omega (arith, low, long, l))));
      }

  cited_later : (i : ℕ) (t : Step) → MarksCited all ends bound marks nodes i t → MarksCited all ends bound (steps_with s k e marks nodes) (nodes_with s k marks nodes) i t
  cited_later i t c = record {
    nodes_ = λ n m low. nodes_more s k e marks nodes n (c.nodes_ n m low);
    facts_ = λ x j u m same low there is. stays_plain j u there is (c.facts_ x j u m same low there is);
    ends_ = λ j u same low there is. stays_plain j u there is (c.ends_ j u same low there is);
  }

  later_or_here : (i : ℕ) → k ≤ i → (i ≡ k) ⊎ (suc k ≤ i)
  later_or_here i low = grind arith

  old_mark : (i : ℕ) → suc k ≤ i → IsOn (steps_with s k e marks nodes) i → IsOn marks i
  old_mark i low z = sym (own_other s k marks nodes i (λ y. absurd (omega (arith, y, low)))) ∙ with_later s k e marks nodes i (omega (arith, low)) z

  -- a step that makes a node has its mark
  own_node : (n : ℕ) (o : Op) (kids : List ℕ) → s ≡ steps.Node n o kids → is_on (own_mark s k marks nodes) k ≡ is_on nodes n
  own_node n o kids same =
      ap (λ (q : Step). is_on (own_mark q k marks nodes) k) same ∙ set_at marks k (is_on nodes n) (let a = slice_get_within all k s at in let b = h.steps_long in omega (arith, a, b))

  is_here : (i : ℕ) (t : Step) → i ≡ k → slice_get all i ≡ Some t → s ≡ t
  is_here i t same there = same_Some s t (sym at ∙ ap (slice_get all) (sym same) ∙ there)

  abbrev Want : ℕ → Type 0
  Want i = (suc i ≡ length all) ⊎ ((j : ℕ) × (k ≤ j) × (i < j) × IsCiting all ends (steps_with s k e marks nodes) i j)
      ⊎ ((n : ℕ) × (o : Op) × (kids : List ℕ) × (slice_get all i ≡ Some (steps.Node n o kids)) × (n < base))

  old_wanted : (i : ℕ) → IsOn marks i → Want i
  old_wanted i z = elim (h.wanted i z) [
    | inl y ↦ inl y
    | inr y ↦ elim y [
      | inl x ↦ (let (j, a, b, c) = x in inr (inl (j, omega (arith, a), b, citing_stays i j (omega (arith, a)) c)))
      | inr x ↦ inr (inr x)
    ]
  ]

  own_wanted : (t : Step) → s ≡ t → IsOn (own_mark s k marks nodes) k → Want k
  own_wanted (steps.Node n o kids) same z = elim (h.named_ n (sym (own_node n o kids same) ∙ z)) [
    | inl low ↦ inr (inr (n, o, kids, at ∙ ap Some same, low))
    | inr x ↦ (let (j, a, b) = x in
        let c = naming_stays n j (omega (arith, a)) b in
        inr (inl (j, omega (arith, a), omega (arith, a), (c.0, c.1, c.2, inr (inr (n, o, kids, at ∙ ap Some same, c.3))))))
  ]
  own_wanted t same z = old_wanted k (subst (λ (q : List Bool). IsOn q k) (own_same s k marks nodes (ap is_node same ∙ refl)) z)

  wanted_with : (i : ℕ) → IsOn (steps_with s k e marks nodes) i → Want i
  wanted_with i z = elim (with_only s k e marks nodes i z) [
    | inl y ↦ elim (same_or_other i k) [
      | inl same ↦ subst Want (sym same) (own_wanted s refl (subst (λ (n : ℕ). IsOn (own_mark s k marks nodes) n) same y))
      | inr ne ↦ old_wanted i (sym (own_other s k marks nodes i ne) ∙ y)
    ]
    | inr y ↦ inr (inl (k, omega arith, y.0, (s, at, own_here y.1, elim y.2 [ inl f ↦ inl f | inr f ↦ inr (inl (end ∙ ap Some f)) ])))
  ]

  pub marks_back : AreMarks all ends base bound k (steps_with s k e marks nodes) (nodes_with s k marks nodes)
  marks_back = record {
    steps_long = with_long s k e marks nodes ∙ h.steps_long;
    nodes_long = nodes_long s k e marks nodes ∙ h.nodes_long;
    first = λ n low. nodes_more s k e marks nodes n (h.first n low);
    last = λ i t same there is. stays_plain i t there is (h.last i t same there is);
    cited = λ i t low there z. elim (later_or_here i low) [
      | inl same ↦
          subst (λ (q : Step). MarksCited all ends bound (steps_with s k e marks nodes) (nodes_with s k marks nodes) i q) (is_here i t same there)
          (subst (λ (n : ℕ). MarksCited all ends bound (steps_with s k e marks nodes) (nodes_with s k marks nodes) n s) (sym same) (cited_here (subst (λ (n : ℕ). IsOn (steps_with s k e marks nodes) n) same z)))
      | inr more ↦ cited_later i t (h.cited i t more there (old_mark i more z))
    ];
    made = λ i n o kids low there z. nodes_more s k e marks nodes n (elim (later_or_here i low) [
      | inl same ↦
          sym (own_node n o kids (is_here i (steps.Node n o kids) same there))
          ∙ with_later s k e marks nodes k (omega arith) (subst (λ (m : ℕ). IsOn (steps_with s k e marks nodes) m) same z)
      | inr more ↦ h.made i n o kids more there (old_mark i more z)
    ]);
    needed = λ i n o kids low there z. elim (later_or_here i low) [
      | inl same ↦ inl (subst (λ (m : ℕ). IsOn (steps_with s k e marks nodes) m) (sym same) (own_here (elim (nodes_only s k e marks nodes n z) [
        | inl y ↦ own_node n o kids (is_here i (steps.Node n o kids) same there) ∙ y
        | inr y ↦ y.0
      ])))
      | inr more ↦ elim (nodes_only s k e marks nodes n z) [
        | inl y ↦ elim (h.needed i n o kids more there y) [
          | inl x ↦ inl (stays i (λ w. absurd (omega (arith, w, more))) x)
          | inr x ↦ elim x [
            | inl w ↦ inr (inl w)
            | inr w ↦ inr (inr (let (j, a, b, c) = w in (j, omega (arith, a), b, naming_stays n j (omega (arith, a)) c)))
          ]
        ]
        | inr y ↦ inr (inr (k, omega arith, omega (arith, more), (s, at, own_here y.0, y.1)))
      ]
    ];
    wanted = wanted_with;
    named_ = λ n z. elim (nodes_only s k e marks nodes n z) [
      | inl y ↦ elim (h.named_ n y) [ inl x ↦ inl x | inr x ↦ inr (let (j, a, b) = x in (j, omega (arith, a), naming_stays n j (omega (arith, a)) b)) ]
      | inr y ↦ inr (k, omega arith, (s, at, own_here y.0, y.1))
    ];
  }
