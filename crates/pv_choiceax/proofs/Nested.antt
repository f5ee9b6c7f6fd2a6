-- The laws of choices under choices, of tests for 0 and of equal references.
use Rattle.std.specs.Prelude.{◌≡◌, ◌↔◌, ℕ, ℤ, pos, Bool, true, false, not, List, [], ◌∷◌, Option, Some, slice_get, ◌==◌, if◌then◌else◌, refl}
use Rattle.std.specs.Int.{w32, int_wrap, int_bit_and}
use Rattle.std.specs.List.{AllZip}
use Rattle.std.specs.Ordering.{int_eq}
use Rattle.std.proofs.Common.{sym, ap, ◌∙◌, subst}
use Rattle.std.proofs.lemmas.Option.{same_Some}
use Rattle.pv_value.specs.Operations.{int}
use Rattle.pv_value.specs.Operations as operations
use Rattle.pv_value.specs.declared.operation.ScalarOp.TheVariants.{Ieq, Iand}
use Rattle.pv_value.specs.declared.world.World.{World}
use Rattle.pv_value.specs.declared.outcome.Input.{Input}
use Rattle.pv_value.specs.declared.number.Num.TheVariants as num
use Rattle.pv_value.specs.declared.outcome.Val.{Val}
use Rattle.pv_value.specs.declared.outcome.Val.TheVariants as val
use Rattle.pv_graph.specs.declared.node.Op.TheVariants as op
use Rattle.pv_graph.specs.Forms.{Form, form}
use Rattle.pv_graph.specs.Graphs.{form_at}
use Rattle.pv_denote.specs.Denote.{Index, strict, truth, Value}
use Rattle.pv_denote.specs.Means.{IsTrueAt}
use Rattle.pv_denote.proofs.Cited.{den_makes, value_once}
use Rattle.pv_pattern.specs.Patterns.{fixed, var}
use Rattle.pv_pattern.specs.Laws.{Law, Laws}
use Rattle.pv_pattern.proofs.Cited.{none_at, two_at, three_at, same_at, plain_is, phi_is}
use Rattle.pv_scalar.specs.Table.{rule, sc2, phi, zero_, one_, x}
use Rattle.pv_choiceax.specs.Table.{nested_choices, chosen_truths, is_zero, same_refs, tested_twice, lowest_bit}
use Rattle.pv_choiceax.proofs.Values.{form_two, form_three, chosen}

-- 1 for true, 0 for false, as a value
abbrev Truth : Bool → Val
Truth b = val.Num (num.Int (operations.truth b))

not_not : (t : Bool) → not (not t) ≡ t
not_not true = refl
not_not false = refl

wrapped : (b : Bool) → int_wrap w32 (operations.truth b) ≡ operations.truth b
unfolding int_wrap
wrapped true = refl
wrapped false = refl

truth_back : (b : Bool) → truth (Truth b) ≡ Some b
truth_back true = refl
truth_back false = refl

truth_of : (u : Val) (t : Bool) → truth u ≡ Some t → (m : ℤ) × (u ≡ val.Num (num.Int m)) × (int_eq m (pos 0) ≡ not t)
truth_of (val.Num (num.Int m)) t e = (m, refl, sym (not_not (int_eq m (pos 0))) ∙ ap not (same_Some (not (int_eq m (pos 0))) t e))
truth_of u t e = absurd (cc)

module _ (view : ℕ → Option (Form ℕ)) (w : World) (inp : Input) where
  -- ---- choices under choices

  -- from one choice to another by the same test, arm by arm
  through : (n n' c a b a' b' : ℕ) (i : Index) (v : Val) → view n ≡ Some (form op.Phi (c ∷ a ∷ b ∷ [])) → view n' ≡ Some (form op.Phi (c ∷ a' ∷ b' ∷ []))
      → (Value view w inp a i v → Value view w inp a' i v) → (Value view w inp b i v → Value view w inp b' i v) → Value view w inp n i v → Value view w inp n' i v
  through n n' c a b a' b' i v en en' f g h = let d = (phi_is view w inp n c a b i v en).0 h in go d.0 d.1 d.2
    where
      go : (t : Bool) → IsTrueAt (Value view w inp) t c i → Value view w inp (if t then a else b) i v → Value view w inp n' i v
      go true t y = (phi_is view w inp n' c a' b' i v en').1 (true, t, f y)
      go false t y = (phi_is view w inp n' c a' b' i v en').1 (false, t, g y)

  -- phi(c,a,phi(y,p,q)) = phi(c,a,phi(y,phi(c,a,p),phi(c,a,q)))
  asked_second : (l r n n' p' q' c a y p q : ℕ) (i : Index) (v : Val) → view l ≡ Some (form op.Phi (c ∷ a ∷ n ∷ [])) → view n ≡ Some (form op.Phi (y ∷ p ∷ q ∷ [])) → view r ≡ Some (form op.Phi (c ∷ a ∷ n' ∷ []))
      → view n' ≡ Some (form op.Phi (y ∷ p' ∷ q' ∷ [])) → view p' ≡ Some (form op.Phi (c ∷ a ∷ p ∷ [])) → view q' ≡ Some (form op.Phi (c ∷ a ∷ q ∷ [])) → Value view w inp l i v ↔ Value view w inp r i v
  asked_second l r n n' p' q' c a y p q i v el en er en' ep eq = (λ h. let d = (phi_is view w inp l c a n i v el).0 h in to d.0 d.1 d.2, λ h. let d = (phi_is view w inp r c a n' i v er).0 h in from d.0 d.1 d.2)
    where
      to : (t : Bool) → IsTrueAt (Value view w inp) t c i → Value view w inp (if t then a else n) i v → Value view w inp r i v
      to true t h = (chosen view w inp r c a n' i v true er t).1 h
      to false t h = (chosen view w inp r c a n' i v false er t).1 (through n n' y p q p' q' i v en en' (chosen view w inp p' c a p i v false ep t).1 (chosen view w inp q' c a q i v false eq t).1 h)

      from : (t : Bool) → IsTrueAt (Value view w inp) t c i → Value view w inp (if t then a else n') i v → Value view w inp l i v
      from true t h = (chosen view w inp l c a n i v true el t).1 h
      from false t h = (chosen view w inp l c a n i v false el t).1 (through n' n y p' q' p q i v en' en (chosen view w inp p' c a p i v false ep t).0 (chosen view w inp q' c a q i v false eq t).0 h)

  -- phi(c,phi(y,p,q),b) = phi(c,phi(y,phi(c,p,b),phi(c,q,b)),b)
  asked_first : (l r n n' p' q' c b y p q : ℕ) (i : Index) (v : Val) → view l ≡ Some (form op.Phi (c ∷ n ∷ b ∷ [])) → view n ≡ Some (form op.Phi (y ∷ p ∷ q ∷ [])) → view r ≡ Some (form op.Phi (c ∷ n' ∷ b ∷ []))
      → view n' ≡ Some (form op.Phi (y ∷ p' ∷ q' ∷ [])) → view p' ≡ Some (form op.Phi (c ∷ p ∷ b ∷ [])) → view q' ≡ Some (form op.Phi (c ∷ q ∷ b ∷ [])) → Value view w inp l i v ↔ Value view w inp r i v
  asked_first l r n n' p' q' c b y p q i v el en er en' ep eq = (λ h. let d = (phi_is view w inp l c n b i v el).0 h in to d.0 d.1 d.2, λ h. let d = (phi_is view w inp r c n' b i v er).0 h in from d.0 d.1 d.2)
    where
      to : (t : Bool) → IsTrueAt (Value view w inp) t c i → Value view w inp (if t then n else b) i v → Value view w inp r i v
      to false t h = (chosen view w inp r c n' b i v false er t).1 h
      to true t h = (chosen view w inp r c n' b i v true er t).1 (through n n' y p q p' q' i v en en' (chosen view w inp p' c p b i v true ep t).1 (chosen view w inp q' c q b i v true eq t).1 h)

      from : (t : Bool) → IsTrueAt (Value view w inp) t c i → Value view w inp (if t then n' else b) i v → Value view w inp l i v
      from false t h = (chosen view w inp l c n b i v false el t).1 h
      from true t h = (chosen view w inp l c n b i v true el t).1 (through n' n y p' q' p q i v en' en (chosen view w inp p' c p b i v true ep t).0 (chosen view w inp q' c q b i v true eq t).0 h)

  -- ---- tests for 0

  int_has : (n : ℕ) (c : ℤ) (i : Index) → view n ≡ Some (form (op.Int c) []) → Value view w inp n i (val.Num (num.Int c))
  unfolding strict
  int_has n c i e = den_makes view w inp n i (val.Num (num.Int c)) (op.Int c) [] e ([], tt, refl)

  eq_of : (u z v : Val) → strict w inp (op.Scalar Ieq) (u ∷ z ∷ []) ≡ Some v → (m k : ℤ) × (u ≡ val.Num (num.Int m)) × (z ≡ val.Num (num.Int k)) × (v ≡ val.Num (num.Int (int_wrap w32 (operations.truth (int_eq m k)))))
  unfolding strict
  eq_of (val.Num (num.Int m)) (val.Num (num.Int k)) v e = (m, k, refl, refl, sym (same_Some _ v e))
  eq_of u z v e = absurd (cc)

  eq_gives : (m k : ℤ) → strict w inp (op.Scalar Ieq) (val.Num (num.Int m) ∷ val.Num (num.Int k) ∷ []) ≡ Some (val.Num (num.Int (int_wrap w32 (operations.truth (int_eq m k)))))
  unfolding strict
  eq_gives m k = refl

  no_is : (n c z : ℕ) (i : Index) (v : Val) → view n ≡ Some (form (op.Scalar Ieq) (c ∷ z ∷ [])) → view z ≡ Some (form (op.Int (pos 0)) []) → Value view w inp n i v ↔ ((t : Bool) × IsTrueAt (Value view w inp) t c i × (v ≡ Truth (not t)))
  no_is n c z i v en ez = (to, from)
    where
      go : (vs : List Val) → AllZip (λ k u. Value view w inp k i u) (c ∷ z ∷ []) vs → strict w inp (op.Scalar Ieq) vs ≡ Some v → (t : Bool) × IsTrueAt (Value view w inp) t c i × (v ≡ Truth (not t))
      go (u ∷ y ∷ []) h s =
          let d = eq_of u y v s in
          let k0 : val.Num (num.Int d.1) ≡ val.Num (num.Int (pos 0)) = value_once view w inp z i (val.Num (num.Int d.1)) (val.Num (num.Int (pos 0))) (subst (λ (q : Val). Value view w inp z i q) d.3 h.1.0) (int_has z (pos 0) i ez) in
          let k : d.1 ≡ pos 0 = cc in
          let b = int_eq d.0 (pos 0) in (
            not b,
            (u, h.0, ap truth d.2),
            d.4 ∙ ap (λ (q : ℤ). val.Num (num.Int (int_wrap w32 (operations.truth (int_eq d.0 q))))) k ∙ ap (λ (q : ℤ). val.Num (num.Int q)) (wrapped b) ∙ ap Truth (sym (not_not b)),
          )
      go vs h s = absurd (assumption)

      to : Value view w inp n i v → (t : Bool) × IsTrueAt (Value view w inp) t c i × (v ≡ Truth (not t))
      to h = let d = (plain_is view w inp n (op.Scalar Ieq) (c ∷ z ∷ []) i v en refl).0 h in go d.0 d.1 d.2

      from : (t : Bool) × IsTrueAt (Value view w inp) t c i × (v ≡ Truth (not t)) → Value view w inp n i v
      from (t, (u, hu, e), f) =
          let m = truth_of u t e in
          let g : val.Num (num.Int (int_wrap w32 (operations.truth (int_eq m.0 (pos 0))))) ≡ v = ap (λ (q : ℤ). val.Num (num.Int q)) (wrapped (int_eq m.0 (pos 0))) ∙ ap Truth m.2 ∙ sym f in
          (plain_is view w inp n (op.Scalar Ieq) (c ∷ z ∷ []) i v en refl).1
          (val.Num (num.Int m.0) ∷ val.Num (num.Int (pos 0)) ∷ [], (subst (λ (q : Val). Value view w inp c i q) m.1 hu, (int_has z (pos 0) i ez, tt)), eq_gives m.0 (pos 0) ∙ ap Some g)

  no_true : (n c z : ℕ) (i : Index) (t : Bool) → view n ≡ Some (form (op.Scalar Ieq) (c ∷ z ∷ [])) → view z ≡ Some (form (op.Int (pos 0)) []) → IsTrueAt (Value view w inp) t n i ↔ IsTrueAt (Value view w inp) (not t) c i
  no_true n c z i t en ez = (
    λ (u, hu, e).
        let d = (no_is n c z i u en ez).0 hu in
        let same : not d.0 ≡ t = same_Some (not d.0) t (sym (truth_back (not d.0)) ∙ ap truth (sym d.2) ∙ e) in
        subst (λ (q : Bool). IsTrueAt (Value view w inp) q c i) (sym (not_not d.0) ∙ ap not same) d.1,
    λ h. (Truth (not (not t)), (no_is n c z i (Truth (not (not t))) en ez).1 (not t, h, refl), truth_back (not (not t)) ∙ ap Some (not_not t)),
  )

  -- phi(ieq(c,0),a,b) = phi(c,b,a)
  turned : (l r n z c a b : ℕ) (i : Index) (v : Val) → view l ≡ Some (form op.Phi (n ∷ a ∷ b ∷ [])) → view n ≡ Some (form (op.Scalar Ieq) (c ∷ z ∷ [])) → view z ≡ Some (form (op.Int (pos 0)) [])
      → view r ≡ Some (form op.Phi (c ∷ b ∷ a ∷ [])) → Value view w inp l i v ↔ Value view w inp r i v
  turned l r n z c a b i v el en ez er = (λ h. let d = (phi_is view w inp l n a b i v el).0 h in to d.0 d.1 d.2, λ h. let d = (phi_is view w inp r c b a i v er).0 h in from d.0 d.1 d.2)
    where
      to : (t : Bool) → IsTrueAt (Value view w inp) t n i → Value view w inp (if t then a else b) i v → Value view w inp r i v
      to true t h = (phi_is view w inp r c b a i v er).1 (false, (no_true n c z i true en ez).0 t, h)
      to false t h = (phi_is view w inp r c b a i v er).1 (true, (no_true n c z i false en ez).0 t, h)

      from : (t : Bool) → IsTrueAt (Value view w inp) t c i → Value view w inp (if t then b else a) i v → Value view w inp l i v
      from true t h = (phi_is view w inp l n a b i v el).1 (false, (no_true n c z i false en ez).1 t, h)
      from false t h = (phi_is view w inp l n a b i v el).1 (true, (no_true n c z i true en ez).1 t, h)

  -- a test for 0 of one
  twice_is : (l n z z' c : ℕ) (i : Index) (v : Val) → view l ≡ Some (form (op.Scalar Ieq) (n ∷ z ∷ [])) → view z ≡ Some (form (op.Int (pos 0)) []) → view n ≡ Some (form (op.Scalar Ieq) (c ∷ z' ∷ [])) → view z' ≡ Some (form (op.Int (pos 0)) [])
      → Value view w inp l i v ↔ ((t : Bool) × IsTrueAt (Value view w inp) t c i × (v ≡ Truth t))
  twice_is l n z z' c i v el ez en ez' = (
    λ h. let d = (no_is l n z i v el ez).0 h in (not d.0, (no_true n c z' i d.0 en ez').0 d.1, d.2),
    λ (t, ht, e). (no_is l n z i v el ez).1 (not t, (no_true n c z' i (not t) en ez').1 (subst (λ (q : Bool). IsTrueAt (Value view w inp) q c i) (sym (not_not t)) ht), e ∙ ap Truth (sym (not_not t))),
  )

  -- a choice between two constants
  const_choice : (l c a b : ℕ) (p q : ℤ) (i : Index) (v : Val) → view l ≡ Some (form op.Phi (c ∷ a ∷ b ∷ [])) → view a ≡ Some (form (op.Int p) []) → view b ≡ Some (form (op.Int q) [])
      → Value view w inp l i v ↔ ((t : Bool) × IsTrueAt (Value view w inp) t c i × (v ≡ val.Num (num.Int (if t then p else q))))
  const_choice l c a b p q i v el ea eb = (λ h. let d = (phi_is view w inp l c a b i v el).0 h in to d.0 d.1 d.2, λ (t, ht, e). from t ht e)
    where
      to : (t : Bool) → IsTrueAt (Value view w inp) t c i → Value view w inp (if t then a else b) i v → (t : Bool) × IsTrueAt (Value view w inp) t c i × (v ≡ val.Num (num.Int (if t then p else q)))
      to true t h = (true, t, value_once view w inp a i v (val.Num (num.Int p)) h (int_has a p i ea))
      to false t h = (false, t, value_once view w inp b i v (val.Num (num.Int q)) h (int_has b q i eb))

      from : (t : Bool) → IsTrueAt (Value view w inp) t c i → v ≡ val.Num (num.Int (if t then p else q)) → Value view w inp l i v
      from true t e = (phi_is view w inp l c a b i v el).1 (true, t, subst (λ (y : Val). Value view w inp a i y) (sym e) (int_has a p i ea))
      from false t e = (phi_is view w inp l c a b i v el).1 (false, t, subst (λ (y : Val). Value view w inp b i y) (sym e) (int_has b q i eb))

  -- ---- equal references

  aeq_of : (u t v : Val) → strict w inp op.Aeq (u ∷ t ∷ []) ≡ Some v → (b : Bool) × (v ≡ Truth b)
  unfolding strict
  aeq_of (val.Num (num.Ref a)) (val.Num (num.Ref b)) v e = (a == b, sym (same_Some _ v e) ∙ spoken (a == b))
    where
      spoken : (b : Bool) → val.Num (num.Int (if b then pos 1 else pos 0)) ≡ Truth b
      spoken true = refl
      spoken false = refl
  aeq_of u t v e = absurd (cc)

  -- its value is a truth
  aeq_says : (n a b : ℕ) (i : Index) (v : Val) → view n ≡ Some (form op.Aeq (a ∷ b ∷ [])) → Value view w inp n i v → (t : Bool) × (v ≡ Truth t)
  aeq_says n a b i v e h = let d = (plain_is view w inp n op.Aeq (a ∷ b ∷ []) i v e refl).0 h in go d.0 d.1 d.2
    where
      go : (vs : List Val) → AllZip (λ k u. Value view w inp k i u) (a ∷ b ∷ []) vs → strict w inp op.Aeq vs ≡ Some v → (t : Bool) × (v ≡ Truth t)
      go (u ∷ t ∷ []) z s = aeq_of u t v s
      go vs z s = absurd (assumption)

  -- a truth tested twice for 0 is itself
  twice_same : (l n z z' c : ℕ) (i : Index) (v : Val) → view l ≡ Some (form (op.Scalar Ieq) (n ∷ z ∷ [])) → view z ≡ Some (form (op.Int (pos 0)) []) → view n ≡ Some (form (op.Scalar Ieq) (c ∷ z' ∷ [])) → view z' ≡ Some (form (op.Int (pos 0)) [])
      → ((u : Val) → Value view w inp c i u → (t : Bool) × (u ≡ Truth t)) → Value view w inp l i v ↔ Value view w inp c i v
  twice_same l n z z' c i v el ez en ez' says = (
    λ h.
        let d = (twice_is l n z z' c i v el ez en ez').0 h in
        let s = says d.1.0 d.1.1 in
        let same : s.0 ≡ d.0 = same_Some s.0 d.0 (sym (truth_back s.0) ∙ ap truth (sym s.1) ∙ d.1.2) in
        subst (λ (y : Val). Value view w inp c i y) (s.1 ∙ ap Truth same ∙ sym d.2) d.1.1,
    λ h. let s = says v h in (twice_is l n z z' c i v el ez en ez').1 (s.0, (v, h, ap truth s.1 ∙ truth_back s.0), s.1),
  )

  and_of : (u z v : Val) → strict w inp (op.Scalar Iand) (u ∷ z ∷ []) ≡ Some v → (m k : ℤ) × (u ≡ val.Num (num.Int m)) × (z ≡ val.Num (num.Int k)) × (v ≡ val.Num (num.Int (int_wrap w32 (int_bit_and w32 m k))))
  unfolding strict
  and_of (val.Num (num.Int m)) (val.Num (num.Int k)) v e = (m, k, refl, refl, sym (same_Some _ v e))
  and_of u z v e = absurd (cc)

  low_truth : (b : Bool) → strict w inp (op.Scalar Iand) (Truth b ∷ val.Num (num.Int (pos 1)) ∷ []) ≡ Some (Truth b)
  unfolding strict int_wrap
  low_truth true = refl
  low_truth false = refl

  -- the lowest bit of a truth is itself
  low_same : (l c z : ℕ) (i : Index) (v : Val) → view l ≡ Some (form (op.Scalar Iand) (c ∷ z ∷ [])) → view z ≡ Some (form (op.Int (pos 1)) []) → ((u : Val) → Value view w inp c i u → (t : Bool) × (u ≡ Truth t))
      → Value view w inp l i v ↔ Value view w inp c i v
  low_same l c z i v el ez says = (to, from)
    where
      go : (vs : List Val) → AllZip (λ k u. Value view w inp k i u) (c ∷ z ∷ []) vs → strict w inp (op.Scalar Iand) vs ≡ Some v → Value view w inp c i v
      go (u ∷ y ∷ []) h s =
          let t = says u h.0 in
          let one : y ≡ val.Num (num.Int (pos 1)) = value_once view w inp z i y (val.Num (num.Int (pos 1))) h.1.0 (int_has z (pos 1) i ez) in
          let same : Truth t.0 ≡ v = same_Some (Truth t.0) v (sym (low_truth t.0) ∙ ap (λ (q : Val). strict w inp (op.Scalar Iand) (Truth t.0 ∷ q ∷ [])) (sym one) ∙ ap (λ (q : Val). strict w inp (op.Scalar Iand) (q ∷ y ∷ [])) (sym t.1) ∙ s) in
          subst (λ (q : Val). Value view w inp c i q) (t.1 ∙ same) h.0
      go vs h s = absurd (assumption)

      to : Value view w inp l i v → Value view w inp c i v
      to h = let d = (plain_is view w inp l (op.Scalar Iand) (c ∷ z ∷ []) i v el refl).0 h in go d.0 d.1 d.2

      from : Value view w inp c i v → Value view w inp l i v
      from h =
          let t = says v h in
          (plain_is view w inp l (op.Scalar Iand) (c ∷ z ∷ []) i v el refl).1
          (v ∷ val.Num (num.Int (pos 1)) ∷ [], (h, (int_has z (pos 1) i ez, tt)), ap (λ (q : Val). strict w inp (op.Scalar Iand) (q ∷ val.Num (num.Int (pos 1)) ∷ [])) t.1 ∙ low_truth t.0 ∙ ap Some (sym t.1))

-- ---- the laws

law_4001 : Law (rule 4001 (phi (var 0) (var 1) (phi (var 2) (var 3) (var 4))) (phi (var 0) (var 1) (phi (var 2) (phi (var 0) (var 1) (var 3)) (phi (var 0) (var 1) (var 4)))) [])
law_4001 g assumed subst_ l r w inp set is i v =
    let view = form_at g.nodes in
    let m = is.names in
    let vars = slice_get m.vars in
    let y = three_at view m (fixed op.Phi) (var 0) (var 1) (phi (var 2) (var 3) (var 4)) l is.left in
    let n = three_at view m (fixed op.Phi) (var 2) (var 3) (var 4) y.2 y.6 in
    let z = three_at view m (fixed op.Phi) (var 0) (var 1) (phi (var 2) (phi (var 0) (var 1) (var 3)) (phi (var 0) (var 1) (var 4))) r is.right in
    let k = three_at view m (fixed op.Phi) (var 2) (phi (var 0) (var 1) (var 3)) (phi (var 0) (var 1) (var 4)) z.2 z.6 in
    let p = three_at view m (fixed op.Phi) (var 0) (var 1) (var 3) k.1 k.5 in
    let q = three_at view m (fixed op.Phi) (var 0) (var 1) (var 4) k.2 k.6 in
    asked_second view w inp l r y.2 z.2 k.1 k.2 y.0 y.1 n.0 n.1 n.2 i v y.3 n.3
    (form_three (view r) op.Phi z.0 z.1 z.2 y.0 y.1 z.2 z.3 (same_at (vars 0) z.0 y.0 z.4 y.4) (same_at (vars 1) z.1 y.1 z.5 y.5) refl)
    (form_three (view z.2) op.Phi k.0 k.1 k.2 n.0 k.1 k.2 k.3 (same_at (vars 2) k.0 n.0 k.4 n.4) refl refl)
    (form_three (view k.1) op.Phi p.0 p.1 p.2 y.0 y.1 n.1 p.3 (same_at (vars 0) p.0 y.0 p.4 y.4) (same_at (vars 1) p.1 y.1 p.5 y.5) (same_at (vars 3) p.2 n.1 p.6 n.5))
    (form_three (view k.2) op.Phi q.0 q.1 q.2 y.0 y.1 n.2 q.3 (same_at (vars 0) q.0 y.0 q.4 y.4) (same_at (vars 1) q.1 y.1 q.5 y.5) (same_at (vars 4) q.2 n.2 q.6 n.6))

law_4002 : Law (rule 4002 (phi (var 0) (phi (var 1) (var 2) (var 3)) (var 4)) (phi (var 0) (phi (var 1) (phi (var 0) (var 2) (var 4)) (phi (var 0) (var 3) (var 4))) (var 4)) [])
law_4002 g assumed subst_ l r w inp set is i v =
    let view = form_at g.nodes in
    let m = is.names in
    let vars = slice_get m.vars in
    let y = three_at view m (fixed op.Phi) (var 0) (phi (var 1) (var 2) (var 3)) (var 4) l is.left in
    let n = three_at view m (fixed op.Phi) (var 1) (var 2) (var 3) y.1 y.5 in
    let z = three_at view m (fixed op.Phi) (var 0) (phi (var 1) (phi (var 0) (var 2) (var 4)) (phi (var 0) (var 3) (var 4))) (var 4) r is.right in
    let k = three_at view m (fixed op.Phi) (var 1) (phi (var 0) (var 2) (var 4)) (phi (var 0) (var 3) (var 4)) z.1 z.5 in
    let p = three_at view m (fixed op.Phi) (var 0) (var 2) (var 4) k.1 k.5 in
    let q = three_at view m (fixed op.Phi) (var 0) (var 3) (var 4) k.2 k.6 in
    asked_first view w inp l r y.1 z.1 k.1 k.2 y.0 y.2 n.0 n.1 n.2 i v y.3 n.3
    (form_three (view r) op.Phi z.0 z.1 z.2 y.0 z.1 y.2 z.3 (same_at (vars 0) z.0 y.0 z.4 y.4) refl (same_at (vars 4) z.2 y.2 z.6 y.6))
    (form_three (view z.1) op.Phi k.0 k.1 k.2 n.0 k.1 k.2 k.3 (same_at (vars 1) k.0 n.0 k.4 n.4) refl refl)
    (form_three (view k.1) op.Phi p.0 p.1 p.2 y.0 n.1 y.2 p.3 (same_at (vars 0) p.0 y.0 p.4 y.4) (same_at (vars 2) p.1 n.1 p.5 n.5) (same_at (vars 4) p.2 y.2 p.6 y.6))
    (form_three (view k.2) op.Phi q.0 q.1 q.2 y.0 n.2 y.2 q.3 (same_at (vars 0) q.0 y.0 q.4 y.4) (same_at (vars 3) q.1 n.2 q.5 n.6) (same_at (vars 4) q.2 y.2 q.6 y.6))

law_4003 : Law (rule 4003 (phi (sc2 Ieq (var 0) (zero_ int)) (var 1) (var 2)) (phi (var 0) (var 2) (var 1)) [])
law_4003 g assumed subst_ l r w inp set is i v =
    let view = form_at g.nodes in
    let m = is.names in
    let vars = slice_get m.vars in
    let y = three_at view m (fixed op.Phi) (is_zero (var 0)) (var 1) (var 2) l is.left in
    let n = two_at view m (fixed (op.Scalar Ieq)) (var 0) (zero_ int) y.0 y.4 in
    let z = three_at view m (fixed op.Phi) (var 0) (var 2) (var 1) r is.right in
    turned view w inp l r y.0 n.1 n.0 y.1 y.2 i v y.3 n.2 (none_at view m (fixed (op.Int (pos 0))) n.1 n.4)
    (form_three (view r) op.Phi z.0 z.1 z.2 n.0 y.2 y.1 z.3 (same_at (vars 0) z.0 n.0 z.4 n.3) (same_at (vars 2) z.1 y.2 z.5 y.6) (same_at (vars 1) z.2 y.1 z.6 y.5))

pub nested_laws : Laws nested_choices
nested_laws = (law_4001, (law_4002, (law_4003, tt)))

-- a value said by a truth, said otherwise
respoken : (T : Bool → Type 0) (A B : Bool → Val) (v : Val) → ((t : Bool) → A t ≡ B t) → (t : Bool) × T t × (v ≡ A t) → (t : Bool) × T t × (v ≡ B t)
respoken T A B v same (t, h, e) = (t, h, e ∙ same t)

law_4025 : Law (rule 4025 (phi x (one_ int) (zero_ int)) (is_zero (is_zero x)) [])
law_4025 g assumed subst_ l r w inp set is i v =
    let view = form_at g.nodes in
    let m = is.names in
    let vars = slice_get m.vars in
    let y = three_at view m (fixed op.Phi) x (one_ int) (zero_ int) l is.left in
    let z = two_at view m (fixed (op.Scalar Ieq)) (is_zero x) (zero_ int) r is.right in
    let k = two_at view m (fixed (op.Scalar Ieq)) x (zero_ int) z.0 z.3 in
    let left = const_choice view w inp l y.0 y.1 y.2 (pos 1) (pos 0) i v y.3 (none_at view m (fixed (op.Int (pos 1))) y.1 y.5) (none_at view m (fixed (op.Int (pos 0))) y.2 y.6) in
    let right =
    twice_is view w inp r z.0 z.1 k.1 y.0 i v z.2 (none_at view m (fixed (op.Int (pos 0))) z.1 z.4) (form_two (view z.0) (op.Scalar Ieq) k.0 k.1 y.0 k.1 k.2 (same_at (vars 0) k.0 y.0 k.3 y.4) refl)
    (none_at view m (fixed (op.Int (pos 0))) k.1 k.4) in
    (λ h. right.1 (respoken (λ t. IsTrueAt (Value view w inp) t y.0 i) (λ t. val.Num (num.Int (if t then pos 1 else pos 0))) Truth v spoken (left.0 h)), λ h. left.1 (respoken (λ t. IsTrueAt (Value view w inp) t y.0 i) Truth (λ t. val.Num (num.Int (if t then pos 1 else pos 0))) v (λ t. sym (spoken t)) (right.0 h)))
  where
    spoken : (t : Bool) → val.Num (num.Int (if t then pos 1 else pos 0)) ≡ Truth t
    spoken true = refl
    spoken false = refl

law_4026 : Law (rule 4026 (phi x (zero_ int) (one_ int)) (is_zero x) [])
law_4026 g assumed subst_ l r w inp set is i v =
    let view = form_at g.nodes in
    let m = is.names in
    let vars = slice_get m.vars in
    let y = three_at view m (fixed op.Phi) x (zero_ int) (one_ int) l is.left in
    let k = two_at view m (fixed (op.Scalar Ieq)) x (zero_ int) r is.right in
    let left = const_choice view w inp l y.0 y.1 y.2 (pos 0) (pos 1) i v y.3 (none_at view m (fixed (op.Int (pos 0))) y.1 y.5) (none_at view m (fixed (op.Int (pos 1))) y.2 y.6) in
    let right = no_is view w inp r y.0 k.1 i v (form_two (view r) (op.Scalar Ieq) k.0 k.1 y.0 k.1 k.2 (same_at (vars 0) k.0 y.0 k.3 y.4) refl) (none_at view m (fixed (op.Int (pos 0))) k.1 k.4) in
    (λ h. right.1 (respoken (λ t. IsTrueAt (Value view w inp) t y.0 i) (λ t. val.Num (num.Int (if t then pos 0 else pos 1))) (λ t. Truth (not t)) v spoken (left.0 h)), λ h. left.1 (respoken (λ t. IsTrueAt (Value view w inp) t y.0 i) (λ t. Truth (not t)) (λ t. val.Num (num.Int (if t then pos 0 else pos 1))) v (λ t. sym (spoken t)) (right.0 h)))
  where
    spoken : (t : Bool) → val.Num (num.Int (if t then pos 0 else pos 1)) ≡ Truth (not t)
    spoken true = refl
    spoken false = refl

pub chosen_laws : Laws chosen_truths
chosen_laws = (law_4025, (law_4026, tt))

-- two nodes of equal references of the same kids
aeq_same : (view : ℕ → Option (Form ℕ)) (w : World) (inp : Input) (n r a b : ℕ) (i : Index) (v : Val) → view n ≡ Some (form op.Aeq (a ∷ b ∷ [])) → view r ≡ Some (form op.Aeq (a ∷ b ∷ [])) → Value view w inp n i v ↔ Value view w inp r i v
aeq_same view w inp n r a b i v en er = (
  λ h. (plain_is view w inp r op.Aeq (a ∷ b ∷ []) i v er refl).1 ((plain_is view w inp n op.Aeq (a ∷ b ∷ []) i v en refl).0 h),
  λ h. (plain_is view w inp n op.Aeq (a ∷ b ∷ []) i v en refl).1 ((plain_is view w inp r op.Aeq (a ∷ b ∷ []) i v er refl).0 h),
)

pub law_4008 : Law (tested_twice 4008 same_refs)
law_4008 g assumed subst_ l r w inp set is i v =
    let view = form_at g.nodes in
    let m = is.names in
    let vars = slice_get m.vars in
    let y = two_at view m (fixed (op.Scalar Ieq)) (is_zero same_refs) (zero_ int) l is.left in
    let k = two_at view m (fixed (op.Scalar Ieq)) same_refs (zero_ int) y.0 y.3 in
    let n = two_at view m (fixed op.Aeq) (var 0) (var 1) k.0 k.3 in
    let z = two_at view m (fixed op.Aeq) (var 0) (var 1) r is.right in
    let one = twice_same view w inp l y.0 y.1 k.1 k.0 i v y.2 (none_at view m (fixed (op.Int (pos 0))) y.1 y.4) k.2 (none_at view m (fixed (op.Int (pos 0))) k.1 k.4) (λ u. aeq_says view w inp k.0 n.0 n.1 i u n.2) in
    let two = aeq_same view w inp k.0 r n.0 n.1 i v n.2 (form_two (view r) op.Aeq z.0 z.1 n.0 n.1 z.2 (same_at (vars 0) z.0 n.0 z.3 n.3) (same_at (vars 1) z.1 n.1 z.4 n.4)) in
    (λ h. two.0 (one.0 h), λ h. one.1 (two.1 h))

pub law_4012 : Law (lowest_bit 4012 same_refs)
law_4012 g assumed subst_ l r w inp set is i v =
    let view = form_at g.nodes in
    let m = is.names in
    let vars = slice_get m.vars in
    let k = two_at view m (fixed (op.Scalar Iand)) same_refs (one_ int) l is.left in
    let n = two_at view m (fixed op.Aeq) (var 0) (var 1) k.0 k.3 in
    let z = two_at view m (fixed op.Aeq) (var 0) (var 1) r is.right in
    let one = low_same view w inp l k.0 k.1 i v k.2 (none_at view m (fixed (op.Int (pos 1))) k.1 k.4) (λ u. aeq_says view w inp k.0 n.0 n.1 i u n.2) in
    let two = aeq_same view w inp k.0 r n.0 n.1 i v n.2 (form_two (view r) op.Aeq z.0 z.1 n.0 n.1 z.2 (same_at (vars 0) z.0 n.0 z.3 n.3) (same_at (vars 1) z.1 n.1 z.4 n.4)) in
    (λ h. two.0 (one.0 h), λ h. one.1 (two.1 h))
