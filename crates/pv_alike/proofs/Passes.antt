-- The passes end: a pass that doesn't make more classes is the last.
use Rattle.std.specs.Prelude.{◌≡◌, ◌≢◌, ◌⊎◌, ℕ, zero, suc, ◌<◌, ◌≤◌, true, List, Option}
use Rattle.std.proofs.Common.{inl, inr, sym, ap, ◌∙◌, arith}
use Rattle.pv_graph.specs.declared.node.Op.{Op}
use Rattle.pv_graph.specs.Forms.{Form}
use Rattle.pv_alike.specs.Partition.{IsA, IsFiner, IsLast}
use Rattle.pv_alike.specs.Algorithm.{IsDense}
use Rattle.pv_alike.proofs.Repeating.{comes_back}

one_or_other : (a b : ℕ) → (a ≡ b) ⊎ (a ≢ b)
one_or_other a b = grind arith

module _ (view : ℕ → Option (Form ℕ)) (class number next : ℕ → ℕ) (m n : ℕ) (old : IsDense view class m) (new : IsDense view next n) (finer : IsFiner view class number next) where
  -- a theta of each class
  theta_of : (c : ℕ) → c < m → (a : ℕ) × (o : Op) × (ks : List ℕ) × IsA view true a o ks × (class a ≡ c)
  theta_of c lt = old.each c lt

  low_or_high : (c : ℕ) → (c < m) ⊎ (m ≤ c)
  low_or_high c = grind arith

  -- the next class of that theta
  next_of : (c : ℕ) → (c < m) ⊎ (m ≤ c) → ℕ
  next_of c (inl lt) = next (theta_of c lt).0
  next_of c (inr high) = 0

  same_class : (a b : ℕ) (o p : Op) (ks ls : List ℕ) → IsA view true a o ks → IsA view true b p ls → next a ≡ next b → class a ≡ class b
  same_class a b o p ks ls x y e = ((finer.finer a b o p ks ls x y).0 e).0

  -- y first, and then the next class of each class
  list_of : ℕ → ℕ → ℕ
  list_of y zero = y
  list_of y (suc c) = next_of c (low_or_high c)

  next_low : (c : ℕ) (z : (c < m) ⊎ (m ≤ c)) → c < m → next_of c z < n
  unfolding next_of
  next_low c (inl lt) h = let t = theta_of c lt in new.low t.0 t.1 t.2 t.3
  next_low c (inr high) h = absurd (omega arith)

  next_apart : (c d : ℕ) (z : (c < m) ⊎ (m ≤ c)) (y : (d < m) ⊎ (m ≤ d)) → c < m → d < m → next_of c z ≡ next_of d y → c ≡ d
  unfolding next_of
  next_apart c d (inl lt) (inl lt') h k e =
      let a = theta_of c lt in
      let b = theta_of d lt' in
      sym a.4 ∙ same_class a.0 b.0 a.1 b.1 a.2 b.2 a.3 b.3 e ∙ b.4
  next_apart c d (inr high) y h k e = absurd (omega arith)
  next_apart c d z (inr high) h k e = absurd (omega arith)

  next_class : (a : ℕ) (o : Op) (ks : List ℕ) (c : ℕ) (z : (c < m) ⊎ (m ≤ c)) → IsA view true a o ks → c < m → next a ≡ next_of c z → class a ≡ c
  unfolding next_of
  next_class a o ks c (inl lt) x h e = let b = theta_of c lt in same_class a b.0 o b.1 ks b.2 x b.3 e ∙ b.4
  next_class a o ks c (inr high) x h e = absurd (omega arith)

  -- a next class that is not that of its class's theta is one too many
  one_more : (a : ℕ) (o : Op) (ks : List ℕ) → IsA view true a o ks → n ≤ m → next a ≢ next_of (class a) (low_or_high (class a)) → ⊥
  unfolding list_of
  one_more a o ks x le apart =
      let back = comes_back (list_of (next a)) n (λ i l. low i (omega arith)) in
      twice back.0 back.1 back.2 (omega (arith, back.3)) back.4
    where
      low : (i : ℕ) → i ≤ m → list_of (next a) i < n
      low zero l = new.low a o ks x
      low (suc c) l = next_low c (low_or_high c) (omega arith)

      twice : (i j : ℕ) → i < j → j ≤ m → list_of (next a) i ≡ list_of (next a) j → ⊥
      twice i zero l h e = absurd (omega arith)
      twice zero (suc d) l h e =
          let here : class a ≡ d = next_class a o ks d (low_or_high d) x (omega arith) e in
          apart (e ∙ ap (λ (c : ℕ). next_of c (low_or_high c)) (sym here))
      twice (suc c) (suc d) l h e = let same = next_apart c d (low_or_high c) (low_or_high d) (omega arith) (omega arith) e in absurd (omega arith)

  of_its_class : (a : ℕ) (o : Op) (ks : List ℕ) → IsA view true a o ks → n ≤ m → next a ≡ next_of (class a) (low_or_high (class a))
  of_its_class a o ks x le = elim (one_or_other (next a) (next_of (class a) (low_or_high (class a)))) [ inl e ↦ e | inr ne ↦ absurd (one_more a o ks x le ne) ]

  -- no more classes than before: the last pass
  pub no_more_classes : n ≤ m → IsLast view class next
  no_more_classes le a b o p ks ls x y same = of_its_class a o ks x le ∙ ap (λ (c : ℕ). next_of c (low_or_high c)) same ∙ sym (of_its_class b p ls y le)
