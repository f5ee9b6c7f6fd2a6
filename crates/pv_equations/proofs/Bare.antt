-- The values that trees give, before anything is taken out of loops.
use Rattle.std.proofs.Common.{◌≡◌, ◌≢◌, ℕ, zero, suc, ◌<◌, Bool, true, false, List, ◌∷◌, Option, Some, None, ◌⊎◌, inl, inr, refl, arith}
use Rattle.pv_equations.proofs.Words.{Exp, Name, Heads, IsFinite, Flow, Target, Node, Back, Leaving, Values, tree_of, or_else, first_kid, never_exp, at_start}
use Rattle.pv_equations.proofs.Same.{heads_dec}
use Rattle.pv_equations.proofs.Within.{Within}

pub dec : (a b : ℕ) → (a ≡ b) ⊎ (a ≢ b)
dec a b = grind arith

-- values from the trees of p
abbrev pub entering_by : (f : Flow) → Values → (h : ℕ) → ℕ → Heads (f.around h) h ⊎ (Heads (f.around h) h → ⊥) → (h ≡ f.entry) ⊎ (h ≢ f.entry) → Exp
entering_by f p h s (inl z) (inl e) = at_start f s
entering_by f p h s (inl z) (inr e) = or_else (tree_of f p z.0 (Node h) s) never_exp
entering_by f p h s (inr z) e = never_exp

abbrev pub again_by : (f : Flow) → Values → (h : ℕ) → ℕ → Heads (f.around h) h ⊎ (Heads (f.around h) h → ⊥) → Exp
again_by f p h s (inl z) = or_else (tree_of f p (h ∷ z.0) Back s) never_exp
again_by f p h s (inr z) = never_exp

abbrev pub ending_by : (f : Flow) → Values → (h : ℕ) → Heads (f.around h) h ⊎ (Heads (f.around h) h → ⊥) → Exp
ending_by f p h (inl z) = or_else (tree_of f p (h ∷ z.0) Leaving 0) never_exp
ending_by f p h (inr z) = never_exp

abbrev pub value_by : (f : Flow) → Values → (b : ℕ) → ℕ → Heads (f.around b) b ⊎ (Heads (f.around b) b → ⊥) → (b ≡ f.entry) ⊎ (b ≢ f.entry) → Bool → Exp
value_by f p b s (inl z) e true = Name b s
value_by f p b s (inl z) e false = entering_by f p b s (inl z) e
value_by f p b s (inr z) (inl e) c = at_start f s
value_by f p b s (inr z) (inr e) c = or_else (tree_of f p (f.around b) (Node b) s) never_exp

abbrev pub bare : (f : Flow) → Values → Values
bare f p = record {
  value = λ b s. value_by f p b s (heads_dec (f.around b) b) (dec b f.entry) (f.carried b s);
  tree = λ R t s F b. None;
  out = λ h x. x;
  ending = λ h. ending_by f p h (heads_dec (f.around h) h);
  entering = λ h s. entering_by f p h s (heads_dec (f.around h) h) (dec h f.entry);
  again = λ h s. again_by f p h s (heads_dec (f.around h) h);
}

-- the names in all trees are of finitely many blocks and slots
abbrev pub TreesWithin : ℕ → ℕ → Values → Type 0
TreesWithin blocks slots v = (R : List ℕ) (t : Target) (s : ℕ) (F : List ℕ) (b : ℕ) (y : Exp) → v.tree R t s F b ≡ Some y → Within blocks slots y

-- values with such trees
pub record Bounded (f : Flow) (blocks slots : ℕ) : Type 0 where
  pub values : Values
  pub within : TreesWithin blocks slots values

module _ (f : Flow) (blocks slots : ℕ) where
  or_else_within : (r : Option Exp) → ((y : Exp) → r ≡ Some y → Within blocks slots y) → Within blocks slots (or_else r never_exp)
  or_else_within None h = tt
  or_else_within (Some y) h = h y refl

  module _ (p : Bounded f blocks slots) where
    entering_within : (h s : ℕ) (z : Heads (f.around h) h ⊎ (Heads (f.around h) h → ⊥)) (e : (h ≡ f.entry) ⊎ (h ≢ f.entry)) → Within blocks slots (entering_by f p.values h s z e)
    entering_within h s (inl z) (inl e) = tt
    entering_within h s (inl z) (inr e) = or_else_within _ (λ y q. p.within _ _ _ _ _ y q)
    entering_within h s (inr z) e = tt

    again_within : (h s : ℕ) (z : Heads (f.around h) h ⊎ (Heads (f.around h) h → ⊥)) → Within blocks slots (again_by f p.values h s z)
    again_within h s (inl z) = or_else_within _ (λ y q. p.within _ _ _ _ _ y q)
    again_within h s (inr z) = tt

    ending_within : (h : ℕ) (z : Heads (f.around h) h ⊎ (Heads (f.around h) h → ⊥)) → Within blocks slots (ending_by f p.values h z)
    ending_within h (inl z) = or_else_within _ (λ y q. p.within _ _ _ _ _ y q)
    ending_within h (inr z) = tt

    pub bare_entering : (h s : ℕ) → Within blocks slots ((bare f p.values).entering h s)
    bare_entering h s = entering_within h s (heads_dec (f.around h) h) (dec h f.entry)

    pub bare_again : (h s : ℕ) → Within blocks slots ((bare f p.values).again h s)
    bare_again h s = again_within h s (heads_dec (f.around h) h)

    pub bare_ending : (h : ℕ) → Within blocks slots ((bare f p.values).ending h)
    bare_ending h = ending_within h (heads_dec (f.around h) h)

    pub bare_first : (h s : ℕ) → Within blocks slots (first_kid (bare f p.values) h s)
    bare_first h zero = tt
    bare_first h (suc s) = bare_entering h (suc s)

  pub bare_value : IsFinite f blocks slots → (p : Bounded f blocks slots) (b s : ℕ) → s < slots → Within blocks slots ((bare f p.values).value b s)
  bare_value finite p b s l = go (heads_dec (f.around b) b) (dec b f.entry) (f.carried b s)
    where
      go : (z : Heads (f.around b) b ⊎ (Heads (f.around b) b → ⊥)) (e : (b ≡ f.entry) ⊎ (b ≢ f.entry)) (c : Bool) → Within blocks slots (value_by f p.values b s z e c)
      go (inl z) e true = (finite.loops b b z.0 z.1, l)
      go (inl z) e false = entering_within p b s (inl z) e
      go (inr z) (inl e) c = tt
      go (inr z) (inr e) c = or_else_within _ (λ y q. p.within _ _ _ _ _ y q)
