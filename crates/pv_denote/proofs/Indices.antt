-- Indices that differ at one depth.
use Rattle.std.specs.Prelude.{◌≡◌, ◌≢◌, ◌⊎◌, ℕ, false, ◌==◌}
use Rattle.std.proofs.Common.{inl, inr, sym, ◌∙◌, subst, arith}
use Rattle.std.proofs.lemmas.Bool.Decides.{nat_tests}
use mathlib.Core.Path.{fun_ext}
use Rattle.pv_denote.specs.Denote.{Index, at_depth}

pub same_or_not : (a b : ℕ) → (a ≡ b) ⊎ (a ≢ b)
same_or_not a b = grind arith

pub differ : (a b : ℕ) → a ≢ b → (a == b) ≡ false
differ a b h = grind (arith, nat_tests)

pub at_same : (i : Index) (d k : ℕ) → at_depth i d k d ≡ k
at_same i d k = grind (arith, nat_tests)

pub at_other : (i : Index) (d k e : ℕ) → e ≢ d → at_depth i d k e ≡ i e
at_other i d k e h = grind (arith, nat_tests)

at_point : (i : Index) (d k : ℕ) → i d ≡ k → (e : ℕ) → at_depth i d k e ≡ i e
at_point i d k h e = grind (arith, nat_tests)

-- an index with the iteration that it has
pub at_id : (i : Index) (d k : ℕ) → i d ≡ k → at_depth i d k ≡ i
at_id i d k h = fun_ext (at_point i d k h)

at_at_point : (i : Index) (d j k e : ℕ) → at_depth (at_depth i d j) d k e ≡ at_depth i d k e
at_at_point i d j k e = grind (arith, nat_tests)

-- the later of two changes at a depth counts
pub at_at : (i : Index) (d j k : ℕ) → at_depth (at_depth i d j) d k ≡ at_depth i d k
at_at i d j k = fun_ext (at_at_point i d j k)

-- indices that agree at a depth, or everywhere but there
pub at_agree : (i j : Index) (d k e : ℕ) → (e ≢ d → i e ≡ j e) → at_depth i d k e ≡ at_depth j d k e
at_agree i j d k e h = go (same_or_not e d)
  where
    go : (e ≡ d) ⊎ (e ≢ d) → at_depth i d k e ≡ at_depth j d k e
    go (inl z) = subst (λ (e : ℕ). at_depth i d k e ≡ at_depth j d k e) (sym z) (at_same i d k ∙ sym (at_same j d k))
    go (inr z) = at_other i d k e z ∙ h z ∙ sym (at_other j d k e z)
