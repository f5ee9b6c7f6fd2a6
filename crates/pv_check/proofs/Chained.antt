-- Two facts in a chain.
use Rattle.std.specs.Prelude.{◌≡◌, ◌≢◌, ◌↔◌, ℕ, Bool, false, List, reverse, Option, Some, None, IsTrue}
use Rattle.std.proofs.Common.{sym, ◌∙◌, subst}
use Rattle.pv_steps.specs.declared.step.Fact.{Fact}
use Rattle.pv_steps.specs.declared.step.Step.{Step}
use Rattle.pv_steps.specs.Steps.{Shows}
use Rattle.pv_check.specs.declared.seen.Within.TheVariants.{Here}
use Rattle.pv_check.specs.Kept.{open_now, IsVisible}
use Rattle.pv_check.proofs.Visible.{pair_are}

module _ (o : Option (ℕ × ℕ)) (section : List Step) (first second : Fact) where
  abbrev Chains : ℕ → ℕ → Type 0
  Chains a b = (c : ℕ) × Shows (reverse section) (open_now section) first a c × Shows (reverse section) (open_now section) second c b

  pub chain_some : (l m a b : ℕ) → IsVisible o Here section first → o ≡ Some (l, m) → l ≡ a → (t : Bool) → (IsTrue t ↔ Shows (reverse section) (open_now section) second m b) → IsTrue t ↔ Chains a b
  chain_some l m a b v e same t h = (
    λ yes. (m, subst (λ (n : ℕ). Shows (reverse section) (open_now section) first n m) same ((v l m).0 e), h.0 yes),
    λ c. let z = pair_are l m a c.0 (sym e ∙ (v a c.0).1 c.1) in h.1 (subst (λ (n : ℕ). Shows (reverse section) (open_now section) second n b) (sym z.1) c.2),
  )

  pub chain_other : (l m a b : ℕ) → IsVisible o Here section first → o ≡ Some (l, m) → l ≢ a → IsTrue false ↔ Chains a b
  chain_other l m a b v e other = (λ yes. absurd (cc), λ c. absurd (other (pair_are l m a c.0 (sym e ∙ (v a c.0).1 c.1)).0))

  pub chain_none : (a b : ℕ) → IsVisible o Here section first → o ≡ None → IsTrue false ↔ Chains a b
  chain_none a b v e = (λ yes. absurd (cc), λ c. absurd (let z = sym e ∙ (v a c.0).1 c.1 in cc))
