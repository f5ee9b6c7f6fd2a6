-- A theta has the values of its first kid at iteration 0, and those of its second kid, one iteration earlier, at each later one.
use Rattle.std.specs.Prelude.{◌≡◌, ◌↔◌, ℕ, suc, [], ◌∷◌, Some}
use Rattle.std.proofs.Common.{inl, inr, sym, ◌∙◌, subst}
use Rattle.pv_value.specs.declared.world.World.{World}
use Rattle.pv_value.specs.declared.outcome.Input.{Input}
use Rattle.pv_value.specs.declared.outcome.Val.{Val}
use Rattle.pv_graph.specs.declared.node.Op.TheVariants as op
use Rattle.pv_graph.specs.Forms.{form}
use Rattle.pv_denote.specs.Denote.{Index, at_depth, Value, SameAt}
use Rattle.pv_denote.proofs.Cited.{den_makes, value_says}
use Rattle.pv_steps.specs.Facts.{View}

module _ (view : View) (w : World) (x : Input) (d : ℕ) (i : Index) where
  -- node n is a theta of depth d over p and q
  abbrev IsTheta : ℕ → ℕ → ℕ → Type 0
  IsTheta n p q = view n ≡ Some (form (op.Theta d) (p ∷ q ∷ []))

  at_first : (n p q : ℕ) → IsTheta n p q → i d ≡ 0 → (v : Val) → Value view w x n i v ↔ Value view w x p i v
  at_first n p q is e v = (
    λ h. elim (value_says view w x n i v (op.Theta d) (p ∷ q ∷ []) is h) [ inl a ↦ a.1 | inr b ↦ absurd (let z = sym e ∙ b.1 in cc) ],
    λ h. den_makes view w x n i v (op.Theta d) (p ∷ q ∷ []) is (inl (e, h)),
  )

  at_later : (n p q k : ℕ) → IsTheta n p q → i d ≡ suc k → (v : Val) → Value view w x n i v ↔ Value view w x q (at_depth i d k) v
  at_later n p q k is e v = (
    λ h. elim (value_says view w x n i v (op.Theta d) (p ∷ q ∷ []) is h) [
      | inl a ↦ absurd (let z = sym e ∙ a.0 in cc)
      | inr b ↦ let one : b.0 ≡ k = (let z = sym b.1 ∙ e in cc) in subst (λ (j : ℕ). Value view w x q (at_depth i d j) v) one b.2
    ],
    λ h. den_makes view w x n i v (op.Theta d) (p ∷ q ∷ []) is (inr (k, e, h)),
  )

  -- so two thetas of one depth are the same where these kids are
  pub first_same : (a b p q r s : ℕ) → IsTheta a p q → IsTheta b r s → i d ≡ 0 → SameAt view w x i p r → SameAt view w x i a b
  first_same a b p q r s left right e h v =
      let l = at_first a p q left e v in let m = at_first b r s right e v in let both = h v in
      (λ z. m.1 (both.0 (l.0 z)), λ z. l.1 (both.1 (m.0 z)))

  pub later_same : (a b p q r s k : ℕ) → IsTheta a p q → IsTheta b r s → i d ≡ suc k → SameAt view w x (at_depth i d k) q s → SameAt view w x i a b
  later_same a b p q r s k left right e h v =
      let l = at_later a p q k left e v in let m = at_later b r s k right e v in let both = h v in
      (λ z. m.1 (both.0 (l.0 z)), λ z. l.1 (both.1 (m.0 z)))
