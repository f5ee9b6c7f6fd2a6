use Rattle.std.proofs.Common.{◌≡◌, sym, ◌∙◌, ℕ, [], ◌∷◌, subst}
use Rattle.std.proofs.lemmas.Option.{same_Some}
use Rattle.pv_graph.specs.declared.node.Op.TheVariants as op
use Rattle.pv_steps.specs.Right.{Is}
use Rattle.pv_check.proofs.inductions.is_start.Goals as goal

pub returns-in-Some : goal.returns-in-Some
returns-in-Some c = (
  λ e. let both = c.is_eval_at_zero.ensures.0 e in record { zero_ = c.in-Some.count; is_left = (c.count_of.ensures c.in-Some.count).0 c.in-Some.is; is_zero = both.0; is_right = both.1 },
  λ h.
      let same : h.zero_ ≡ c.in-Some.count = same_Some _ _ (sym ((c.count_of.ensures h.zero_).1 h.is_left) ∙ c.in-Some.is) in
      c.is_eval_at_zero.ensures.1 (subst (λ (z : ℕ). Is c.args.graph.now z op.Zero []) same h.is_zero, subst (λ (z : ℕ). Is c.args.graph.now c.args.right (op.Eval c.args.depth) (c.args.pair.1 ∷ z ∷ [])) same h.is_right),
)

pub returns-in-None : goal.returns-in-None
returns-in-None c = (λ e. absurd (cc), λ h. absurd (let z = sym c.in-None.is ∙ (c.count_of.ensures h.zero_).1 h.is_left in cc))
