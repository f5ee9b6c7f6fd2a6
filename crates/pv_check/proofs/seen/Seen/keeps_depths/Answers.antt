use Rattle.std.proofs.Common.{◌≡◌, ◌⊎◌, ◌<◌, ◌+◌, ℕ, refl, inl, inr, arith, reverse, subst, sym}
use Rattle.pv_check.specs.Sets.{KeepsDepth}
use Rattle.pv_check.proofs.seen.Seen.keeps_depths.Goals as goal

last_or : (d n : ℕ) → d < n + 1 → (d ≡ n) ⊎ (d < n)
last_or d n low = grind arith

pub loop-depth-preserved : goal.loop-depth-preserved
loop-depth-preserved c = λ d one low. elim (last_or d c.loop-depth.depth low) [
  | inl e ↦ subst (λ (k : ℕ). KeepsDepth c.args.graph.now (reverse c.args.self.now.steps.now) c.args.set.now k) (sym e) (c.keeps_depth.ensures.0 (let z = c.if-not-keeps_depth.false in z))
  | inr l ↦ c.loop-depth.invariant d one l
]

pub returns-then-not-keeps_depth : goal.returns-then-not-keeps_depth
returns-then-not-keeps_depth c = (
  λ e. absurd (cc),
  λ h. absurd (let z = c.keeps_depth.ensures.1 (h c.loop-depth.depth c.loop-depth.auto.depth c.loop-depth-test.true) in let y = c.if-not-keeps_depth.true in cc),
)

pub returns : goal.returns
returns c = (λ e. λ d one low. c.loop-depth.invariant d one (let z = c.loop-depth-test.false in omega (arith, z, low)), λ h. refl)
