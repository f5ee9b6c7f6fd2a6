-- The depths of blocks.
use Rattle.std.specs.Prelude.{◌≡◌, ℕ}
use Rattle.pv_steps.specs.declared.step.Step.{Step}
use Rattle.pv_steps.specs.declared.step.Step.TheVariants.{Open}

-- the step opens an induction of this depth
abbrev pub IsOfDepth : ℕ → Step → Type 0
IsOfDepth d (Open e pairs) = e ≡ d
IsOfDepth d s = ⊥
