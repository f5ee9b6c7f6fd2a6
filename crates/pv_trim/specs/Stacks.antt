-- The numbers of the steps that opened the open blocks, the innermost first.
use Rattle.std.specs.Prelude.{◌≡◌, ℕ, ◌<◌, List, [], ◌∷◌, length, reverse, Option, Some, None, slice_get}
use Rattle.pv_steps.specs.declared.step.Step.{Step}
use Rattle.pv_steps.specs.declared.step.Step.TheVariants.{Open, Close, Assume, Finish}
use Rattle.pv_steps.specs.Steps.{OpenBlock, open_after}
use Rattle.pv_steps.specs.Accepted.{first_steps}
use Rattle.pv_trim.specs.Marks.{ended}
use Rattle.pv_trim.specs.declared.ends.Effect.{Effect}
use Rattle.pv_trim.specs.declared.ends.Effect.TheVariants.{Opens, Ends, Stays}

abbrev pub numbers : List OpenBlock → List ℕ
numbers [] = []
numbers (p ∷ ps) = p.opened ∷ numbers ps

abbrev pub first : List ℕ → Option ℕ
first [] = None
first (n ∷ ns) = Some n

abbrev pub without_first : List ℕ → List ℕ
without_first [] = []
without_first (n ∷ ns) = ns

-- what a step does to the open blocks
abbrev pub effect_of : Step → Effect
effect_of (Open d pairs) = Opens
effect_of (Assume p nodes) = Opens
effect_of (Close d fs) = Ends
effect_of (Finish p q t f r h) = Ends
effect_of s = Stays

-- the numbers after the step with this number
abbrev pub stack_after : Effect → ℕ → List ℕ → List ℕ
stack_after Opens number ns = number ∷ ns
stack_after Ends number ns = without_first ns
stack_after Stays number ns = ns

-- the number of the step that opened the block which a step ends, if it ends one
abbrev pub ended_by : Effect → List ℕ → Option ℕ
ended_by Ends ns = first ns
ended_by does ns = None

-- for the first k steps: the numbers of the steps that opened the blocks which they end, and those of the blocks open after them
pub record AreEndsTo (section : List Step) (k : ℕ) (ends : List (Option ℕ)) (stack : List ℕ) : Type 0 where
  pub long : length ends ≡ k
  pub each : (i : ℕ) (s : Step) → i < k → slice_get section i ≡ Some s → slice_get ends i ≡ Some (ended s (open_after (first_steps i section)))
  pub blocks : reverse stack ≡ numbers (open_after (first_steps k section))
