-- What a checker keeps of the steps so far: the innermost open block after each number of steps, and which blocks
-- are still open. A block is named by the number of the step that opened it; 0 stands for no block.
use Rattle.std.specs.Prelude.{◌≡◌, ◌≢◌, ◌⊎◌, ◌↔◌, ℕ, zero, suc, ◌≤◌, Bool, true, false, ◌||◌, List, [], ◌∷◌, length, reverse, Option, Some, None, slice_get, ◌==◌}
use Rattle.pv_steps.specs.declared.step.Step.TheVariants as steps
use Rattle.pv_steps.specs.declared.step.Fact.{Fact}
use Rattle.pv_steps.specs.declared.step.Step.{Step}
use Rattle.pv_steps.specs.declared.step.Step.TheVariants.{Axiom, Use, Flip, Chain, Set, Open, Close, Assume, Finish}
use Rattle.pv_steps.specs.Steps.{OpenBlock, outer_of, both_sides, open_after, equality_at, Equality, Shows}
use Rattle.pv_steps.specs.Accepted.{first_steps}
use Rattle.pv_check.specs.declared.seen.Found.{Found}
use Rattle.pv_check.specs.declared.tables.Effect.{Effect}
use Rattle.pv_check.specs.declared.tables.Effect.TheVariants.{Opens, Ends, Stays}
use Rattle.pv_check.specs.declared.seen.Within.{Within}
use Rattle.pv_check.specs.declared.seen.Within.TheVariants.{Here, Outside}

-- the step that opened the innermost of these blocks
abbrev pub number_of : List OpenBlock → ℕ
number_of [] = 0
number_of (p ∷ ps) = p.opened

-- the blocks that are open after the first n of these steps
abbrev pub blocks_at : List Step → ℕ → List OpenBlock
blocks_at steps n = open_after (first_steps n steps)

-- the blocks that are open after all of them
abbrev pub open_now : List Step → List OpenBlock
open_now steps = open_after (reverse steps)

-- a block that this step opened is among these
abbrev pub has_opened : ℕ → List OpenBlock → Bool
has_opened n [] = false
has_opened n (p ∷ ps) = (p.opened == n) || has_opened n ps

-- .. and no block is open everywhere
abbrev pub is_among : ℕ → List OpenBlock → Bool
is_among zero ps = true
is_among (suc k) ps = has_opened (suc k) ps

-- of each number of steps the innermost open block after them, and of each block whether it is open after all
pub record AreKept (steps : List Step) (innermost : List ℕ) (opened : List Bool) : Type 0 where
  pub long : length innermost ≡ suc (length steps)
  pub wide : length opened ≡ suc (length steps)
  pub innermost_ : (n : ℕ) → n ≤ length steps → slice_get innermost n ≡ Some (number_of (blocks_at steps n))
  pub opened_ : (n : ℕ) → n ≤ length steps → slice_get opened n ≡ Some (is_among n (open_now steps))

-- the pairs of an induction that a step opens; no other block has some
abbrev pub pairs_opened : Option Step → List (ℕ × ℕ)
pairs_opened (Some (Open d pairs)) = pairs
pairs_opened s = []

-- those of the block with this number
abbrev pub opened_pairs : List Step → ℕ → List (ℕ × ℕ)
opened_pairs steps zero = []
opened_pairs steps (suc k) = pairs_opened (slice_get steps k)

-- what a step states, where the innermost block before it has these pairs
abbrev pub step_pairs : Step → List (ℕ × ℕ) → List (ℕ × ℕ)
step_pairs (steps.Node n o kids) inside = []
step_pairs (Axiom n a b nodes) inside = (a, b) ∷ []
step_pairs (Use n a b nodes) inside = (a, b) ∷ []
step_pairs (Flip a b f) inside = (a, b) ∷ []
step_pairs (Chain a b f g) inside = (a, b) ∷ []
step_pairs (Set cs) inside = both_sides cs
step_pairs (Open d pairs) inside = pairs
step_pairs (Close d fs) inside = inside
step_pairs (Assume p nodes) inside = []
step_pairs (Finish p q t f r h) inside = (p, q) ∷ []

-- a stated equality, with the innermost block around it
abbrev pub found_in : Option Equality → Option Found
found_in None = None
found_in (Some e) = Some (record { around = number_of e.around; left = e.left; right = e.right })

-- .. of a fact
abbrev pub found_at : List Step → Fact → Option Found
found_at steps f = found_in (equality_at (reverse steps) f)

-- the open blocks in which a fact is to be visible
abbrev pub region : Within → List Step → List OpenBlock
region Here steps = open_now steps
region Outside steps = outer_of (open_now steps)

-- a block is open there, by its number
abbrev pub IsSeen : Within → List Step → List Bool → ℕ → Type 0
IsSeen Here steps opened n = slice_get opened n ≡ Some true
IsSeen Outside steps opened n = (slice_get opened n ≡ Some true) × ((n ≡ 0) ⊎ (n ≢ number_of (open_now steps)))

-- the pair is what the fact states, where it is visible there
abbrev pub IsVisible : Option (ℕ × ℕ) → Within → List Step → Fact → Type 0
IsVisible pair w steps f = (a b : ℕ) → (pair ≡ Some (a, b)) ↔ Shows (reverse steps) (region w steps) f a b

-- what a step does to the open blocks
abbrev pub effect_of : Step → Effect
effect_of (Open d pairs) = Opens
effect_of (Assume p nodes) = Opens
effect_of (Close d fs) = Ends
effect_of (Finish p q t f r h) = Ends
effect_of s = Stays
