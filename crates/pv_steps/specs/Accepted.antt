-- When a section is accepted, and with which number it is rejected.
use Rattle.std.specs.Prelude.{◌≡◌, ◌⊎◌, ℕ, suc, List, [], ◌∷◌, length, reverse, take, Some, slice_get}
use Rattle.pv_graph.specs.Walks.{In}
use Rattle.pv_graph.specs.Graphs.{Graph}
use Rattle.pv_steps.specs.Steps.{Step, Stated, open_after, stated_at}
use Rattle.pv_steps.specs.Right.{Instances, Right}

-- each of these steps, of which the last comes first, is right
abbrev pub AllRight : Instances → Graph → List Step → Type 0
AllRight Instance g [] = Unit {0}
AllRight Instance g (s ∷ before) = Right Instance g before s × AllRight Instance g before

-- the last step, in no block, states that a is equal to b
pub record LastStates (steps : List Step) (a b : ℕ) : Type 0 where
  pub stated : Stated
  pub last : stated_at steps (length steps) ≡ Some stated
  pub outside : stated.around ≡ []
  pub states_ : In stated.pairs (a, b)

-- no block is open, and a and b are one node or the last step states that they are equal
abbrev pub IsConcluded : List Step → ℕ → ℕ → Type 0
IsConcluded steps a b = (open_after steps ≡ []) × ((a ≡ b) ⊎ LastStates steps a b)

-- the first n steps of a section, the last of them first
abbrev pub first_steps : ℕ → List Step → List Step
first_steps n steps = reverse (take n steps)

-- a section, in order, is accepted over a graph with the roots a and b
abbrev pub Derives : Instances → Graph → ℕ → ℕ → List Step → Type 0
Derives Instance g a b steps = AllRight Instance g (reverse steps) × IsConcluded (reverse steps) a b

-- step n is the first that isn't right; or all are right, a = b isn't concluded, and n is one more than their number
pub record Rejects (Instance : Instances) (g : Graph) (a b : ℕ) (steps : List Step) (n : ℕ) : Type 0 where
  pub before : ℕ
  pub number : n ≡ suc before
  pub right : AllRight Instance g (first_steps before steps)
  pub wrong : ((s : Step) × (slice_get steps before ≡ Some s) × (Right Instance g (first_steps before steps) s → ⊥))
      ⊎ ((before ≡ length steps) × (IsConcluded (first_steps before steps) a b → ⊥))
