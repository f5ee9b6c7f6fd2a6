-- The steps of a certificate: the blocks that they open and end, and the equalities that they state.
use Rattle.std.specs.Prelude.{◌≡◌, ◌⊎◌, ℕ, zero, suc, true, false, List, [], ◌∷◌, length, Option, Some, None, slice_get, ◌==◌}
use Rattle.pv_value.specs.Spelled.{bind}
pub use Rattle.pv_steps.specs.declared.step.Fact.{Fact}
pub use Rattle.pv_steps.specs.declared.step.Reason.{Reason}
pub use Rattle.pv_steps.specs.declared.step.Reason.TheVariants.{Same, By, Pair}
pub use Rattle.pv_steps.specs.declared.step.Congruence.{Congruence}
pub use Rattle.pv_steps.specs.declared.step.Step.{Step}
pub use Rattle.pv_steps.specs.declared.step.Step.TheVariants.{Node, Axiom, Use, Flip, Chain, Set, Open, Close, Assume, Finish}

-- ---- blocks

-- an induction over the iterations of a depth, with its pairs; or a block for a root, with the nodes that are assumed to end
pub data Block : Type 0 where
  Loop : ℕ → List (ℕ × ℕ) → Block
  Ending : ℕ → List ℕ → Block

-- an open block, and the number of the step that opened it
pub record OpenBlock : Type 0 where
  pub opened : ℕ
  pub block : Block

-- in a list of open blocks the innermost comes first
abbrev pub blocks : List OpenBlock → List Block
blocks [] = []
blocks (p ∷ ps) = p.block ∷ blocks ps

-- all but the innermost
abbrev pub outer_of : List OpenBlock → List OpenBlock
outer_of [] = []
outer_of (p ∷ ps) = ps

-- the pairs of the innermost block; an ending block has none
abbrev pub pairs_of : List OpenBlock → List (ℕ × ℕ)
pairs_of [] = []
pairs_of (p ∷ ps) = elim p.block [ Loop d pairs ↦ pairs | Ending n nodes ↦ [] ]

-- the nodes that the innermost ending block assumes to end
abbrev pub assumed_in : List OpenBlock → List ℕ
assumed_in [] = []
assumed_in (p ∷ ps) = elim p.block [ Loop d pairs ↦ assumed_in ps | Ending n nodes ↦ nodes ]

-- ---- what steps state

-- the equalities that a step states, and the blocks around them
pub record Stated : Type 0 where
  pub around : List OpenBlock
  pub pairs : List (ℕ × ℕ)

-- the two nodes of each congruence
abbrev pub both_sides : List Congruence → List (ℕ × ℕ)
both_sides [] = []
both_sides (c ∷ cs) = (c.left, c.right) ∷ both_sides cs

-- what step k states, where these blocks are open before it, whether the step is right or not
abbrev pub states : Step → ℕ → List OpenBlock → Stated
states (Node n o kids) k inside = record { around = inside; pairs = [] }
states (Axiom n a b nodes) k inside = record { around = inside; pairs = (a, b) ∷ [] }
states (Use n a b nodes) k inside = record { around = inside; pairs = (a, b) ∷ [] }
states (Flip a b f) k inside = record { around = inside; pairs = (a, b) ∷ [] }
states (Chain a b f g) k inside = record { around = inside; pairs = (a, b) ∷ [] }
states (Set cs) k inside = record { around = inside; pairs = both_sides cs }
states (Open d pairs) k inside = record { around = record { opened = k; block = Loop d pairs } ∷ inside; pairs = pairs }
states (Close d fs) k inside = record { around = outer_of inside; pairs = pairs_of inside }
states (Assume p nodes) k inside = record { around = record { opened = k; block = Ending p nodes } ∷ inside; pairs = [] }
states (Finish p q t f r h) k inside = record { around = outer_of inside; pairs = (p, q) ∷ [] }

-- the blocks that are open after these steps, of which the last comes first
abbrev pub open_after : List Step → List OpenBlock
open_after [] = []
open_after (s ∷ before) = (states s (suc (length before)) (open_after before)).around

-- what the step with this number states
abbrev pub stated_at : List Step → ℕ → Option Stated
stated_at [] k = None
stated_at (s ∷ before) k = elim (k == suc (length before)) [ true ↦ Some (states s (suc (length before)) (open_after before)) | false ↦ stated_at before k ]

-- an element of a list, counted from 1
abbrev pub numbered : {A : Type 0} → List A → ℕ → Option A
numbered xs zero = None
numbered xs (suc j) = slice_get xs j

-- an equality, and the blocks around it
pub record Equality : Type 0 where
  pub around : List OpenBlock
  pub left : ℕ
  pub right : ℕ

abbrev pub equality_of : Stated → ℕ → Option Equality
equality_of s place = bind (numbered s.pairs place) (λ p. Some (record { around = s.around; left = p.0; right = p.1 }))

-- the equality that a fact names
abbrev pub equality_at : List Step → Fact → Option Equality
equality_at before f = bind (stated_at before f.step) (λ s. equality_of s f.place)

-- ---- what is visible

-- the blocks `around` are all open still: the open blocks `inside` are these, or these and some inside them
abbrev pub AreOpen : List OpenBlock → List OpenBlock → Type 0
AreOpen around [] = around ≡ []
AreOpen around (p ∷ ps) = (around ≡ p ∷ ps) ⊎ AreOpen around ps

-- the fact states a = b, and the blocks around it are open still
pub record Shows (before : List Step) (inside : List OpenBlock) (f : Fact) (a b : ℕ) : Type 0 where
  pub around : List OpenBlock
  pub stated : equality_at before f ≡ Some (record { around = around; left = a; right = b })
  pub visible : AreOpen around inside
