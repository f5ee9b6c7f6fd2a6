-- Ending blocks: two roots, of which the tokens are equal outside the block and the other kids inside it.
use Rattle.std.specs.Prelude.{◌≡◌, ℕ, List, [], ◌∷◌}
use Rattle.pv_steps.specs.Steps.{Ending}
use Rattle.pv_writer.specs.Written.{Written, inside}
use Rattle.pv_explain.specs.declared.ending.RootPair.{RootPair}

-- one block is open: for root p, with these nodes assumed to end
pub record IsInBlock (w : Written) (p : ℕ) (nodes : List ℕ) : Type 0 where
  pub opened : ℕ
  pub only : inside w ≡ record { opened = opened; block = Ending p nodes } ∷ []

-- the faults, the results and the heaps of two roots
abbrev pub other_kids : RootPair → List (ℕ × ℕ)
other_kids r = (r.left.fault, r.right.fault) ∷ (r.left.result, r.right.result) ∷ (r.left.heap, r.right.heap) ∷ []
