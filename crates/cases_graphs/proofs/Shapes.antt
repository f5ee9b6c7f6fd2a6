-- Shapes of control flow that are tested node by node.
use Rattle.std.specs.Prelude.{◌⊎◌, ℕ, ◌<◌, ◌≤◌, List, [], length}
use Rattle.std.specs.List.{All, Contains}
use Rattle.std.proofs.Common.{inl, inr, arith, subst}
use Rattle.std.proofs.lemmas.List.{get_or_past}
use Rattle.std.proofs.lemmas.List.Elements.{All-contains}
use Rattle.pv_loops.specs.Shapes.{targets, Edge, IsShape}

-- the targets of each node below n are nodes
abbrev pub AreWithin : List (List ℕ) → ℕ → Type 0
AreWithin s n = (a : ℕ) → a < n → All (λ t. t < length s) (targets s a)

low_or_high : (n m : ℕ) → (n < m) ⊎ (m ≤ n)
low_or_high n m = grind arith

pub is_shape : (s : List (List ℕ)) (n : ℕ) → 0 < length s → length s ≤ n → AreWithin s n → IsShape s
is_shape s n some le all = record { entry = some; within = λ a b edge. within a b edge (low_or_high a (length s)) }
  where
    nowhere : (b : ℕ) → Contains {X = ℕ} [] b → ⊥
    nowhere b at = absurd (let low = at.1 in omega arith)

    within : (a b : ℕ) → Edge s a b → (a < length s) ⊎ (length s ≤ a) → b < length s
    within a b edge (inl lt) = All-contains (λ t. t < length s) (targets s a) b (all a (omega arith)) edge
    within a b edge (inr past) = absurd (nowhere b (subst (λ (xs : List ℕ). Contains xs b) (get_or_past s a [] past) edge))
