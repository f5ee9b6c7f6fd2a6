-- The nodes of slots.
use Rattle.std.proofs.Common.{◌≡◌, ℕ, zero, suc, ◌+◌, ◌-◌, ◌<◌, ◌≤◌, Bool, List, [], ◌∷◌, length, get_or, Some, None, slice_get, ⊎_elim, refl, sym, ap, ◌∙◌, arith, if◌then◌else◌}
use Rattle.pv_build.proofs.Words.{eqb_tells, slice_get-get_or, local_place, stack_place, by_turns, Cell, node_of_cell, local_node, stack_node}

-- ---- turns

pub turn_local : {A : Type 0} → (l p : ℕ → A) (k : ℕ) → by_turns l p (local_place k) ≡ l k
turn_local l p zero = refl
turn_local l p (suc k) = turn_local (λ k. l (suc k)) (λ j. p (suc j)) k

pub turn_stack : {A : Type 0} → (l p : ℕ → A) (j : ℕ) → by_turns l p (stack_place j) ≡ p j
turn_stack l p zero = refl
turn_stack l p (suc j) = turn_stack (λ k. l (suc k)) (λ j. p (suc j)) j

-- each number has its turn
pub turns : {A : Type 0} → (P : ℕ → A → Type 0) (l p : ℕ → A) → ((k : ℕ) → P (local_place k) (l k)) → ((j : ℕ) → P (stack_place j) (p j)) → (n : ℕ) → P n (by_turns l p n)
turns P l p f g zero = f 0
turns P l p f g (suc zero) = g 0
turns P l p f g (suc (suc n)) = turns (λ n x. P (suc (suc n)) x) (λ k. l (suc k)) (λ j. p (suc j)) (λ k. f (suc k)) (λ j. g (suc j)) n

-- ---- locals

pub local_none : (cells : List Cell) (k : ℕ) → length cells ≤ k → local_node cells k ≡ None
local_none [] k le = refl
local_none (c ∷ cells) zero le = absurd (omega arith)
local_none (c ∷ cells) (suc k) le = local_none cells k (omega arith)

pub local_some : (cells : List Cell) (k : ℕ) (c : Cell) → slice_get cells k ≡ Some c → local_node cells k ≡ node_of_cell c
local_some [] k c e = absurd (cc)
local_some (d ∷ cells) zero c e = ap node_of_cell (let z : d ≡ c = cc in z)
local_some (d ∷ cells) (suc k) c e = local_some cells k c e

-- ---- the operand stack

pub stack_none : (cells : List Cell) (j : ℕ) → length cells ≤ j → stack_node cells j ≡ None
stack_none [] j le = refl
stack_none (c ∷ cells) j le = ⊎_elim
    (λ z. absurd (let e = z.1 in omega arith))
    (λ z. ap (λ (t : Bool). if t then node_of_cell c else stack_node cells j) z.0 ∙ stack_none cells j (omega arith))
    (eqb_tells j (length cells))

pub stack_some : (cells : List Cell) (i j : ℕ) (c : Cell) → j + suc i ≡ length cells → slice_get cells i ≡ Some c → stack_node cells j ≡ node_of_cell c
stack_some [] i j c l e = absurd (cc)
stack_some (d ∷ cells) zero j c l e = ⊎_elim
    (λ z. ap (λ (t : Bool). if t then node_of_cell d else stack_node cells j) z.0 ∙ ap node_of_cell (let y : d ≡ c = cc in y))
    (λ z. absurd (z.1 (omega arith)))
    (eqb_tells j (length cells))
stack_some (d ∷ cells) (suc i) j c l e = ⊎_elim
    (λ z. absurd (let y = z.1 in omega arith))
    (λ z. ap (λ (t : Bool). if t then node_of_cell d else stack_node cells j) z.0 ∙ stack_some cells i j c (omega arith) e)
    (eqb_tells j (length cells))

-- ---- as they are read

pub local_read : (cells : List Cell) (k : ℕ) (d : Cell) → k < length cells → node_of_cell (get_or cells k d) ≡ local_node cells k
local_read cells k d low = sym (local_some cells k (get_or cells k d) (slice_get-get_or cells k d low))

pub stack_read : (cells : List Cell) (j : ℕ) (d : Cell) → j < length cells → node_of_cell (get_or cells (length cells - 1 - j) d) ≡ stack_node cells j
stack_read cells j d low =
    sym (stack_some cells (length cells - 1 - j) j (get_or cells (length cells - 1 - j) d) (omega arith) (slice_get-get_or cells (length cells - 1 - j) d (omega arith)))
