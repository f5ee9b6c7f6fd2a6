-- Slots that take turns, as locals and places of the operand stack do.
use Rattle.pv_runs.proofs.Words.{◌≡◌, ℕ, zero, suc, refl, local_place, stack_place, by_turns}

pub turns_both : {A B : Type 0} (P : A → B → Type 0) (l s : ℕ → A) (k t : ℕ → B) → ((i : ℕ) → P (l i) (k i)) → ((i : ℕ) → P (s i) (t i)) → (n : ℕ) → P (by_turns l s n) (by_turns k t n)
turns_both P l s k t f g zero = f 0
turns_both P l s k t f g (suc zero) = g 0
turns_both P l s k t f g (suc (suc n)) = turns_both P (λ i. l (suc i)) (λ i. s (suc i)) (λ i. k (suc i)) (λ i. t (suc i)) (λ i. f (suc i)) (λ i. g (suc i)) n

pub turns_stack : {A : Type 0} (l s : ℕ → A) (j : ℕ) → by_turns l s (stack_place j) ≡ s j
turns_stack l s zero = refl
turns_stack l s (suc j) = turns_stack (λ i. l (suc i)) (λ i. s (suc i)) j

pub turns_local : {A : Type 0} (l s : ℕ → A) (j : ℕ) → by_turns l s (local_place j) ≡ l j
turns_local l s zero = refl
turns_local l s (suc j) = turns_local (λ i. l (suc i)) (λ i. s (suc i)) j
