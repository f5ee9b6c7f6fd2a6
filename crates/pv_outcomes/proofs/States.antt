-- States of the machine where a block begins, and its steps.
use Rattle.pv_outcomes.proofs.Words.{◌≡◌, ℕ, suc, List, [], ◌∷◌, length, Option, Some, Num, World, Input, Val, Program, Frame, State, Now, running, ended, step, IsTypedState, Next, Goes, Stops, local_slot, stack_slot, InRange}
use Rattle.pv_value.specs.declared.outcome.Val.TheVariants as val

-- locals from local k on: each that holds a value has it in its slot
abbrev pub LocalsHeld : (ℕ → Val) → ℕ → List (Option Num) → Type 0
LocalsHeld σ k [] = Unit {0}
LocalsHeld σ k (l ∷ locals) = ((n : Num) → l ≡ Some n → (σ (local_slot k) ≡ val.Num n) × InRange n) × LocalsHeld σ (suc k) locals

abbrev pub StackHeld : (ℕ → Val) → List Num → Type 0
StackHeld σ [] = Unit {0}
StackHeld σ (n ∷ stack) = (σ (stack_slot (length stack)) ≡ val.Num n) × InRange n × StackHeld σ stack

-- in a run of this input the machine is at this place, where a block begins, with these values in the slots
pub record At (x : Input) (frames : List (Option Frame)) (place : ℕ) (σ : ℕ → Val) (s : State) : Type 0 where
  pub here : s.at ≡ place
  pub typed : IsTypedState frames s
  pub start : s.heap0 ≡ x.heap
  pub token : σ 0 ≡ val.Unit
  pub heap : σ 3 ≡ val.Heap s.heap
  pub locals : LocalsHeld σ 0 s.locals
  pub stack : StackHeld σ s.stack

abbrev pub next_of : Now → Next State
next_of (running t) = Goes t
next_of (ended o) = Stops o

abbrev pub steps : Program → World → State → Next State
steps p w s = next_of (step p w s)
