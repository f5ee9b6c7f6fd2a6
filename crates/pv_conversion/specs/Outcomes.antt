-- The outcome of a run, and what is asked of a machine whose steps the blocks stand for.
use Rattle.std.specs.Prelude.{◌≡◌, ◌≢◌, ℕ, zero, suc, Option, Some}
use Rattle.pv_value.specs.declared.world.World.{World}
use Rattle.pv_value.specs.declared.heap.Heap.{Heap}
use Rattle.pv_value.specs.declared.number.Num.{Num}
use Rattle.pv_value.specs.declared.outcome.Input.{Input}
use Rattle.pv_value.specs.declared.outcome.Fault.{Fault}
use Rattle.pv_value.specs.declared.outcome.Fault.TheVariants as fault
use Rattle.pv_value.specs.declared.outcome.Outcome.{Outcome}
use Rattle.pv_value.specs.declared.outcome.Outcome.TheVariants.{Returned, Threw}
use Rattle.pv_value.specs.declared.outcome.Val.{Val}
use Rattle.pv_value.specs.declared.outcome.Val.TheVariants as val
use Rattle.pv_denote.specs.Denote.{result_of}
use Rattle.pv_equations.specs.Flow.{Kind, Return, Throw, To, End, Exit, Flow}
use Rattle.pv_conversion.specs.Runs.{Steps, Runs}

-- the outcome of a run that ends in this way with the slots τ
abbrev pub IsOutcome : Kind → (ℕ → Val) → Outcome → Type 0
IsOutcome Return τ o = (m : Heap) × (n : Option Num) × (τ 1 ≡ val.Fault fault.Clear) × (τ 3 ≡ val.Heap m) × (result_of (τ 2) ≡ Some n) × (o ≡ Returned n m)
IsOutcome Throw τ o = (e : Fault) × (m : Heap) × (e ≢ fault.Clear) × (τ 1 ≡ val.Fault e) × (τ 3 ≡ val.Heap m) × (o ≡ Threw e m)

-- the run from b with the slots σ ends with the outcome o
abbrev pub EndsWith : World → Input → Flow → ℕ → (ℕ → Val) → Outcome → Type 0
EndsWith w x f b σ o = (k : Kind) × (τ : ℕ → Val) × Runs w x f k τ b σ × IsOutcome k τ o

-- what a step of a machine gives: its next state, or an outcome
pub data Next (S : Type 0) : Type 0 where
  Goes : S → Next S
  Stops : Outcome → Next S

-- one step after another
abbrev pub then : {S : Type 0} → Next S → (S → Next S) → Next S
then (Goes s) g = g s
then (Stops o) g = Stops o

-- n steps
abbrev pub after : {S : Type 0} → (S → Next S) → ℕ → S → Next S
after step zero s = Goes s
after step (suc n) s = then (step s) (λ t. after step n t)

-- from the state s the machine stops with the outcome o
abbrev pub MachineEnds : {S : Type 0} → (S → Next S) → S → Outcome → Type 0
MachineEnds step s o = (n : ℕ) × (after step n s ≡ Stops o)

-- a block stands for one or more steps of the machine; At b σ s says that the machine's state s is at the beginning of b with
-- the slots σ
pub record Carries (w : World) (x : Input) (f : Flow) (S : Type 0) (step : S → Next S) (At : ℕ → (ℕ → Val) → S → Type 0) : Type 0 where
  -- where a run goes on to a block the machine comes there
  pub goes_on : (b m : ℕ) (σ τ : ℕ → Val) (e : Exit) (s : S) → At b σ s → Steps w x f b σ e τ → e.dest ≡ To m → (n : ℕ) × (t : S) × (after step (suc n) s ≡ Goes t) × At m τ t
  -- where a run ends the machine stops, with the same outcome
  pub finishes : (b : ℕ) (σ τ : ℕ → Val) (e : Exit) (k : Kind) (s : S) → At b σ s → Steps w x f b σ e τ → e.dest ≡ End k → (n : ℕ) × (o : Outcome) × (after step n s ≡ Stops o) × IsOutcome k τ o
  -- where the machine stops at all, now or later, the block is left
  pub not_stuck : (b : ℕ) (σ : ℕ → Val) (s : S) (o : Outcome) → At b σ s → MachineEnds step s o → (e : Exit) × (τ : ℕ → Val) × Steps w x f b σ e τ

-- each end gives an outcome: its fault, result and heap have the right sorts
pub record Finishes (w : World) (x : Input) (f : Flow) (Typed : ℕ → (ℕ → Val) → Type 0) : Type 0 where
  pub outcome : (b : ℕ) (σ τ : ℕ → Val) (e : Exit) (k : Kind) → Typed b σ → Steps w x f b σ e τ → e.dest ≡ End k → (o : Outcome) × IsOutcome k τ o
