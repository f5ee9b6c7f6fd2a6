-- What a run of a flow does from block to block. The state of a run is one value for each slot.
use Rattle.std.specs.Prelude.{◌≡◌, ℕ, true, false, List, [], ◌∷◌, Some, ◌⊎◌}
use Rattle.pv_value.specs.declared.name.Sym.{Sym}
use Rattle.pv_value.specs.declared.world.World.{World}
use Rattle.pv_value.specs.declared.outcome.Input.{Input}
use Rattle.pv_value.specs.declared.outcome.Val.{Val}
use Rattle.pv_denote.specs.Denote.{strict, truth}
use Rattle.pv_equations.specs.Flow.{Part, Parts, Slot, Of, NoPart, More, Kind, To, End, Exit, Chain, Leave, Test, InChain, Flow, call_token}

-- the value of a part, where σ gives those of the slots
abbrev mutual
  pub PartIs : World → Input → (ℕ → Val) → Part → Val → Type 0
  PartIs w x σ (Slot s) v = σ s ≡ v
  PartIs w x σ (Of o p ps) v = (vs : List Val) × PartsAre w x σ ps vs × (strict w x o vs ≡ Some v)

  pub PartsAre : World → Input → (ℕ → Val) → Parts → List Val → Type 0
  PartsAre w x σ NoPart vs = vs ≡ []
  PartsAre w x σ (More p ps) vs = (u : Val) × (us : List Val) × PartIs w x σ p u × PartsAre w x σ ps us × (vs ≡ u ∷ us)

-- with the slots σ the tests choose the exit f
abbrev pub Chooses : World → Input → (ℕ → Val) → Chain → Exit → Type 0
Chooses w x σ (Leave e) f = e ≡ f
Chooses w x σ (Test c yes' rest) f = (u : Val) × PartIs w x σ c u × (((truth u ≡ Some true) × (yes' ≡ f)) ⊎ ((truth u ≡ Some false) × Chooses w x σ rest f))

-- a run that is at b with the slots σ leaves it by e, with the slots τ
abbrev pub Steps : World → Input → Flow → ℕ → (ℕ → Val) → Exit → (ℕ → Val) → Type 0
Steps w x f b σ e τ = Chooses w x σ (f.chain b) e × ((s : ℕ) → PartIs w x σ (e.slots s) (τ s))

-- from b with the slots σ the method ends in this way with the slots τ
pub data Runs (w : World) (x : Input) (f : Flow) (k : Kind) (τ : ℕ → Val) : ℕ → (ℕ → Val) → Type 0 where
  ends : (b : ℕ) (σ : ℕ → Val) (e : Exit) → Steps w x f b σ e τ → e.dest ≡ End k → Runs w x f k τ b σ
  goes : (b m : ℕ) (σ ρ : ℕ → Val) (e : Exit) → Steps w x f b σ e ρ → e.dest ≡ To m → Runs w x f k τ m ρ → Runs w x f k τ b σ

-- the slots at the entry
abbrev pub Starts : World → Input → Flow → (ℕ → Val) → Type 0
Starts w x f σ = (s : ℕ) → strict w x (f.start s) [] ≡ Some (σ s)

-- a run that is at b with the slots σ leaves it
abbrev pub Left : World → Input → Flow → ℕ → (ℕ → Val) → Type 0
Left w x f b σ = (e : Exit) × (τ : ℕ → Val) × Steps w x f b σ e τ

-- the exit ends the method
abbrev pub Ends : Exit → Type 0
Ends e = (k : Kind) × (e.dest ≡ End k)

-- the test is false
abbrev pub Fails : World → Input → (ℕ → Val) → Part → Type 0
Fails w x σ t = (u : Val) × PartIs w x σ t u × (truth u ≡ Some false)

-- no exit has a token, but for one that ends the method where its test is false; and the last one ends the method
abbrev pub Waits : World → Input → (ℕ → Val) → Chain → Type 0
Waits w x σ (Leave e) = Ends e × ((u : Val) → PartIs w x σ (e.slots 0) u → ⊥)
Waits w x σ (Test t e rest) = ((u : Val) → PartIs w x σ (e.slots 0) u → Ends e × Fails w x σ t) × Waits w x σ rest

-- what is promised of well-typed states, where Typed says which slots at a block are well typed
pub record Runnable (w : World) (x : Input) (f : Flow) (Typed : ℕ → (ℕ → Val) → Type 0) : Type 0 where
  -- the arguments of a call have values
  pub args : (b : ℕ) (σ : ℕ → Val) (e : Exit) (s : Sym) (ps : Parts) → Typed b σ → InChain (f.chain b) e → e.slots 0 ≡ call_token s ps → (us : List Val) × PartsAre w x σ ps us
  -- the block is left, or it waits for a call that doesn't end
  pub moves : (b : ℕ) (σ : ℕ → Val) → Typed b σ → Left w x f b σ ⊎ Waits w x σ (f.chain b)
  -- the next state is well typed
  pub stays : (b m : ℕ) (σ τ : ℕ → Val) (e : Exit) → Typed b σ → Steps w x f b σ e τ → e.dest ≡ To m → Typed m τ
