-- A state of the machine in the middle of a block, and what the block has computed.
use Rattle.std.specs.Prelude.{◌≡◌, ◌⊎◌, ℕ, Option, Some, FitsSigned}
use Rattle.std.specs.Int.{w32}
use Rattle.std.specs.List.{AllZip}
use Rattle.pv_value.specs.declared.number.Num.{Num}
use Rattle.pv_value.specs.declared.number.Num.TheVariants as num
use Rattle.pv_value.specs.declared.world.World.{World}
use Rattle.pv_value.specs.declared.outcome.Input.{Input}
use Rattle.pv_value.specs.declared.outcome.Val.{Val}
use Rattle.pv_value.specs.declared.outcome.Val.TheVariants as val
use Rattle.pv_frame.specs.declared.sort.Sort.TheVariants as sort
use Rattle.pv_frame.specs.Effects.{sort_of, sort_of_local}
use Rattle.pv_machine.specs.Machine.{State}
use Rattle.pv_conversion.specs.Runs.{PartIs}
use Rattle.pv_runs.specs.Held.{Cell, Held}

-- an int has 32 bits; nothing is said of a long and a reference
abbrev pub InRange : Num → Type 0
InRange (num.Int n) = FitsSigned w32 n
InRange n = Unit {0}

module _ (w : World) (x : Input) (σ : ℕ → Val) where
  -- the cell's part has the number as its value
  pub record StackIs (n : Num) (c : Cell) : Type 0 where
    pub sort : sort_of n ≡ c.sort
    pub range : InRange n
    pub is : PartIs w x σ c.part (val.Num n)

  -- the cell's part has a value: the local's, where it holds one. The cell may not know the sort
  pub record LocalIs (l : Option Num) (c : Cell) : Type 0 where
    pub sort : (c.sort ≡ sort_of_local l) ⊎ (c.sort ≡ sort.Unknown)
    pub value : Val
    pub is : PartIs w x σ c.part value
    pub told : (n : Num) → l ≡ Some n → value ≡ val.Num n
    pub range : (n : Num) → l ≡ Some n → InRange n

  pub record Matches (s : State) (h : Held) : Type 0 where
    pub stack : AllZip StackIs s.stack h.stack
    pub locals : AllZip LocalIs s.locals h.locals
    pub heap : PartIs w x σ h.heap (val.Heap s.heap)
    pub token : PartIs w x σ h.token val.Unit
    -- what is asked of types is asked at the heap of the input
    pub start : s.heap0 ≡ x.heap
