-- What the functions of this crate answer of instructions; private to it.
use Rattle.std.specs.Prelude.{◌≡◌, ℕ, Some, option_map, List, ◌∷◌, ◌++◌, Result, Ok, Err}
use Rattle.std.specs.List.{AllZip, AllByRecursion}
use Rattle.pv_pool.specs.declared.entry.Entry.{Entry}
use Rattle.pv_insn.specs.declared.insn.Insn.{Insn}
use Rattle.pv_insn.specs.declared.insn.Placed.{Placed}
use Rattle.pv_pool.specs.declared.constant.Constant.TheVariants as constant
use Rattle.pv_pool.specs.declared.constant.Member.{Member}
use Rattle.pv_pool.specs.Readers.{text_under}
use Rattle.pv_frame.specs.declared.used.Use.{Use}
use Rattle.pv_frame.specs.declared.used.Use.TheVariants as used
use Rattle.pv_frame.specs.declared.cause.CauseKind.{CauseKind}
use Rattle.pv_frame.specs.declared.cause.Cause.{Cause}
use Rattle.pv_frame.specs.declared.cause.Refused.{Refused}
use Rattle.pv_frame.specs.declared.cause.Refused.TheVariants as refused
use Rattle.pv_frame.specs.declared.stop.Stop.{Stop}
use Rattle.pv_frame.specs.declared.stop.Stop.TheVariants as stop
use Rattle.pv_frame.specs.declared.action.Action.{Action}
use Rattle.pv_frame.specs.Actions.{class_rows, row_of, IsUse, UsesMember, ActsWith, Acts}
use Rattle.pv_frame.specs.Programs.{Does}
use Rattle.pv_frame.specs.Causes.{IsCauseWith, IsCauseOf, HasNoCause, cause}

-- a String has its text
abbrev pub HasItsText : List Entry → Use → Type 0
HasItsText pool (used.Constant (constant.Text i)) = (text : List ℕ) × (text_under pool i ≡ Some text)
HasItsText pool _ = Unit {0}

-- an action, or a cause
abbrev pub Either : Result Action Stop → (Action → Type 0) → (CauseKind → Type 0) → Type 0
Either (Ok a) P Q = P a
Either (Err (stop.Cause k)) P Q = Q k
Either (Err stop.Memory) P Q = Unit {0}

-- what an accepted instruction with an index does with its use, or its cause
abbrev pub IsActionWithOr : List Entry → ℕ → Use → Result Action Stop → Type 0
IsActionWithOr pool opcode u r = Either r (ActsWith pool opcode u) (IsCauseWith opcode u)

-- the same of a member, which needs no pool
abbrev pub IsAccessOr : ℕ → Member → Result Action Stop → Type 0
IsAccessOr opcode m r = Either r (UsesMember opcode m) (IsCauseWith opcode (used.Member m))

-- the same of the name of a class
abbrev pub IsClassTestOr : ℕ → List ℕ → Result Action Stop → Type 0
IsClassTestOr opcode name r = Either r (λ a. option_map (λ make. make name) (row_of class_rows opcode) ≡ Some a) (IsCauseWith opcode (used.Class name))

-- what an instruction does, or its cause
abbrev pub IsActionOr : List Entry → Insn → Use → Result Action Stop → Type 0
IsActionOr pool i u r = Either r (Acts pool i u) (IsCauseOf pool i)

-- the first of some instructions with a cause
pub record IsFirstOf (pool : List Entry) (placed : List Placed) (c : Cause) : Type 0 where
  pub before : List Placed
  pub here : Placed
  pub after : List Placed
  pub kind : CauseKind
  pub parts : placed ≡ before ++ here ∷ after
  pub clean : AllByRecursion (HasNoCause pool) before
  pub caused : IsCauseOf pool here.insn kind
  pub is : c ≡ cause kind here.at

-- what each instruction names and does
pub record AreActing (pool : List Entry) (placed : List Placed) (uses : List Use) (actions : List Action) : Type 0 where
  pub names : AllZip (λ (p : Placed) (u : Use). IsUse pool p.insn u) placed uses
  pub acts : AllZip (Does pool) placed actions

-- a cause of a method, unless out of memory
abbrev pub OnCause : Refused → (Cause → Type 0) → Type 0
OnCause (refused.Cause c) P = P c
OnCause refused.Memory P = Unit {0}
