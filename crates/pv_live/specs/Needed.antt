-- Frames that know the live locals alone.
use Rattle.std.specs.Prelude.{◌≡◌, ℕ, List, length, Option, Some, None, slice_get}
use Rattle.pv_frame.specs.declared.sort.Sort.{Sort}
use Rattle.pv_frame.specs.declared.sort.Sort.TheVariants.{Unknown}
use Rattle.pv_frame.specs.declared.frame.Frame.{Frame}
use Rattle.pv_frame.specs.declared.program.Program.{Program}
use Rattle.pv_frame.specs.Frames.{IsInferred}
use Rattle.pv_live.specs.Live.{Live}

-- of the sort s of local x at place k, t is what is needed
pub record IsNeededSort (p : Program) (k x : ℕ) (s t : Sort) : Type 0 where
  pub live : Live p k x → t ≡ s
  pub dead : (Live p k x → ⊥) → t ≡ Unknown

-- of the frame f at place k, g is what is needed: all of the stack, and the locals that are live
pub record IsNeededFrame (p : Program) (k : ℕ) (f g : Frame) : Type 0 where
  pub stack : g.stack ≡ f.stack
  pub long : length g.locals ≡ length f.locals
  pub locals : (x : ℕ) (s t : Sort) → slice_get f.locals x ≡ Some s → slice_get g.locals x ≡ Some t → IsNeededSort p k x s t

-- the same of a place that may not be reached, where there is no frame
abbrev pub IsNeededAt : Program → ℕ → Option Frame → Option Frame → Type 0
IsNeededAt p k None None = Unit {0}
IsNeededAt p k (Some f) (Some g) = IsNeededFrame p k f g
IsNeededAt p k _ _ = ⊥

-- of the frames that are inferred, these are what is needed
pub record AreNeeded (p : Program) (frames : List (Option Frame)) : Type 0 where
  pub inferred : List (Option Frame)
  pub is : IsInferred p inferred
  pub long : length frames ≡ length inferred
  pub each : (k : ℕ) (f g : Option Frame) → slice_get inferred k ≡ Some f → slice_get frames k ≡ Some g → IsNeededAt p k f g
