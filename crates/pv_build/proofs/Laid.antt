-- What `convert` gives, from what the layers below give.
use Rattle.std.proofs.Common.{ℕ, List, Option, Err, inr, sym, subst}
use Rattle.pv_build.proofs.Words.{ClassFile, Refused, Program, Frame, IsAccepted, AreNeeded, Block, Forest, Graph, IsShaped, needed_agree, IsLaidOut, IsRoutine, IsBuilt, Structures, IsRootOf, Converts}
use Rattle.pv_class.specs.declared.file.Method.{Method}
use Rattle.pv_frame.specs.declared.cause.Refused.TheVariants as refused

module _ (file : ClassFile) (m : Method) (p : Program) (frames : List (Option Frame)) (blocks : List Block) (forest : Forest) (accepted : IsAccepted file m p) (needed : AreNeeded p frames) (laid : IsLaidOut p blocks forest) where
  shaped : IsShaped file m p frames blocks forest
  shaped = record { program = accepted.of_method; well_typed = needed_agree p frames needed; flow = laid.flow; loops = laid.loops; reducible = laid.reducible; shallow = laid.shallow }

  pub is_routine : IsRoutine p frames blocks forest
  is_routine = record { file = file; method = m; shaped = shaped; few = laid.few; ordered = laid.ordered; arranged = laid.arranged }

  pub is_root : (g : Graph) (r : ℕ) → IsBuilt g p frames blocks forest r → IsRootOf g r file m
  is_root g r built = record { form = record { program = p; frames = frames; blocks = blocks; forest = forest; accepted = accepted; needed = needed; shaped = shaped; few = laid.few }; built = built }

-- a method that isn't structured
pub unstructured : (file : ClassFile) (m : Method) (p : Program) (g : Graph) (e : Refused) → IsAccepted file m p → Structures p (Err e) → Converts g file m (Err e)
unstructured file m p g (refused.Cause c) accepted h = inr (record { program = p; accepted = accepted; meets = h })
unstructured file m p g refused.Memory accepted h = tt
