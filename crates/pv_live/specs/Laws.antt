-- Laws of needed frames, for every program.
use Rattle.std.specs.Prelude.{◌≡◌, List, Option}
use Rattle.pv_frame.specs.declared.frame.Frame.{Frame}
use Rattle.pv_frame.specs.declared.program.Program.{Program}
use Rattle.pv_frame.specs.Frames.{AreFrames}
use Rattle.pv_live.specs.Needed.{AreNeeded}

-- needed frames agree along every edge, and there is one exactly where the instruction is reached
abbrev pub NeededAgree : Type 0
NeededAgree = (p : Program) (frames : List (Option Frame)) → AreNeeded p frames → AreFrames p frames

-- a program has at most one list of needed frames
abbrev pub NeededOnce : Type 0
NeededOnce = (p : Program) (a b : List (Option Frame)) → AreNeeded p a → AreNeeded p b → a ≡ b
