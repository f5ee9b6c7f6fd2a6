-- What is said of a method: the first of these cases that holds.
use Rattle.std.specs.Prelude.{◌≡◌, None}
use Rattle.pv_class.specs.declared.file.ClassFile.{ClassFile}
use Rattle.pv_class.specs.declared.file.Method.{Method}
use Rattle.pv_frame.specs.Causes.{IsAccepted, IsRefused}
use Rattle.pv_frame.specs.declared.program.Program.{Program}
use Rattle.pv_refute.specs.declared.refuting.Found.TheVariants as found
use Rattle.pv_refute.specs.Differences.{Trial, IsFound}
use Rattle.pv_report.specs.declared.verdict.Side.TheVariants as side
use Rattle.pv_report.specs.Partners.{IsPartner}
use Rattle.pv_report.specs.Verdicts.{HasCode}
use Rattle.pv_differences.specs.declared.finding.Finding.{Finding}
use Rattle.pv_differences.specs.declared.finding.Finding.TheVariants.{Missing, NoCode, Refused, Calls, Differs, Tried}
use Rattle.pv_differences.specs.declared.finding.RunLimits.{RunLimits}
use Rattle.pv_differences.specs.Calls.{MakesCalls}

-- a method that the machine can run, with its program
pub record CanRun (file : ClassFile) (m : Method) : Type 0 where
  pub program : Program
  pub accepted : IsAccepted file m program

-- a method and its partner that can both be run
pub record CanBothRun (first : ClassFile) (m : Method) (second : ClassFile) (p : Method) : Type 0 where
  pub one : CanRun first m
  pub two : CanRun second p

-- why they can't: the causes are those for which a method has no program
abbrev pub LackPrograms : ClassFile → Method → ClassFile → Method → Finding → Type 0
LackPrograms first m second p (NoCode side.First) = m.code ≡ None
LackPrograms first m second p (NoCode side.Second) = HasCode m × (p.code ≡ None)
LackPrograms first m second p (Refused side.First cause) = HasCode p × IsRefused first m cause
LackPrograms first m second p (Refused side.Second cause) = CanRun first m × IsRefused second p cause
LackPrograms first m second p f = ⊥

-- the tries that are made of two programs, within these limits
abbrev pub trial : RunLimits → Program → Program → Trial
trial limits one two = record { first = one; second = two; desc = one.desc; tries = limits.tries; steps = limits.steps }

-- both can be run, neither has a call, and this is so of the tries
abbrev pub OnTrial : RunLimits → ClassFile → Method → ClassFile → Method → (Trial → Type 0) → Type 0
OnTrial limits first m second p Is = (r : CanBothRun first m second p) × (MakesCalls m → ⊥) × (MakesCalls p → ⊥) × Is (trial limits r.one.program r.two.program)

-- what is said of a method and its partner
abbrev pub IsFindingOn : RunLimits → ClassFile → Method → ClassFile → Method → Finding → Type 0
IsFindingOn limits first m second p (Calls side.First) = CanBothRun first m second p × MakesCalls m
IsFindingOn limits first m second p (Calls side.Second) = CanBothRun first m second p × (MakesCalls m → ⊥) × MakesCalls p
IsFindingOn limits first m second p (Differs t input) = OnTrial limits first m second p (λ q. IsFound q (found.Differs t input))
IsFindingOn limits first m second p (Tried n) = OnTrial limits first m second p (λ q. IsFound q found.Tried × (n ≡ q.tries))
IsFindingOn limits first m second p f = LackPrograms first m second p f

-- what is said of a method of the first class
abbrev pub IsFinding : RunLimits → ClassFile → ClassFile → Method → Finding → Type 0
IsFinding limits first second m Missing = (p : Method) → IsPartner m second.methods p → ⊥
IsFinding limits first second m f = (p : Method) × IsPartner m second.methods p × IsFindingOn limits first m second p f
