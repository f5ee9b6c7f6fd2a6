-- What is said of what was fetched, and of methods at their places. What comes after the first definition is private to this crate.
use Rattle.std.specs.Prelude.{◌≡◌, ◌↔◌, ℕ, Bool, IsTrue, List, Option, Some, None, Result, Ok, Err, slice_get}
use Rattle.pv_class.specs.declared.file.ClassFile.{ClassFile}
use Rattle.pv_class.specs.declared.file.Method.{Method}
use Rattle.pv_frame.specs.Causes.{IsAccepted}
use Rattle.pv_refute.specs.declared.refuting.Found.TheVariants as found
use Rattle.pv_refute.specs.Differences.{Trial, IsFound}
use Rattle.pv_report.specs.declared.pair.Fetched.{Fetched}
use Rattle.pv_report.specs.declared.status.Status.{Status}
use Rattle.pv_report.specs.declared.verdict.Side.{Side}
use Rattle.pv_report.specs.declared.verdict.Side.TheVariants as side
use Rattle.pv_report.specs.Judging.{IsFetched}
use Rattle.pv_report.specs.Verdicts.{HasCode}
use Rattle.pv_differences.specs.declared.finding.Both.{Both}
use Rattle.pv_differences.specs.declared.finding.Finding.{Finding}
use Rattle.pv_differences.specs.declared.finding.Finding.TheVariants.{Differs, Tried}
use Rattle.pv_differences.specs.declared.finding.RunLimits.{RunLimits}
use Rattle.pv_differences.specs.Calls.{MakesCalls}
use Rattle.pv_differences.specs.Findings.{LackPrograms, IsFinding, IsFindingOn}
use Rattle.pv_differences.specs.Refuted.{Refuted}

-- what is said of the bytes that were fetched
abbrev pub RefutesFetched : RunLimits → Fetched → Fetched → List ℕ → Status → Type 0
RefutesFetched limits first second text s = (a b : List ℕ) → IsFetched first a → IsFetched second b → Refuted limits a b text s

-- ---- methods at their places

-- what is said of the method at a place of the first class
abbrev pub IsFindingAt : RunLimits → ClassFile → ℕ → ClassFile → Finding → Type 0
IsFindingAt limits first place second f = (m : Method) → slice_get first.methods place ≡ Some m → IsFinding limits first second m f

-- the method at a place has a code, or a call, exactly where a test says so
abbrev pub HasCodeAt : ClassFile → ℕ → Bool → Type 0
HasCodeAt file place answer = (m : Method) → slice_get file.methods place ≡ Some m → IsTrue answer ↔ HasCode m

abbrev pub MakesCallsAt : ClassFile → ℕ → Bool → Type 0
MakesCallsAt file place answer = (m : Method) → slice_get file.methods place ≡ Some m → IsTrue answer ↔ MakesCalls m

-- this is so of the methods at two places
abbrev pub OnPlaces : ClassFile → ℕ → ClassFile → ℕ → (Method → Method → Type 0) → Type 0
OnPlaces first place second other Is = (m p : Method) → slice_get first.methods place ≡ Some m → slice_get second.methods other ≡ Some p → Is m p

-- ---- two methods

-- the programs of both, or why there aren't two
abbrev pub ArePrograms : ClassFile → Method → ClassFile → Method → Result Both Finding → Type 0
ArePrograms first m second p (Ok both) = IsAccepted first m both.one × IsAccepted second p both.two
ArePrograms first m second p (Err f) = LackPrograms first m second p f

-- the first of the two that makes calls, if one does
abbrev pub IsSideWithCalls : Method → Method → Option Side → Type 0
IsSideWithCalls m p (Some side.First) = MakesCalls m
IsSideWithCalls m p (Some side.Second) = (MakesCalls m → ⊥) × MakesCalls p
IsSideWithCalls m p None = (MakesCalls m → ⊥) × (MakesCalls p → ⊥)

-- what is said of what tries find
abbrev pub IsFoundFinding : Trial → Finding → Type 0
IsFoundFinding q (Differs t input) = IsFound q (found.Differs t input)
IsFoundFinding q (Tried n) = IsFound q found.Tried × (n ≡ q.tries)
IsFoundFinding q f = ⊥

-- what is said of the two
abbrev pub IsFindingOnPlaces : RunLimits → ClassFile → ℕ → ClassFile → ℕ → Finding → Type 0
IsFindingOnPlaces limits first place second other f = OnPlaces first place second other (λ m p. IsFindingOn limits first m second p f)
