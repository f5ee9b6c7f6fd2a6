-- What is said of a method, from its place and that of its partner.
use Rattle.std.proofs.Common.{◌≡◌, ◌↔◌, ℕ, ◌<◌, List, length, Option, Some, None, Result, Ok, Err, refl, sym, ap, subst, ◌∙◌}
use Rattle.std.specs.Prelude.{slice_get, IfOk}
use Rattle.pv_value.specs.declared.memory.Memory.{Memory}
use Rattle.pv_value.specs.declared.descriptor.Descriptor.{Descriptor}
use Rattle.pv_value.specs.Descriptors.{IsMethodType}
use Rattle.pv_value.proofs.Cited.{method_type_once}
use Rattle.pv_class.specs.declared.file.ClassFile.{ClassFile}
use Rattle.pv_class.specs.declared.file.Method.{Method}
use Rattle.pv_frame.specs.declared.program.Program.{Program}
use Rattle.pv_frame.specs.Actions.{IsFloatlessMethod}
use Rattle.pv_frame.specs.Answers as frame
use Rattle.pv_frame.specs.Causes.{IsAccepted}
use Rattle.pv_machine.specs.Programs.{IsAcceptedAt}
use Rattle.pv_refute.specs.declared.refuting.Found.{Found}
use Rattle.pv_refute.specs.Differences.{IsFound}
use Rattle.pv_report.specs.declared.verdict.Side.{Side}
use Rattle.pv_report.specs.declared.verdict.Side.TheVariants as side
use Rattle.pv_report.specs.Judging.{IsLikeAt}
use Rattle.pv_report.specs.Partners.{IsPartner}
use Rattle.pv_report.specs.Verdicts.{HasCode}
use Rattle.pv_report.proofs.Cited.{contains_here, slice_once}
use Rattle.pv_differences.specs.declared.finding.Both.{Both}
use Rattle.pv_differences.specs.declared.finding.Finding.{Finding}
use Rattle.pv_differences.specs.declared.finding.Finding.TheVariants as finding
use Rattle.pv_differences.specs.declared.finding.RunLimits.{RunLimits}
use Rattle.pv_differences.specs.Calls.{MakesCalls}
use Rattle.pv_differences.specs.Findings.{CanBothRun, LackPrograms, trial, IsFindingOn, IsFinding}
use Rattle.pv_differences.specs.Reading.{ArePrograms, IsFoundFinding, IsFindingAt, IsFindingOnPlaces, IsSideWithCalls, OnPlaces}

-- ---- a method and its partner

can_run : (f : ClassFile) (m : Method) (g : ClassFile) (p : Method) (both : Both) → ArePrograms f m g p (Ok both) → CanBothRun f m g p
can_run f m g p both are = record { one = record { program = both.one; accepted = are.0 }; two = record { program = both.two; accepted = are.1 } }

-- what keeps them from being run is said of them
pub lacking : (limits : RunLimits) (f : ClassFile) (m : Method) (g : ClassFile) (p : Method) (x : Finding) → ArePrograms f m g p (Err x) → IsFindingOn limits f m g p x
lacking limits f m g p (finding.Calls s) is = absurd is
lacking limits f m g p (finding.Differs t input) is = absurd is
lacking limits f m g p (finding.Tried n) is = absurd is
lacking limits f m g p _ is = is

-- so is a call
pub calling : (limits : RunLimits) (f : ClassFile) (m : Method) (g : ClassFile) (p : Method) (both : Both) (s : Side) → ArePrograms f m g p (Ok both) → IsSideWithCalls m p (Some s) → IsFindingOn limits f m g p (finding.Calls s)
calling limits f m g p both side.First are calls = (can_run f m g p both are, calls)
calling limits f m g p both side.Second are calls = (can_run f m g p both are, calls.0, calls.1)

-- .. and what tries find
pub tried : (limits : RunLimits) (f : ClassFile) (m : Method) (g : ClassFile) (p : Method) (both : Both) (x : Finding) → (are : ArePrograms f m g p (Ok both)) → IsSideWithCalls m p None
    → IsFoundFinding (trial limits both.one both.two) x → IsFindingOn limits f m g p x
unfolding can_run
tried limits f m g p both (finding.Differs t input) are calls is = (can_run f m g p both are, calls.0, calls.1, is)
tried limits f m g p both (finding.Tried n) are calls is = (can_run f m g p both are, calls.0, calls.1, is)
tried limits f m g p both _ are calls is = absurd is

pub tried_at : (limits : RunLimits) (f g : ClassFile) (place other : ℕ) (both : Both) (r : Result Finding Memory) → OnPlaces f place g other (λ m p. ArePrograms f m g p (Ok both)) → OnPlaces f place g other (λ m p. IsSideWithCalls m p None)
    → IfOk r (λ x. IsFoundFinding (trial limits both.one both.two) x) → IfOk r (λ x. IsFindingOnPlaces limits f place g other x)
tried_at limits f g place other both (Ok x) are calls is = λ m p here there. tried limits f m g p both x (are m p here there) (calls m p here there) is
tried_at limits f g place other both (Err e) are calls is = tt

-- a method with a program has a code
pub code_of : (f : ClassFile) (m : Method) (p : Program) → IsAccepted f m p → HasCode m
code_of f m p is = (is.code, is.has)

-- ---- a try of both

-- the descriptor that was read is that of the program
pub desc_is : (f : ClassFile) (place : ℕ) (x : Method) (p : Program) (d : Descriptor) → slice_get f.methods place ≡ Some x → IsAcceptedAt f place p → IsMethodType x.desc d → d ≡ p.desc
desc_is f place x p d here accepted is = method_type_once x.desc d p.desc is (accepted x here).of_method.desc

pub floatless : (f : ClassFile) (place : ℕ) (x : Method) (p : Program) (d : Descriptor) → slice_get f.methods place ≡ Some x → IsAcceptedAt f place p → IsMethodType x.desc d → IsFloatlessMethod d
floatless f place x p d here accepted is = subst IsFloatlessMethod (sym (desc_is f place x p d here accepted is)) (accepted x here).of_method.floatless

-- the method at a place with a code has a type
pub no_type : (f : ClassFile) (place : ℕ) (x : Method) → frame.HasCode f place → slice_get f.methods place ≡ Some x → ((d : Descriptor) → IsMethodType x.desc d → ⊥) → ⊥
no_type f place x code here none = none code.desc (subst (λ (y : Method). IsMethodType y.desc code.desc) (slice_once f.methods place code.method x code.there here) code.typed)

pub found_by : (limits : RunLimits) (one two : Program) (d : Descriptor) (tries steps : ℕ) (x : Found) → d ≡ one.desc → tries ≡ limits.tries → steps ≡ limits.steps → IsFound (record { first = one; second = two; desc = d; tries = tries; steps = steps }) x → IsFound (trial limits one two) x
found_by limits one two d tries steps x desc most long is =
    subst (λ (e : Descriptor). IsFound (record { first = one; second = two; desc = e; tries = limits.tries; steps = limits.steps }) x) desc
    (subst (λ (n : ℕ). IsFound (record { first = one; second = two; desc = d; tries = n; steps = limits.steps }) x) most
    (subst (λ (n : ℕ). IsFound (record { first = one; second = two; desc = d; tries = tries; steps = n }) x) long is))

-- ---- a method

as_finding : (limits : RunLimits) (f g : ClassFile) (m p : Method) (x : Finding) → IsPartner m g.methods p → IsFindingOn limits f m g p x → IsFinding limits f g m x
as_finding limits f g m p finding.Missing partner on = absurd on
as_finding limits f g m p _ partner on = (p, partner, on)

-- what is said of a method and its partner at their places is said of the method
pub finding_at : (limits : RunLimits) (f g : ClassFile) (place other : ℕ) (m : Method) (r : Result Finding Memory) → slice_get f.methods place ≡ Some m → IsLikeAt m g.methods other
    → IfOk r (λ x. IsFindingOnPlaces limits f place g other x) → IfOk r (λ x. IsFindingAt limits f place g x)
finding_at limits f g place other m (Ok x) here like h =
    λ n at. let same = slice_once f.methods place m n here at in
    subst (λ (y : Method). IsFinding limits f g y x) same
    (as_finding limits f g m like.0 x (record { among = contains_here g.methods other like.0 like.1; like = like.2 }) (h m like.0 here like.1))
finding_at limits f g place other m (Err e) here like h = tt

pub missing_at : (limits : RunLimits) (f g : ClassFile) (place : ℕ) (m : Method) → slice_get f.methods place ≡ Some m → ((p : Method) → IsPartner m g.methods p → ⊥) → IsFindingAt limits f place g finding.Missing
missing_at limits f g place m here none n at p is = none p (subst (λ (y : Method). IsPartner y g.methods p) (slice_once f.methods place n m at here) is)
