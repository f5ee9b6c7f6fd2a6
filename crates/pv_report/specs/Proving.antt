-- What is found of methods, with the steps that show it.
use Rattle.std.specs.Prelude.{◌≡◌, ℕ, List, Option, Some, None, slice_get}
use Rattle.std.specs.List.{AllByRecursion}
use Rattle.pv_alike.specs.Least.{Rooted}
use Rattle.pv_axioms.specs.Entries.{ByAxioms}
use Rattle.pv_cert.specs.declared.cert.Section.{Section}
use Rattle.pv_cert.specs.StepLines.{StepFits}
use Rattle.pv_class.specs.declared.file.ClassFile.{ClassFile}
use Rattle.pv_class.specs.declared.file.Method.{Method}
use Rattle.pv_certify.specs.Searched.{Limits, Outcome, Met}
use Rattle.pv_steps.specs.declared.step.Step.{Step}
use Rattle.pv_steps.specs.Accepted.{Derives}
use Rattle.pv_certify.specs.Searched.{IsLean}
use Rattle.pv_report.specs.declared.pair.Fetched.{Fetched}
use Rattle.pv_report.specs.declared.verdict.Judgement.{Judgement}
use Rattle.pv_report.specs.declared.verdict.Verdict.{Verdict}
use Rattle.pv_report.specs.declared.verdict.Verdict.TheVariants.{Equivalent}
use Rattle.pv_report.specs.declared.verdict.Detail.{Detail}
use Rattle.pv_report.specs.declared.verdict.Detail.TheVariants as detail
use Rattle.pv_report.specs.Partners.{IsPartner}
use Rattle.pv_report.specs.Judging.{IsFetched}
use Rattle.pv_report.specs.Shown.{Show, AreShown}

-- the steps derive that the roots are equal; each is the last or is cited by a later one, and has a spelling
pub record AreStepsFor (l : Rooted) (steps : List Step) : Type 0 where
  pub derives : Derives ByAxioms l.graph l.first l.second steps
  pub lean : IsLean steps
  pub spelled : AllByRecursion StepFits steps

-- where steps are wanted and the verdict is `equivalent` there are some, and of these this is so; else there are none
abbrev pub HasSteps : Detail → (List Step → Type 0) → Verdict → Option (List Step) → Type 0
HasSteps detail.Steps Is Equivalent (Some steps) = Is steps
HasSteps detail.Steps Is Equivalent None = ⊥
HasSteps w Is v steps = steps ≡ None

-- of the roots of a least graph, by what a search found
abbrev pub IsStepsOf : Detail → Rooted → Outcome → Option (List Step) → Type 0
IsStepsOf w l (Met m) steps = HasSteps w (AreStepsFor l) Equivalent steps
IsStepsOf w l outcome steps = steps ≡ None

-- .. by the least graph of their roots
abbrev pub IsProvedBy : Detail → Rooted → Judgement → Type 0
IsProvedBy w l f = HasSteps w (AreStepsFor l) f.verdict f.steps

-- the steps show that the two methods are equivalent
pub record AreStepsOn (first : ClassFile) (m : Method) (second : ClassFile) (p : Method) (steps : List Step) : Type 0 where
  pub shows : Show first m second p steps
  pub lean : IsLean steps
  pub spelled : AllByRecursion StepFits steps

-- of two methods at their places
abbrev pub IsProvedOnPlaces : Detail → ClassFile → ℕ → ClassFile → ℕ → Judgement → Type 0
IsProvedOnPlaces w first place second other f =
    (m p : Method) → slice_get first.methods place ≡ Some m → slice_get second.methods other ≡ Some p → HasSteps w (AreStepsOn first m second p) f.verdict f.steps

-- of a method and its partner
abbrev pub AreStepsOf : ClassFile → ClassFile → Method → List Step → Type 0
AreStepsOf first second m steps = (p : Method) × IsPartner m second.methods p × AreStepsOn first m second p steps

abbrev pub IsProvedAt : Detail → ClassFile → ℕ → ClassFile → Judgement → Type 0
IsProvedAt w first place second f = (m : Method) → slice_get first.methods place ≡ Some m → HasSteps w (AreStepsOf first second m) f.verdict f.steps

-- the sections, if any, show what is said of the bytes that were fetched
abbrev pub ShowsFetched : Limits → Fetched → Fetched → Option (List Section) → Type 0
ShowsFetched limits first second (Some sections) = (a b : List ℕ) → IsFetched first a → IsFetched second b → AreShown limits a b sections
ShowsFetched limits first second None = Unit {0}
