-- The sections that show what a report says.
use Rattle.std.specs.Prelude.{◌≡◌, ℕ, List, [], ◌∷◌, Option, Some, None}
use Rattle.std.specs.List.{AllZip}
use Rattle.pv_axioms.specs.Entries.{ByAxioms}
use Rattle.pv_cert.specs.declared.cert.Section.{Section}
use Rattle.pv_cert.specs.Reading.{SectionFits}
use Rattle.pv_class.specs.declared.file.ClassFile.{ClassFile}
use Rattle.pv_class.specs.declared.file.Method.{Method}
use Rattle.pv_class.specs.ClassFiles.{IsClass}
use Rattle.pv_certify.specs.Searched.{Limits}
use Rattle.pv_steps.specs.declared.step.Step.{Step}
use Rattle.pv_steps.specs.Accepted.{Derives}
use Rattle.pv_certify.specs.Searched.{IsLean}
use Rattle.pv_report.specs.declared.verdict.Verdict.{Verdict}
use Rattle.pv_report.specs.declared.verdict.Verdict.TheVariants.{Equivalent}
use Rattle.pv_report.specs.Options.{in_least}
use Rattle.pv_report.specs.Partners.{IsPartner}
use Rattle.pv_report.specs.Roots.{OnLeast}
use Rattle.pv_report.specs.Verdicts.{IsVerdict}

-- over the least graph of the two methods' roots the steps derive that these are equal
abbrev pub Show : ClassFile → Method → ClassFile → Method → List Step → Type 0
Show first m second p steps = OnLeast first m second p (λ l. Derives ByAxioms l.graph l.first l.second steps)

-- the section is of this method, and its steps show that it is equivalent to its partner; each of them is the last or is cited by a
-- later one, and the section has a spelling
pub record IsSectionOf (first second : ClassFile) (m : Method) (s : Section) : Type 0 where
  pub name : s.name ≡ m.name
  pub desc : s.desc ≡ m.desc
  pub partner : Method
  pub partner_is : IsPartner m second.methods partner
  pub shows : Show first m second partner s.steps
  pub lean : IsLean s.steps
  pub fits : SectionFits s

-- the methods with the verdict `equivalent`
abbrev pub equivalent_of : List Method → List Verdict → List Method
equivalent_of (m ∷ ms) (Equivalent ∷ vs) = m ∷ equivalent_of ms vs
equivalent_of (m ∷ ms) (v ∷ vs) = equivalent_of ms vs
equivalent_of ms vs = []

-- one section for each line `.. equivalent` of the report on the bytes of two files, in its order
pub record AreShown (limits : Limits) (a b : List ℕ) (sections : List Section) : Type 0 where
  pub first : ClassFile
  pub second : ClassFile
  pub first_is : IsClass a first
  pub second_is : IsClass b second
  pub verdicts : List Verdict
  pub each : AllZip (IsVerdict (in_least limits) first second) first.methods verdicts
  pub sections_are : AllZip (IsSectionOf first second) (equivalent_of first.methods verdicts) sections

-- ---- as they are made

-- the section of a method with these steps
abbrev pub section_of : Method → List Step → Section
section_of m steps = record { name = m.name; desc = m.desc; steps = steps }

-- .. if there are steps
abbrev pub sections_for : Method → Option (List Step) → List Section
sections_for m None = []
sections_for m (Some steps) = section_of m steps ∷ []
