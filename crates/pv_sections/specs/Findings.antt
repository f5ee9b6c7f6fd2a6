-- What is said of a section of a certificate with some lemmas: the first of these cases that holds.
use Rattle.std.specs.Prelude.{ℕ, List}
use Rattle.pv_class.specs.declared.file.ClassFile.{ClassFile}
use Rattle.pv_class.specs.declared.file.Method.{Method}
use Rattle.pv_cert.specs.declared.cert.Section.{Section}
use Rattle.pv_lemmas.specs.Lemmas.{ByLemmas}
use Rattle.pv_steps.specs.declared.step.Lemma.{Lemma}
use Rattle.pv_steps.specs.Accepted.{Derives, Rejects}
use Rattle.pv_report.specs.declared.verdict.Verdict.TheVariants.{Missing, Equivalent}
use Rattle.pv_report.specs.Partners.{IsNamed, IsPartner}
use Rattle.pv_report.specs.Roots.{OnLeast}
use Rattle.pv_report.specs.Verdicts.{LackRoots}
use Rattle.pv_sections.specs.declared.finding.Finding.{Finding}
use Rattle.pv_sections.specs.declared.finding.Finding.TheVariants.{Verdict, Rejected}

-- the method of the first class that has the section's name and descriptor, and its partner in the second
pub record AreOf (first second : ClassFile) (s : Section) (m p : Method) : Type 0 where
  pub named : IsNamed s.name s.desc first.methods m
  pub partner : IsPartner m second.methods p

-- there are no two such methods
abbrev pub AreMissing : ClassFile → ClassFile → Section → Type 0
AreMissing first second s = (m p : Method) → AreOf first second s m p → ⊥

-- the steps derive, over the least graph of the methods' roots, that these are equal, by the axioms and the accepted ones of the
-- certificate's lemmas
abbrev pub IsAccepted : List Lemma → ClassFile → Method → ClassFile → Method → Section → Type 0
IsAccepted lemmas first m second p s = OnLeast first m second p (λ l. Derives (ByLemmas lemmas) l.graph l.first l.second s.steps)

-- .. or step n is the first that isn't right, or one more than the last
abbrev pub IsRejected : List Lemma → ClassFile → Method → ClassFile → Method → Section → ℕ → Type 0
IsRejected lemmas first m second p s n = OnLeast first m second p (λ l. Rejects (ByLemmas lemmas) l.graph l.first l.second s.steps n)

-- what is said of a section on two methods
abbrev pub IsFindingOn : List Lemma → ClassFile → Method → ClassFile → Method → Section → Finding → Type 0
IsFindingOn lemmas first m second p s (Verdict Equivalent) = IsAccepted lemmas first m second p s
IsFindingOn lemmas first m second p s (Verdict v) = LackRoots first m second p v
IsFindingOn lemmas first m second p s (Rejected n) = IsRejected lemmas first m second p s n

-- what is said of a section for two classes
abbrev pub IsFinding : List Lemma → ClassFile → ClassFile → Section → Finding → Type 0
IsFinding lemmas first second s (Verdict Missing) = AreMissing first second s
IsFinding lemmas first second s f = (m p : Method) × AreOf first second s m p × IsFindingOn lemmas first m second p s f
