-- Laws of chains that are made and checked.
use Rattle.std.specs.Prelude.{◌≡◌, ℕ, List, Some, find, slice_get}
use Rattle.pv_base.specs.Stored.{AreBytes}
use Rattle.pv_class.specs.declared.file.Method.{Method}
use Rattle.pv_cert.specs.declared.cert.Section.{Section}
use Rattle.pv_machine.specs.SameMeaning.{AreEquivalentMethods}
use Rattle.pv_report.specs.declared.status.Status.{Status}
use Rattle.pv_report.specs.declared.status.Status.TheVariants.{AllEquivalent}
use Rattle.pv_report.specs.declared.verdict.Verdict.TheVariants as verdict
use Rattle.pv_report.specs.Partners.{IsNamed, IsPartner}
use Rattle.pv_sections.specs.declared.finding.Finding.{Finding}
use Rattle.pv_sections.specs.declared.finding.Finding.TheVariants.{Verdict}
use Rattle.pv_sections.specs.Ruled.{IsCertReport}
use Rattle.pv_links.specs.declared.finding.LinkFinding.{LinkFinding}
use Rattle.pv_links.specs.declared.finding.LinkFinding.TheVariants.{Equivalent}
use Rattle.pv_links.specs.Composed.{Composed, IsChainFor}
use Rattle.pv_links.specs.Findings.{IsFinding, Link, is_titled, lemmas_of, links}
use Rattle.pv_links.specs.Ruled.{ChainRuled, IsChainReport}

-- Where a report says `equivalent` of a link, the method of the first class with its name and descriptor and the method like it in the last
-- class have the same meaning. That two files of one digest are equal isn't used.
abbrev pub EquivalentMeans : Type 0
EquivalentMeans =
    (a c text said : List ℕ) (findings : List LinkFinding) (r : IsChainReport a c text findings said) (link : Link) → AreBytes a → AreBytes c → IsFinding (lemmas_of r.chain) r.first r.middle r.last link Equivalent
    → (m p : Method) × IsNamed link.0.name link.0.desc r.first.methods m × IsPartner m r.last.methods p × AreEquivalentMethods r.first m r.last p

-- of the first section of a certificate on this name and descriptor the report on two files and that certificate says `equivalent`
pub record SaysEquivalent (a b cert name desc : List ℕ) : Type 0 where
  pub findings : List Finding
  pub said : List ℕ
  pub report : IsCertReport a b cert findings said
  pub section : Section
  pub first_of : find (is_titled name desc) report.certificate.sections ≡ Some section
  pub place : ℕ
  pub there : slice_get report.certificate.sections place ≡ Some section
  pub says : slice_get findings place ≡ Some (Verdict verdict.Equivalent)

-- the report on two files and a chain says `equivalent` of a link on this name and descriptor
pub record SaysLinked (a c chain said name desc : List ℕ) : Type 0 where
  pub findings : List LinkFinding
  pub report : IsChainReport a c chain findings said
  pub place : ℕ
  pub link : Link
  pub name_is : link.0.name ≡ name
  pub desc_is : link.0.desc ≡ desc
  pub there : slice_get (links report.chain.first.sections report.chain.second.sections) place ≡ Some link
  pub says : slice_get findings place ≡ Some Equivalent

-- there is a report on two files and a certificate between them
abbrev pub HasCertReport : List ℕ → List ℕ → List ℕ → Type 0
HasCertReport a b cert = (findings : List Finding) × (said : List ℕ) × IsCertReport a b cert findings said

-- Where two certificates have reports, there is a chain of the two.
abbrev pub ReportedComposed : Type 0
ReportedComposed = (a b c x y text : List ℕ) (s : Status) → AreBytes a → AreBytes b → AreBytes c → HasCertReport a b x → HasCertReport b c y → Composed a b c x y text s → s ≡ AllEquivalent

-- Where these reports say `equivalent` of a method, in the first section that each certificate has for it, so does the report on the chain.
abbrev pub ComposedEquivalent : Type 0
ComposedEquivalent =
    (a b c x y chain said name desc : List ℕ) (s : Status) → AreBytes a → AreBytes b → AreBytes c → IsChainFor a b c x y chain → SaysEquivalent a b x name desc → SaysEquivalent b c y name desc → ChainRuled a c chain said s → SaysLinked a c chain said name desc
