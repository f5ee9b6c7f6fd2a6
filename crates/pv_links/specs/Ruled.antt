-- What is said of two files and a chain between them, and how that went.
use Rattle.std.specs.Prelude.{◌≡◌, ℕ, List}
use Rattle.std.specs.List.{AllByRecursion}
use Rattle.pv_class.specs.declared.file.ClassFile.{ClassFile}
use Rattle.pv_class.specs.ClassFiles.{IsClass}
use Rattle.pv_chain.specs.declared.chain.Chain.{Chain}
use Rattle.pv_report.specs.declared.status.Status.{Status}
use Rattle.pv_report.specs.declared.status.Status.TheVariants.{AllEquivalent, Others, BadClass, BadCert}
use Rattle.pv_report.specs.Listed.{AreLines}
use Rattle.pv_report.specs.Report.{HasClass, IsBadPair}
use Rattle.pv_links.specs.declared.finding.LinkFinding.{LinkFinding}
use Rattle.pv_links.specs.declared.finding.LinkFinding.TheVariants.{Equivalent}
use Rattle.pv_links.specs.declared.flaw.ChainFlaw.{ChainFlaw}
use Rattle.pv_links.specs.Findings.{IsFinding, lemmas_of, links}
use Rattle.pv_links.specs.Flaws.{IsBetween, IsChain, IsChainFlaw}
use Rattle.pv_links.specs.Lines.{bad_chain, link_line}

-- one line for each section of the first certificate that has one like it in the second, in its order, with these findings, which go by the
-- lemmas of both certificates
pub record IsChainReport (a c text : List ℕ) (findings : List LinkFinding) (said : List ℕ) : Type 0 where
  pub first : ClassFile
  pub last : ClassFile
  pub first_is : IsClass a first
  pub last_is : IsClass c last
  pub chain : Chain
  pub chain_is : IsChain text chain
  pub between : IsBetween chain a c
  pub middle : ClassFile
  pub middle_is : IsClass chain.middle middle
  pub lines : AreLines (IsFinding (lemmas_of chain) first middle last) link_line (links chain.first.sections chain.second.sections) findings said

abbrev pub AreEquivalent : List LinkFinding → Type 0
AreEquivalent findings = AllByRecursion (λ f. f ≡ Equivalent) findings

-- each line says `equivalent`, or some says something else
abbrev pub IsStatusOf : List LinkFinding → Status → Type 0
IsStatusOf findings AllEquivalent = AreEquivalent findings
IsStatusOf findings Others = AreEquivalent findings → ⊥
IsStatusOf findings s = ⊥

-- The text for the bytes of two files and of a chain, and the status: a report; or the first of the two files that has no reading; or why
-- the chain is not one for them.
abbrev pub ChainRuled : List ℕ → List ℕ → List ℕ → List ℕ → Status → Type 0
ChainRuled a c text said BadClass = IsBadPair a c said
ChainRuled a c text said BadCert = HasClass a × HasClass c × ((f : ChainFlaw) × IsChainFlaw a c text f × (said ≡ bad_chain f))
ChainRuled a c text said s = (findings : List LinkFinding) × IsChainReport a c text findings said × IsStatusOf findings s
