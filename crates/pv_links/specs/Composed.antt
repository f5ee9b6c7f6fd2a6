-- What is said of three files and of two certificates between them, how that went, and the chain that is made.
use Rattle.std.specs.Prelude.{◌≡◌, ℕ, List}
use Rattle.pv_class.specs.declared.fault.ClassFault.{ClassFault}
use Rattle.pv_class.specs.ClassFaults.{IsBad}
use Rattle.pv_chain.specs.declared.chain.Chain.{Chain}
use Rattle.pv_chain.specs.Chains.{Fits, spelled}
use Rattle.pv_report.specs.declared.status.Status.{Status}
use Rattle.pv_report.specs.declared.status.Status.TheVariants.{AllEquivalent, BadClass, BadCert}
use Rattle.pv_report.specs.Report.{HasClass}
use Rattle.pv_sections.specs.Flaws.{IsCert}
use Rattle.pv_links.specs.declared.stage.Stage.{Stage}
use Rattle.pv_links.specs.declared.stage.Stage.TheVariants.{First, Middle, Last}
use Rattle.pv_links.specs.declared.flaw.BadLink.{BadLink}
use Rattle.pv_links.specs.Flaws.{IsBadLink, Names}
use Rattle.pv_links.specs.Lines.{bad_link, bad_stage, composed}

-- the first of three files that has no reading, and its fault
abbrev pub IsBadStage : List ℕ → List ℕ → List ℕ → Stage → ClassFault → Type 0
IsBadStage a b c First f = IsBad a f
IsBadStage a b c Middle f = HasClass a × IsBad b f
IsBadStage a b c Last f = HasClass a × HasClass b × IsBad c f

-- all three have a reading
pub record HaveClasses (a b c : List ℕ) : Type 0 where
  pub first : HasClass a
  pub middle : HasClass b
  pub last : HasClass c

-- the bytes are the chain of the class b and of the certificates x, for a and b, and y, for b and c
pub record IsChainFor (a b c x y bytes : List ℕ) : Type 0 where
  pub classes : HaveClasses a b c
  pub chain : Chain
  pub fits : Fits chain
  pub spelled_ : bytes ≡ spelled chain
  pub middle_is : chain.middle ≡ b
  pub first_is : IsCert x chain.first
  pub second_is : IsCert y chain.second
  pub first_names : Names chain.first a b
  pub second_names : Names chain.second b c

-- The text for the bytes of three files and of two certificates, and the status: the first of the files that has no reading; or why the
-- certificates are no links between them; or that there is a chain of them.
abbrev pub Composed : List ℕ → List ℕ → List ℕ → List ℕ → List ℕ → List ℕ → Status → Type 0
Composed a b c x y text BadClass = (s : Stage) × (f : ClassFault) × IsBadStage a b c s f × (text ≡ bad_stage s f)
Composed a b c x y text BadCert = HaveClasses a b c × ((l : BadLink) × IsBadLink a b c x y l × (text ≡ bad_link l))
Composed a b c x y text AllEquivalent = ((bytes : List ℕ) × IsChainFor a b c x y bytes) × (text ≡ composed)
Composed a b c x y text s = ⊥
