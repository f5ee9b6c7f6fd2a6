-- What was fetched and read, as private functions find it.
use Rattle.std.specs.Global.{Vec}
use Rattle.std.specs.Prelude.{◌≡◌, ◌<◌, ℕ, List, length, MatchOption, Option, Some, None, Result, Ok, Err, slice_get}
use Rattle.pv_alike.specs.Least.{Rooted}
use Rattle.pv_check.specs.declared.checker.Checked.{Checked}
use Rattle.pv_check.specs.declared.checker.Checked.TheVariants as checked
use Rattle.pv_lemmas.specs.Lemmas.{ByLemmas}
use Rattle.pv_steps.specs.declared.step.Lemma.{Lemma}
use Rattle.pv_steps.specs.Accepted.{Derives, Rejects}
use Rattle.pv_class.specs.declared.fault.ClassFault.{ClassFault}
use Rattle.pv_class.specs.declared.file.ClassFile.{ClassFile}
use Rattle.pv_class.specs.declared.file.Method.{Method}
use Rattle.pv_class.specs.ClassFaults.{IsBad}
use Rattle.pv_cert.specs.declared.cert.Cert.{Cert}
use Rattle.pv_cert.specs.declared.cert.Section.{Section}
use Rattle.pv_chain.specs.declared.chain.Chain.{Chain}
use Rattle.pv_chain.specs.Chains.{spelled}
use Rattle.pv_token.specs.Spellings.{AreBytes}
use Rattle.pv_report.specs.declared.pair.Fetched.{Fetched}
use Rattle.pv_report.specs.declared.pair.Fetched.TheVariants.{Bytes, TooLong}
use Rattle.pv_report.specs.declared.verdict.Side.{Side}
use Rattle.pv_report.specs.declared.verdict.Side.TheVariants as side
use Rattle.pv_report.specs.Judging.{IsFetched, IsFetchedWithin, IsLikeAt, IsRead}
use Rattle.pv_report.specs.Partners.{IsPartner}
use Rattle.pv_report.specs.Report.{HasClass}
use Rattle.pv_report.specs.Roots.{HaveLeast}
use Rattle.pv_report.specs.Verdicts.{HasCode, LackRoots}
use Rattle.pv_report.specs.declared.verdict.Verdict.TheVariants as verdict
use Rattle.pv_sections.specs.declared.certificate.TheConstants.{LONGEST_CERT}
use Rattle.pv_sections.specs.Flaws.{IsCert}
use Rattle.pv_links.specs.declared.chain.TheConstants.{LONGEST_CHAIN}
use Rattle.pv_links.specs.declared.classes.BadStage.{BadStage}
use Rattle.pv_links.specs.declared.classes.Classes.{Classes}
use Rattle.pv_links.specs.declared.finding.LinkFinding.{LinkFinding}
use Rattle.pv_links.specs.declared.finding.LinkRules.{LinkRules}
use Rattle.pv_links.specs.declared.finding.Places.{Places}
use Rattle.pv_links.specs.declared.roots.RefusedSide.{RefusedSide}
use Rattle.pv_links.specs.declared.composition.Refusal.{Refusal}
use Rattle.pv_links.specs.declared.composition.Refusal.TheVariants as refusal
use Rattle.pv_links.specs.declared.stage.Stage.{Stage}
use Rattle.pv_links.specs.declared.stage.Stage.TheVariants as stage
use Rattle.pv_links.specs.declared.flaw.BadLink.{BadLink}
use Rattle.pv_links.specs.declared.flaw.ChainFlaw.{ChainFlaw}
use Rattle.pv_links.specs.declared.flaw.TextFlaw.{TextFlaw}
use Rattle.pv_links.specs.Composed.{HaveClasses, IsBadStage, IsChainFor}
use Rattle.pv_links.specs.Reading.{AreContents}
use Rattle.pv_links.specs.Findings.{IsFinding, IsFindingOn, Link, LinkLemmas, lemmas_of, links}
use Rattle.pv_links.specs.Lines.{link_line}
use Rattle.pv_links.specs.Ruled.{IsStatusOf}
use Rattle.pv_class.specs.ClassFiles.{IsClass}
use Rattle.pv_report.specs.Listed.{AreLines}
use Rattle.pv_report.specs.declared.pair.Pair.{Pair}
use Rattle.pv_report.specs.declared.status.Status.{Status}
use Rattle.pv_links.specs.Flaws.{IsBadLink, IsChain, IsChainFlaw, IsTextFlaw}

-- ---- files

-- the fault of a file that was fetched, if it has no reading
abbrev pub IsFaultOf : List ℕ → Option ClassFault → Type 0
IsFaultOf bytes None = HasClass bytes
IsFaultOf bytes (Some f) = IsBad bytes f

abbrev pub FaultFetched : Fetched → Option ClassFault → Type 0
FaultFetched fetched fault = (bytes : List ℕ) → IsFetched fetched bytes → IsFaultOf bytes fault

-- the first of three files that has none
abbrev pub IsBadOr : List ℕ → List ℕ → List ℕ → Option BadStage → Type 0
IsBadOr a b c None = HaveClasses a b c
IsBadOr a b c (Some bad) = IsBadStage a b c bad.stage bad.fault

abbrev pub BadFetched : Fetched → Fetched → Fetched → Option BadStage → Type 0
BadFetched first second third bad = (a b c : List ℕ) → IsFetched first a → IsFetched second b → IsFetched third c → IsBadOr a b c bad

-- the bytes that were fetched, where they were
abbrev pub HoldsBytes : Fetched → List ℕ → Type 0
HoldsBytes (Bytes v) bytes = bytes ≡ v.items
HoldsBytes TooLong bytes = Unit {0}

-- ---- certificates and chains

-- the certificate that was fetched, or why it is none
abbrev pub IsCertOr : List ℕ → Result Cert TextFlaw → Type 0
IsCertOr text (Ok c) = IsCert text c
IsCertOr text (Err f) = IsTextFlaw text f

abbrev pub CertFetched : Fetched → Result Cert TextFlaw → Type 0
CertFetched fetched read = (text : List ℕ) → IsFetchedWithin LONGEST_CERT fetched text → IsCertOr text read

-- the two certificates, or why the first of them that is none is none
abbrev pub AreCertsOr : List ℕ → List ℕ → Result (Cert × Cert) BadLink → Type 0
AreCertsOr x y (Ok both) = IsCert x both.0 × IsCert y both.1
AreCertsOr x y (Err l) = (a b c : List ℕ) → IsBadLink a b c x y l

abbrev pub CertsFetched : Fetched → Fetched → Result (Cert × Cert) BadLink → Type 0
CertsFetched one two read = (x y : List ℕ) → IsFetchedWithin LONGEST_CERT one x → IsFetchedWithin LONGEST_CERT two y → AreCertsOr x y read

-- the chain of a middle class and two certificates for it, where it has a spelling
abbrev pub IsJoined : List ℕ → Cert → Cert → List ℕ → Type 0
IsJoined middle first second text = AreBytes middle × (text ≡ spelled (record { middle = middle; first = first; second = second }))

-- the chain of three files and two certificates that were fetched, or why there is none
abbrev pub IsMadeOr : List ℕ → List ℕ → List ℕ → List ℕ → List ℕ → Result (Vec ℕ) Refusal → Type 0
IsMadeOr a b c x y (Ok text) = IsChainFor a b c x y text.items
IsMadeOr a b c x y (Err (refusal.Class bad)) = IsBadStage a b c bad.stage bad.fault
IsMadeOr a b c x y (Err (refusal.Link l)) = HaveClasses a b c × IsBadLink a b c x y l

abbrev pub MadeFetched : Fetched → Fetched → Fetched → Fetched → Fetched → Result (Vec ℕ) Refusal → Type 0
MadeFetched first second third one two made = (a b c x y : List ℕ) → AreContents first second third one two a b c x y → IsMadeOr a b c x y made

-- the chain that was fetched, or why it is none for any files
abbrev pub IsChainOr : List ℕ → Result Chain ChainFlaw → Type 0
IsChainOr text (Ok h) = IsChain text h
IsChainOr text (Err f) = (a c : List ℕ) → IsChainFlaw a c text f

abbrev pub ChainFetched : Fetched → Result Chain ChainFlaw → Type 0
ChainFetched fetched read = (text : List ℕ) → IsFetchedWithin LONGEST_CHAIN fetched text → IsChainOr text read

-- ---- three methods at their places

-- three classes that were read
pub record AreRead (k : Classes) : Type 0 where
  pub first : IsRead k.first
  pub middle : IsRead k.middle
  pub last : IsRead k.last

pub record AreWithin (k : Classes) (at : Places) : Type 0 where
  pub first : at.first < length k.first.methods
  pub middle : at.middle < length k.middle.methods
  pub last : at.last < length k.last.methods

-- the place of the partner of the method at a place, None where it has none
abbrev pub IsPartnerAt : ClassFile → ℕ → ClassFile → Option ℕ → Type 0
IsPartnerAt first place second found = (m : Method) → slice_get first.methods place ≡ Some m → MatchOption found ((p : Method) → IsPartner m second.methods p → ⊥) (λ k. IsLikeAt m second.methods k)

-- so it is for the methods at these places
abbrev pub OnPlaces : Classes → Places → (Method → Method → Method → Type 0) → Type 0
OnPlaces k at Is = (m n p : Method) → slice_get k.first.methods at.first ≡ Some m → slice_get k.middle.methods at.middle ≡ Some n → slice_get k.last.methods at.last ≡ Some p → Is m n p

abbrev pub IsFindingOnPlaces : LinkLemmas → Classes → Places → Link → LinkFinding → Type 0
IsFindingOnPlaces lemmas k at link f = OnPlaces k at (λ m n p. IsFindingOn lemmas k.first m k.middle n k.last p link f)

abbrev pub HasCodeAt : ClassFile → ℕ → Type 0
HasCodeAt file place = (m : Method) → slice_get file.methods place ≡ Some m → HasCode m

-- each has a code, or this is the first that has none
abbrev pub HaveCodes : Method → Method → Method → Option Stage → Type 0
HaveCodes m n p None = HasCode m × HasCode n × HasCode p
HaveCodes m n p (Some stage.First) = m.code ≡ None
HaveCodes m n p (Some stage.Middle) = HasCode m × (n.code ≡ None)
HaveCodes m n p (Some stage.Last) = HasCode m × HasCode n × (p.code ≡ None)

abbrev pub HaveCodesAt : Classes → Places → Option Stage → Type 0
HaveCodesAt k at s = OnPlaces k at (λ m n p. HaveCodes m n p s)

-- the least graph of the roots of two methods, or which of them is refused, and for which cause
abbrev pub IsLeastOr : ClassFile → Method → ClassFile → Method → Result Rooted RefusedSide → Type 0
IsLeastOr first m second p (Ok l) = HaveLeast first m second p l
IsLeastOr first m second p (Err r) = LackRoots first m second p (verdict.Refused r.side r.cause)

abbrev pub LeastOnPlaces : ClassFile → ℕ → ClassFile → ℕ → Result Rooted RefusedSide → Type 0
LeastOnPlaces first place second other found = (m p : Method) → slice_get first.methods place ≡ Some m → slice_get second.methods other ≡ Some p → IsLeastOr first m second p found

-- one stage or the other
abbrev pub stage_at : Side → Stage → Stage → Stage
stage_at side.First one two = one
stage_at side.Second one two = two

-- the lemmas of the two certificates by which links are checked
abbrev pub lemmas_by : LinkRules → LinkLemmas
lemmas_by rules = (rules.first.now, rules.second.now)

-- what a check of a section of a certificate with some lemmas says
abbrev pub IsChecked : List Lemma → Rooted → Section → Checked → Type 0
IsChecked lemmas l s checked.Accepted = Derives (ByLemmas lemmas) l.graph l.first l.second s.steps
IsChecked lemmas l s (checked.Rejected n) = Rejects (ByLemmas lemmas) l.graph l.first l.second s.steps n

-- ---- a report

-- the text has the lines on the links of a chain between two classes, and the status goes with them
pub record IsSaidOf (pair : Pair) (h : Chain) (text : List ℕ) (s : Status) : Type 0 where
  pub middle : ClassFile
  pub middle_is : IsClass h.middle middle
  pub findings : List LinkFinding
  pub lines : AreLines (IsFinding (lemmas_of h) pair.first middle pair.second) link_line (links h.first.sections h.second.sections) findings text
  pub status_is : IsStatusOf findings s
