-- What is said of two sections, of which the first is for a class and the middle one, and the second for that and the last class: the first
-- of these cases that holds.
use Rattle.std.specs.Prelude.{◌≡◌, ◌&&◌, ℕ, Bool, List, None, option_map, option_to_list, find}
use Rattle.std.specs.List.{flat_map}
use Rattle.std.specs.Str.{bytes_eq}
use Rattle.pv_build.specs.Conversion.{Meets, Form}
use Rattle.pv_class.specs.declared.file.ClassFile.{ClassFile}
use Rattle.pv_class.specs.declared.file.Method.{Method}
use Rattle.pv_cert.specs.declared.cert.Section.{Section}
use Rattle.pv_chain.specs.declared.chain.Chain.{Chain}
use Rattle.pv_report.specs.declared.verdict.Side.TheVariants as side
use Rattle.pv_report.specs.Partners.{IsNamed, IsPartner}
use Rattle.pv_report.specs.Verdicts.{HasCode}
use Rattle.pv_steps.specs.declared.step.Lemma.{Lemma}
use Rattle.pv_sections.specs.Findings.{IsAccepted, IsRejected}
use Rattle.pv_links.specs.declared.finding.LinkFinding.{LinkFinding}
use Rattle.pv_links.specs.declared.finding.LinkFinding.TheVariants.{Missing, NoCode, Refused, Rejected, Equivalent}
use Rattle.pv_links.specs.declared.stage.Stage.TheVariants as stage

-- ---- sections that belong together

-- the section is on a method with this name and this descriptor
abbrev pub is_titled : List ℕ → List ℕ → Section → Bool
is_titled name desc s = bytes_eq s.name name && bytes_eq s.desc desc

-- .. with those of another section
abbrev pub is_like : Section → Section → Bool
is_like s other = is_titled s.name s.desc other

abbrev pub Link : Type 0
Link = Section × Section

-- with a section goes the first of the others that is like it, if there is one
abbrev pub links_of : List Section → Section → List Link
links_of others s = option_to_list (option_map (λ t. (s, t)) (find (is_like s) others))

-- each section that has one, in its order
abbrev pub links : List Section → List Section → List Link
links sections others = flat_map (links_of others) sections

-- the lemmas of the certificate that the first is of, and of that of the second
abbrev pub LinkLemmas : Type 0
LinkLemmas = List Lemma × List Lemma

abbrev pub lemmas_of : Chain → LinkLemmas
lemmas_of h = (h.first.lemmas, h.second.lemmas)

-- ---- what is said of two such sections

-- the method of the first class that has the name and the descriptor of a section, and the methods like it in the two others
pub record AreOf (first middle last : ClassFile) (s : Section) (m n p : Method) : Type 0 where
  pub named : IsNamed s.name s.desc first.methods m
  pub partner : IsPartner m middle.methods n
  pub last_partner : IsPartner n last.methods p

abbrev pub AreMissing : ClassFile → ClassFile → ClassFile → Section → Type 0
AreMissing first middle last s = (m n p : Method) → AreOf first middle last s m n p → ⊥

-- what is said of a link on three methods: each section goes by the lemmas of its own certificate
abbrev pub IsFindingOn : LinkLemmas → ClassFile → Method → ClassFile → Method → ClassFile → Method → Link → LinkFinding → Type 0
IsFindingOn lemmas first m middle n last p link (NoCode stage.First) = m.code ≡ None
IsFindingOn lemmas first m middle n last p link (NoCode stage.Middle) = HasCode m × (n.code ≡ None)
IsFindingOn lemmas first m middle n last p link (NoCode stage.Last) = HasCode m × HasCode n × (p.code ≡ None)
IsFindingOn lemmas first m middle n last p link (Refused stage.First cause) = HasCode n × HasCode p × Meets first m cause
IsFindingOn lemmas first m middle n last p link (Refused stage.Middle cause) = Form first m × HasCode p × Meets middle n cause
IsFindingOn lemmas first m middle n last p link (Refused stage.Last cause) = Form first m × Form middle n × Meets last p cause
IsFindingOn lemmas first m middle n last p link (Rejected side.First k) = Form last p × IsRejected lemmas.0 first m middle n link.0 k
IsFindingOn lemmas first m middle n last p link (Rejected side.Second k) = IsAccepted lemmas.0 first m middle n link.0 × IsRejected lemmas.1 middle n last p link.1 k
IsFindingOn lemmas first m middle n last p link Equivalent = IsAccepted lemmas.0 first m middle n link.0 × IsAccepted lemmas.1 middle n last p link.1
IsFindingOn lemmas first m middle n last p link Missing = ⊥

-- .. and for three classes
abbrev pub IsFinding : LinkLemmas → ClassFile → ClassFile → ClassFile → Link → LinkFinding → Type 0
IsFinding lemmas first middle last link Missing = AreMissing first middle last link.0
IsFinding lemmas first middle last link f = (m n p : Method) × AreOf first middle last link.0 m n p × IsFindingOn lemmas first m middle n last p link f
