-- What is said of the bytes of two files.
use Rattle.std.specs.Prelude.{◌≡◌, ℕ, List}
use Rattle.pv_alike.specs.Least.{Rooted}
use Rattle.pv_class.specs.declared.file.ClassFile.{ClassFile}
use Rattle.pv_class.specs.declared.file.Method.{Method}
use Rattle.pv_class.specs.ClassFiles.{IsClass}
use Rattle.pv_drawings.specs.Dots.{dot_of}
use Rattle.pv_drawings.specs.Listings.{listing_of}
use Rattle.pv_report.specs.declared.status.Status.{Status}
use Rattle.pv_report.specs.declared.status.Status.TheVariants.{AllEquivalent, Others, BadClass}
use Rattle.pv_report.specs.declared.verdict.Verdict.{Verdict}
use Rattle.pv_report.specs.declared.verdict.Verdict.TheVariants.{Missing}
use Rattle.pv_report.specs.Lines.{line_text, method_line, verdict_words}
use Rattle.pv_report.specs.Partners.{IsNamed, IsPartner}
use Rattle.pv_report.specs.Report.{IsBadPair}
use Rattle.pv_report.specs.Roots.{HaveLeast}
use Rattle.pv_report.specs.Verdicts.{LackRoots}
use Rattle.pv_draw.specs.declared.answer.Signature.{Signature}
use Rattle.pv_draw.specs.declared.request.Form.{Form}
use Rattle.pv_draw.specs.declared.request.Form.TheVariants.{Listing, Dot}

-- the method of the first class with this name and descriptor, and its partner in the second
pub record AreNamed (first second : ClassFile) (s : Signature) (m p : Method) : Type 0 where
  pub named : IsNamed s.name s.desc first.methods m
  pub partner : IsPartner m second.methods p

-- the least graph of their roots
pub record HasLeast (first second : ClassFile) (s : Signature) (l : Rooted) : Type 0 where
  pub method : Method
  pub partner : Method
  pub are : AreNamed first second s method partner
  pub least : HaveLeast first method second partner l

-- why there is none: there are no two such methods, or they don't both have a root
abbrev pub IsLack : ClassFile → ClassFile → Signature → Verdict → Type 0
IsLack first second s Missing = (m p : Method) → AreNamed first second s m p → ⊥
IsLack first second s v = (m p : Method) × AreNamed first second s m p × LackRoots first m second p v

-- a graph with two roots, in a form
abbrev pub drawing : Form → Rooted → List ℕ
drawing Listing l = listing_of l.graph.nodes l.first l.second
drawing Dot l = dot_of l.graph.nodes l.first l.second

-- the line that says why there is none
abbrev pub lack_line : Signature → Verdict → List ℕ
lack_line s v = line_text (method_line s.name s.desc (verdict_words v))

-- so it is of the classes of two files
abbrev pub OfClasses : List ℕ → List ℕ → (ClassFile → ClassFile → Type 0) → Type 0
OfClasses a b Is = (first second : ClassFile) × IsClass a first × IsClass b second × Is first second

-- The text for the bytes of two files, and the status: the least graph; or why there is none; or the first of the two files that has
-- no reading.
abbrev pub Drawn : Form → Signature → List ℕ → List ℕ → List ℕ → Status → Type 0
Drawn form s a b text AllEquivalent = OfClasses a b (λ first second. (l : Rooted) × HasLeast first second s l × (text ≡ drawing form l))
Drawn form s a b text Others = OfClasses a b (λ first second. (v : Verdict) × IsLack first second s v × (text ≡ lack_line s v))
Drawn form s a b text BadClass = IsBadPair a b text
Drawn form s a b text status = ⊥
