-- What is said of a method: the first of these cases that holds.
use Rattle.std.specs.Prelude.{◌≡◌, ◌⊎◌, Some, None}
use Rattle.pv_class.specs.declared.file.ClassFile.{ClassFile}
use Rattle.pv_class.specs.declared.file.Method.{Method}
use Rattle.pv_class.specs.declared.file.Code.{Code}
use Rattle.pv_alike.specs.Least.{Rooted}
use Rattle.pv_build.specs.Conversion.{Meets, Form}
use Rattle.pv_denote.specs.Meaning.{Same}
use Rattle.pv_heights.specs.Verdicts as search
use Rattle.pv_counted.specs.Cleared.{IsCleared}
use Rattle.pv_certify.specs.Searched.{Limits, question}
pub use Rattle.pv_certify.specs.Searched.{IsShown, verdict_of}
use Rattle.pv_report.specs.declared.verdict.Graphs.{Graphs}
use Rattle.pv_report.specs.declared.verdict.Graphs.TheVariants.{Least, LeastOrCleared}
use Rattle.pv_report.specs.Options.{Options}
use Rattle.pv_report.specs.declared.verdict.Side.TheVariants as side
use Rattle.pv_report.specs.declared.verdict.Verdict.{Verdict}
use Rattle.pv_report.specs.declared.verdict.Verdict.TheVariants as verdict
use Rattle.pv_report.specs.Partners.{IsPartner}
use Rattle.pv_report.specs.Roots.{OnLeast}

abbrev pub HasCode : Method → Type 0
HasCode m = (code : Code) × (m.code ≡ Some code)

-- why a method of a class and its partner in another don't both have a root
abbrev pub LackRoots : ClassFile → Method → ClassFile → Method → Verdict → Type 0
LackRoots first m second p (verdict.NoCode side.First) = m.code ≡ None
LackRoots first m second p (verdict.NoCode side.Second) = HasCode m × (p.code ≡ None)
LackRoots first m second p (verdict.Refused side.First cause) = HasCode p × Meets first m cause
LackRoots first m second p (verdict.Refused side.Second cause) = Form first m × Meets second p cause
LackRoots first m second p v = ⊥

-- the search finds this of the roots of a least graph, within the limits
abbrev pub Finds : Limits → search.Verdict → Rooted → Type 0
Finds limits v l = search.IsVerdict (question l limits) v

-- the search finds the roots equal in the graph from which the tokens that end because of counted loops are cleared, where it may look there
abbrev pub FindsCleared : Graphs → Limits → Rooted → Type 0
FindsCleared Least limits l = ⊥
FindsCleared LeastOrCleared limits l = (m : Rooted) × IsCleared l m × Finds limits search.equivalent m

-- it finds them equal, in one graph or the other
abbrev pub FindsEqual : Options → Rooted → Type 0
FindsEqual options l = Finds options.limits search.equivalent l ⊎ FindsCleared options.graphs options.limits l

-- it doesn't, and finds this of the roots of the least graph
abbrev pub FindsOther : Options → search.Verdict → Rooted → Type 0
FindsOther options v l = (FindsEqual options l → ⊥) × Finds options.limits v l

-- the verdict on the two, by what the search finds of the roots of their least graph; where it finds them equal, they have the same values
abbrev pub IsVerdictOn : Options → ClassFile → Method → ClassFile → Method → Verdict → Type 0
IsVerdictOn options first m second p verdict.Equivalent = OnLeast first m second p (λ l. FindsEqual options l × Same l.graph l.first l.second)
IsVerdictOn options first m second p verdict.Apart = OnLeast first m second p (FindsOther options search.apart)
IsVerdictOn options first m second p (verdict.Rounds n) = OnLeast first m second p (FindsOther options (search.rounds n))
IsVerdictOn options first m second p (verdict.Budget k) = OnLeast first m second p (FindsOther options (search.budget k))
IsVerdictOn options first m second p v = LackRoots first m second p v

-- the verdict on a method of the first class
abbrev pub IsVerdict : Options → ClassFile → ClassFile → Method → Verdict → Type 0
IsVerdict options first second m verdict.Missing = (p : Method) → IsPartner m second.methods p → ⊥
IsVerdict options first second m v = (p : Method) × IsPartner m second.methods p × IsVerdictOn options first m second p v
