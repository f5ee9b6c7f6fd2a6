-- Methods with an accepted section have the same meaning.
use Rattle.std.specs.Prelude.{◌≡◌, List}
use Rattle.pv_alike.specs.Least.{Rooted}
use Rattle.pv_alike.proofs.Cited.{least_within}
use Rattle.pv_class.specs.declared.file.ClassFile.{ClassFile}
use Rattle.pv_class.specs.declared.file.Method.{Method}
use Rattle.pv_class.proofs.Cited.{HasBytes}
use Rattle.pv_cert.specs.declared.cert.Section.{Section}
use Rattle.pv_denote.specs.Meaning.{Same}
use Rattle.pv_lemmas.specs.Lemmas.{ByLemmas}
use Rattle.pv_lemmas.proofs.Cited.{sound_lemmas}
use Rattle.pv_machine.specs.SameMeaning.{AreEquivalentMethods}
use Rattle.pv_report.specs.Roots.{HaveLeast}
use Rattle.pv_report.proofs.Cited.{least_meaning}
use Rattle.pv_steps.specs.declared.step.Lemma.{Lemma}
use Rattle.pv_steps.specs.Accepted.{Derives}
use Rattle.pv_steps.proofs.Cited.{accepted_same}
use Rattle.pv_sections.specs.Findings.{IsAccepted}

-- the steps make the roots of the least graph the same
derived_same : (lemmas : List Lemma) (first : ClassFile) (m : Method) (second : ClassFile) (p : Method) (s : Section) (l : Rooted) → HaveLeast first m second p l → Derives (ByLemmas lemmas) l.graph l.first l.second s.steps → Same l.graph l.first l.second
derived_same lemmas first m second p s l h derives =
    let within = least_within h.least.least in
    accepted_same (ByLemmas lemmas) (sound_lemmas lemmas) l.graph l.first l.second s.steps h.least.made h.least.sealed within.first within.second derives

pub accepted_meaning : (lemmas : List Lemma) (first : ClassFile) (m : Method) (second : ClassFile) (p : Method) (s : Section) → IsAccepted lemmas first m second p s → p.desc ≡ m.desc → HasBytes m → HasBytes p → AreEquivalentMethods first m second p
accepted_meaning lemmas first m second p s (l, h, derives) = least_meaning first m second p l h (derived_same lemmas first m second p s l h derives)
