-- Two certificates that have reports are links between their files.
use Rattle.std.proofs.Common.{◌≡◌, ℕ, List, Result, Ok, Err, refl, sym, subst, ◌∙◌, arith}
use Rattle.pv_base.specs.Stored.{AreBytes}
use Rattle.pv_class.specs.declared.fault.ClassFault.{ClassFault}
use Rattle.pv_class.specs.declared.file.ClassFile.{ClassFile}
use Rattle.pv_class.specs.ClassFaults.{IsBad}
use Rattle.pv_class.specs.ClassFiles.{IsClass}
use Rattle.pv_class.proofs.Cited.{answer_once}
use Rattle.pv_cert.specs.declared.cert.Cert.{Cert}
use Rattle.pv_cert.specs.declared.cert.Version.TheVariants.{Two}
use Rattle.pv_cert.specs.BadCerts.{BadCert}
use Rattle.pv_cert.proofs.Cited.{faults_once, spelled_once}
use Rattle.pv_report.specs.declared.status.Status.{Status}
use Rattle.pv_report.specs.declared.status.Status.TheVariants as status
use Rattle.pv_report.specs.declared.verdict.Side.TheVariants as side
use Rattle.pv_report.proofs.Cited.{by_index}
use Rattle.pv_sections.specs.Flaws.{IsCert}
use Rattle.pv_links.specs.declared.stage.Stage.{Stage}
use Rattle.pv_links.specs.declared.stage.Stage.TheVariants as stage
use Rattle.pv_links.specs.declared.flaw.BadLink.{BadLink}
use Rattle.pv_links.specs.declared.flaw.BadLink.TheVariants as link
use Rattle.pv_links.specs.declared.flaw.TextFlaw.{TextFlaw}
use Rattle.pv_links.specs.declared.flaw.TextFlaw.TheVariants as text_flaw
use Rattle.pv_links.specs.Composed.{Composed, IsBadStage}
use Rattle.pv_links.specs.Flaws.{IsBadLink, IsTextFlaw, Names}
use Rattle.pv_links.specs.Laws.{HasCertReport, ReportedComposed}

-- a text is that of one certificate, and has no flaw
pub one_cert : (text : List ℕ) (d e : Cert) → IsCert text d → IsCert text e → d ≡ e
one_cert text d e p q = spelled_once Two d e p.fits q.fits (sym p.spelled_ ∙ q.spelled_)

no_text_flaw : (text : List ℕ) (d : Cert) (f : TextFlaw) → IsCert text d → IsTextFlaw text f → ⊥
no_text_flaw text d text_flaw.TooLong is long = omega (arith, is.short, long)
no_text_flaw text d (text_flaw.Unread f) is bad = faults_once.none Two d f is.fits (subst (λ (t : List ℕ). BadCert Two t f) is.spelled_ bad.1)

no_class_fault : (bytes : List ℕ) (file : ClassFile) (f : ClassFault) → AreBytes bytes → IsClass bytes file → IsBad bytes f → ⊥
no_class_fault bytes file f fits is bad =
    let same : ◌≡◌ {A = Result ClassFile ClassFault} (Ok file) (Err f) = answer_once bytes (Ok file) (Err f) (by_index bytes fits) is bad in
    absurd (cc same)

module _ (a b c x y : List ℕ) (bytes_a : AreBytes a) (bytes_b : AreBytes b) (bytes_c : AreBytes c) (one : HasCertReport a b x) (two : HasCertReport b c y) where
  no_bad_stage : (s : Stage) (f : ClassFault) → IsBadStage a b c s f → ⊥
  no_bad_stage stage.First f bad = no_class_fault a one.2.first f bytes_a one.2.first_is bad
  no_bad_stage stage.Middle f bad = no_class_fault b one.2.second f bytes_b one.2.second_is bad.1
  no_bad_stage stage.Last f bad = no_class_fault c two.2.second f bytes_c two.2.second_is bad.2

  first_names : (d : Cert) → IsCert x d → Names d a b
  first_names d is = subst (λ (e : Cert). Names e a b) (one_cert x one.2.certificate d one.2.certificate_is is) (record { first = one.2.names_first; second = one.2.names_second })

  second_names : (e : Cert) → IsCert y e → Names e b c
  second_names e is = subst (λ (d : Cert). Names d b c) (one_cert y two.2.certificate e two.2.certificate_is is) (record { first = two.2.names_first; second = two.2.names_second })

  no_bad_link : (l : BadLink) → IsBadLink a b c x y l → ⊥
  no_bad_link (link.Text side.First f) bad = no_text_flaw x one.2.certificate f one.2.certificate_is bad
  no_bad_link (link.Text side.Second f) bad = no_text_flaw y two.2.certificate f two.2.certificate_is bad.1
  no_bad_link (link.Digest side.First) (d, e, is, more, none) = none (first_names d is)
  no_bad_link (link.Digest side.Second) (d, e, is, more, names, none) = none (second_names e more)

  all_composed : (text : List ℕ) (s : Status) → Composed a b c x y text s → s ≡ status.AllEquivalent
  all_composed text status.BadClass (s, f, bad, e) = absurd (no_bad_stage s f bad)
  all_composed text status.BadCert (classes, (l, bad, e)) = absurd (no_bad_link l bad)
  all_composed text status.AllEquivalent made = refl
  all_composed text _ none = absurd none

pub reported_composed : ReportedComposed
reported_composed a b c x y text s bytes_a bytes_b bytes_c one two said = all_composed a b c x y bytes_a bytes_b bytes_c one two text s said
