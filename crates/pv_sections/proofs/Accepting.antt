-- The certificate that shows a report on two files is accepted for them.
use Rattle.std.proofs.Common.{◌≡◌, ◌≤◌, ℕ, List, length, refl, sym, ap, subst, ◌∙◌, arith}
use Rattle.std.specs.List.{AllByRecursion, AllZip}
use Rattle.pv_pool.proofs.Cited.{IsBytes}
use Rattle.pv_class.specs.declared.file.ClassFile.{ClassFile}
use Rattle.pv_cert.specs.declared.cert.Cert.{Cert}
use Rattle.pv_cert.specs.declared.cert.CertFault.{CertFault}
use Rattle.pv_cert.specs.declared.cert.Version.TheVariants.{Two}
use Rattle.pv_cert.specs.BadCerts.{BadCert}
use Rattle.pv_cert.proofs.Cited.{faults_once, spelled_once}
use Rattle.pv_steps.specs.declared.step.Lemma.{Lemma}
use Rattle.pv_report.specs.Options.{Limits}
use Rattle.pv_report.specs.declared.status.Status.{Status}
use Rattle.pv_report.specs.declared.status.Status.TheVariants as status
use Rattle.pv_report.specs.declared.verdict.Side.TheVariants as side
use Rattle.pv_report.specs.Shown.{equivalent_of}
use Rattle.pv_report.proofs.Cited.{by_index, classes_not_bad, file_once}
use Rattle.pv_sections.specs.declared.certificate.TheConstants.{LONGEST_CERT}
use Rattle.pv_sections.specs.declared.finding.Finding.{Finding}
use Rattle.pv_sections.specs.declared.flaw.Flaw.{Flaw}
use Rattle.pv_sections.specs.declared.flaw.Flaw.TheVariants as flaw
use Rattle.pv_sections.specs.Certified.{IsCertificateFor}
use Rattle.pv_sections.specs.Findings.{IsFinding}
use Rattle.pv_sections.specs.Flaws.{IsCert, IsFlaw}
use Rattle.pv_sections.specs.Laws.{CertifiedAccepted}
use Rattle.pv_sections.specs.Ruled.{IsCertReport, Ruled, SaysEquivalent}
use Rattle.pv_sections.proofs.SectionOnce.{all_equivalent, each_among, equivalent_among}

module _ (limits : Limits) (a b cert : List ℕ) (bytes_a : IsBytes a) (bytes_b : IsBytes b) (is : IsCertificateFor limits a b cert) (short : length cert ≤ LONGEST_CERT) where
  -- the text has one reading
  one_cert : (c : Cert) → IsCert cert c → c ≡ is.certificate
  one_cert c reads = spelled_once Two c is.certificate reads.fits is.fits (sym reads.spelled_ ∙ is.spelled_)

  no_fault : (f : CertFault) → BadCert Two cert f → ⊥
  no_fault f bad = faults_once.none Two is.certificate f is.fits (subst (λ (text : List ℕ). BadCert Two text f) is.spelled_ bad)

  -- it has no flaw
  no_flaw : (f : Flaw) → IsFlaw a b cert f → ⊥
  no_flaw flaw.TooLong long = omega (arith, short, long)
  no_flaw (flaw.Unread f) h = no_fault f h.1
  no_flaw (flaw.OtherFile side.First written actual) h = h.4 (sym h.2 ∙ ap (λ (c : Cert). c.first) (one_cert h.0 h.1) ∙ is.names_first ∙ sym h.3)
  no_flaw (flaw.OtherFile side.Second written actual) h = h.5 (sym h.3 ∙ ap (λ (c : Cert). c.second) (one_cert h.0 h.1) ∙ is.names_second ∙ sym h.4)

  -- each of its sections is accepted
  all_say : (text : List ℕ) (findings : List Finding) → IsCertReport a b cert findings text → AllByRecursion SaysEquivalent findings
  all_say text findings r =
      let shown = is.shown in
      let first : r.first ≡ shown.first = file_once a r.first shown.first bytes_a r.first_is shown.first_is in
      let second : r.second ≡ shown.second = file_once b r.second shown.second bytes_b r.second_is shown.second_is in
      let by_first = subst (λ (f : ClassFile). AllZip (IsFinding r.certificate.lemmas f r.second) r.certificate.sections findings) first r.lines.each in
      let by_second = subst (λ (g : ClassFile). AllZip (IsFinding r.certificate.lemmas shown.first g) r.certificate.sections findings) second by_first in
      let by_cert = subst (λ (c : Cert). AllZip (IsFinding c.lemmas shown.first shown.second) c.sections findings) (one_cert r.certificate r.certificate_is) by_second in
      let found = subst (λ (l : List Lemma). AllZip (IsFinding l shown.first shown.second) is.certificate.sections findings) is.no_lemmas by_cert in
      all_equivalent a b shown.first shown.second bytes_a bytes_b shown.first_is shown.second_is (equivalent_of shown.first.methods shown.verdicts) is.certificate.sections findings
      (equivalent_among _ shown.first.methods shown.verdicts (each_among shown.first.methods)) shown.sections_are found

  accepted : (text : List ℕ) (s : Status) → Ruled a b cert text s → s ≡ status.AllEquivalent
  accepted text status.AllEquivalent ruled = refl
  accepted text status.Others (findings, r, other) = absurd (other (all_say text findings r))
  accepted text status.BadClass bad = absurd (classes_not_bad a b text is.shown.first is.shown.second bytes_a bytes_b is.shown.first_is is.shown.second_is bad)
  accepted text status.BadCert bad = absurd (no_flaw bad.2 bad.3)
  accepted text _ (findings, r, other) = absurd other

pub certified_accepted : CertifiedAccepted
certified_accepted limits a b cert text s fits_a fits_b is short ruled = accepted limits a b cert (by_index a fits_a) (by_index b fits_b) is short text s ruled
