-- A text has one answer, and what is placed for it is the same certificate.
use Rattle.std.proofs.Common.{◌≡◌, ℕ, List, length, refl, sym, ap, subst, ◌∙◌, arith}
use Rattle.pv_cert.specs.declared.cert.Version.TheVariants.{One, Two}
use Rattle.pv_cert.specs.declared.cert.Cert.{Cert}
use Rattle.pv_cert.specs.declared.cert.CertFault.{CertFault}
use Rattle.pv_cert.specs.BadCerts.{BadCert}
use Rattle.pv_cert.proofs.Cited.{faults_once, spelled_once}
use Rattle.pv_report.specs.declared.status.Status.TheVariants as status
use Rattle.pv_sections.specs.declared.flaw.Flaw.{Flaw}
use Rattle.pv_sections.specs.declared.flaw.Flaw.TheVariants.{TooLong, Unread}
use Rattle.pv_sections.specs.Lines.{bad_certificate}
use Rattle.pv_migrate.specs.Migrated.{IsCert1, IsFlaw1, migrated_line}
use Rattle.pv_migrate.specs.Laws.{IsKept, SaidOnce}

cert_once : (old : List ℕ) (c d : Cert) → IsCert1 old c → IsCert1 old d → c ≡ d
cert_once old c d p q = spelled_once One c d p.fits q.fits (sym p.spelled_ ∙ q.spelled_)

pub is_kept : IsKept
is_kept old text c d m is fits e =
    cert_once old c m.certificate is m.certificate_is ∙ spelled_once Two m.certificate d m.fits fits (sym m.spelled_ ∙ e)

flaw_once : (old : List ℕ) (e f : Flaw) → IsFlaw1 old e → IsFlaw1 old f → e ≡ f
flaw_once old TooLong TooLong p q = refl
flaw_once old (Unread e) (Unread f) p q = ap (λ (x : CertFault). Unread x) (faults_once.one One old e f p.1 q.1)
flaw_once old TooLong (Unread f) p q = absurd (omega (arith, p, q.0))
flaw_once old (Unread e) TooLong p q = absurd (omega (arith, p.0, q))
flaw_once old TooLong _ p q = absurd q
flaw_once old (Unread e) _ p q = absurd q
flaw_once old _ f p q = absurd p

no_flaw : (old : List ℕ) (c : Cert) (f : Flaw) → IsCert1 old c → IsFlaw1 old f → ⊥
no_flaw old c TooLong is bad = omega (arith, is.short, bad)
no_flaw old c (Unread f) is bad = faults_once.none One c f is.fits (subst (λ (t : List ℕ). BadCert One t f) is.spelled_ bad.1)
no_flaw old c _ is bad = bad

pub said_once : SaidOnce
said_once old said other status.AllEquivalent status.AllEquivalent (c, p, e) (d, q, f) = (e ∙ ap (λ (x : Cert). migrated_line (length x.sections)) (cert_once old c d p q) ∙ sym f, refl)
said_once old said other status.BadCert status.BadCert (x, p, e) (y, q, f) = (e ∙ ap bad_certificate (flaw_once old x y p q) ∙ sym f, refl)
said_once old said other status.AllEquivalent status.BadCert (c, p, e) (y, q, f) = absurd (no_flaw old c y p q)
said_once old said other status.BadCert status.AllEquivalent (x, p, e) (d, q, f) = absurd (no_flaw old d x q p)
said_once old said other status.AllEquivalent _ p q = absurd q
said_once old said other status.BadCert _ p q = absurd q
said_once old said other _ r p q = absurd p
