-- What is said of what was fetched.
use Rattle.std.proofs.Common.{◌≡◌, ◌≤◌, ℕ, List, length, Some, None, Ok, Err, ap, subst, sym, ◌∙◌, arith}
use Rattle.pv_class.specs.declared.class.TheConstants.{LONGEST_FILE}
use Rattle.std.specs.List.{AllZip, flat_map}
use Rattle.sha2.specs.Sha256.{sha256}
use Rattle.pv_cert.specs.declared.cert.Cert.{Cert}
use Rattle.pv_report.specs.Lines.{bad_class, line_text}
use Rattle.pv_report.specs.Listed.{lines_by}
use Rattle.pv_report.specs.declared.pair.Fetched.{Fetched}
use Rattle.pv_report.specs.declared.pair.Fetched.TheVariants as fetched
use Rattle.pv_report.specs.declared.pair.Pair.{Pair}
use Rattle.pv_report.specs.declared.pair.BadClass.{BadClass}
use Rattle.pv_report.specs.declared.status.Status.{Status}
use Rattle.pv_report.specs.declared.status.Status.TheVariants as status
use Rattle.pv_report.specs.declared.verdict.Side.TheVariants as side
use Rattle.pv_report.specs.Judging.{IsFetched, ReadsPair}
use Rattle.pv_report.proofs.Cited.{bad_pair}
use Rattle.pv_sections.specs.declared.finding.Finding.{Finding}
use Rattle.pv_sections.specs.declared.flaw.Flaw.{Flaw}
use Rattle.pv_sections.specs.declared.flaw.Flaw.TheVariants as flaw
use Rattle.pv_sections.specs.Findings.{IsFinding}
use Rattle.pv_sections.specs.Flaws.{IsCert, IsFlaw}
use Rattle.pv_sections.specs.Lines.{bad_certificate, section_line}
use Rattle.pv_sections.specs.Ruled.{IsCertReport, IsStatusOf, Ruled}
use Rattle.pv_sections.specs.Reading.{CertFetched, IsDigestOf, IsOther, RulesFetched}

-- one of the files has no reading
pub bad_file : (first second cert : Fetched) (bad : BadClass) (text : List ℕ) (s : Status) → ReadsPair first second (Err bad) → text ≡ bad_class bad.side bad.fault → s ≡ status.BadClass → RulesFetched first second cert text s
bad_file first second cert bad text s read e is a b c p q t = subst (λ (x : Status). Ruled a b c text x) (sym is) (bad_pair a b bad.side bad.fault text (read a b p q) e)

-- the certificate has no reading
pub bad_text : (first second cert : Fetched) (pair : Pair) (f : Flaw) (text : List ℕ) (s : Status) → ReadsPair first second (Ok pair) → CertFetched cert (Err f) → text ≡ bad_certificate f → s ≡ status.BadCert → RulesFetched first second cert text s
bad_text first second cert pair f text s read bad e is a b c p q t =
    let both = read a b p q in
    subst (λ (x : Status). Ruled a b c text x) (sym is) ((pair.first, both.0), (pair.second, both.1), f, bad c t a b, e)

-- the digest of a file that was read is that of its bytes
pub digest_is : (x : Fetched) (digest bytes : List ℕ) → IsDigestOf x digest → IsFetched x bytes → length bytes ≤ LONGEST_FILE → digest ≡ sha256 bytes
digest_is (fetched.Bytes v) digest bytes is got small = is ∙ ap sha256 got
digest_is fetched.TooLong digest bytes is got small = absurd (omega (arith, got, small))

-- .. or names another file
other_flaw : (a b text : List ℕ) (first second : List ℕ) (c : Cert) (f : Flaw) → first ≡ sha256 a → second ≡ sha256 b → IsCert text c → IsOther c first second (Some f) → IsFlaw a b text f
other_flaw a b text first second c flaw.TooLong p q is o = absurd o
other_flaw a b text first second c (flaw.Unread f) p q is o = absurd o
other_flaw a b text first second c (flaw.OtherFile side.First written actual) p q is o = (c, is, o.0, o.1 ∙ p, o.2)
other_flaw a b text first second c (flaw.OtherFile side.Second written actual) p q is o = (c, is, o.0 ∙ p, o.1, o.2 ∙ q, o.3)

pub bad_names : (first second cert : Fetched) (pair : Pair) (c : Cert) (f : Flaw) (one two text : List ℕ) (s : Status) → ReadsPair first second (Ok pair) → CertFetched cert (Ok c) → IsDigestOf first one → IsDigestOf second two → IsOther c one two (Some f)
    → text ≡ bad_certificate f → s ≡ status.BadCert → RulesFetched first second cert text s
bad_names first second cert pair c f one two text s read has d e o said is a b t p q u =
    let both = read a b p q in
    let flaw = other_flaw a b t one two c f (digest_is first one a d p both.0.small) (digest_is second two b e q both.1.small) (has t u) o in
    subst (λ (x : Status). Ruled a b t text x) (sym is) ((pair.first, both.0), (pair.second, both.1), f, flaw, said)

ruled_by : (a b t text : List ℕ) (findings : List Finding) (s : Status) → IsCertReport a b t findings text → IsStatusOf findings s → Ruled a b t text s
ruled_by a b t text findings status.AllEquivalent r is = (findings, r, is)
ruled_by a b t text findings status.Others r is = (findings, r, is)
ruled_by a b t text findings _ r is = absurd is

-- these are the findings on all sections
pub rules_all : (first second cert : Fetched) (pair : Pair) (c : Cert) (one two : List ℕ) (findings : List Finding) (text : List ℕ) (s : Status) → ReadsPair first second (Ok pair) → CertFetched cert (Ok c) → IsDigestOf first one → IsDigestOf second two → IsOther c one two None
    → AllZip (IsFinding c.lemmas pair.first pair.second) c.sections findings → text ≡ flat_map line_text (lines_by section_line c.sections findings) → IsStatusOf findings s → RulesFetched first second cert text s
rules_all first second cert pair c one two findings text s read has d e o each said is a b t p q u =
    let both = read a b p q in
    ruled_by a b t text findings s (record {
      first = pair.first;
      second = pair.second;
      first_is = both.0;
      second_is = both.1;
      certificate = c;
      certificate_is = has t u;
      names_first = o.0 ∙ digest_is first one a d p both.0.small;
      names_second = o.1 ∙ digest_is second two b e q both.1.small;
      lines = record { each = each; text_is = said };
    }) is
