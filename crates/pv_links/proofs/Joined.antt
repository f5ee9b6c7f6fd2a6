-- The chain of what was fetched, or why there is none.
use Rattle.std.proofs.Common.{◌≤◌, ◌<◌, ◌^◌, ℕ, List, length, None, Ok, Err, sym, ap, subst, arith}
use Rattle.std.specs.Global.{Vec}
use Rattle.pv_cert.specs.declared.cert.Cert.{Cert}
use Rattle.pv_cert.specs.declared.cert.Version.TheVariants.{Two}
use Rattle.pv_cert.specs.Certificates as cert
use Rattle.pv_chain.proofs.Cited.{few_lines}
use Rattle.pv_class.specs.declared.class.TheConstants.{LONGEST_FILE}
use Rattle.pv_class.specs.ClassFiles.{IsClass}
use Rattle.pv_report.specs.declared.pair.Fetched.{Fetched}
use Rattle.pv_report.specs.Report.{HasClass}
use Rattle.pv_links.specs.declared.composition.Refusal.TheVariants as refusal
use Rattle.pv_links.specs.declared.flaw.BadLink.{BadLink}
use Rattle.pv_links.specs.Flaws.{Names}
use Rattle.pv_links.specs.Made.{BadFetched, CertsFetched, HoldsBytes, IsJoined, MadeFetched}
use Rattle.pv_links.proofs.Reported.{bytes_are}

abbrev small : (bytes : List ℕ) → HasClass bytes → length bytes ≤ LONGEST_FILE
small bytes h = h.1.small

module _ (first second third one two : Fetched) where
  -- a certificate has no reading
  pub bad_text_made : (l : BadLink) → BadFetched first second third None → CertsFetched one two (Err l) → MadeFetched first second third one two (Err (refusal.Link l))
  bad_text_made l classes bad a b c x y h = (classes a b c h.first h.second h.third, bad x y h.one h.two a b c)

  -- both name their files
  pub all_made : (certs : Cert × Cert) (k l m : List ℕ) (text : Vec ℕ) → BadFetched first second third None → CertsFetched one two (Ok certs) → HoldsBytes first k → HoldsBytes second l → HoldsBytes third m → Names certs.0 k l → Names certs.1 l m → IsJoined l certs.0 certs.1 text.items
      → MadeFetched first second third one two (Ok text)
  all_made certs k l m text classes read first_holds second_holds third_holds names more joined a b c x y h =
      let have = classes a b c h.first h.second h.third in
      let both = read x y h.one h.two in
      let left = bytes_are first k a first_holds h.first (small a have.first) in
      let middle = bytes_are second l b second_holds h.second (small b have.middle) in
      let right = bytes_are third m c third_holds h.third (small c have.last) in
      let few : length (cert.cert_lines Two certs.0) < 2 ^ 32 = omega (arith, few_lines Two certs.0, ap length both.0.spelled_, both.0.short) in
      record {
        classes = have;
        chain = record { middle = l; first = certs.0; second = certs.1 };
        fits = record { headed = (tt, ((tt, joined.0), (tt, few))); file = have.middle.0; file_is = subst (λ (z : List ℕ). IsClass z have.middle.0) (sym middle) have.middle.1; first = both.0.fits; second = both.1.fits };
        spelled_ = joined.1;
        middle_is = middle;
        first_is = both.0;
        second_is = both.1;
        first_names = subst (λ (z : List ℕ). Names certs.0 a z) middle (subst (λ (z : List ℕ). Names certs.0 z l) left names);
        second_names = subst (λ (z : List ℕ). Names certs.1 b z) right (subst (λ (z : List ℕ). Names certs.1 z m) middle more);
      }
