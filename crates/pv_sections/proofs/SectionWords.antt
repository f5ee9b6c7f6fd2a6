-- The words of the lines on a certificate: no line feed is in them, and only one finding ends a line with ` equivalent`.
use Rattle.std.proofs.Common.{◌≡◌, ◌⊎◌, ℕ, zero, suc, ◌/◌, ◌%◌, true, List, [], ◌∷◌, ◌++◌, inl, inr, refl, ap}
use Rattle.std.specs.Prelude.{codes, slice_index}
use Rattle.std.specs.List.{list_all}
use Rattle.std.proofs.lemmas.Bool.{and_parts, and_from}
use Rattle.hex.specs.Hex.{encode_lower, encode_with, lower_digits}
use Rattle.pv_cert.specs.declared.cert.Section.{Section}
use Rattle.pv_cert.specs.declared.cert.CertFault.{CertFault}
use Rattle.pv_cert.specs.declared.cert.CertFault.TheVariants as fault
use Rattle.pv_report.specs.declared.verdict.Verdict.TheVariants.{Equivalent}
use Rattle.pv_report.specs.Lines.{in_words}
use Rattle.pv_report.proofs.Cited.{AreOther, AreParts, IsOther, Lacks, ends_other, is_low, known, low_other, method_other, number_other, other_parts, side_other, verdict_other, verdict_parts, whole_method, whole_words}
use Rattle.pv_sections.specs.declared.finding.Finding.{Finding}
use Rattle.pv_sections.specs.declared.finding.Finding.TheVariants.{Verdict, Rejected}
use Rattle.pv_sections.specs.declared.flaw.Flaw.{Flaw}
use Rattle.pv_sections.specs.declared.flaw.Flaw.TheVariants.{TooLong, Unread, OtherFile}
use Rattle.pv_sections.specs.Lines.{cert_fault_words, finding_words, flaw_words, section_line}

-- ---- findings

finding_other : (f : Finding) → (f ≡ Verdict Equivalent) ⊎ AreOther (finding_words f)
finding_other (Verdict v) =
    elim (verdict_other v) [
      | inl e ↦ inl (ap Verdict e)
      | inr all ↦ inr all
    ]
finding_other (Rejected n) = inr (known (codes "rejected") refl, (number_other n, tt))

finding_parts : (f : Finding) → AreParts (finding_words f)
finding_parts (Verdict v) = verdict_parts v
finding_parts (Rejected n) = ((known (codes "rejected") refl).part, ((number_other n).part, tt))

pub whole_section : (s : Section) (f : Finding) → Lacks 10 (section_line s f)
whole_section s f = whole_method s.name s.desc (finding_words f) (finding_parts f)

pub only_accepted : (s : Section) (f : Finding) (front : List ℕ) → section_line s f ≡ front ++ codes " equivalent" → f ≡ Verdict Equivalent
only_accepted s f front e =
    elim (finding_other f) [
      | inl is ↦ is
      | inr all ↦ absurd (method_other s.name s.desc (finding_words f) front all e)
    ]

-- ---- digests

digit_low : (digits : List ℕ) (n : ℕ) → list_all is_low digits ≡ true → is_low (slice_index digits n) ≡ true
digit_low [] n all = refl
digit_low (d ∷ digits) zero all = (and_parts (is_low d) (list_all is_low digits) all).0
digit_low (d ∷ digits) (suc n) all = digit_low digits n (and_parts (is_low d) (list_all is_low digits) all).1

digest_low : (bytes : List ℕ) → list_all is_low (encode_lower bytes) ≡ true
unfolding encode_with
digest_low [] = refl
digest_low (b ∷ bytes) =
    let high = slice_index lower_digits (b / 16) in
    let low = slice_index lower_digits (b % 16) in
    and_from (is_low high) (list_all is_low (low ∷ encode_lower bytes)) (digit_low lower_digits (b / 16) refl) (and_from (is_low low) (list_all is_low (encode_lower bytes)) (digit_low lower_digits (b % 16) refl) (digest_low bytes))

digest_other : (bytes : List ℕ) → IsOther (encode_lower bytes)
digest_other bytes = low_other (encode_lower bytes) (digest_low bytes)

-- ---- the line on a certificate that is not one for the files

fault_other : (f : CertFault) → AreOther (cert_fault_words f)
fault_other fault.Truncated = (known (codes "truncated") refl, tt)
fault_other fault.Header = (known (codes "header") refl, tt)
fault_other (fault.Step n) = (known (codes "line") refl, (number_other n, tt))
fault_other fault.Memory = (known (codes "out") refl, (known (codes "of") refl, (known (codes "memory") refl, tt)))

flaw_other : (f : Flaw) → AreOther (flaw_words f)
flaw_other TooLong = (known (codes "too-long") refl, tt)
flaw_other (Unread f) = fault_other f
flaw_other (OtherFile side written actual) = (side_other side, (digest_other written, (digest_other actual, tt)))

pub bad_certificate_whole : (f : Flaw) → Lacks 10 (in_words (codes "bad" ∷ codes "certificate" ∷ flaw_words f))
bad_certificate_whole f = whole_words (codes "bad" ∷ codes "certificate" ∷ flaw_words f) ((known (codes "bad") refl).part, ((known (codes "certificate") refl).part, other_parts (flaw_words f) (flaw_other f)))

pub bad_certificate_other : (f : Flaw) (front : List ℕ) → in_words (codes "bad" ∷ codes "certificate" ∷ flaw_words f) ≡ front ++ codes " equivalent" → ⊥
bad_certificate_other f front e = ends_other (codes "bad certificate") (flaw_words f) front (flaw_other f) e
