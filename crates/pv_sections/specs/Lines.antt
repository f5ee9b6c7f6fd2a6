-- The lines of a report on a certificate.
use Rattle.std.specs.Prelude.{ℕ, List, [], ◌∷◌, codes, decimal}
use Rattle.hex.specs.Hex.{encode_lower}
use Rattle.pv_cert.specs.declared.cert.Section.{Section}
use Rattle.pv_cert.specs.declared.cert.CertFault.{CertFault}
use Rattle.pv_cert.specs.declared.cert.CertFault.TheVariants as fault
use Rattle.pv_report.specs.Lines.{in_words, line_text, method_line, side_word, verdict_words}
use Rattle.pv_sections.specs.declared.finding.Finding.{Finding}
use Rattle.pv_sections.specs.declared.finding.Finding.TheVariants.{Verdict, Rejected}
use Rattle.pv_sections.specs.declared.flaw.Flaw.{Flaw}
use Rattle.pv_sections.specs.declared.flaw.Flaw.TheVariants.{TooLong, Unread, OtherFile}

abbrev pub finding_words : Finding → List (List ℕ)
finding_words (Verdict v) = verdict_words v
finding_words (Rejected n) = codes "rejected" ∷ decimal n ∷ []

-- what is said of a section, without the line feed
abbrev pub section_line : Section → Finding → List ℕ
section_line s f = method_line s.name s.desc (finding_words f)

-- why a text has no reading; no text is answered out of memory
abbrev pub cert_fault_words : CertFault → List (List ℕ)
cert_fault_words fault.Truncated = codes "truncated" ∷ []
cert_fault_words fault.Header = codes "header" ∷ []
cert_fault_words (fault.Step n) = codes "line" ∷ decimal n ∷ []
cert_fault_words fault.Memory = codes "out" ∷ codes "of" ∷ codes "memory" ∷ []

abbrev pub flaw_words : Flaw → List (List ℕ)
flaw_words TooLong = codes "too-long" ∷ []
flaw_words (Unread f) = cert_fault_words f
flaw_words (OtherFile side written actual) = side_word side ∷ encode_lower written ∷ encode_lower actual ∷ []

-- the line on a certificate that is not one for the two files
abbrev pub bad_certificate : Flaw → List ℕ
bad_certificate f = line_text (in_words (codes "bad" ∷ codes "certificate" ∷ flaw_words f))
