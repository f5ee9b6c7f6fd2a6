-- A text is read to a certificate exactly where it is its spelling, and to a fault exactly where that is there.
use Rattle.std.proofs.Common.{◌≡◌, ℕ, List, [], ◌∷◌, ◌++◌, map, Option, Some, None, Result, Ok, Err, refl, sym, ap, subst, suc, ◌∙◌, inl, inr}
use Rattle.std.specs.List.{flat_map, AllByRecursion}
use Rattle.pv_steps.specs.declared.step.Lemma.{Lemma}
use Rattle.pv_steps.specs.declared.step.Step.{Step}
use Rattle.pv_format.specs.Splits.{text_of, body_of}
use Rattle.pv_format.specs.Combinators.{lines}
use Rattle.pv_format.proofs.Cited.{all-append, mapped, cons_some, body_again, body_back}
use Rattle.pv_token.specs.Words.{NoFeed}
use Rattle.pv_cert.specs.declared.cert.Version.{Version}
use Rattle.pv_cert.specs.declared.cert.Section.{Section}
use Rattle.pv_cert.specs.declared.cert.Body.{Body}
use Rattle.pv_cert.specs.declared.cert.Cert.{Cert}
use Rattle.pv_cert.specs.declared.cert.CertFault.{CertFault}
use Rattle.pv_cert.specs.declared.cert.CertFault.TheVariants as fault
use Rattle.pv_cert.specs.Lines.{title_text, step_text, step_line, end_line, lemma_text, prove_text, prove_line}
use Rattle.pv_cert.specs.StepLines.{StepFits}
use Rattle.pv_cert.specs.Reading.{lemma_lines, lemmas_lines, section_lines, body_lines, LemmaFits, LemmasFit, SectionFits, BodyFits, between, read_lines}
use Rattle.pv_cert.specs.Certificates.{header, body, cert_lines, spelled, Fits, cert_of, read_after_header, read_all, read_text}
use Rattle.pv_cert.specs.BadCerts.{IsCut, AreLines, HasHeader, BadBody, BadCert}
use Rattle.pv_cert.proofs.Following.{lines_back, lines_again, bad_back, bad_again}

abbrev Lines : Type 0
Lines = List (List ℕ)

-- ---- no line has a line feed

steps_apart : (steps : List Step) → AllByRecursion StepFits steps → AllByRecursion NoFeed (map step_line steps)
steps_apart [] fits = tt
steps_apart (s ∷ steps) fits = (step_text.proper s fits.0, steps_apart steps fits.1)

section_apart : (s : Section) → SectionFits s → AllByRecursion NoFeed (section_lines s)
section_apart s fits = (title_text.proper (s.name, s.desc) fits.title, all-append NoFeed (map step_line s.steps) (end_line ∷ []) (steps_apart s.steps fits.steps) ((refl, (refl, (refl, tt))), tt))

sections_apart : (sections : List Section) → AllByRecursion SectionFits sections → AllByRecursion NoFeed (flat_map section_lines sections)
sections_apart [] fits = tt
sections_apart (s ∷ sections) fits = all-append NoFeed (section_lines s) (flat_map section_lines sections) (section_apart s fits.0) (sections_apart sections fits.1)

lemma_apart : (n : ℕ) (l : Lemma) → LemmaFits n l → AllByRecursion NoFeed (lemma_lines n l)
lemma_apart n l fits = (
  lemma_text.proper (n, l.vars) fits.begins,
  all-append NoFeed (map step_line l.steps) (prove_line (l.left, l.right) ∷ []) (steps_apart l.steps fits.steps) (prove_text.proper (l.left, l.right) fits.ends, tt),
)

lemmas_apart : (n : ℕ) (lemmas : List Lemma) → LemmasFit n lemmas → AllByRecursion NoFeed (lemmas_lines n lemmas)
lemmas_apart n [] fits = tt
lemmas_apart n (l ∷ lemmas) fits = all-append NoFeed (lemma_lines n l) (lemmas_lines (suc n) lemmas) (lemma_apart n l fits.0) (lemmas_apart (suc n) lemmas fits.1)

body_apart : (v : Version) (b : Body) → BodyFits v b → AllByRecursion NoFeed (body_lines b)
body_apart v b fits = all-append NoFeed (lemmas_lines 1 b.lemmas) (flat_map section_lines b.sections) (lemmas_apart 1 b.lemmas fits.lemmas_) (sections_apart b.sections fits.sections_)

are_lines : (v : Version) (c : Cert) → Fits v c → lines.fits (cert_lines v c)
are_lines v c fits = record {
  some = cons_some _ _;
  apart = all-append NoFeed ((header v).spells (c.first, c.second)) (body_lines (body c)) ((header v).proper (c.first, c.second) fits.digests) (body_apart v (body c) fits.body_);
}

-- ---- the whole text

pub text_again : (v : Version) (c : Cert) → Fits v c → read_text v (spelled v c) ≡ Ok c
text_again v c fits =
    ap (read_all v) (lines.again (cert_lines v c) (are_lines v c fits))
    ∙ ap (read_after_header v) ((header v).again (c.first, c.second) (body_lines (body c)) fits.digests)
    ∙ ap (cert_of (c.first, c.second)) (lines_again v 4 (body c) fits.body_)

ok_is : {A : Type 0} (r : Result A CertFault) (a b : A) → r ≡ Ok a → r ≡ Ok b → a ≡ b
ok_is r a b p q = cc

made_of : (digests : List ℕ × List ℕ) (r : Result Body CertFault) (c : Cert) → cert_of digests r ≡ Ok c → (r ≡ Ok (body c)) × (digests ≡ (c.first, c.second))
made_of digests (Ok b) c e =
    let made : Cert = record { first = digests.0; second = digests.1; lemmas = b.lemmas; sections = b.sections } in
    let is : made ≡ c = ok_is (cert_of digests (Ok b)) made c refl e in
    (ap (λ (c : Cert). Ok (body c)) is, ap (λ (c : Cert). (c.first, c.second)) is)
made_of digests (Err f) c e = absurd (cc)

after_header_back : (v : Version) (o : Option ((List ℕ × List ℕ) × Lines)) (c : Cert) → read_after_header v o ≡ Ok c → (rest : Lines) × (o ≡ Some ((c.first, c.second), rest)) × (read_lines v 4 (between [] []) rest ≡ Ok (body c))
after_header_back v None c e = absurd (cc)
after_header_back v (Some h) c e =
    let m = made_of h.0 (read_lines v 4 (between [] []) h.1) c e in
    (h.1, ap (λ (digests : List ℕ × List ℕ). Some (digests, h.1)) m.1, m.0)

all_read : (v : Version) (o : Option Lines) (c : Cert) → read_all v o ≡ Ok c → (all : Lines) × (o ≡ Some all) × (read_after_header v ((header v).takes all) ≡ Ok c)
all_read v None c e = absurd (cc)
all_read v (Some all) c e = (all, refl, e)

pub text_back : (v : Version) (text : List ℕ) (c : Cert) → read_text v text ≡ Ok c → Fits v c × (text ≡ spelled v c)
text_back v text c e =
    let b = all_read v (lines.reads text) c e in
    let are = lines.back text b.0 b.1 in
    let h = after_header_back v ((header v).takes b.0) c b.2 in
    let has = (header v).back b.0 (c.first, c.second) h.0 h.1 in
    let s = lines_back v 4 h.0 (body c) h.2 in
    (record { digests = has.0; body_ = s.0 }, are.1 ∙ ap text_of (has.1 ∙ ap (λ (ls : Lines). (header v).spells (c.first, c.second) ++ ls) (sym s.1)))

-- ---- faults

fault_of : (digests : List ℕ × List ℕ) (r : Result Body CertFault) (f : CertFault) → cert_of digests r ≡ Err f → r ≡ Err f
fault_of digests (Ok b) f e = absurd (cc)
fault_of digests (Err g) f e = ap (λ (x : CertFault). Err x) (is_fault (cert_of digests (Err g)) g f refl e)
  where
    is_fault : (r : Result Cert CertFault) (a b : CertFault) → r ≡ Err a → r ≡ Err b → a ≡ b
    is_fault r a b p q = cc

is_fault : (r : Result Cert CertFault) (a b : CertFault) → r ≡ Err a → r ≡ Err b → a ≡ b
is_fault r a b p q = cc

bad_body : (v : Version) (text : List ℕ) (f : CertFault) → BadBody v text f → BadCert v text f
bad_body v text fault.Truncated bad = inr bad
bad_body v text fault.Header bad = absurd bad.bad
bad_body v text (fault.Step n) bad = bad
bad_body v text fault.Memory bad = bad.bad

-- lines that begin with those of a header are read so
header_read : (v : Version) (all : Lines) (digests : List ℕ × List ℕ) (rest : Lines) → HasHeader v all digests rest → (header v).takes all ≡ Some (digests, rest)
header_read v all digests rest has = ap (header v).takes has.1 ∙ (header v).again digests rest has.0

no_header : (v : Version) (text : List ℕ) (all : Lines) → AreLines text all → (header v).takes all ≡ None → BadCert v text fault.Header
no_header v text all are none = (all, are, λ digests rest has. let found = header_read v all digests rest has in absurd (cc))

after_header_bad : (v : Version) (text : List ℕ) (all : Lines) (o : Option ((List ℕ × List ℕ) × Lines)) (f : CertFault) → AreLines text all → (header v).takes all ≡ o → read_after_header v o ≡ Err f → BadCert v text f
after_header_bad v text all None f are o e = subst (BadCert v text) (is_fault (Err fault.Header) fault.Header f refl e) (no_header v text all are o)
after_header_bad v text all (Some h) f are o e =
    bad_body v text f (record { all = all; are = are; digests = h.0; rest = h.1; begins = (header v).back all h.0 h.1 o; bad = bad_back v 4 h.1 f (fault_of h.0 (read_lines v 4 (between [] []) h.1) f e) })

is_cut : (text : List ℕ) → lines.reads text ≡ None → IsCut text
is_cut text none front e = let cut = ap lines.reads e in let there = body_again front in absurd (cc)

text_bad : (v : Version) (text : List ℕ) (o : Option Lines) (f : CertFault) → lines.reads text ≡ o → read_all v o ≡ Err f → BadCert v text f
text_bad v text None f o e = subst (BadCert v text) (is_fault (Err fault.Truncated) fault.Truncated f refl e) (inl (is_cut text o))
text_bad v text (Some all) f o e = after_header_bad v text all ((header v).takes all) f (lines.back text all o) refl e

pub bad_text_back : (v : Version) (text : List ℕ) (f : CertFault) → read_text v text ≡ Err f → BadCert v text f
bad_text_back v text f e = text_bad v text (lines.reads text) f refl e

cut_read : (v : Version) (text : List ℕ) (o : Option Lines) → IsCut text → lines.reads text ≡ o → read_all v o ≡ Err fault.Truncated
cut_read v text None cut e = refl
cut_read v text (Some all) cut e = let m = mapped (body_of text) _ all e in absurd (cut m.0 (body_back text m.0 m.1))

-- a text with these lines is cut into them
lines_read : (v : Version) (text : List ℕ) (all : Lines) → AreLines text all → read_text v text ≡ read_after_header v ((header v).takes all)
lines_read v text all are = ap (read_text v) are.1 ∙ ap (read_all v) (lines.again all are.0)

body_read : (v : Version) (text : List ℕ) (f : CertFault) → BadBody v text f → read_text v text ≡ Err f
body_read v text f bad =
    lines_read v text bad.all bad.are
    ∙ ap (read_after_header v) (header_read v bad.all bad.digests bad.rest bad.begins)
    ∙ ap (cert_of bad.digests) (bad_again v 4 bad.rest f bad.bad)

header_missing : (v : Version) (all : Lines) (o : Option ((List ℕ × List ℕ) × Lines)) → ((digests : List ℕ × List ℕ) (rest : Lines) → HasHeader v all digests rest → ⊥) → (header v).takes all ≡ o → read_after_header v o ≡ Err fault.Header
header_missing v all None none e = refl
header_missing v all (Some h) none e = absurd (none h.0 h.1 ((header v).back all h.0 h.1 e))

pub bad_text_again : (v : Version) (text : List ℕ) (f : CertFault) → BadCert v text f → read_text v text ≡ Err f
bad_text_again v text fault.Truncated (inl cut) = cut_read v text (lines.reads text) cut refl
bad_text_again v text fault.Truncated (inr bad) = body_read v text fault.Truncated bad
bad_text_again v text fault.Header bad = lines_read v text bad.0 bad.1 ∙ header_missing v bad.0 ((header v).takes bad.0) bad.2 refl
bad_text_again v text (fault.Step n) bad = body_read v text (fault.Step n) bad
bad_text_again v text fault.Memory bad = absurd bad
