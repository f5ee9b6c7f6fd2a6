-- A text has one reading in parts, and that is how it is spelled.
use Rattle.std.proofs.Common.{◌≡◌, ◌↔◌, ℕ, suc, List, [], ◌∷◌, ◌++◌, length, map, Option, Some, None, Result, Ok, Err, refl, sym, ap, subst, ◌∙◌, append_assoc, Bool}
use Rattle.std.specs.Prelude.{IsTrue, is_some}
use Rattle.std.specs.Option.{option_map, option_and_then}
use Rattle.std.specs.List.{AllByRecursion, flat_map}
use Rattle.pv_steps.specs.declared.step.Step.{Step}
use Rattle.pv_steps.specs.declared.step.Lemma.{Lemma}
use Rattle.pv_class.specs.declared.file.ClassFile.{ClassFile}
use Rattle.pv_class.specs.declared.fault.ClassFault.{ClassFault}
use Rattle.pv_class.specs.declared.fault.ClassFault.TheVariants as class_fault
use Rattle.pv_class.specs.ClassFiles.{IsClass}
use Rattle.pv_class.specs.Answers as class
use Rattle.pv_format.specs.Options.{some_is, mapped, found}
use Rattle.pv_format.specs.Splits.{cut, is_feed, text_of, join}
use Rattle.pv_format.specs.SplitLaws.{text_join}
use Rattle.pv_format.proofs.Cited.{all-append, cons_some}
use Rattle.pv_token.specs.Words.{NoFeed}
use Rattle.pv_cert.specs.declared.cert.Version.TheVariants.{Two}
use Rattle.pv_cert.specs.declared.cert.Cert.{Cert}
use Rattle.pv_cert.specs.declared.cert.Section.{Section}
use Rattle.pv_cert.specs.Lines.{title_text, step_text, step_line, end_line, lemma_text, prove_text, prove_line}
use Rattle.pv_cert.specs.StepLines.{StepFits}
use Rattle.pv_cert.specs.Reading.{lemma_lines, lemmas_lines, section_lines, body_lines, LemmaFits, LemmasFit, SectionFits}
use Rattle.pv_cert.specs.Certificates as cert
use Rattle.pv_chain.specs.declared.chain.Chain.{Chain}
use Rattle.pv_chain.specs.declared.parts.Parts.{Parts as Held}
use Rattle.pv_chain.specs.BadChains.{Parts, HasParts, IsHeaded, IsCertText}
use Rattle.pv_chain.specs.Chains.{Fits, spelled}
use Rattle.pv_chain.specs.FedReading.{IsEnded, line_texts, take_lines}
use Rattle.pv_chain.specs.FedLaws.{cut_line, lines_again, lines_back}
use Rattle.pv_chain.specs.Heads.{head}
use Rattle.pv_chain.specs.Reading.{AreParts, IsAClass, IsClassOr, Texts, parts_of, parts_with, seen, texts_of}

abbrev Lines : Type 0
Lines = List (List ℕ)

abbrev Headed : Type 0
Headed = (List ℕ × ℕ) × List ℕ

abbrev after_head : Headed → Option Parts
after_head h = option_map (parts_with h.0.0) (take_lines h.0.1 h.1)

-- ---- parts are read as they are spelled

pub parts_again : (text : List ℕ) (p : Parts) → HasParts text p → parts_of text ≡ Some p
parts_again text p has =
    ap parts_of has.spelled
    ∙ ap (option_and_then after_head) (head.again (p.middle, length p.lines) (text_of p.lines ++ p.second) has.fits)
    ∙ ap (option_map (parts_with p.middle)) (lines_again p.lines p.second has.apart)

pub parts_back : (text : List ℕ) (p : Parts) → parts_of text ≡ Some p → HasParts text p
parts_back text p e =
    let h = found (head.takes text) after_head p e in
    let middle : List ℕ = h.0.0.0 in
    let m = mapped (take_lines h.0.0.1 h.0.1) (parts_with middle) p h.2 in
    let has = head.back text h.0.0 h.0.1 h.1 in
    let ls = lines_back h.0.0.1 h.0.1 m.0.0 m.0.1 m.1 in
    subst (HasParts text) m.2 (record {
      fits = subst (λ (n : ℕ). head.fits (middle, n)) (sym ls.0) has.0;
      apart = ls.1;
      spelled = has.1 ∙ ap (λ (n : ℕ). head.spells (middle, n) ++ h.0.1) (sym ls.0) ∙ ap (λ (t : List ℕ). head.spells (middle, length m.0.0) ++ t) ls.2;
    })

pub parts_once : (text : List ℕ) (p q : Parts) → HasParts text p → HasParts text q → p ≡ q
parts_once text p q h k = some_is (parts_of text) p q (parts_again text p h) (parts_again text q k)

-- ---- lines

cut_text : (line rest : List ℕ) → NoFeed line → cut is_feed ((line ++ 10 ∷ []) ++ rest) ≡ Some (line, rest)
cut_text line rest apart = ap (cut is_feed) (append_assoc line (10 ∷ []) rest) ∙ cut_line line rest apart

-- no text is that of two lists of lines
pub lines_once : (xs ys : Lines) → AllByRecursion NoFeed xs → AllByRecursion NoFeed ys → text_of xs ≡ text_of ys → xs ≡ ys
lines_once [] [] p q e = refl
lines_once [] (y ∷ ys) p q e = absurd (let some = cut_text y (text_of ys) q.0 in let none : cut is_feed (text_of (y ∷ ys)) ≡ None = sym (ap (cut is_feed) e) in cc (some, none))
lines_once (x ∷ xs) [] p q e = absurd (let some = cut_text x (text_of xs) p.0 in let none : cut is_feed (text_of (x ∷ xs)) ≡ None = ap (cut is_feed) e in cc (some, none))
lines_once (x ∷ xs) (y ∷ ys) p q e =
    let both = some_is (cut is_feed (text_of (x ∷ xs))) (x, text_of xs) (y, text_of ys) (cut_text x (text_of xs) p.0) (ap (cut is_feed) e ∙ cut_text y (text_of ys) q.0) in
    let one : x ≡ y = ap (λ (c : List ℕ × List ℕ). c.0) both in
    let more = lines_once xs ys p.1 q.1 (ap (λ (c : List ℕ × List ℕ). c.1) both) in
    ap (λ (z : List ℕ). z ∷ xs) one ∙ ap (λ (zs : Lines). y ∷ zs) more

pub ended_after : (front back : List ℕ) → IsEnded back → IsEnded (front ++ back)
ended_after front back (body, e) = (front ++ body, ap (λ (t : List ℕ). front ++ t) e ∙ sym (append_assoc front body (10 ∷ [])))

-- ---- the lines of a certificate

steps_apart : (steps : List Step) → AllByRecursion StepFits steps → AllByRecursion NoFeed (map step_line steps)
steps_apart [] fits = tt
steps_apart (s ∷ steps) fits = (step_text.proper s fits.0, steps_apart steps fits.1)

section_apart : (s : Section) → SectionFits s → AllByRecursion NoFeed (section_lines s)
section_apart s fits = (title_text.proper (s.name, s.desc) fits.title, all-append NoFeed (map step_line s.steps) (end_line ∷ []) (steps_apart s.steps fits.steps) ((refl, (refl, (refl, tt))), tt))

sections_apart : (sections : List Section) → AllByRecursion SectionFits sections → AllByRecursion NoFeed (flat_map section_lines sections)
sections_apart [] fits = tt
sections_apart (s ∷ sections) fits = all-append NoFeed (section_lines s) (flat_map section_lines sections) (section_apart s fits.0) (sections_apart sections fits.1)

lemma_apart : (n : ℕ) (l : Lemma) → LemmaFits n l → AllByRecursion NoFeed (lemma_lines n l)
lemma_apart n l fits = (
  lemma_text.proper (n, l.vars) fits.begins,
  all-append NoFeed (map step_line l.steps) (prove_line (l.left, l.right) ∷ []) (steps_apart l.steps fits.steps) (prove_text.proper (l.left, l.right) fits.ends, tt),
)

lemmas_apart : (n : ℕ) (lemmas : List Lemma) → LemmasFit n lemmas → AllByRecursion NoFeed (lemmas_lines n lemmas)
lemmas_apart n [] fits = tt
lemmas_apart n (l ∷ lemmas) fits = all-append NoFeed (lemma_lines n l) (lemmas_lines (suc n) lemmas) (lemma_apart n l fits.0) (lemmas_apart (suc n) lemmas fits.1)

pub cert_apart : (c : Cert) → cert.Fits Two c → AllByRecursion NoFeed (cert.cert_lines Two c)
cert_apart c fits =
    let lemmas = lemmas_apart 1 c.lemmas fits.body_.lemmas_ in
    let sections = sections_apart c.sections fits.body_.sections_ in
    all-append NoFeed ((cert.header Two).spells (c.first, c.second)) (body_lines (cert.body c)) ((cert.header Two).proper (c.first, c.second) fits.digests) (all-append NoFeed (lemmas_lines 1 c.lemmas) (flat_map section_lines c.sections) lemmas sections)

pub cert_ended : (c : Cert) → IsEnded (cert.spelled Two c)
cert_ended c = (join 10 (cert.cert_lines Two c), text_join (cert.cert_lines Two c) (cons_some _ _))

-- ---- a chain by its parts

abbrev pub parts_for : Chain → Parts
parts_for c = record { middle = c.middle; lines = cert.cert_lines Two c.first; second = cert.spelled Two c.second }

pub chain_headed : (c : Chain) → Fits c → IsHeaded (spelled c) (parts_for c)
chain_headed c fits = record {
  parts = record { fits = fits.headed; apart = cert_apart c.first fits.first; spelled = refl };
  file = fits.file;
  file_is = fits.file_is;
}

pub chain_ended : (c : Chain) → IsEnded (spelled c)
chain_ended c = ended_after (head.spells (c.middle, length (cert.cert_lines Two c.first))) (cert.spelled Two c.first ++ cert.spelled Two c.second) (ended_after (cert.spelled Two c.first) (cert.spelled Two c.second) (cert_ended c.second))

abbrev pub chain_of : Parts → Cert → Cert → Chain
chain_of p c d = record { middle = p.middle; first = c; second = d }

pub chain_fits : (text : List ℕ) (p : Parts) (c d : Cert) → IsHeaded text p → IsCertText (text_of p.lines) c → IsCertText p.second d → Fits (chain_of p c d) × (text ≡ spelled (chain_of p c d))
chain_fits text p c d h first second =
    let same : p.lines ≡ cert.cert_lines Two c = lines_once p.lines (cert.cert_lines Two c) h.parts.apart (cert_apart c first.0) first.1 in (
      record { headed = subst (λ (ls : Lines). head.fits (p.middle, length ls)) same h.parts.fits; file = h.file; file_is = h.file_is; first = first.0; second = second.0 },
      h.parts.spelled ∙ ap (λ (ls : Lines). head.spells (p.middle, length ls) ++ (text_of ls ++ p.second)) same ∙ ap (λ (t : List ℕ). head.spells (p.middle, length (cert.cert_lines Two c)) ++ (cert.spelled Two c ++ t)) second.1,
    )

-- ---- as they are cut in memory

none_of : {X Y : Type 0} (o : Option X) (f : X → Y) → None ≡ option_map f o → o ≡ None
none_of None f e = refl
none_of (Some x) f e = absurd (cc)

pub no_head : (text : List ℕ) → None ≡ head.takes text → None ≡ option_map texts_of (parts_of text)
no_head text e = ap (λ (o : Option Headed). option_map texts_of (option_and_then after_head o)) e

pub no_lines : (text middle rest : List ℕ) (count : ℕ) → Some ((middle, count), rest) ≡ head.takes text → None ≡ option_map line_texts (take_lines count rest) → None ≡ option_map texts_of (parts_of text)
no_lines text middle rest count e none =
    sym (ap (λ (o : Option (Lines × List ℕ)). option_map texts_of (option_map (parts_with middle) o)) (none_of (take_lines count rest) line_texts none))
    ∙ ap (λ (o : Option Headed). option_map texts_of (option_and_then after_head o)) e

pub cut_in : (text middle rest first second : List ℕ) (count : ℕ) → Some ((middle, count), rest) ≡ head.takes text → Some (first, second) ≡ option_map line_texts (take_lines count rest) → Some (middle, (first, second)) ≡ option_map texts_of (parts_of text)
cut_in text middle rest first second count e is =
    let m = mapped (take_lines count rest) line_texts (first, second) (sym is) in
    sym (ap (λ (q : List ℕ × List ℕ). Some (middle, q)) m.2)
    ∙ sym (ap (λ (o : Option (Lines × List ℕ)). option_map texts_of (option_map (parts_with middle) o)) m.1)
    ∙ ap (λ (o : Option Headed). option_map texts_of (option_and_then after_head o)) e

-- ---- whether the middle is a class

-- with memory, bytes that have a fault are no class
pub class_unread : (bytes : List ℕ) (f : ClassFault) → (f ≡ class_fault.Memory → ⊥) → class.Tells bytes (Err f) → IsAClass bytes → ⊥
class_unread bytes class_fault.Memory has only h = absurd (has refl)
class_unread bytes f has only h = absurd (let both : ◌≡◌ {A = Result ClassFile ClassFault} (Err f) (Ok h.0) = only (Ok h.0) h.1 in cc both)

pub class_there : (bytes : List ℕ) (o : Option ClassFile) (b : Bool) → IsClassOr bytes o → b ≡ is_some o → IsTrue b ↔ IsAClass bytes
class_there bytes (Some file) b is e = (λ yes. (file, is), λ has. e)
class_there bytes None b none e = (λ yes. absurd (cc (yes, e)), λ has. absurd (none has))

pub none_headed : (text : List ℕ) → None ≡ option_map texts_of (parts_of text) → AreParts text None
none_headed text e p h = absurd (let some = parts_again text p h.parts in let none = none_of (parts_of text) texts_of e in cc (some, none))

pub other_middle : (text : List ℕ) (h : Held) → Some (seen h) ≡ option_map texts_of (parts_of text) → (IsAClass h.middle.items → ⊥) → AreParts text None
other_middle text h e none p headed =
    let some = parts_again text p headed.parts in
    let same : texts_of p ≡ seen h = some_is (option_map texts_of (parts_of text)) (texts_of p) (seen h) (ap (option_map texts_of) some) (sym e) in
    none (headed.file, subst (λ (bytes : List ℕ). IsClass bytes headed.file) (ap (λ (t : Texts). t.0) same) headed.file_is)

pub some_headed : (text : List ℕ) (h : Held) → Some (seen h) ≡ option_map texts_of (parts_of text) → IsAClass h.middle.items → AreParts text (Some h)
some_headed text h e (file, is) =
    let m = mapped (parts_of text) texts_of (seen h) (sym e) in
    (m.0, record { parts = parts_back text m.0 m.1; file = file; file_is = subst (λ (bytes : List ℕ). IsClass bytes file) (sym (ap (λ (t : Texts). t.0) m.2)) is }, sym m.2)
