-- What the readers give is what reading gives, and that is the answer.
use Rattle.std.proofs.Common.{◌≡◌, ℕ, Bool, true, false, cond, List, [], ◌∷◌, Option, Some, None, Result, Ok, Err, refl, sym, ap, subst, ◌∙◌}
use Rattle.std.specs.Option.{option_map, option_and_then}
use Rattle.std.specs.Str.{bytes_eq}
use Rattle.std.specs.Borrow.{Bor}
use Rattle.std.specs.Global.{Vec}
use Rattle.pv_format.specs.Seen.{texts}
use Rattle.pv_graph.specs.declared.node.Op.{Op}
use Rattle.pv_steps.specs.declared.step.Step.{Step}
use Rattle.pv_format.specs.Reading.{take_one, made, read_follow, read_constant}
use Rattle.pv_format.specs.Combinators.{lines}
use Rattle.pv_cert.specs.declared.table.Head.{Head}
use Rattle.pv_cert.specs.declared.table.Row.{Row}
use Rattle.pv_cert.specs.declared.cert.Version.{Version}
use Rattle.pv_cert.specs.declared.cert.Cert.{Cert}
use Rattle.pv_cert.specs.declared.cert.CertFault.{CertFault}
use Rattle.pv_cert.specs.declared.cert.CertFault.TheVariants as fault
use Rattle.pv_cert.specs.Names.{head_token, row_token}
use Rattle.pv_cert.specs.Operations.{op_case, op_phrase, params_of, params_are}
use Rattle.pv_cert.specs.StepLines.{step_case, step_sentence, row_words, row_words_are}
use Rattle.pv_cert.specs.Certificates.{version_line, header, read_after_header, read_all, read_text}
use Rattle.pv_cert.specs.Places.{Gives, take_digests, after_version, words_after}
use Rattle.pv_cert.specs.Answers.{IsAnswer, Answers, Tells}
use Rattle.pv_cert.proofs.CertLaws.{text_again, text_back, bad_text_back, bad_text_again}

abbrev Lines : Type 0
Lines = List (List ℕ)

-- ---- operations and steps

pub op_taken : (words rest : Lines) (h : Head) (o : Option (Op × Lines)) → Some (h, rest) ≡ take_one head_token.reads words → o ≡ params_of h rest → o ≡ op_phrase.takes words
op_taken words rest h o front is = is ∙ params_are h rest ∙ ap (option_and_then (λ (p : Head × Lines). made (op_case p.0).make (op_case p.0).words.takes p.1)) front

pub op_missing : (words : Lines) → None ≡ take_one head_token.reads words → None ≡ op_phrase.takes words
op_missing words front = ap (option_and_then (λ (p : Head × Lines). made (op_case p.0).make (op_case p.0).words.takes p.1)) front

pub step_taken : (words rest : Lines) (r : Row) (o : Option Step) → Some (r, rest) ≡ take_one row_token.reads words → o ≡ row_words r rest → o ≡ step_sentence.reads words
step_taken words rest r o front is = is ∙ row_words_are r rest ∙ ap (option_and_then (λ (p : Row × Lines). option_map (step_case p.0).make ((step_case p.0).words.reads p.1))) front

pub step_missing : (words : Lines) → None ≡ take_one row_token.reads words → None ≡ step_sentence.reads words
step_missing words front = ap (option_and_then (λ (p : Row × Lines). option_map (step_case p.0).make ((step_case p.0).words.reads p.1))) front

-- ---- lines

-- words that begin with a word, and then others
after_word : {A : Type 0} (reads : Lines → Option A) (word : List ℕ) (words : Lines) → option_and_then reads (words_after word words) ≡ option_map (λ p. p.1) (read_follow (take_one (read_constant word)) reads words)
after_word reads word [] = refl
after_word {A} reads word (first ∷ words) = by_test (bytes_eq first word)
  where
    follow : Unit {0} × Lines → Option (Unit {0} × A)
    follow p = option_map (λ (a : A). (p.0, a)) (reads p.1)

    fused_map : (o : Option A) → o ≡ option_map (λ (p : Unit {0} × A). p.1) (option_map (λ (a : A). (tt, a)) o)
    fused_map None = refl
    fused_map (Some a) = refl

    by_test : (t : Bool) → option_and_then reads (cond t (Some words) None) ≡ option_map (λ (p : Unit {0} × A). p.1) (option_and_then follow (option_map (λ (a : Unit {0}). (a, words)) (cond t (Some tt) None)))
    by_test true = fused_map (reads words)
    by_test false = refl

pub begun_taken : {A : Type 0} (reads : Lines → Option A) (word : List ℕ) (words rest : Lines) (o : Option A) → Some rest ≡ words_after word words → o ≡ reads rest → o ≡ option_map (λ p. p.1) (read_follow (take_one (read_constant word)) reads words)
begun_taken reads word words rest o there is = is ∙ ap (option_and_then reads) there ∙ after_word reads word words

pub begun_missing : {A : Type 0} (reads : Lines → Option A) (word : List ℕ) (words : Lines) → None ≡ words_after word words → None ≡ option_map (λ p. p.1) (read_follow (take_one (read_constant word)) reads words)
begun_missing reads word words gone = ap (option_and_then reads) gone ∙ after_word reads word words

-- ---- the header

abbrev Digests : Type 0
Digests = List ℕ × List ℕ

abbrev with_version : Digests × Lines → (Unit {0} × Digests) × Lines
with_version p = ((tt, p.0), p.1)

abbrev without_version : (Unit {0} × Digests) × Lines → Digests × Lines
without_version p = (p.0.1, p.1)

fused : (o : Option (Digests × Lines)) → o ≡ option_map without_version (option_map with_version o)
fused None = refl
fused (Some h) = refl

header_is : (v : Version) (all : Lines) → after_version v all ≡ (header v).takes all
header_is v [] = refl
header_is v (line ∷ all) = by_test (bytes_eq line (version_line v))
  where
    after : Unit {0} × Lines → Option ((Unit {0} × Digests) × Lines)
    after a = option_map (λ (b : Digests × Lines). ((a.0, b.0), b.1)) (take_digests a.1)

    by_test : (t : Bool) → cond t (take_digests all) None ≡ option_map without_version (option_and_then after (option_map (λ (a : Unit {0}). (a, all)) (cond t (Some tt) None)))
    by_test true = fused (take_digests all)
    by_test false = refl

pub lines_there : (o : Option (Vec (Bor (List ℕ)))) (v : Vec (Bor (List ℕ))) (now : List (Bor (List ℕ))) (r : Option Lines) → o ≡ Some v → option_map (λ v. texts v.items) o ≡ r → now ≡ v.items → Some (texts now) ≡ r
lines_there o v now r is e same = ap (λ (list : List (Bor (List ℕ))). Some (texts list)) same ∙ sym (ap (option_map (λ v. texts v.items)) is) ∙ e

pub lines_gone : (o : Option (Vec (Bor (List ℕ)))) (r : Option Lines) → o ≡ None → option_map (λ v. texts v.items) o ≡ r → r ≡ None
lines_gone o r is e = sym e ∙ ap (option_map (λ v. texts v.items)) is

pub whole_gives : (v : Version) (text : List ℕ) (all : Lines) (r : Result Cert CertFault) → Some all ≡ lines.reads text → Gives r (read_after_header v (after_version v all)) → Gives r (read_text v text)
whole_gives v text all r there is = subst (Gives r) (ap (read_after_header v) (header_is v all) ∙ ap (read_all v) there) is

-- ---- what reading gives is the answer

pub answers : (v : Version) (text : List ℕ) (r : Result Cert CertFault) → Gives r (read_text v text) → Answers v text r
answers v text (Ok c) is = text_back v text c is
answers v text (Err fault.Truncated) is = bad_text_back v text fault.Truncated is
answers v text (Err fault.Header) is = bad_text_back v text fault.Header is
answers v text (Err (fault.Step n)) is = bad_text_back v text (fault.Step n) is
answers v text (Err fault.Memory) is = tt

read_is : (v : Version) (text : List ℕ) (answer : Result Cert CertFault) → IsAnswer v text answer → read_text v text ≡ answer
read_is v text (Ok c) is = ap (read_text v) is.1 ∙ text_again v c is.0
read_is v text (Err f) is = bad_text_again v text f is

pub tells : (v : Version) (text : List ℕ) (r : Result Cert CertFault) → Gives r (read_text v text) → Tells v text r
tells v text (Ok c) is = λ answer right. sym is ∙ read_is v text answer right
tells v text (Err fault.Truncated) is = λ answer right. sym is ∙ read_is v text answer right
tells v text (Err fault.Header) is = λ answer right. sym is ∙ read_is v text answer right
tells v text (Err (fault.Step n)) is = λ answer right. sym is ∙ read_is v text answer right
tells v text (Err fault.Memory) is = λ answer right. tt
