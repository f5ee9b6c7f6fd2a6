-- Lines at the front of a text, cut off one after the other.
use Rattle.std.proofs.Common.{◌≡◌, ◌↔◌, ℕ, suc, ◌+◌, ◌-◌, ◌<◌, ◌≤◌, List, [], ◌∷◌, ◌++◌, length, take, drop, Option, Some, None, refl, sym, ap, ◌∙◌, append_assoc, arith, length-append, Bool}
use Rattle.std.specs.Borrow.{Bor}
use Rattle.std.specs.Option.{option_map, option_and_then}
use Rattle.std.specs.Prelude.{IsTrue, is_some}
use Rattle.std.proofs.lemmas.List.{append-nil}
use Rattle.std.proofs.Math.Seq.{take-append_seam, drop-append_seam}
use Rattle.pv_format.specs.Combinators.{feed}
use Rattle.pv_format.specs.Splits.{cut, is_feed, text_of, body_of}
use Rattle.pv_format.specs.SplitLaws.{cut_back, body_again, body_back}
use Rattle.pv_chain.specs.FedReading.{IsEnded, line_texts, take_lines}

abbrev Lines : Type 0
Lines = List (List ℕ)

abbrev pub onto : Lines → Lines × List ℕ → Lines × List ℕ
onto done q = (done ++ q.0, q.1)

-- k of n lines have been cut off, and this is the rest
pub record CutOff (n k : ℕ) (text rest : List ℕ) : Type 0 where
  pub done : Lines
  pub parts : text ≡ text_of done ++ rest
  pub left : take_lines n text ≡ option_map (onto done) (take_lines (n - k) rest)

pub cut_none : (n : ℕ) (text : List ℕ) → CutOff n 0 text text
cut_none n text = record { done = []; parts = refl; left = same (take_lines n text) ∙ ap (λ (m : ℕ). option_map (onto []) (take_lines m text)) (omega arith) }
  where
    same : (o : Option (Lines × List ℕ)) → o ≡ option_map (onto []) o
    same None = refl
    same (Some q) = refl

text_more : (done : Lines) (line : List ℕ) → text_of (done ++ line ∷ []) ≡ text_of done ++ (line ++ 10 ∷ [])
text_more [] line = append-nil (line ++ 10 ∷ [])
text_more (one ∷ done) line = ap (λ (t : List ℕ). (one ++ 10 ∷ []) ++ t) (text_more done line) ∙ sym (append_assoc (one ++ 10 ∷ []) (text_of done) (line ++ 10 ∷ []))

onto_more : (done : Lines) (line : List ℕ) (o : Option (Lines × List ℕ)) → option_map (onto done) (option_map (λ q. (line ∷ q.0, q.1)) o) ≡ option_map (onto (done ++ line ∷ [])) o
onto_more done line None = refl
onto_more done line (Some q) = ap (λ (ls : Lines). Some (ls, q.1)) (sym (append_assoc done (line ∷ []) q.0))

pub cut_more : (n k : ℕ) (text rest : List ℕ) (p : List ℕ × List ℕ) → k < n → CutOff n k text rest → cut is_feed rest ≡ Some p → CutOff n (k + 1) text p.1
cut_more n k text rest p lt c e =
    let step : n - k ≡ suc (n - (k + 1)) = omega arith in
    let after : Lines × List ℕ → Lines × List ℕ = λ q. (p.0 ∷ q.0, q.1) in
    record {
      done = c.done ++ p.0 ∷ [];
      parts = c.parts ∙ ap (λ (t : List ℕ). text_of c.done ++ t) (cut_back feed rest p e ∙ sym (append_assoc p.0 (10 ∷ []) p.1)) ∙ sym (append_assoc (text_of c.done) (p.0 ++ 10 ∷ []) p.1) ∙ ap (λ (t : List ℕ). t ++ p.1) (sym (text_more c.done p.0));
      left =
          c.left
          ∙ ap (λ (m : ℕ). option_map (onto c.done) (take_lines m rest)) step
          ∙ ap (λ (o : Option (List ℕ × List ℕ)). option_map (onto c.done) (option_and_then (λ (x : List ℕ × List ℕ). option_map (λ (q : Lines × List ℕ). (x.0 ∷ q.0, q.1)) (take_lines (n - (k + 1)) x.1)) o)) e
          ∙ onto_more c.done p.0 (take_lines (n - (k + 1)) p.1);
    }

-- fewer lines are there
pub cut_short : (n k : ℕ) (text rest : List ℕ) → k < n → CutOff n k text rest → cut is_feed rest ≡ None → None ≡ option_map line_texts (take_lines n text)
cut_short n k text rest lt c e =
    let step : n - k ≡ suc (n - (k + 1)) = omega arith in
    sym (ap (option_map line_texts) (
    c.left
    ∙ ap (λ (m : ℕ). option_map (onto c.done) (take_lines m rest)) step
    ∙ ap (λ (o : Option (List ℕ × List ℕ)). option_map (onto c.done) (option_and_then (λ (x : List ℕ × List ℕ). option_map (λ (q : Lines × List ℕ). (x.0 ∷ q.0, q.1)) (take_lines (n - (k + 1)) x.1)) o)) e
    ))

before : (a b : List ℕ) → length (a ++ b) - length b ≡ length a
before a b = omega (arith, length-append a b)

take_front : (a b : List ℕ) → take (length (a ++ b) - length b) (a ++ b) ≡ a
take_front a b = ap (λ (n : ℕ). take n (a ++ b)) (before a b) ∙ take-append_seam a b

drop_front : (a b : List ℕ) → drop (length (a ++ b) - length b) (a ++ b) ≡ b
drop_front a b = ap (λ (n : ℕ). drop n (a ++ b)) (before a b) ∙ drop-append_seam a b

-- all of them are
pub cut_all : (n : ℕ) (text rest one two : List ℕ) → CutOff n n text rest → one ≡ take (length text - length rest) text → two ≡ drop (length text - length rest) text → Some (one, two) ≡ option_map line_texts (take_lines n text)
cut_all n text rest one two c e f =
    let zero_left : n - n ≡ 0 = omega arith in
    let front : one ≡ text_of c.done = e ∙ ap (λ (t : List ℕ). take (length t - length rest) t) c.parts ∙ take_front (text_of c.done) rest in
    let back : two ≡ rest = f ∙ ap (λ (t : List ℕ). drop (length t - length rest) t) c.parts ∙ drop_front (text_of c.done) rest in
    ap (λ (t : List ℕ). Some (t, two)) front
    ∙ ap (λ (t : List ℕ). Some (text_of c.done, t)) back
    ∙ ap (λ (ls : Lines). Some (text_of ls, rest)) (sym (append-nil c.done))
    ∙ sym (ap (option_map line_texts) (c.left ∙ ap (λ (m : ℕ). option_map (onto c.done) (take_lines m rest)) zero_left))

pub cut_within : (n k : ℕ) (text rest : List ℕ) → CutOff n k text rest → length rest ≤ length text
cut_within n k text rest c = omega (arith, ap length c.parts, length-append (text_of c.done) rest)

-- ---- the last byte

pub some_body : (text : List ℕ) (o : Option (Bor (List ℕ))) (b : Bool) → option_map (λ (body : Bor (List ℕ)). body.now) o ≡ body_of text → b ≡ is_some o → IsTrue b ↔ IsEnded text
some_body text None b e is = (λ yes. absurd (cc (yes, is)), λ ended. absurd (let there : body_of text ≡ Some ended.0 = ap body_of ended.1 ∙ body_again ended.0 in cc (e, there)))
some_body text (Some body) b e is = (λ yes. (body.now, body_back text body.now (sym e)), λ ended. is)
