-- What is spelled line by line is read again, and nothing else is.
use Rattle.std.proofs.Common.{◌≡◌, ℕ, zero, suc, List, [], ◌∷◌, ◌++◌, length, Some, refl, sym, ap, ◌∙◌, append_assoc, inl, inr}
use Rattle.std.specs.Option.{option_map, option_and_then}
use Rattle.std.specs.List.{AllByRecursion}
use Rattle.std.proofs.lemmas.Bool.{cond-false}
use Rattle.pv_format.specs.Formats.{Format}
use Rattle.pv_format.specs.Combinators.{feed}
use Rattle.pv_format.specs.Options.{some_is, mapped, found, chosen}
use Rattle.pv_format.specs.Splits.{cut, is_feed, text_of}
use Rattle.pv_format.specs.SplitLaws.{cut_back}
use Rattle.pv_token.specs.Words.{NoFeed}
use Rattle.pv_chain.specs.FedReading.{take_fed, take_lines}

pub any : (text : List ℕ) → AllByRecursion (λ b. Unit {0}) text
any [] = tt
any (b ∷ text) = (tt, any text)

-- ---- a line is cut off

pub cut_line : (line rest : List ℕ) → NoFeed line → cut is_feed (line ++ 10 ∷ rest) ≡ Some (line, rest)
cut_line [] rest apart = refl
cut_line (b ∷ line) rest apart =
    cond-false (is_feed b) (Some ([], line ++ 10 ∷ rest)) (option_map (λ p. (b ∷ p.0, p.1)) (cut is_feed (line ++ 10 ∷ rest))) apart.0
    ∙ ap (option_map (λ (p : List ℕ × List ℕ). (b ∷ p.0, p.1))) (cut_line line rest apart.1)

pub cut_apart : (text : List ℕ) (p : List ℕ × List ℕ) → cut is_feed text ≡ Some p → NoFeed p.0
cut_apart [] p e = absurd (cc)
cut_apart (b ∷ text) p e =
    elim (chosen (is_feed b) (Some ([], text)) (option_map (λ p. (b ∷ p.0, p.1)) (cut is_feed text)) p e) [
      | inl here ↦ rw (sym (ap (λ (q : List ℕ × List ℕ). q.0) (some_is (Some ([], text)) ([], text) p refl here.1))) tt
      | inr later ↦
          let m = mapped (cut is_feed text) (λ p. (b ∷ p.0, p.1)) p later.1 in
          rw (sym (ap (λ (q : List ℕ × List ℕ). q.0) m.2)) (later.0, cut_apart text m.0 m.1)
    ]

-- ---- one line

pub fed_again : {A : Type 0} (w : Format NoFeed A) (a : A) (rest : List ℕ) → w.fits a → take_fed w.reads ((w.spells a ++ 10 ∷ []) ++ rest) ≡ Some (a, rest)
fed_again {A} w a rest fits =
    ap (take_fed w.reads) (append_assoc (w.spells a) (10 ∷ []) rest)
    ∙ ap (option_and_then (λ (p : List ℕ × List ℕ). option_map (λ (x : A). (x, p.1)) (w.reads p.0))) (cut_line (w.spells a) rest (w.proper a fits))
    ∙ ap (option_map (λ (x : A). (x, rest))) (w.again a fits)

pub fed_back : {A : Type 0} (w : Format NoFeed A) (text : List ℕ) (a : A) (rest : List ℕ) → take_fed w.reads text ≡ Some (a, rest) → w.fits a × (text ≡ (w.spells a ++ 10 ∷ []) ++ rest)
fed_back {A} w text a rest e =
    let c = found (cut is_feed text) (λ p. option_map (λ x. (x, p.1)) (w.reads p.0)) (a, rest) e in
    let m = mapped (w.reads c.0.0) (λ x. (x, c.0.1)) (a, rest) c.2 in
    let one : m.0 ≡ a = ap (λ (q : A × List ℕ). q.0) m.2 in
    let two : c.0.1 ≡ rest = ap (λ (q : A × List ℕ). q.1) m.2 in
    let has = w.back c.0.0 m.0 m.1 in
    (rw (sym one) has.0, cut_back feed text c.0 c.1 ∙ ap (λ (line : List ℕ). line ++ 10 ∷ c.0.1) (has.1 ∙ ap w.spells one) ∙ ap (λ (t : List ℕ). w.spells a ++ 10 ∷ t) two ∙ sym (append_assoc (w.spells a) (10 ∷ []) rest))

-- ---- several lines

pub lines_again : (lines : List (List ℕ)) (rest : List ℕ) → AllByRecursion NoFeed lines → take_lines (length lines) (text_of lines ++ rest) ≡ Some (lines, rest)
lines_again [] rest apart = refl
lines_again (line ∷ lines) rest apart =
    let more : List (List ℕ) × List ℕ → List (List ℕ) × List ℕ = λ q. (line ∷ q.0, q.1) in
    ap (take_lines (suc (length lines))) (append_assoc (line ++ 10 ∷ []) (text_of lines) rest ∙ append_assoc line (10 ∷ []) (text_of lines ++ rest))
    ∙ ap (option_and_then (λ (p : List ℕ × List ℕ). option_map (λ (q : List (List ℕ) × List ℕ). (p.0 ∷ q.0, q.1)) (take_lines (length lines) p.1))) (cut_line line (text_of lines ++ rest) apart.0)
    ∙ ap (option_map more) (lines_again lines rest apart.1)

pub lines_back : (n : ℕ) (text : List ℕ) (lines : List (List ℕ)) (rest : List ℕ) → take_lines n text ≡ Some (lines, rest) → (length lines ≡ n) × AllByRecursion NoFeed lines × (text ≡ text_of lines ++ rest)
lines_back zero text lines rest e =
    let same : ([], text) ≡ (lines, rest) = some_is (Some ([], text)) ([], text) (lines, rest) refl e in
    let none : [] ≡ lines = ap (λ (q : List (List ℕ) × List ℕ). q.0) same in
    let all : text ≡ rest = ap (λ (q : List (List ℕ) × List ℕ). q.1) same in
    (rw (sym none) refl, rw (sym none) tt, all ∙ ap (λ (ls : List (List ℕ)). text_of ls ++ rest) none)
lines_back (suc n) text lines rest e =
    let c = found (cut is_feed text) (λ p. option_map (λ q. (p.0 ∷ q.0, q.1)) (take_lines n p.1)) (lines, rest) e in
    let m = mapped (take_lines n c.0.1) (λ q. (c.0.0 ∷ q.0, q.1)) (lines, rest) c.2 in
    let one : c.0.0 ∷ m.0.0 ≡ lines = ap (λ (q : List (List ℕ) × List ℕ). q.0) m.2 in
    let two : m.0.1 ≡ rest = ap (λ (q : List (List ℕ) × List ℕ). q.1) m.2 in
    let more = lines_back n c.0.1 m.0.0 m.0.1 m.1 in (
      sym (ap length one) ∙ ap suc more.0,
      rw (sym one) (cut_apart text c.0 c.1, more.1),
      cut_back feed text c.0 c.1
          ∙ ap (λ (t : List ℕ). c.0.0 ++ 10 ∷ t) (more.2 ∙ ap (λ (t : List ℕ). text_of m.0.0 ++ t) two)
          ∙ sym (append_assoc c.0.0 (10 ∷ []) (text_of m.0.0 ++ rest))
          ∙ sym (append_assoc (c.0.0 ++ 10 ∷ []) (text_of m.0.0) rest)
          ∙ ap (λ (ls : List (List ℕ)). text_of ls ++ rest) one,
    )
