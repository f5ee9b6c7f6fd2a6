-- The whole lines of a text, and those of a report.
use Rattle.std.proofs.Common.{◌≡◌, ◌⊎◌, ℕ, List, [], ◌∷◌, ◌++◌, inl, inr, refl, sym, ap, subst, ◌∙◌, append_assoc, arith}
use Rattle.std.specs.List.{AllZip, Contains, flat_map}
use Rattle.std.proofs.lemmas.List.{append-nil}
use Rattle.std.proofs.lemmas.List.Concat.{flat_map-cons}
use Rattle.std.proofs.lemmas.List.Elements.{Contains-append_right}
use Rattle.pv_report.specs.Lines.{line_text}
use Rattle.pv_report.specs.Listed.{lines_by}
use Rattle.pv_report.proofs.Cited.{Lacks, one_front}
use Rattle.pv_top.specs.Promise.{EndsLine, IsLineOf}

abbrev pub IsWhole : List ℕ → Type 0
IsWhole line = Lacks 10 line

-- a line of a front of a text is one of the text
pub line_of_front : (text taken rest line : List ℕ) → text ≡ taken ++ rest → IsLineOf taken line → IsLineOf text line
line_of_front text taken rest line e l = record {
  before = l.before;
  after = l.after ++ rest;
  spelled = e ∙ ap (λ (t : List ℕ). t ++ rest) l.spelled ∙ append_assoc l.before (line ++ 10 ∷ l.after) rest ∙ ap (λ (t : List ℕ). l.before ++ t) (append_assoc line (10 ∷ l.after) rest);
  starts = l.starts;
  whole = l.whole;
}

-- text that ends a line, in front of something, begins with the first line or is empty
past_first : (line before rest more : List ℕ) → IsWhole line → EndsLine before → line ++ 10 ∷ rest ≡ before ++ more → (before ≡ []) ⊎ ((b : List ℕ) × EndsLine b × (rest ≡ b ++ more))
past_first line before rest more whole (inl e) same = inl e
past_first line before rest more whole (inr e) same = inr (later line e.0 rest more whole (same ∙ ap (λ (t : List ℕ). t ++ more) e.1 ∙ append_assoc e.0 (10 ∷ []) more))
  where
    later : (line front rest more : List ℕ) → IsWhole line → line ++ 10 ∷ rest ≡ front ++ 10 ∷ more → (b : List ℕ) × EndsLine b × (rest ≡ b ++ more)
    later [] [] rest more whole same = ([], inl refl, cc same)
    later [] (c ∷ front) rest more whole same = (front ++ 10 ∷ [], inr (front, refl), (let t : rest ≡ front ++ 10 ∷ more = cc same in t ∙ sym (append_assoc front (10 ∷ []) more)))
    later (c ∷ line) [] rest more whole same = absurd (whole.0 (cc same))
    later (c ∷ line) (d ∷ front) rest more whole same = later line front rest more whole.1 (cc same)

no_line : (line after before : List ℕ) → [] ≡ before ++ (line ++ 10 ∷ after) → ⊥
no_line [] after [] e = cc e
no_line (c ∷ line) after [] e = cc e
no_line line after (c ∷ before) e = cc e

pub no_line_of_nothing : (line : List ℕ) → IsLineOf [] line → ⊥
no_line_of_nothing line l = no_line line l.after l.before l.spelled

-- one of the lines, or a whole line of those after it
pub first_or_later : (first : List ℕ) (rest line : List ℕ) → IsWhole first → IsLineOf (line_text first ++ rest) line → (line ≡ first) ⊎ IsLineOf rest line
first_or_later first rest line whole l =
    let same : first ++ 10 ∷ rest ≡ l.before ++ (line ++ 10 ∷ l.after) = sym (append_assoc first (10 ∷ []) rest) ∙ l.spelled in
    elim (past_first first l.before rest (line ++ 10 ∷ l.after) whole l.starts same) [
      | inl e ↦ inl (sym (one_front 10 first line rest l.after whole l.whole (same ∙ ap (λ (b : List ℕ). b ++ (line ++ 10 ∷ l.after)) e)).0)
      | inr e ↦ inr (record { before = e.0; after = l.after; spelled = e.2; starts = e.1; whole = l.whole })
    ]

-- the only line of a text
pub line_only : (words line : List ℕ) → IsWhole words → IsLineOf (line_text words) line → line ≡ words
line_only words line whole l =
    let parts : IsLineOf (line_text words ++ []) line = subst (λ (t : List ℕ). IsLineOf t line) (sym (append-nil (line_text words))) l in
    elim (first_or_later words [] line whole parts) [
      | inl is ↦ is
      | inr rest ↦ absurd (no_line_of_nothing line rest)
    ]

-- ---- a line among those of a report

pub record IsLineAmong {X Y : Type 0} (Is : X → Y → Type 0) (text_of : X → Y → List ℕ) (xs : List X) (line : List ℕ) : Type 0 where
  pub thing : X
  pub among : Contains xs thing
  pub answer : Y
  pub is : Is thing answer
  pub says : line ≡ text_of thing answer

later : {X Y : Type 0} (Is : X → Y → Type 0) (text_of : X → Y → List ℕ) (x : X) (xs : List X) (line : List ℕ) → IsLineAmong Is text_of xs line → IsLineAmong Is text_of (x ∷ xs) line
later Is text_of x xs line l = record { thing = l.thing; among = Contains-append_right (x ∷ []) xs l.thing l.among; answer = l.answer; is = l.is; says = l.says }

pub line_among : {X Y : Type 0} (Is : X → Y → Type 0) (text_of : X → Y → List ℕ) → ((x : X) (y : Y) → IsWhole (text_of x y)) → (xs : List X) (ys : List Y) (line : List ℕ) → AllZip Is xs ys → IsLineOf (flat_map line_text (lines_by text_of xs ys)) line → IsLineAmong Is text_of xs line
line_among Is text_of whole [] [] line each l = absurd (no_line_of_nothing line l)
line_among Is text_of whole (x ∷ xs) (y ∷ ys) line each l =
    let parts : IsLineOf (line_text (text_of x y) ++ flat_map line_text (lines_by text_of xs ys)) line = subst (λ (t : List ℕ). IsLineOf t line) (flat_map-cons line_text (text_of x y) (lines_by text_of xs ys)) l in
    elim (first_or_later (text_of x y) (flat_map line_text (lines_by text_of xs ys)) line (whole x y) parts) [
      | inl e ↦ record { thing = x; among = (0, omega arith, refl); answer = y; is = each.0; says = e }
      | inr rest ↦ later Is text_of x xs line (line_among Is text_of whole xs ys line each.1 rest)
    ]
line_among Is text_of whole _ _ line each l = absurd each
