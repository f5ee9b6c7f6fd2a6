-- How lines at the front of a text are read.
use Rattle.std.specs.Prelude.{◌≡◌, ℕ, List, [], ◌∷◌, ◌++◌, Option, Some}
use Rattle.std.proofs.Common.{zero, suc}
use Rattle.std.specs.Option.{option_map, option_and_then}
use Rattle.pv_format.specs.Splits.{cut, is_feed, text_of}

-- the last byte is a line feed
abbrev pub IsEnded : List ℕ → Type 0
IsEnded text = (front : List ℕ) × (text ≡ front ++ 10 ∷ [])

-- one line, by what it is read as, and the text after its line feed
abbrev pub take_fed : {A : Type 0} → (List ℕ → Option A) → List ℕ → Option (A × List ℕ)
take_fed reads text = option_and_then (λ p. option_map (λ a. (a, p.1)) (reads p.0)) (cut is_feed text)

-- so many lines, and the text after them
abbrev pub take_lines : ℕ → List ℕ → Option (List (List ℕ) × List ℕ)
take_lines zero text = Some ([], text)
take_lines (suc n) text = option_and_then (λ p. option_map (λ q. (p.0 ∷ q.0, q.1)) (take_lines n p.1)) (cut is_feed text)

-- their text, and the text after them
abbrev pub line_texts : List (List ℕ) × List ℕ → List ℕ × List ℕ
line_texts q = (text_of q.0, q.1)
