-- The lines of a listing.
use Rattle.std.specs.Prelude.{◌≡◌, ◌≢◌, ℕ, Bool, true, false, List, [], ◌∷◌, Option, Some, None, codes, refl}
use Rattle.std.proofs.Common.{ap, ◌∙◌}
use Rattle.std.specs.Option.{option_map, option_and_then}
use Rattle.pv_format.specs.Formats.{Format}
use Rattle.pv_format.specs.Combinators.{one, nothing, follow, exactly, named, whole_as}
use Rattle.pv_format.specs.Reading.{find_named, take_one}
use Rattle.pv_format.specs.Choices.{Case}
use Rattle.pv_format.proofs.Cited.{cons_some}
use Rattle.pv_token.specs.Words.{Token, Sentence, IsWord, NoFeed}
use Rattle.pv_token.specs.Lines.{line}
use Rattle.pv_listing.specs.declared.line.First.{First}
use Rattle.pv_listing.specs.declared.line.First.TheVariants as first
use Rattle.pv_listing.specs.declared.line.Line.{Line}
use Rattle.pv_listing.specs.declared.line.Line.TheVariants as lines
use Rattle.pv_listing.specs.declared.line.Title.{Title}
use Rattle.pv_listing.specs.Cases.{AreCases}
use Rattle.pv_listing.specs.Further.{keyed}
use Rattle.pv_listing.specs.Mnemonics.{has_name, mnemonic, kind_of}
use Rattle.pv_listing.specs.WordReading.{is_label, first_word}
use Rattle.pv_listing.specs.Words.{u16_token, name_token, method_token, first_token}
use Rattle.pv_listing.specs.Operands.{operand_words, OperandsFit, operands_of}

-- ---- the head of a method

abbrev pub static_name : Bool → List ℕ
static_name true = codes "static"
static_name false = codes "instance"

pub static_rows : (b : Bool) → (find_named static_name (true ∷ false ∷ []) (static_name b) ≡ Some b) × IsWord (static_name b)
static_rows true = (refl, refl)
static_rows false = (refl, refl)

abbrev pub static_token : Token Bool
static_token = named static_name (true ∷ false ∷ []) static_rows

abbrev pub to_title : Bool × (List ℕ × (List ℕ × (ℕ × ℕ))) → Title
to_title p = record { is_static = p.0; name = p.1.0; desc = p.1.1.0; stack = p.1.1.1.0; locals = p.1.1.1.1 }

abbrev pub of_title : Title → Bool × (List ℕ × (List ℕ × (ℕ × ℕ)))
of_title t = (t.is_static, (t.name, (t.desc, (t.stack, t.locals))))

-- static or instance, and NAME DESC STACK LOCALS
abbrev pub title_words : Sentence Title
title_words = whole_as to_title of_title (λ t. refl) (λ p. refl) (follow (one static_token) (follow (one name_token) (follow (one method_token) (follow (one u16_token) (exactly (one u16_token))))))

-- ---- lines

abbrev pub line_words : Line → List (List ℕ)
line_words (lines.Class name) = codes "class" ∷ name_token.spells name ∷ []
line_words (lines.Method title) = codes "method" ∷ title_words.spells title
line_words (lines.Label l) = first_word (first.Label l) ∷ []
line_words (lines.Instruction op operands) = mnemonic op ∷ operand_words operands
line_words lines.End = codes "end" ∷ []

-- what has a spelling
abbrev pub LineFits : Line → Type 0
LineFits (lines.Class name) = name_token.fits name
LineFits (lines.Method title) = title_words.fits title
LineFits (lines.Label l) = is_label l ≡ true
LineFits (lines.Instruction op operands) = (has_name op ≡ true) × OperandsFit (kind_of op) operands
LineFits lines.End = Unit {0}

-- ---- how they are read

abbrev with : {X : Type 0} → (X → Line) → Sentence X → Case Sentence Line
with {X} make words = record { Held = X; make = make; words = words }

-- the words after the first
abbrev pub line_case : First → Case Sentence Line
line_case first.Class = with lines.Class (exactly (one name_token))
line_case first.Method = with lines.Method title_words
line_case (first.Label l) = with (λ x. lines.Label l) (exactly nothing)
line_case (first.Mnemonic op) = with (lines.Instruction op) (operands_of (kind_of op))
line_case first.End = with (λ x. lines.End) (exactly nothing)

each_line : (l : Line) → (f : First) × (x : (line_case f).Held) × ((line_case f).make x ≡ l)
each_line (lines.Class name) = (first.Class, name, refl)
each_line (lines.Method title) = (first.Method, title, refl)
each_line (lines.Label l) = (first.Label l, tt, refl)
each_line (lines.Instruction op operands) = (first.Mnemonic op, operands, refl)
each_line lines.End = (first.End, tt, refl)

line_spelled : (f : First) (x : (line_case f).Held) → line_words ((line_case f).make x) ≡ first_word f ∷ (line_case f).words.spells x
line_spelled first.Class x = refl
line_spelled first.Method x = refl
line_spelled (first.Label l) x = refl
line_spelled (first.Mnemonic op) x = refl
line_spelled first.End x = refl

line_fits : (f : First) (x : (line_case f).Held) → LineFits ((line_case f).make x) → first_token.fits f × (line_case f).words.fits x
line_fits first.Class x fits = (tt, fits)
line_fits first.Method x fits = (tt, fits)
line_fits (first.Label l) x fits = (fits, tt)
line_fits (first.Mnemonic op) x fits = fits
line_fits first.End x fits = (tt, tt)

line_fitted : (f : First) (x : (line_case f).Held) → first_token.fits f → (line_case f).words.fits x → LineFits ((line_case f).make x)
line_fitted first.Class x named fits = fits
line_fitted first.Method x named fits = fits
line_fitted (first.Label l) x named fits = named
line_fitted (first.Mnemonic op) x named fits = (named, fits)
line_fitted first.End x named fits = tt

pub line_cases : AreCases first_token.fits first_token.spells (λ f. (line_case f).Held) (λ f. (line_case f).make) (λ f. (line_case f).words.fits) (λ f. (line_case f).words.spells) LineFits line_words
line_cases = record { each = each_line; spelled = line_spelled; fitting = line_fits; fitted = line_fitted }

abbrev pub line_sentence : Sentence Line
line_sentence = keyed first_token line_case LineFits line_words line_cases

-- the line whose words after the first these are
abbrev pub read_by : First → List (List ℕ) → Option Line
read_by first.Class words = option_map (line_case first.Class).make ((line_case first.Class).words.reads words)
read_by f words = option_map (line_case f).make ((line_case f).words.reads words)

by_first : (f : First) (rest : List (List ℕ)) → read_by f rest ≡ option_map (line_case f).make ((line_case f).words.reads rest)
by_first first.Class rest = refl
by_first _ rest = refl

pub line_taken : (words rest : List (List ℕ)) (f : First) (o : Option Line) → Some (f, rest) ≡ take_one first_token.reads words → o ≡ read_by f rest → o ≡ line_sentence.reads words
line_taken words rest f o front is = is ∙ by_first f rest ∙ ap (option_and_then (λ (p : First × List (List ℕ)). option_map (line_case p.0).make ((line_case p.0).words.reads p.1))) front

pub line_missing : (words : List (List ℕ)) → None ≡ take_one first_token.reads words → None ≡ line_sentence.reads words
line_missing words front = ap (option_and_then (λ (p : First × List (List ℕ)). option_map (line_case p.0).make ((line_case p.0).words.reads p.1))) front

pub some_words : (l : Line) → line_words l ≢ []
some_words (lines.Class name) = cons_some (codes "class") (name_token.spells name ∷ [])
some_words (lines.Method title) = cons_some (codes "method") (title_words.spells title)
some_words (lines.Label l) = cons_some (first_word (first.Label l)) []
some_words (lines.Instruction op operands) = cons_some (mnemonic op) (operand_words operands)
some_words lines.End = cons_some (codes "end") []

-- the text of a line, whose words are separated by blanks
abbrev pub line_text : Format NoFeed Line
line_text = line line_sentence some_words
