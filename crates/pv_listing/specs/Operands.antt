-- What is written after a mnemonic.
use Rattle.std.specs.Prelude.{◌≡◌, ℕ, ℤ, pos, ◌+ℤ◌, int_lt, int_le, ◌^◌, Bool, true, ◌&&◌, List, [], ◌∷◌, length, Option, refl}
use Rattle.std.specs.Option.{option_map}
use Rattle.pv_value.specs.declared.name.Sym.{Sym}
use Rattle.pv_format.specs.Grammars.{holds}
use Rattle.pv_format.specs.Combinators.{one, pair, nothing, follow, exactly, each, some, whole_as}
use Rattle.pv_format.specs.Choices.{Case}
use Rattle.pv_token.specs.Words.{Token, Sentence}
use Rattle.pv_token.specs.Tokens.{int_token, long_token}
use Rattle.pv_listing.specs.declared.line.Operands.{Operands}
use Rattle.pv_listing.specs.declared.line.Operands.TheVariants as operands
use Rattle.pv_listing.specs.declared.mnemonic.Kind.{Kind}
use Rattle.pv_listing.specs.declared.mnemonic.Kind.TheVariants as kind
use Rattle.pv_listing.specs.Cases.{ArePart}
use Rattle.pv_listing.specs.Further.{passing, part, each_two}
use Rattle.pv_listing.specs.Words.{u8_token, byte_token, short_token, name_token, field_token, method_token, label_token}

-- the numbers from low on, one for each label, end with an int
abbrev pub ends_as_int : ℤ × (List ℕ × List (List ℕ)) → Bool
ends_as_int p = int_le (p.0 +ℤ pos (length p.1.1)) (pos (2 ^ 31))

-- LOW DEFAULT LABELS
abbrev pub table_words : Sentence (ℤ × (List ℕ × List (List ℕ)))
table_words = passing (λ p. holds (ends_as_int p)) (follow (one int_token) (follow (one label_token) (some (each label_token))))

-- the keys ascend strictly
abbrev pub ascend : List (ℤ × List ℕ) → Bool
ascend [] = true
ascend (p ∷ []) = true
ascend (p ∷ q ∷ pairs) = int_lt p.0 q.0 && ascend (q ∷ pairs)

-- DEFAULT KEY LABEL KEY LABEL
abbrev pub lookup_words : Sentence (List ℕ × List (ℤ × List ℕ))
lookup_words = passing (λ p. holds (ascend p.1)) (follow (one label_token) (each_two int_token label_token))

abbrev pub sym_of : List ℕ × (List ℕ × List ℕ) → Sym
sym_of p = record { class = p.0; name = p.1.0; desc = p.1.1 }

abbrev pub of_sym : Sym → List ℕ × (List ℕ × List ℕ)
of_sym s = (s.class, (s.name, s.desc))

-- CLASS NAME DESC
abbrev pub member_words : Token (List ℕ) → Sentence Sym
member_words desc = whole_as sym_of of_sym (λ s. refl) (λ p. refl) (follow (one name_token) (follow (one name_token) (exactly (one desc))))

-- the words of operands
abbrev pub operand_words : Operands → List (List ℕ)
operand_words operands.Nothing = []
operand_words (operands.Number n) = int_token.spells n ∷ []
operand_words (operands.Local n) = u8_token.spells n ∷ []
operand_words (operands.Increment n k) = u8_token.spells n ∷ byte_token.spells k ∷ []
operand_words (operands.Int n) = int_token.spells n ∷ []
operand_words (operands.Long n) = long_token.spells n ∷ []
operand_words (operands.Label l) = l ∷ []
operand_words (operands.Table low default labels) = table_words.spells (low, (default, labels))
operand_words (operands.Lookup default pairs) = lookup_words.spells (default, pairs)
operand_words (operands.Member s) = name_token.spells s.class ∷ name_token.spells s.name ∷ name_token.spells s.desc ∷ []

-- which operands may stand after a mnemonic of a kind
abbrev pub OperandsFit : Kind → Operands → Type 0
OperandsFit kind.Nothing operands.Nothing = Unit {0}
OperandsFit kind.Byte (operands.Number n) = byte_token.fits n
OperandsFit kind.Short (operands.Number n) = short_token.fits n
OperandsFit kind.Local (operands.Local n) = u8_token.fits n
OperandsFit kind.Increment (operands.Increment n k) = u8_token.fits n × byte_token.fits k
OperandsFit kind.Int (operands.Int n) = int_token.fits n
OperandsFit kind.Long (operands.Long n) = long_token.fits n
OperandsFit kind.Label (operands.Label l) = label_token.fits l
OperandsFit kind.Table (operands.Table low default labels) = table_words.fits (low, (default, labels))
OperandsFit kind.Lookup (operands.Lookup default pairs) = lookup_words.fits (default, pairs)
OperandsFit kind.Field (operands.Member s) = (member_words field_token).fits s
OperandsFit kind.Method (operands.Member s) = (member_words method_token).fits s
OperandsFit _ _ = ⊥

-- ---- how they are read

abbrev with : {X : Type 0} → (X → Operands) → Sentence X → Case Sentence Operands
with {X} make words = record { Held = X; make = make; words = words }

abbrev pub kind_case : Kind → Case Sentence Operands
kind_case kind.Nothing = with (λ x. operands.Nothing) (exactly nothing)
kind_case kind.Byte = with operands.Number (exactly (one byte_token))
kind_case kind.Short = with operands.Number (exactly (one short_token))
kind_case kind.Local = with operands.Local (exactly (one u8_token))
kind_case kind.Increment = with (λ p. operands.Increment p.0 p.1) (exactly (pair (one u8_token) (one byte_token)))
kind_case kind.Int = with operands.Int (exactly (one int_token))
kind_case kind.Long = with operands.Long (exactly (one long_token))
kind_case kind.Label = with operands.Label (exactly (one label_token))
kind_case kind.Table = with (λ p. operands.Table p.0 p.1.0 p.1.1) table_words
kind_case kind.Lookup = with (λ p. operands.Lookup p.0 p.1) lookup_words
kind_case kind.Field = with operands.Member (member_words field_token)
kind_case kind.Method = with operands.Member (member_words method_token)

held : (k : Kind) (o : Operands) → OperandsFit k o → (x : (kind_case k).Held) × ((kind_case k).make x ≡ o) × (kind_case k).words.fits x
held kind.Nothing operands.Nothing fits = (tt, refl, tt)
held kind.Byte (operands.Number n) fits = (n, refl, fits)
held kind.Short (operands.Number n) fits = (n, refl, fits)
held kind.Local (operands.Local n) fits = (n, refl, fits)
held kind.Increment (operands.Increment n k) fits = ((n, k), refl, fits)
held kind.Int (operands.Int n) fits = (n, refl, fits)
held kind.Long (operands.Long n) fits = (n, refl, fits)
held kind.Label (operands.Label l) fits = (l, refl, fits)
held kind.Table (operands.Table low default labels) fits = ((low, (default, labels)), refl, fits)
held kind.Lookup (operands.Lookup default pairs) fits = ((default, pairs), refl, fits)
held kind.Field (operands.Member s) fits = (s, refl, fits)
held kind.Method (operands.Member s) fits = (s, refl, fits)
held _ _ fits = absurd fits

spelled : (k : Kind) (x : (kind_case k).Held) → operand_words ((kind_case k).make x) ≡ (kind_case k).words.spells x
spelled kind.Nothing x = refl
spelled _ x = refl

fitted : (k : Kind) (x : (kind_case k).Held) → (kind_case k).words.fits x → OperandsFit k ((kind_case k).make x)
fitted kind.Nothing x fits = fits
fitted _ x fits = fits

pub are_part : (k : Kind) → ArePart (kind_case k).make (kind_case k).words.fits (kind_case k).words.spells (OperandsFit k) operand_words
are_part k = record { each = held k; spelled = spelled k; fitted = fitted k }

-- the words after a mnemonic of a kind
abbrev pub operands_of : Kind → Sentence Operands
operands_of k = part (kind_case k).make (kind_case k).words (OperandsFit k) operand_words (are_part k)

-- the operands that words spell
abbrev pub read_kind : Kind → List (List ℕ) → Option Operands
read_kind kind.Nothing words = option_map (kind_case kind.Nothing).make ((kind_case kind.Nothing).words.reads words)
read_kind k words = option_map (kind_case k).make ((kind_case k).words.reads words)

pub read_kind_is : (k : Kind) (words : List (List ℕ)) → (operands_of k).reads words ≡ read_kind k words
read_kind_is kind.Nothing words = refl
read_kind_is _ words = refl
