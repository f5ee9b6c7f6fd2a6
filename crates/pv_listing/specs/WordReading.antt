-- The words of a listing, and how they are read.
use Rattle.std.specs.Prelude.{◌≡◌, ℕ, Bool, true, false, ◌&&◌, ◌||◌, ◌==◌, nat_le, List, [], ◌∷◌, ◌++◌, length, Option, Some, None, codes, if◌then◌else◌}
use Rattle.std.specs.Option.{option_map}
use Rattle.std.specs.List.{list_all}
use Rattle.std.specs.Str.{bytes_eq}
use Rattle.pv_pool.specs.TextTests.{is_text_from}
use Rattle.pv_listing.specs.declared.line.First.{First}
use Rattle.pv_listing.specs.declared.line.First.TheVariants as first
use Rattle.pv_listing.specs.Mnemonics.{names, opcode_in, has_name, mnemonic}

-- whether bytes can be those of a Utf8 of a constant pool
abbrev pub is_name : List ℕ → Bool
is_name bytes = nat_le (length bytes) 65535 && is_text_from bytes 0

-- ---- labels

-- an ASCII letter or digit
abbrev pub is_label_byte : ℕ → Bool
is_label_byte b = (nat_le 48 b && nat_le b 57) || ((nat_le 65 b && nat_le b 90) || (nat_le 97 b && nat_le b 122))

abbrev pub is_label : List ℕ → Bool
is_label [] = false
is_label (b ∷ word) = list_all is_label_byte (b ∷ word)

abbrev pub read_label : List ℕ → Option (List ℕ)
read_label word = if is_label word then Some word else None

-- ---- the first word of a line

abbrev pub first_word : First → List ℕ
first_word first.Class = codes "class"
first_word first.Method = codes "method"
first_word (first.Label l) = l ++ 58 ∷ []
first_word (first.Mnemonic op) = mnemonic op
first_word first.End = codes "end"

abbrev pub FirstFits : First → Type 0
FirstFits (first.Label l) = is_label l ≡ true
FirstFits (first.Mnemonic op) = has_name op ≡ true
FirstFits _ = Unit {0}

-- what stands before the last byte, if that is a colon
abbrev pub before_colon : List ℕ → Option (List ℕ)
before_colon [] = None
before_colon (b ∷ []) = if b == 58 then Some [] else None
before_colon (b ∷ c ∷ word) = option_map (λ front. b ∷ front) (before_colon (c ∷ word))

abbrev pub word_as : List ℕ → Option First
word_as word =
    if bytes_eq word (codes "class") then Some first.Class else if bytes_eq word (codes "method") then Some first.Method else if bytes_eq word (codes "end") then Some first.End else
    option_map first.Mnemonic (opcode_in names word)

abbrev pub first_by : List ℕ → Option (List ℕ) → Option First
first_by word (Some l) = option_map first.Label (read_label l)
first_by word None = word_as word

abbrev pub read_first : List ℕ → Option First
read_first word = first_by word (before_colon word)
