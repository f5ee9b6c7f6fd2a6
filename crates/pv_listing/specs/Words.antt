-- The words of a listing.
use Rattle.std.specs.Prelude.{◌≡◌, ◌≤◌, ℕ, ℤ, pos, negsuc, true, List, length, int_le, nat_le, ◌&&◌}
use Rattle.pv_format.specs.Grammars.{Test, holds}
use Rattle.pv_pool.specs.Texts.{IsText}
use Rattle.pv_class.specs.Checks.{field_type, method_type}
use Rattle.pv_token.specs.Words.{Token}
use Rattle.pv_token.specs.Tokens.{u32_token, int_token, shown_token}
use Rattle.pv_listing.specs.declared.line.First.{First}
use Rattle.pv_listing.specs.WordReading.{is_name, is_label, read_label, first_word, FirstFits, read_first}
use Rattle.pv_listing.specs.WordLaws
use Rattle.pv_listing.specs.Further.{passing}

-- ---- numbers in a range

abbrev pub natural : ℕ → Token ℕ
natural most = passing (λ n. holds (nat_le n most)) u32_token

abbrev pub integer : ℤ → ℤ → Token ℤ
integer least most = passing (λ z. holds (int_le least z && int_le z most)) int_token

-- from 0 to 255, from 0 to 65535
abbrev pub u8_token : Token ℕ
u8_token = natural 255

abbrev pub u16_token : Token ℕ
u16_token = natural 65535

-- from -128 to 127, from -32768 to 32767
abbrev pub byte_token : Token ℤ
byte_token = integer (negsuc 127) (pos 127)

abbrev pub short_token : Token ℤ
short_token = integer (negsuc 32767) (pos 32767)

-- ---- names, which are the bytes of a Utf8 (JVMS 4.4.7), and descriptors (JVMS 4.3)

abbrev pub name : List ℕ → Test
name bytes = record { Holds = (length bytes ≤ 65535) × IsText bytes; tells = is_name bytes; law = WordLaws.name_decides bytes }

abbrev pub name_token : Token (List ℕ)
name_token = passing name shown_token

abbrev pub field_token : Token (List ℕ)
field_token = passing field_type name_token

abbrev pub method_token : Token (List ℕ)
method_token = passing method_type name_token

-- ---- labels

-- one or more ASCII letters and digits
abbrev pub label_token : Token (List ℕ)
label_token = record {
  fits = λ word. is_label word ≡ true;
  spells = λ word. word;
  reads = read_label;
  again = WordLaws.label_again;
  back = WordLaws.label_back;
  proper = WordLaws.label_word;
}

-- the first word of a line: class, method, end, a label with a colon, or a mnemonic
abbrev pub first_token : Token First
first_token = record { fits = FirstFits; spells = first_word; reads = read_first; again = WordLaws.first_again; back = WordLaws.first_back; proper = WordLaws.first_proper }
