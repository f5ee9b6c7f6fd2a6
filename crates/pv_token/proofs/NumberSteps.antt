-- What is parsed is the number that was written, and what was not read is none.
use Rattle.std.proofs.Common.{◌≡◌, ◌==◌, ℕ, ◌<◌, ◌^◌, true, List, Option, Some, Result, refl, sym, ap, subst, ◌∙◌, arith}
use Rattle.std.specs.Cmp.Lexicographic.{pointwise}
use Rattle.std.proofs.lemmas.Bool.Decides.{Decides-eqb}
use Rattle.std.proofs.lemmas.Slice.Eq.{slice_eq-Decides}
use Rattle.pv_format.proofs.Cited.{reads_it}
use Rattle.pv_token.specs.Tokens.{u32_token, int_token, long_token}
use Rattle.std.specs.Prelude.{decimal, ℤ, FitsSigned}
use Rattle.std.specs.Fmt.{signed_decimal}
use Rattle.std.specs.Int.{w32, w64}
use Rattle.std.specs.Int.Signed.{mag}
use Rattle.std.specs.Result.{result_ok}
use Rattle.std.specs.Str.{IsUtf8}
use Rattle.std.specs.Str.Parse.{ParsesUnsigned, ParsesSigned}
use Rattle.std.proofs.lemmas.Fmt.{IsAscii-decimal, IsAscii-signed, parse-decimal, parse-signed_decimal}
use Rattle.std.proofs.lemmas.Str.{IsUtf8-from_ascii}

pub number_utf8 : (n : ℕ) (word : List ℕ) → n < 2 ^ 32 → word ≡ decimal n → IsUtf8 word
number_utf8 n word lt e = subst IsUtf8 (sym e) (IsUtf8-from_ascii (decimal n) (IsAscii-decimal n (omega arith)))

pub signed_utf8 : (z : ℤ) (word : List ℕ) → mag z < 2 ^ 63 → word ≡ signed_decimal z → IsUtf8 word
signed_utf8 z word lt e = subst IsUtf8 (sym e) (IsUtf8-from_ascii (signed_decimal z) (IsAscii-signed z lt))

pub u32_parsed : {E : Type 0} (n : ℕ) (word text : List ℕ) (r : Result ℕ E) (o : Option ℕ) → n < 2 ^ 32 → word ≡ decimal n → text ≡ word → ParsesUnsigned 32 10 text r → o ≡ result_ok r → o ≡ Some n
u32_parsed n word text r o lt e same parses is = is ∙ ap result_ok (parse-decimal 32 n text r lt (omega arith) (same ∙ e) parses)

pub int_parsed : {E : Type 0} (z : ℤ) (word text : List ℕ) (r : Result ℤ E) (o : Option ℤ) → FitsSigned w32 z → word ≡ signed_decimal z → text ≡ word → ParsesSigned w32 10 text r → o ≡ result_ok r → o ≡ Some z
int_parsed z word text r o fits e same parses is = is ∙ ap result_ok (parse-signed_decimal w32 z text r fits (omega (arith, fits.sfits)) (same ∙ e) parses)

pub long_parsed : {E : Type 0} (z : ℤ) (word text : List ℕ) (r : Result ℤ E) (o : Option ℤ) → FitsSigned w64 z → word ≡ signed_decimal z → text ≡ word → ParsesSigned w64 10 text r → o ≡ result_ok r → o ≡ Some z
long_parsed z word text r o fits e same parses is = is ∙ ap result_ok (parse-signed_decimal w64 z text r fits fits.sfits (same ∙ e) parses)

-- ---- what is written as the word is read

pub same_text : (text word : List ℕ) → pointwise ◌==◌ text word ≡ true → word ≡ text
same_text text word e = sym ((slice_eq-Decides Decides-eqb text word (pointwise ◌==◌ text word) refl).0 e)

pub u32_read : (n : ℕ) (text word : List ℕ) → n < 2 ^ 32 → text ≡ decimal n → pointwise ◌==◌ text word ≡ true → Some n ≡ u32_token.reads word
u32_read n text word lt is e = sym (reads_it u32_token word n lt (same_text text word e ∙ is))

pub int_read : (z k : ℤ) (text word : List ℕ) → FitsSigned w32 z → k ≡ z → text ≡ signed_decimal k → pointwise ◌==◌ text word ≡ true → Some k ≡ int_token.reads word
int_read z k text word fits same is e = sym (reads_it int_token word k (subst (FitsSigned w32) (sym same) fits) (same_text text word e ∙ is))

pub long_read : (z k : ℤ) (text word : List ℕ) → FitsSigned w64 z → k ≡ z → text ≡ signed_decimal k → pointwise ◌==◌ text word ≡ true → Some k ≡ long_token.reads word
long_read z k text word fits same is e = sym (reads_it long_token word k (subst (FitsSigned w64) (sym same) fits) (same_text text word e ∙ is))
