-- A text spells one number at most.
use Rattle.std.proofs.Common.{◌≡◌, ℕ, ◌<◌, ◌≤◌, ◌^◌, List, Option, Some, None, Result, sym, ap, ◌∙◌, arith}
use Rattle.std.specs.Prelude.{decimal}
use Rattle.std.specs.Result.{result_ok}
use Rattle.std.specs.Str.Parse.{ParsesUnsigned}
use Rattle.std.proofs.lemmas.Fmt.{decimal_injective, parse-decimal}
use Rattle.pv_format.proofs.Cited.{reads_it}
use Rattle.pv_token.specs.Tokens.{u32_token}
use Rattle.pv_words.specs.Numbers.{IsNumber}

number_read : (least greatest : ℕ) (text : List ℕ) (n : ℕ) → greatest < 2 ^ 32 → IsNumber least greatest text n → u32_token.reads text ≡ Some n
number_read least greatest text n lt is = reads_it u32_token text n (omega (arith, is.at_most)) is.spelled

pub no_number : (least greatest : ℕ) (text : List ℕ) → greatest < 2 ^ 32 → u32_token.reads text ≡ None → (n : ℕ) → IsNumber least greatest text n → ⊥
no_number least greatest text lt none n is = let read = number_read least greatest text n lt is in cc

pub number_between : (least greatest k : ℕ) (text : List ℕ) (n : ℕ) → greatest < 2 ^ 32 → u32_token.reads text ≡ Some k → IsNumber least greatest text n → n ≡ k
number_between least greatest k text n lt some is = let read = number_read least greatest text n lt is in cc

pub one_number : (least greatest : ℕ) (text : List ℕ) (m n : ℕ) → greatest < 2 ^ 32 → IsNumber least greatest text m → IsNumber least greatest text n → m ≡ n
one_number least greatest text m n lt one other = number_between least greatest n text m lt (number_read least greatest text n lt other) one

-- ---- numbers of 64 bits

pub wide_parsed : {E : Type 0} (n : ℕ) (text : List ℕ) (r : Result ℕ E) (o : Option ℕ) → n < 2 ^ 64 → text ≡ decimal n → ParsesUnsigned 64 10 text r → o ≡ result_ok r → o ≡ Some n
wide_parsed n text r o lt e parses is = is ∙ ap result_ok (parse-decimal 64 n text r lt lt e parses)

pub one_wide : (least greatest : ℕ) (text : List ℕ) (m n : ℕ) → greatest < 2 ^ 64 → IsNumber least greatest text m → IsNumber least greatest text n → m ≡ n
one_wide least greatest text m n lt p q = decimal_injective m n (omega (arith, lt, p.at_most)) (omega (arith, lt, q.at_most)) (sym p.spelled ∙ q.spelled)
