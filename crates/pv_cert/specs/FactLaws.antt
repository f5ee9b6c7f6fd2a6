-- A number has no point in it, and two with a point between them are a word.
use Rattle.std.proofs.Common.{◌≡◌, ◌==◌, ℕ, ◌+◌, ◌%◌, ◌^◌, ◌<◌, ◌≤◌, true, false, [], ◌∷◌, ◌++◌, refl, arith}
use Rattle.std.specs.Prelude.{decimal}
use Rattle.std.specs.List.{AllByRecursion}
use Rattle.std.proofs.lemmas.Bool.{eqb-true, ne_eqb}
use Rattle.std.proofs.lemmas.Fmt.{decimal_by_steps}
use Rattle.pv_format.specs.Splits.{Separator}
use Rattle.pv_format.proofs.Cited.{all-append}
use Rattle.pv_token.specs.Words.{IsWord}
use Rattle.pv_token.proofs.Cited.{word-append, word-cons, decimal_word}

pub only_point : (b : ℕ) → (b == 46) ≡ true → b ≡ 46
only_point b e = eqb-true b 46 e

abbrev pub point : Separator ℕ
point = record { symbol = 46; is = λ b. b == 46; here = refl; only = only_point }

pub no_point : (n : ℕ) → n < 2 ^ 32 → AllByRecursion (λ b. (b == 46) ≡ false) (decimal n)
no_point n lt =
    decimal_by_steps (λ n word. AllByRecursion (λ b. (b == 46) ≡ false) word) (λ n ten. (ne_eqb (48 + n) 46 (omega arith), tt))
    (λ n word ten front. all-append (λ b. (b == 46) ≡ false) word ((48 + n % 10) ∷ []) front (ne_eqb (48 + n % 10) 46 (omega arith), tt)) n (omega arith)

pub point_word : (a b : ℕ) → a < 2 ^ 32 → b < 2 ^ 32 → IsWord (decimal a ++ 46 ∷ decimal b)
point_word a b first second = word-append (decimal a) (46 ∷ decimal b) (decimal_word a (omega arith)) (word-cons 46 (decimal b) (omega arith) (decimal_word b (omega arith)))

-- a number begins with a digit
pub digit_first : (n : ℕ) (P : ℕ → Type 0) → ((b : ℕ) → 48 ≤ b → b ≤ 57 → P b) → n < 2 ^ 32 → AllByRecursion P (decimal n)
digit_first n P digit lt =
    decimal_by_steps (λ n word. AllByRecursion P word) (λ n ten. (digit (48 + n) (omega arith) (omega arith), tt))
    (λ n word ten front. all-append P word ((48 + n % 10) ∷ []) front (digit (48 + n % 10) (omega arith) (omega arith), tt)) n (omega arith)
