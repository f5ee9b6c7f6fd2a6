-- No word of a congruence is a semicolon.
use Rattle.std.proofs.Common.{◌≡◌, ◌≢◌, ℕ, ◌^◌, ◌<◌, ◌≤◌, Bool, true, false, subst, map, List, [], ◌∷◌, refl, arith}
use Rattle.std.specs.Prelude.{codes, decimal}
use Rattle.std.specs.List.{AllByRecursion}
use Rattle.std.specs.Str.{bytes_eq}
use Rattle.std.proofs.lemmas.Slice.Eq.{bytes_eq-Decides}
use Rattle.pv_steps.specs.declared.step.Reason.{Reason}
use Rattle.pv_steps.specs.declared.step.Congruence.{Congruence}
use Rattle.pv_format.specs.Splits.{join, Separator, AreParts}
use Rattle.pv_format.specs.Combinators.{each}
use Rattle.pv_format.proofs.Cited.{all-append, map_some}
use Rattle.pv_token.specs.Words.{IsWord, AreWords}
use Rattle.pv_cert.specs.FactLaws.{digit_first}
use Rattle.pv_cert.specs.ReasonLaws.{other_word}
use Rattle.pv_cert.specs.Sets.{set_reason_token, congruence}

pub only_semicolon : (word : List ℕ) → bytes_eq word (codes ";") ≡ true → word ≡ codes ";"
only_semicolon word e = (bytes_eq-Decides word (codes ";")).0 e

abbrev pub semicolon : Separator (List ℕ)
semicolon = record { symbol = codes ";"; is = λ word. bytes_eq word (codes ";"); here = refl; only = only_semicolon }

-- parts without semicolons, of words
abbrev pub AreApart : List (List (List ℕ)) → Type 0
AreApart parts = AreParts semicolon parts × AllByRecursion AreWords parts

reasons_apart : (rs : List Reason) → AllByRecursion set_reason_token.fits rs → AllByRecursion (λ word. bytes_eq word (codes ";") ≡ false) (map set_reason_token.spells rs)
reasons_apart [] fits = tt
reasons_apart (r ∷ rs) fits = (other_word set_reason_token (codes ";") refl r fits.0, reasons_apart rs fits.1)

number_apart : (n : ℕ) → n < 2 ^ 32 → bytes_eq (decimal n) (codes ";") ≡ false
number_apart n lt = by_test (bytes_eq (decimal n) (codes ";")) refl
  where
    by_test : (t : Bool) → bytes_eq (decimal n) (codes ";") ≡ t → t ≡ false
    by_test true e =
        let all = subst (λ (word : List ℕ). AllByRecursion (λ b. b ≤ 57) word) ((bytes_eq-Decides (decimal n) (codes ";")).0 e) (digit_first n (λ b. b ≤ 57) (λ b low high. high) lt) in
        let high : 59 ≤ 57 = all.0 in
        absurd (omega arith)
    by_test false e = refl

congruence_apart : (c : Congruence) → congruence.fits c → AllByRecursion (λ word. bytes_eq word (codes ";") ≡ false) (congruence.spells c)
congruence_apart c fits = (number_apart c.left fits.0, (number_apart c.right fits.1.0, reasons_apart c.reasons fits.1.1))

all_apart : (list : List Congruence) → AllByRecursion congruence.fits list → AllByRecursion (λ part. AllByRecursion (λ word. bytes_eq word (codes ";") ≡ false) part) (map congruence.spells list)
all_apart [] fits = tt
all_apart (c ∷ list) fits = (congruence_apart c fits.0, all_apart list fits.1)

pub apart : (list : List Congruence) → (list ≢ []) × AllByRecursion congruence.fits list → AreApart (map congruence.spells list)
apart list fits = (record { some = map_some congruence.spells list fits.0; apart = all_apart list fits.1 }, (each congruence).proper list fits.1)

joined : (parts : List (List (List ℕ))) → AllByRecursion AreWords parts → AreWords (join (codes ";") parts)
joined [] are = tt
joined (part ∷ []) are = are.0
joined (part ∷ next ∷ parts) are = all-append IsWord part (codes ";" ∷ join (codes ";") (next ∷ parts)) are.0 (refl, joined (next ∷ parts) are.1)

pub words : (parts : List (List (List ℕ))) → AreApart parts → AreWords (join (codes ";") parts)
words parts are = joined parts are.1
