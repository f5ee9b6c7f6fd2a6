-- Facts and reasons are read exactly where they are spelled so, and are words.
use Rattle.std.proofs.Common.{◌≡◌, ◌==◌, ℕ, ◌^◌, ◌<◌, Bool, true, false, eqb, List, [], ◌∷◌, ◌++◌, Some, None, refl, ap, subst, ◌∙◌, arith, inl, inr}
use Rattle.std.specs.Prelude.{codes, decimal}
use Rattle.std.specs.Option.{option_map}
use Rattle.std.specs.List.{AllByRecursion}
use Rattle.std.specs.Str.{bytes_eq}
use Rattle.std.proofs.lemmas.Bool.{eqb-true, ne_eqb, cond-false}
use Rattle.std.proofs.lemmas.Slice.Eq.{bytes_eq-Decides}
use Rattle.pv_steps.specs.declared.step.Fact.{Fact}
use Rattle.pv_steps.specs.declared.step.Reason.{Reason}
use Rattle.pv_steps.specs.declared.step.Reason.TheVariants.{Same, By, Pair}
use Rattle.pv_format.specs.Formats.{Format}
use Rattle.pv_format.proofs.Cited.{some_is, mapped, chosen}
use Rattle.pv_token.specs.Words.{IsWord}
use Rattle.pv_token.proofs.Cited.{word-cons, decimal_word}
use Rattle.pv_token.specs.Tokens.{u32_token}
use Rattle.pv_cert.specs.FactLaws.{digit_first}
use Rattle.pv_cert.specs.Reasons.{fact_token, spelled_reason, ReasonFits, ReasonFitsInSet, read_reason, read_reason_in_set}

-- a word that isn't read is not the word of a value that is
pub other_word : {A : Type 0} {P : List ℕ → Type 0} (w : Format P A) (word : List ℕ) → w.reads word ≡ None → (a : A) → w.fits a → bytes_eq (w.spells a) word ≡ false
other_word w word none a fits = by_test (bytes_eq (w.spells a) word) refl
  where
    by_test : (t : Bool) → bytes_eq (w.spells a) word ≡ t → t ≡ false
    by_test true t = let is = ap w.reads ((bytes_eq-Decides (w.spells a) word).0 t) in let read = w.again a fits in absurd (cc)
    by_test false t = refl

by_again : (f : Fact) → fact_token.fits f → read_reason (fact_token.spells f) ≡ Some (By f)
by_again f fits =
    cond-false (bytes_eq (fact_token.spells f) (codes "=")) (Some Same) (option_map By (fact_token.reads (fact_token.spells f))) (other_word fact_token (codes "=") refl f fits)
    ∙ ap (option_map By) (fact_token.again f fits)

pub reason_again : (r : Reason) → ReasonFits r → read_reason (spelled_reason r) ≡ Some r
reason_again Same fits = refl
reason_again (By f) fits = by_again f fits
reason_again (Pair j) fits = absurd fits

pub reason_back : (word : List ℕ) (r : Reason) → read_reason word ≡ Some r → ReasonFits r × (word ≡ spelled_reason r)
reason_back word r e =
    elim (chosen (bytes_eq word (codes "=")) (Some Same) (option_map By (fact_token.reads word)) r e) [
      | inl same ↦ subst (λ (r : Reason). ReasonFits r × (word ≡ spelled_reason r)) (some_is (Some Same) Same r refl same.1) (tt, (bytes_eq-Decides word (codes "=")).0 same.0)
      | inr other ↦
          let m = mapped (fact_token.reads word) By r other.1 in
          subst (λ (r : Reason). ReasonFits r × (word ≡ spelled_reason r)) m.2 (fact_token.back word m.0 m.1)
    ]

pub in_set_word : (r : Reason) → ReasonFitsInSet r → IsWord (spelled_reason r)
in_set_word Same fits = refl
in_set_word (By f) fits = fact_token.proper f fits
in_set_word (Pair j) fits = let lt : j < 2 ^ 32 = fits in word-cons 115 (decimal j) (omega arith) (decimal_word j (omega arith))

pub fits_in_set : (r : Reason) → ReasonFits r → ReasonFitsInSet r
fits_in_set Same fits = fits
fits_in_set (By f) fits = fits
fits_in_set (Pair j) fits = absurd fits

pub reason_word : (r : Reason) → ReasonFits r → IsWord (spelled_reason r)
reason_word r fits = in_set_word r (fits_in_set r fits)

digit_before : (front back : List ℕ) → AllByRecursion (λ b. (b == 115) ≡ false) front → read_reason_in_set (front ++ 46 ∷ back) ≡ read_reason (front ++ 46 ∷ back)
digit_before [] back digits = refl
digit_before (b ∷ front) back digits = cond-false (eqb b 115) (option_map Pair (u32_token.reads (front ++ 46 ∷ back))) (read_reason (b ∷ (front ++ 46 ∷ back))) digits.0

pub in_set_again : (r : Reason) → ReasonFitsInSet r → read_reason_in_set (spelled_reason r) ≡ Some r
in_set_again Same fits = refl
in_set_again (By f) fits = digit_before (decimal f.step) (decimal f.place) (digit_first f.step (λ b. (b == 115) ≡ false) (λ b low high. ne_eqb b 115 (omega arith)) fits.0) ∙ by_again f fits
in_set_again (Pair j) fits = ap (option_map Pair) (u32_token.again j fits)

pub in_set_back : (word : List ℕ) (r : Reason) → read_reason_in_set word ≡ Some r → ReasonFitsInSet r × (word ≡ spelled_reason r)
in_set_back [] r e = absurd (cc)
in_set_back (b ∷ word) r e =
    elim (chosen (eqb b 115) (option_map Pair (u32_token.reads word)) (read_reason (b ∷ word)) r e) [
      | inl pair ↦
          let m = mapped (u32_token.reads word) Pair r pair.1 in
          let k = u32_token.back word m.0 m.1 in
          subst (λ (r : Reason). ReasonFitsInSet r × (b ∷ word ≡ spelled_reason r)) m.2 (k.0, ap (λ (x : ℕ). x ∷ word) (eqb-true b 115 pair.0) ∙ ap (λ (t : List ℕ). 115 ∷ t) k.1)
      | inr other ↦ let k = reason_back (b ∷ word) r other.1 in (fits_in_set r k.0, k.1)
    ]
