-- What tests tell.
use Rattle.std.proofs.Common.{◌≡◌, ◌≢◌, ◌==◌, ◌↔◌, ℕ, ◌<◌, ◌+◌, ◌-◌, Bool, true, false, List, [], ◌∷◌, ◌++◌, length, drop, take, Option, Some, None, is_some, MatchOption, refl, sym, ap, subst, ◌∙◌, arith}
use Rattle.std.specs.Prelude.{ℤ}
use Rattle.std.specs.Cmp.Lexicographic.{pointwise}
use Rattle.std.proofs.lemmas.Bool.Decides.{Decides-eqb}
use Rattle.std.proofs.lemmas.Slice.Eq.{strip_suffix_is}
use Rattle.std.specs.Borrow.{Bor}
use Rattle.std.specs.Option.{option_map}
use Rattle.pv_listing.specs.Operands.{ascend}
use Rattle.pv_listing.specs.WordReading.{before_colon}
use Rattle.pv_listing.specs.WordLaws.{colon_again, colon_back}

-- a reader that finds what stands there tells whether there is something
pub tells_found : {A : Type 0} (b : Bool) (P : A → Type 0) (o : Option A) → ((b ≡ true) ↔ ((a : A) × P a)) → MatchOption o ((a : A) → P a → ⊥) P → is_some o ≡ b
tells_found b P (Some a) law there = sym (law.1 (a, there))
tells_found true P None law none = let f = law.0 refl in absurd (none f.0 f.1)
tells_found false P None law none = refl

-- fewer than two keys ascend
pub few_ascend : (pairs : List (ℤ × List ℕ)) → length pairs < 2 → true ≡ ascend pairs
few_ascend [] few = refl
few_ascend (p ∷ []) few = refl
few_ascend (p ∷ q ∷ pairs) few = absurd (omega arith)

-- what stands before the colon at the end
colon_there : (word : List ℕ) (o : Option (Bor (List ℕ))) → MatchOption o ((front : List ℕ) → word ≢ front ++ 58 ∷ []) (λ x. word ≡ x.now ++ 58 ∷ []) → option_map (λ front. front.now) o ≡ before_colon word
colon_there word (Some x) is = sym (ap before_colon is ∙ colon_again x.now)
colon_there word None none = by_found (before_colon word) refl
  where
    by_found : (found : Option (List ℕ)) → before_colon word ≡ found → None ≡ found
    by_found None e = refl
    by_found (Some front) e = absurd (none front (colon_back word front e))

pub colon_found : (word suffix : List ℕ) (o : Option (Bor (List ℕ))) → suffix ≡ 58 ∷ []
    → MatchOption o (pointwise ◌==◌ (drop (length word - length suffix) word) suffix ≡ false) (λ x. (pointwise ◌==◌ (drop (length word - length suffix) word) suffix ≡ true) × (x.now ≡ take (length word - length suffix) word) × (length x.now + length suffix ≡ length word))
    → option_map (λ front. front.now) o ≡ before_colon word
colon_found word suffix o is m = colon_there word o (subst (λ (s : List ℕ). MatchOption o ((front : List ℕ) → word ≢ front ++ s) (λ x. word ≡ x.now ++ s)) is (strip_suffix_is Decides-eqb word suffix o m))
