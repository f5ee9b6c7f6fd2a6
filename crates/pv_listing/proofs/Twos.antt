-- Pairs of words: one that is read, and a word that is left over.
use Rattle.std.proofs.Common.{◌≡◌, ◌==◌, ℕ, ◌<◌, ◌≤◌, false, List, [], ◌∷◌, ◌++◌, length, get_or, drop, take, ◌+◌, Option, Some, None, refl, sym, ap, ◌∙◌, append_assoc, take_all, arith}
use Rattle.std.specs.Option.{option_map, option_and_then}
use Rattle.std.specs.Borrow.{Bor}
use Rattle.pv_format.specs.Reading.{read_both}
use Rattle.pv_format.specs.Seen.{texts}
use Rattle.pv_listing.specs.Cases.{read_twos}

pub twos_odd : {A B : Type 0} (first : List ℕ → Option A) (second : List ℕ → Option B) (done : List (A × B)) (words : List (Bor (List ℕ))) (r : Option (List (A × B)))
    → length words < 2 → (length words == 0) ≡ false → option_map (λ more. done ++ more) (read_twos first second (texts words)) ≡ r → None ≡ r
twos_odd first second done [] r lt some so_far = absurd (cc)
twos_odd first second done (word ∷ []) r lt some so_far = so_far
twos_odd first second done (word ∷ next ∷ words) r lt some so_far = absurd (omega arith)

-- a pair that was read is put after those before it
pair_more : {A B : Type 0} (first : List ℕ → Option A) (second : List ℕ → Option B) (done : List (A × B)) (p : A × B) (key label : List ℕ) (words : List (List ℕ)) (r : Option (List (A × B)))
    → Some p ≡ read_both first second (key, label) → option_map (λ more. done ++ more) (read_twos first second (key ∷ label ∷ words)) ≡ r → option_map (λ more. (done ++ p ∷ []) ++ more) (read_twos first second words) ≡ r
pair_more {A} {B} first second done p key label words r is so_far =
    after (read_twos first second words)
    ∙ ap (λ (q : Option (A × B)). option_map (λ more. done ++ more) (option_and_then (λ (p : A × B). option_map (λ (more : List (A × B)). p ∷ more) (read_twos first second words)) q)) is ∙ so_far
  where
    after : (o : Option (List (A × B))) → option_map (λ more. (done ++ p ∷ []) ++ more) o ≡ option_map (λ more. done ++ more) (option_map (λ more. p ∷ more) o)
    after None = refl
    after (Some more) = ap Some (append_assoc done (p ∷ []) more)

pub twos_more : {A B : Type 0} (first : List ℕ → Option A) (second : List ℕ → Option B) (done later : List (A × B)) (o : Option (A × B)) (p : A × B) (words : List (Bor (List ℕ))) (d : Bor (List ℕ)) (n : ℕ) (r : Option (List (A × B)))
    → 2 ≤ length words → length words ≤ n + 2 → o ≡ read_both first second ((get_or words 0 d).now, (get_or words 1 d).now) → o ≡ Some p → later ≡ done ++ p ∷ []
    → option_map (λ more. done ++ more) (read_twos first second (texts words)) ≡ r → option_map (λ more. later ++ more) (read_twos first second (texts (take n (drop 2 words)))) ≡ r
twos_more first second done later o p [] d n r two all is some added so_far = absurd (omega arith)
twos_more first second done later o p (word ∷ []) d n r two all is some added so_far = absurd (omega arith)
twos_more {A} {B} first second done later o p (key ∷ label ∷ words) d n r two all is some added so_far =
    ap (λ (l : List (A × B)). option_map (λ more. l ++ more) (read_twos first second (texts (take n words)))) added
    ∙ ap (λ (w : List (Bor (List ℕ))). option_map (λ more. (done ++ p ∷ []) ++ more) (read_twos first second (texts w))) (take_all n words (omega arith))
    ∙ pair_more first second done p key.now label.now (texts words) r (sym some ∙ is) so_far
