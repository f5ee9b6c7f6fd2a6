-- What words are cut into, as texts.
use Rattle.std.proofs.Common.{◌≡◌, ℕ, Bool, true, false, cond, List, [], ◌∷◌, map, Result, Ok, Err, refl, ap, ◌∙◌}
use Rattle.std.specs.Prelude.{IfOk}
use Rattle.std.specs.Borrow.{Bor}
use Rattle.std.specs.Global.{Vec}
use Rattle.std.specs.List.{slice_split, onto_first}
use Rattle.pv_format.specs.Seen.{texts}

pub texts_each : (parts : List (Bor (List (Bor (List ℕ))))) → map (λ part. texts part.now) parts ≡ map texts (map (λ part. part.now) parts)
texts_each [] = refl
texts_each (part ∷ parts) = ap (λ (r : List (List (List ℕ))). texts part.now ∷ r) (texts_each parts)

onto_texts : (w : Bor (List ℕ)) (parts : List (List (Bor (List ℕ)))) → map texts (onto_first w parts) ≡ onto_first w.now (map texts parts)
onto_texts w [] = refl
onto_texts w (part ∷ parts) = refl

step : (b : Bool) (w : Bor (List ℕ)) (parts : List (List (Bor (List ℕ)))) (r : List (List (List ℕ))) → map texts parts ≡ r → map texts (cond b ([] ∷ parts) (onto_first w parts)) ≡ cond b ([] ∷ r) (onto_first w.now r)
step true w parts r e = ap (λ (r : List (List (List ℕ))). [] ∷ r) e
step false w parts r e = onto_texts w parts ∙ ap (onto_first w.now) e

pub texts_split : (test : List ℕ → Bool) (words : List (Bor (List ℕ))) → map texts (slice_split (λ w. test w.now) words) ≡ slice_split test (texts words)
texts_split test [] = refl
texts_split test (w ∷ words) = step (test w.now) w (slice_split (λ w. test w.now) words) (slice_split test (texts words)) (texts_split test words)

pub collected : {E : Type 0} (test : List ℕ → Bool) (words : List (Bor (List ℕ))) (r : Result (Vec (Bor (List (Bor (List ℕ))))) E)
    → IfOk r (λ v. map (λ part. part.now) v.items ≡ slice_split (λ w. test w.now) words) → IfOk r (λ v. map (λ part. texts part.now) v.items ≡ slice_split test (texts words))
collected test words (Ok v) e = texts_each v.items ∙ ap (map texts) e ∙ texts_split test words
collected test words (Err f) e = tt
