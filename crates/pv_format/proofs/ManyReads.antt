-- Taking n items one after the other, as a loop does; and what a function that answers by an option says of a result.
use Rattle.std.proofs.Common.{◌≡◌, ℕ, suc, ◌+◌, ◌-◌, ◌≤◌, ◌<◌, List, [], ◌∷◌, ◌++◌, Option, Some, None, Result, Ok, Err, refl, sym, ap, ◌∙◌, append_assoc, arith}
use Rattle.std.specs.Result.{result_ok}
use Rattle.std.proofs.lemmas.List.{append-nil}
use Rattle.pv_format.specs.FreeGrammars.{onto, then_all, take_all}

-- the items so far, and those that are still read, are all
abbrev pub ItemsSoFar : {A : Type 0} → (List ℕ → Option (A × List ℕ)) → ℕ → List ℕ → ℕ → List A → List ℕ → Type 0
ItemsSoFar takes n bytes i front rest = onto front (take_all takes (n - i) rest) ≡ take_all takes n bytes

onto_none : {A : Type 0} (o : Option (List A × List ℕ)) → onto [] o ≡ o
onto_none (Some x) = refl
onto_none None = refl

onto_twice : {A : Type 0} (front more : List A) (o : Option (List A × List ℕ)) → onto front (onto more o) ≡ onto (front ++ more) o
onto_twice {A = A} front more (Some (xs, rest)) = ap (λ (u : List A). Some (u, rest)) (sym (append_assoc front more xs))
onto_twice front more None = refl

module _ {A : Type 0} (takes : List ℕ → Option (A × List ℕ)) (n : ℕ) (bytes : List ℕ) where
  pub items_begin : ItemsSoFar takes n bytes 0 [] bytes
  items_begin = let all : n - 0 ≡ n = omega arith in onto_none (take_all takes (n - 0) bytes) ∙ ap (λ (m : ℕ). take_all takes m bytes) all

  next : (i : ℕ) (rest : List ℕ) → i < n → take_all takes (n - i) rest ≡ then_all (takes rest) (take_all takes (n - (i + 1)))
  unfolding take_all
  next i rest lt = let left : n - i ≡ suc (n - (i + 1)) = omega arith in ap (λ (m : ℕ). take_all takes m rest) left

  pub items_more : (i : ℕ) (front : List A) (rest : List ℕ) (x : A) (after : List ℕ) → i < n → takes rest ≡ Some (x, after) → ItemsSoFar takes n bytes i front rest → ItemsSoFar takes n bytes (i + 1) (front ++ x ∷ []) after
  items_more i front rest x after lt h s =
      let others = take_all takes (n - (i + 1)) in
      sym (onto_twice front (x ∷ []) (others after)) ∙ ap (λ o. onto front (then_all o others)) (sym h) ∙ ap (onto front) (sym (next i rest lt)) ∙ s

  pub items_cut : (i : ℕ) (front : List A) (rest : List ℕ) → i < n → takes rest ≡ None → ItemsSoFar takes n bytes i front rest → take_all takes n bytes ≡ None
  items_cut i front rest lt h s = sym s ∙ ap (onto front) (next i rest lt) ∙ ap (λ o. onto front (then_all o (take_all takes (n - (i + 1))))) h

  pub items_end : (i : ℕ) (front : List A) (rest : List ℕ) → n ≤ i → ItemsSoFar takes n bytes i front rest → take_all takes n bytes ≡ Some (front, rest)
  unfolding take_all
  items_end i front rest le s = let none : n - i ≡ 0 = omega arith in sym s ∙ ap (λ (m : ℕ). onto front (take_all takes m rest)) none ∙ ap (λ (u : List A). Some (u, rest)) (append-nil front)

-- ---- results

pub ok_some : {E X : Type 0} (r : Result X E) (x : X) → result_ok r ≡ Some x → r ≡ Ok x
ok_some (Ok y) x e = ap Ok (cc)
ok_some (Err f) x e = absurd (cc)

pub ok_none : {E X : Type 0} (r : Result X E) → result_ok r ≡ None → (e : E) × (r ≡ Err e)
ok_none (Ok y) h = absurd (cc)
ok_none (Err f) h = (f, refl)
