-- The texts that a grammar takes.
use Rattle.std.proofs.Common.{◌≡◌, ℕ, ◌≤◌, List, [], ◌++◌, length, refl, sym, ap, subst, ◌∙◌, append_assoc, arith}
use Rattle.std.specs.Int.{Width, from_be_bytes, to_be_bytes}
use Rattle.std.proofs.lemmas.List.{length-append, append-nil}
use Rattle.pv_format.specs.Numbers.{FitsNumber}
use Rattle.pv_format.specs.Grammars.{Grammar, give, bind, Takes, number, run}
use Rattle.pv_format.proofs.Bytes.{IsBytes, IsBytes-left, bytes_after, Then, Done, Run, Number, IsWide}
use Rattle.pv_format.proofs.GrammarReadings.{then_takes, takes_then}

-- ---- the texts of a grammar

-- what it takes are these texts, where at least `after` bytes come after
pub record IsTexts {F A : Type 0} (g : Grammar F A) (after : ℕ) (S : List ℕ → A → Type 0) : Type 0 where
  pub takes : (bytes : List ℕ) (x : A) (rest : List ℕ) → IsBytes bytes → Takes g bytes x rest → (t : List ℕ) × (bytes ≡ t ++ rest) × S t x
  pub again : (t : List ℕ) (x : A) (rest : List ℕ) → S t x → after ≤ length rest → Takes g (t ++ rest) x rest

pub same_texts : {F A : Type 0} {g : Grammar F A} {after : ℕ} {S T : List ℕ → A → Type 0} → IsTexts g after S → ((t : List ℕ) (x : A) → S t x → T t x) → ((t : List ℕ) (x : A) → T t x → S t x) → IsTexts g after T
same_texts f to from = record {
  takes = λ bytes x rest fits h. let p = f.takes bytes x rest fits h in (p.0, p.1, to p.0 x p.2);
  again = λ t x rest s le. f.again t x rest (from t x s) le;
}

pub then_texts : {F A B : Type 0} {g : Grammar F A} {k : A → Grammar F B} {after : ℕ} {S : List ℕ → A → Type 0} {T : A → List ℕ → B → Type 0} → IsTexts g after S → ((x : A) → IsTexts (k x) after (T x)) → IsTexts (bind g k) after (Then A B S T)
then_texts {g = g} {k = k} f r = record {
  takes = λ bytes y rest fits h.
      let o = then_takes g k bytes y rest h in
      let p = f.takes bytes o.0 o.1 fits o.2 in
      let q = (r o.0).takes o.1 y rest (bytes_after bytes p.0 o.1 p.1 fits) o.3 in
      (p.0 ++ q.0, p.1 ∙ ap (λ (u : List ℕ). p.0 ++ u) q.1 ∙ sym (append_assoc p.0 q.0 rest), record { first = o.0; front = p.0; back = q.0; parts = refl; fits = p.2; others = q.2 });
  again = λ t y rest s le.
      let P : List ℕ → Type 0 = λ u. Takes g u s.first (s.back ++ rest) in
      let e : t ++ rest ≡ s.front ++ (s.back ++ rest) = ap (λ (u : List ℕ). u ++ rest) s.parts ∙ append_assoc s.front s.back rest in
      let first = f.again s.front s.first (s.back ++ rest) s.fits (omega (arith, length-append s.back rest, le)) in
      takes_then g k (t ++ rest) s.first (s.back ++ rest) y rest (subst P (sym e) first) ((r s.first).again s.back y rest s.others le);
}

pub give_texts : {F A : Type 0} {after : ℕ} (y : A) → IsTexts {F = F} (give y) after (Done y)
unfolding Takes
give_texts y = record {
  takes = λ bytes x rest fits h. ([], sym h.1, (refl, h.0));
  again = λ t x rest s le. (s.1, sym (ap (λ (u : List ℕ). u ++ rest) s.0));
}

pub number_texts : {F : Type 0} (after : ℕ) (short : ℕ → F) (w : Width) → IsWide w → IsTexts (number after short w) after (Number w)
unfolding Takes
number_texts after short w wide = record {
  takes = λ bytes x rest fits h.
      let small : IsBytes h.0 = IsBytes-left h.0 h.1 (subst IsBytes h.2 fits) in
      let P : ℕ → Type 0 = λ n. FitsNumber w n in
      (h.0, h.2 ∙ ap (λ (u : List ℕ). h.0 ++ u) (sym h.5.1), (sym (wide.back h.0 h.3 small) ∙ ap (to_be_bytes w) (sym h.5.0), subst P (sym h.5.0) (wide.below h.0 small)));
  again = λ t n rest s le. (t, rest, refl, ap length s.0 ∙ wide.len n, le, (sym (ap (from_be_bytes w) s.0 ∙ wide.again n s.1), refl));
}

pub run_texts : {F : Type 0} (after : ℕ) (short : ℕ → F) (n : ℕ) → IsTexts (run after short n) after (Run n)
unfolding Takes
run_texts after short n = record {
  takes = λ bytes x rest fits h. (h.0, h.2 ∙ ap (λ (u : List ℕ). h.0 ++ u) (sym h.5.1), (sym h.5.0, ap length h.5.0 ∙ h.3));
  again = λ t x rest s le. (t, rest, refl, ap length s.0 ∙ s.1, le, (sym s.0, refl));
}

-- ---- what is made of an item

pub record Made (A B : Type 0) (S : List ℕ → A → Type 0) (make : A → B) (t : List ℕ) (y : B) : Type 0 where
  pub item : A
  pub fits : S t item
  pub is : y ≡ make item

pub made_texts : {F A B : Type 0} {g : Grammar F A} {after : ℕ} {S : List ℕ → A → Type 0} (make : A → B) → IsTexts g after S → IsTexts (bind g (λ x. give (make x))) after (Made A B S make)
made_texts {S = S} make f = same_texts (then_texts f (λ x. give_texts (make x)))
    (λ t y s.
    let e : s.front ≡ t = sym (append-nil s.front) ∙ sym (s.parts ∙ ap (λ (u : List ℕ). s.front ++ u) s.others.0) in
    record { item = s.first; fits = subst (λ (u : List ℕ). S u s.first) e s.fits; is = s.others.1 })
    (λ t y m. record { first = m.item; front = t; back = []; parts = sym (append-nil t); fits = m.fits; others = (refl, m.is) })
