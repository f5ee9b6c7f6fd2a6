-- The places where blocks begin, numbered place by place.
use Rattle.std.proofs.Common.{◌≡◌, ℕ, zero, suc, ◌+◌, ◌<◌, Bool, true, false, List, [], ◌∷◌, ◌++◌, length, get_or, Option, Some, None, refl, sym, ap, ◌∙◌, subst, inl, inr, arith}
use Rattle.std.specs.Prelude.{◌⊎◌, is_some, slice_get}
use Rattle.std.proofs.lemmas.Bool.{cases_lt, false≢true}
use Rattle.std.proofs.lemmas.List.{length_push, get_or_append_left, get_or_push}
use Rattle.std.proofs.lemmas.Option.{slice_get_within, slice_get-get_or, slice_get_read, get_or_from_slice_get}
use Rattle.pv_list.proofs.Cited.{get_last}
use Rattle.pv_frame.specs.declared.frame.Frame.{Frame}
use Rattle.pv_frame.proofs.Cited.{some_of, no_some}
use Rattle.pv_flow.specs.Finding.{IsHead, AreHeads}

-- ---- an element at the end of a list

pub get_before : {A : Type 0} (xs ys : List A) (m : ℕ) (x : A) → slice_get xs m ≡ Some x → slice_get (xs ++ ys) m ≡ Some x
get_before [] ys m x is = no_some x is
get_before (y ∷ xs) ys zero x is = is
get_before (y ∷ xs) ys (suc m) x is = get_before xs ys m x is

pub get_push_cases : {A : Type 0} (xs : List A) (x : A) (m : ℕ) (y : A) → slice_get (xs ++ x ∷ []) m ≡ Some y → (slice_get xs m ≡ Some y) ⊎ ((m ≡ length xs) × (x ≡ y))
get_push_cases [] x zero y is = inr (refl, some_of x y is)
get_push_cases [] x (suc m) y is = no_some y is
get_push_cases (z ∷ xs) x zero y is = inl is
get_push_cases (z ∷ xs) x (suc m) y is = elim (get_push_cases xs x m y is) [ inl was ↦ inl was | inr last ↦ inr (ap suc last.0, last.1) ]

-- ---- whether a block begins at a place that is reached

module _ (begins : List Bool) (frames : List (Option Frame)) (n : ℕ) (slot : Option Frame) (marks : length begins ≡ suc (length frames)) (lt : n < length frames) (is : slot ≡ get_or frames n slot) where
  some_frame : (o : Option Frame) → is_some o ≡ true → o ≡ slot → (f : Frame) × (slot ≡ Some f)
  some_frame None some e = absurd (cc)
  some_frame (Some f) some e = (f, sym e)

  pub is_head : get_or begins n false ≡ true → is_some slot ≡ true → IsHead begins frames n
  is_head marked some =
      let f = some_frame slot some refl in
      record {
        begin = slice_get-get_or begins n false (omega arith) ∙ ap Some marked;
        frame = f.0;
        there = slice_get_read frames (length frames) n slot refl lt is ∙ ap Some f.1;
      }

  pub no_mark : get_or begins n false ≡ false → IsHead begins frames n → ⊥
  no_mark unmarked head = false≢true (sym unmarked ∙ get_or_from_slice_get begins n true false head.begin)

  pub no_frame : is_some slot ≡ false → IsHead begins frames n → ⊥
  no_frame none head =
      let same = some_of slot (Some head.frame) (sym (slice_get_read frames (length frames) n slot refl lt is) ∙ head.there) in
      false≢true (sym none ∙ ap is_some same)

-- ---- one place more

pub heads_none : (begins : List Bool) (frames : List (Option Frame)) → AreHeads begins frames 0 [] []
heads_none begins frames = record {
  one_each = refl;
  few = omega arith;
  each = λ m k is. no_some k is;
  below = λ m k is. no_some k is;
  ascend = λ l m j k lt left right. no_some j left;
  all = λ k lt head. absurd (omega arith);
}

module _ (begins : List Bool) (frames : List (Option Frame)) (n : ℕ) (places numbers : List ℕ) (s : AreHeads begins frames n places numbers) where
  old_number : (k v : ℕ) → k < n → get_or (numbers ++ v ∷ []) k 0 ≡ get_or numbers k 0
  old_number k v lt = get_or_append_left numbers (v ∷ []) 0 k (omega (arith, s.one_each))

  -- no block that is reached begins there
  pub heads_on : (IsHead begins frames n → ⊥) → AreHeads begins frames (n + 1) places (numbers ++ length places ∷ [])
  heads_on none = record {
    one_each = length_push numbers (length places) ∙ ap (λ (i : ℕ). i + 1) s.one_each;
    few = omega (arith, s.few);
    each = s.each;
    below = λ m k is. omega (arith, s.below m k is);
    ascend = s.ascend;
    all = λ k lt head. elim (cases_lt k n) [
      | inl less ↦ ap (slice_get places) (old_number k (length places) less) ∙ s.all k less head
      | inr ge ↦ let e : k ≡ n = omega arith in absurd (none (subst (IsHead begins frames) e head))
    ];
  }

  new_number : get_or (numbers ++ length places ∷ []) n 0 ≡ length places
  new_number = get_or_push numbers (length places) 0 n s.one_each

  -- one does
  pub heads_more : IsHead begins frames n → AreHeads begins frames (n + 1) (places ++ n ∷ []) (numbers ++ length places ∷ [])
  heads_more here = record {
    one_each = length_push numbers (length places) ∙ ap (λ (i : ℕ). i + 1) s.one_each;
    few = omega (arith, s.few, length_push places n);
    each = λ m k is. elim (get_push_cases places n m k is) [ inl was ↦ s.each m k was | inr last ↦ subst (IsHead begins frames) last.1 here ];
    below = λ m k is. elim (get_push_cases places n m k is) [ inl was ↦ omega (arith, s.below m k was) | inr last ↦ omega (arith, last.1) ];
    ascend = λ l m j k lt left right. elim (get_push_cases places n m k right) [
      | inl was ↦
          let within = slice_get_within places m k was in
          elim (get_push_cases places n l j left) [ inl was_left ↦ s.ascend l m j k lt was_left was | inr last ↦ absurd (omega (arith, last.0)) ]
      | inr last ↦ elim (get_push_cases places n l j left) [
        | inl was_left ↦ omega (arith, s.below l j was_left, last.1)
        | inr also ↦ absurd (omega (arith, also.0, last.0))
      ]
    ];
    all = λ k lt head. elim (cases_lt k n) [
      | inl less ↦ get_before places (n ∷ []) (get_or (numbers ++ length places ∷ []) k 0) k (ap (slice_get places) (old_number k (length places) less) ∙ s.all k less head)
      | inr ge ↦
          let e : k ≡ n = omega arith in
          subst (λ (i : ℕ). slice_get (places ++ n ∷ []) (get_or (numbers ++ length places ∷ []) i 0) ≡ Some i) (sym e)
          (ap (slice_get (places ++ n ∷ [])) new_number ∙ get_last places n)
    ];
  }
