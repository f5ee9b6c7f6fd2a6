-- The first steps of a section.
use Rattle.std.specs.Prelude.{◌≡◌, ℕ, zero, suc, ◌≤◌, List, [], ◌∷◌, ◌++◌, length, reverse, take, drop, Some, slice_get, refl}
use Rattle.std.proofs.Common.{sym, ap, ◌∙◌, arith, take_all, append_assoc, subst}
use Rattle.std.proofs.lemmas.List.{reverse-append, reverse-reverse, length-reverse, take-append-le, take-append-drop, append-nil, length-take-le}
use Rattle.pv_steps.specs.declared.step.Step.{Step}
use Rattle.pv_steps.specs.Accepted.{first_steps}

-- the section begins with these steps, of which the last one stands first here
pub record IsFront (before section : List Step) : Type 0 where
  pub rest : List Step
  pub split : section ≡ reverse before ++ rest

-- a step moved from those to come to those so far
moved : (before : List Step) (s : Step) (rest : List Step) → reverse (s ∷ before) ++ rest ≡ reverse before ++ s ∷ rest
moved before s rest = ap (λ (q : List Step). q ++ rest) (reverse-append (s ∷ []) before) ∙ append_assoc (reverse before) (s ∷ []) rest

pub front_tail : (s : Step) (before section : List Step) → IsFront (s ∷ before) section → IsFront before section
front_tail s before section h = record { rest = s ∷ h.rest; split = h.split ∙ moved before s h.rest }

pub front_of : (later earlier section : List Step) → IsFront (later ++ earlier) section → IsFront earlier section
front_of [] earlier section h = h
front_of (t ∷ later) earlier section h = front_of later earlier section (front_tail t (later ++ earlier) section h)

pub first_front : (n : ℕ) (section : List Step) → IsFront (first_steps n section) section
first_front n section = record {
  rest = drop n section;
  split = sym (ap (λ (q : List Step). q ++ drop n section) (reverse-reverse (take n section)) ∙ take-append-drop n section);
}

pub count_first : (n : ℕ) (section : List Step) → n ≤ length section → length (first_steps n section) ≡ n
count_first n section low = length-reverse (take n section) ∙ length-take-le n section low

pub whole_front : (section : List Step) → IsFront (reverse section) section
whole_front section = record { rest = []; split = sym (append-nil (reverse (reverse section)) ∙ reverse-reverse section) }

-- so they are its first steps
pub front_is : (before section : List Step) → IsFront before section → first_steps (length before) section ≡ before
front_is before section h =
    let n : length (reverse before) ≡ length before = length-reverse before in
    ap (λ (q : List Step). reverse (take (length before) q)) h.split
    ∙ ap reverse (take-append-le (length before) (reverse before) h.rest (omega (arith, n)) ∙ take_all (length before) (reverse before) (omega (arith, n)))
    ∙ reverse-reverse before

at_end : (xs : List Step) (y : Step) (ys : List Step) → slice_get (xs ++ y ∷ ys) (length xs) ≡ Some y
at_end [] y ys = refl
at_end (x ∷ xs) y ys = at_end xs y ys

pub front_last : (s : Step) (before section : List Step) → IsFront (s ∷ before) section → slice_get section (length before) ≡ Some s
front_last s before section h =
    ap (λ (q : List Step). slice_get q (length before)) (h.split ∙ moved before s h.rest)
    ∙ ap (slice_get (reverse before ++ s ∷ h.rest)) (sym (length-reverse before))
    ∙ at_end (reverse before) s h.rest

pub front_within : (before section : List Step) → IsFront before section → length before ≤ length section
front_within before section h = go h.rest (ap length h.split) (length-reverse before)
  where
    go : (rest : List Step) → length section ≡ length (reverse before ++ rest) → length (reverse before) ≡ length before → length before ≤ length section
    go rest e f = let z = longer (reverse before) rest in omega (arith, e, f, z)
      where
        longer : (xs ys : List Step) → length xs ≤ length (xs ++ ys)
        longer [] ys = omega arith
        longer (x ∷ xs) ys = let z = longer xs ys in omega (arith, z)

-- the steps around one of them
pub record HasAt (section : List Step) (k : ℕ) (s : Step) : Type 0 where
  pub later : List Step
  pub whole : reverse section ≡ later ++ s ∷ first_steps k section
  pub count : length (first_steps k section) ≡ k

split_at : (xs : List Step) (k : ℕ) (s : Step) → slice_get xs k ≡ Some s → (ys : List Step) × (xs ≡ take k xs ++ s ∷ ys) × (length (take k xs) ≡ k)
split_at [] k s e = absurd (cc)
split_at (x ∷ xs) zero s e = let y : x ≡ s = cc in (xs, ap (λ (q : Step). q ∷ xs) y, refl)
split_at (x ∷ xs) (suc k) s e = let h = split_at xs k s e in (h.0, ap (λ (q : List Step). x ∷ q) h.1, ap suc h.2)

pub has_at : (section : List Step) (k : ℕ) (s : Step) → slice_get section k ≡ Some s → HasAt section k s
has_at section k s e =
    let h = split_at section k s e in
    record {
      later = reverse h.0;
      whole = ap reverse h.1 ∙ reverse-append (take k section) (s ∷ h.0) ∙ ap (λ (q : List Step). q ++ first_steps k section) (reverse-append (s ∷ []) h.0) ∙ append_assoc (reverse h.0) (s ∷ []) (first_steps k section);
      count = length-reverse (take k section) ∙ h.2;
    }

pub next_first : (section : List Step) (k : ℕ) (s : Step) → slice_get section k ≡ Some s → first_steps (suc k) section ≡ s ∷ first_steps k section
next_first section k s e =
    let h = has_at section k s e in
    let f = front_of h.later (s ∷ first_steps k section) section (subst (λ (q : List Step). IsFront q section) h.whole (whole_front section)) in
    ap (λ (n : ℕ). first_steps (suc n) section) (sym h.count) ∙ front_is (s ∷ first_steps k section) section f
