-- Operands and locals, step by step as the functions find them.
use Rattle.std.proofs.Common.{◌≡◌, ℕ, zero, suc, ◌+◌, ◌≤◌, ◌<◌, true, false, List, [], ◌∷◌, ◌++◌, length, get_or, set, Option, Some, None, refl, sym, ap, ◌∙◌, arith, reverse, if◌then◌else◌}
use Rattle.pv_frame.proofs.Words.{option_map, reverse-append, length-reverse, nat_tests, Sort, fits, is_wide, Taken, with_first, taken, turned, popped, first_cleared, has_room, set_local, same, lost_before, stored}
use Rattle.pv_frame.specs.declared.sort.Sort.TheVariants as sort

-- ---- operands

-- the stack below what is taken
abbrev pub rest_of : Taken Sort → Option (List Sort)
rest_of t = option_map (λ q. q.1) t

rest_turned : (t : Taken Sort) → rest_of (turned t) ≡ rest_of t
rest_turned None = refl
rest_turned (Some q) = refl

rest_first : (s : Sort) (t : Taken Sort) → rest_of (with_first s t) ≡ rest_of t
rest_first s None = refl
rest_first s (Some q) = refl

rest_popped : (sorts stack : List Sort) → rest_of (popped same sorts stack) ≡ rest_of (taken same (reverse sorts) stack)
rest_popped sorts stack = rest_turned (taken same (reverse sorts) stack)

reverse_last : (sorts : List Sort) (s : Sort) → reverse (sorts ++ s ∷ []) ≡ s ∷ reverse sorts
reverse_last sorts s = reverse-append sorts (s ∷ [])

rest_last : (sorts : List Sort) (s : Sort) (stack : List Sort) → rest_of (popped same (sorts ++ s ∷ []) stack) ≡ rest_of (taken same (s ∷ reverse sorts) stack)
rest_last sorts s stack = rest_popped (sorts ++ s ∷ []) stack ∙ ap (λ (l : List Sort). rest_of (taken same l stack)) (reverse_last sorts s)

-- no operand is left
pub pops_none : (stack : List Sort) → rest_of (popped same [] stack) ≡ Some stack
pops_none stack = refl

-- the last operand lies on top
pub pops_last : (sorts : List Sort) (s t : Sort) (stack : List Sort) → fits t s ≡ true → rest_of (popped same (sorts ++ s ∷ []) (t ∷ stack)) ≡ rest_of (popped same sorts stack)
pops_last sorts s t stack e =
    rest_last sorts s (t ∷ stack) ∙ ap (λ b. rest_of (if b then with_first t (taken same (reverse sorts) stack) else None)) e ∙ rest_first t (taken same (reverse sorts) stack) ∙ sym (rest_popped sorts stack)

-- it doesn't
pub pops_other : (sorts : List Sort) (s t : Sort) (stack : List Sort) → fits t s ≡ false → rest_of (popped same (sorts ++ s ∷ []) (t ∷ stack)) ≡ None
pops_other sorts s t stack e = rest_last sorts s (t ∷ stack) ∙ ap (λ b. rest_of (if b then with_first t (taken same (reverse sorts) stack) else None)) e

-- nothing lies there
pub pops_short : (sorts stack : List Sort) → 1 ≤ length sorts → length stack < 1 → None ≡ rest_of (popped same sorts stack)
pops_short sorts (t ∷ stack) some none = absurd (omega arith)
pops_short sorts [] some none = sym (rest_popped sorts [] ∙ of_reverse (reverse sorts) (length-reverse sorts))
  where
    of_reverse : (l : List Sort) → length l ≡ length sorts → rest_of (taken same l []) ≡ None
    of_reverse [] e = absurd (omega arith)
    of_reverse (s ∷ l) e = refl

-- ---- locals

-- there are locals for it, so this is one
pub room_within : {A : Type 0} (k : ℕ) (s : Sort) (locals : List A) → has_room s k locals ≡ true → k < length locals
room_within k sort.Long locals e = grind (arith, nat_tests)
room_within k s locals e = grind (arith, nat_tests)

-- elements are stored, each of which has a sort, and one stands where no value is
module _ {A : Type 0} (sort_of : A → Sort) (unset : A) where
  abbrev set_at : ℕ → A → List A → List A
  set_at k x locals = set_local sort_of unset k x locals

  abbrev lost : ℕ → List A → List A
  lost k locals = lost_before sort_of unset k locals

  abbrev put : ℕ → A → List A → List A
  put k x locals = stored sort_of unset k x locals

  put_first : (x a : A) (locals : List A) → set_at zero x (a ∷ locals) ≡ put zero x (a ∷ locals)
  put_first x a [] = elim (is_wide (sort_of x)) as (λ b. x ∷ (if b then first_cleared unset [] else []) ≡ (if b then set (set (a ∷ []) zero x) (suc zero) unset else set (a ∷ []) zero x)) [ true ↦ refl | false ↦ refl ]
  put_first x a (t ∷ locals) =
      elim (is_wide (sort_of x)) as (λ b. x ∷ (if b then first_cleared unset (t ∷ locals) else t ∷ locals) ≡ (if b then set (set (a ∷ t ∷ locals) zero x) (suc zero) unset else set (a ∷ t ∷ locals) zero x)) [ true ↦ refl | false ↦ refl ]

  put_after : (k : ℕ) (x a : A) (locals : List A) → a ∷ put k x locals ≡ put (suc k) x (a ∷ locals)
  put_after k x a locals = elim (is_wide (sort_of x)) as (λ b. a ∷ (if b then set (set locals k x) (suc k) unset else set locals k x) ≡ (if b then set (set (a ∷ locals) (suc k) x) (suc (suc k)) unset else set (a ∷ locals) (suc k) x)) [ true ↦ refl | false ↦ refl ]

  lost_after : (k : ℕ) (a : A) (locals : List A) → a ∷ lost (suc k) locals ≡ lost (suc (suc k)) (a ∷ locals)
  lost_after k a locals = elim (is_wide (sort_of (get_or locals k unset))) as (λ b. a ∷ (if b then set locals k unset else locals) ≡ (if b then set (a ∷ locals) (suc k) unset else a ∷ locals)) [ true ↦ refl | false ↦ refl ]

  lost_first : (a : A) (locals : List A) → (if is_wide (sort_of a) then unset else a) ∷ locals ≡ lost (suc zero) (a ∷ locals)
  lost_first a locals = elim (is_wide (sort_of a)) as (λ b. (if b then unset else a) ∷ locals ≡ (if b then unset ∷ locals else a ∷ locals)) [ true ↦ refl | false ↦ refl ]

  -- the steps of a store
  set_local_steps : (k : ℕ) (x : A) (locals : List A) → k < length locals → set_at k x locals ≡ put k x (lost k locals)
  set_local_steps k x [] room = absurd (omega arith)
  set_local_steps zero x (a ∷ locals) room = put_first x a locals
  set_local_steps (suc zero) x (a ∷ locals) room =
      let b : A = if is_wide (sort_of a) then unset else a in
      ap (λ (l : List A). b ∷ l) (set_local_steps zero x locals (omega arith)) ∙ put_after zero x b locals ∙ ap (put (suc zero) x) (lost_first a locals)
  set_local_steps (suc (suc k)) x (a ∷ locals) room =
      ap (λ (l : List A). a ∷ l) (set_local_steps (suc k) x locals (omega arith)) ∙ put_after (suc k) x a (lost (suc k) locals) ∙ ap (put (suc (suc k)) x) (lost_after k a locals)

  -- a store, from its last step on
  pub set_local_is : (k : ℕ) (x : A) (locals before after : List A) → has_room (sort_of x) k locals ≡ true → before ≡ lost k locals → after ≡ put k x before → after ≡ set_at k x locals
  set_local_is k x locals before after room gone is = is ∙ ap (put k x) gone ∙ sym (set_local_steps k x locals (room_within k (sort_of x) locals room))

pub stored_wide : (k : ℕ) (s : Sort) (locals : List Sort) → is_wide s ≡ true → set (set locals k s) (k + 1) sort.Unknown ≡ stored same sort.Unknown k s locals
stored_wide k s locals e = let one : k + 1 ≡ suc k = omega arith in ap (λ i. set (set locals k s) i sort.Unknown) one ∙ sym (ap (λ b. if b then set (set locals k s) (suc k) sort.Unknown else set locals k s) e)

pub stored_narrow : (k : ℕ) (s : Sort) (locals : List Sort) → is_wide s ≡ false → set locals k s ≡ stored same sort.Unknown k s locals
stored_narrow k s locals e = sym (ap (λ b. if b then set (set locals k s) (suc k) sort.Unknown else set locals k s) e)
