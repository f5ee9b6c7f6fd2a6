-- Operands and locals of cells, step by step as the functions find them.
use Rattle.std.proofs.Common.{◌≡◌, ℕ, zero, suc, ◌+◌, ◌≤◌, ◌<◌, Bool, true, false, List, [], ◌∷◌, ◌++◌, length, take, get_or, set, Option, Some, None, refl, sym, ap, subst, ◌∙◌, arith}
use Rattle.pv_block.proofs.Words.{reverse, if◌then◌else◌, reverse-append, length-reverse, some_of, no_some, Sort, fits, is_wide, Taken, with_first, turned, popped, first_cleared, has_room, set_local, Cell, sort_in, lost_before, stored}
use Rattle.std.specs.Option.{option_map}
use Rattle.std.proofs.lemmas.Bool.Decides.{nat_tests}
use Rattle.pv_frame.specs.declared.sort.Sort.TheVariants as sort
use Rattle.pv_frame.specs.Stacks.{taken}

-- ---- operands

-- the stack below what is taken
abbrev pub rest_of : Taken Cell → Option (List Cell)
rest_of t = option_map (λ q. q.1) t

rest_turned : (t : Taken Cell) → rest_of (turned t) ≡ rest_of t
rest_turned None = refl
rest_turned (Some q) = refl

rest_first : (s : Cell) (t : Taken Cell) → rest_of (with_first s t) ≡ rest_of t
rest_first s None = refl
rest_first s (Some q) = refl

rest_popped : (sorts : List Sort) (stack : List Cell) → rest_of (popped sort_in sorts stack) ≡ rest_of (taken sort_in (reverse sorts) stack)
rest_popped sorts stack = rest_turned (taken sort_in (reverse sorts) stack)

reverse_last : (sorts : List Sort) (s : Sort) → reverse (sorts ++ s ∷ []) ≡ s ∷ reverse sorts
reverse_last sorts s = reverse-append sorts (s ∷ [])

rest_last : (sorts : List Sort) (s : Sort) (stack : List Cell) → rest_of (popped sort_in (sorts ++ s ∷ []) stack) ≡ rest_of (taken sort_in (s ∷ reverse sorts) stack)
rest_last sorts s stack = rest_popped (sorts ++ s ∷ []) stack ∙ ap (λ (l : List Sort). rest_of (taken sort_in l stack)) (reverse_last sorts s)

-- no operand is left
pub pops_none : (stack : List Cell) → rest_of (popped sort_in [] stack) ≡ Some stack
pops_none stack = refl

-- the last operand lies on top
pub pops_last : (sorts : List Sort) (s : Sort) (t : Cell) (stack : List Cell) → fits t.sort s ≡ true → rest_of (popped sort_in (sorts ++ s ∷ []) (t ∷ stack)) ≡ rest_of (popped sort_in sorts stack)
pops_last sorts s t stack e =
    rest_last sorts s (t ∷ stack) ∙ ap (λ b. rest_of (if b then with_first t (taken sort_in (reverse sorts) stack) else None)) e ∙ rest_first t (taken sort_in (reverse sorts) stack) ∙ sym (rest_popped sorts stack)

-- it doesn't
pub pops_other : (sorts : List Sort) (s : Sort) (t : Cell) (stack : List Cell) → fits t.sort s ≡ false → rest_of (popped sort_in (sorts ++ s ∷ []) (t ∷ stack)) ≡ None
pops_other sorts s t stack e = rest_last sorts s (t ∷ stack) ∙ ap (λ b. rest_of (if b then with_first t (taken sort_in (reverse sorts) stack) else None)) e

-- nothing lies there
pub pops_short : (sorts : List Sort) (stack : List Cell) → 1 ≤ length sorts → length stack < 1 → None ≡ rest_of (popped sort_in sorts stack)
pops_short sorts (t ∷ stack) some none = absurd (omega arith)
pops_short sorts [] some none = sym (rest_popped sorts [] ∙ of_reverse (reverse sorts) (length-reverse sorts))
  where
    of_reverse : (l : List Sort) → length l ≡ length sorts → rest_of (taken sort_in l []) ≡ None
    of_reverse [] e = absurd (omega arith)
    of_reverse (s ∷ l) e = refl

-- what is taken are the first cells
abbrev AreFirst : List Sort → List Cell → List Cell × List Cell → Type 0
AreFirst sorts stack q = (length sorts ≤ length stack) × (q.0 ≡ take (length sorts) stack)

parts_after : (s : Sort) (sorts : List Sort) (x : Cell) (stack : List Cell) (q : List Cell × List Cell) (b : Bool) (t : Taken Cell) → ((r : List Cell × List Cell) → t ≡ Some r → AreFirst sorts stack r)
    → (if b then with_first x t else None) ≡ Some q → AreFirst (s ∷ sorts) (x ∷ stack) q
parts_after s sorts x stack q false t rest e = no_some q e
parts_after s sorts x stack q true None rest e = no_some q e
parts_after s sorts x stack q true (Some r) rest e =
    let p = rest r refl in
    let le = p.0 in
    (omega arith, sym (ap (λ (z : List Cell × List Cell). z.0) (some_of _ _ e)) ∙ ap (λ (l : List Cell). x ∷ l) p.1 ∙ grind arith)

taken_parts : (sorts : List Sort) (stack : List Cell) (q : List Cell × List Cell) → taken sort_in sorts stack ≡ Some q → AreFirst sorts stack q
taken_parts [] stack q e = (omega arith, sym (ap (λ (z : List Cell × List Cell). z.0) (some_of _ _ e)) ∙ grind arith)
taken_parts (s ∷ sorts) [] q e = absurd (cc)
taken_parts (s ∷ sorts) (x ∷ stack) q e = parts_after s sorts x stack q (fits x.sort s) (taken sort_in sorts stack) (λ r is. taken_parts sorts stack r is) e

-- so are the operands, the last of them first
pub operands_are : (sorts : List Sort) (stack rest : List Cell) → Some rest ≡ rest_of (popped sort_in sorts stack) → (length sorts ≤ length stack) × (Some (reverse (take (length sorts) stack), rest) ≡ popped sort_in sorts stack)
operands_are sorts stack rest e = go (taken sort_in (reverse sorts) stack) refl e
  where
    go : (t : Taken Cell) → taken sort_in (reverse sorts) stack ≡ t → Some rest ≡ rest_of (turned t) → (length sorts ≤ length stack) × (Some (reverse (take (length sorts) stack), rest) ≡ popped sort_in sorts stack)
    go None is e = no_some rest (sym e)
    go (Some q) is e =
        let p = taken_parts (reverse sorts) stack q is in
        let n = length-reverse sorts in
        let le = p.0 in
        let long : q.0 ≡ take (length sorts) stack = p.1 ∙ ap (λ k. take k stack) n in
        (subst (λ k. k ≤ length stack) n le, ap (λ (l : List Cell). Some (reverse l, rest)) (sym long) ∙ ap (λ (l : List Cell). Some (reverse q.0, l)) (some_of _ _ e) ∙ sym (ap turned is))

-- ---- locals

module _ (unset : Cell) where
  stored_first : (s a : Cell) (locals : List Cell) → set_local sort_in unset zero s (a ∷ locals) ≡ stored unset zero s (a ∷ locals)
  stored_first s a [] = elim (is_wide s.sort) as (λ b. s ∷ (if b then first_cleared unset [] else []) ≡ (if b then set (set (a ∷ []) zero s) (suc zero) unset else set (a ∷ []) zero s)) [ true ↦ refl | false ↦ refl ]
  stored_first s a (t ∷ locals) =
      elim (is_wide s.sort) as (λ b. s ∷ (if b then first_cleared unset (t ∷ locals) else t ∷ locals) ≡ (if b then set (set (a ∷ t ∷ locals) zero s) (suc zero) unset else set (a ∷ t ∷ locals) zero s)) [ true ↦ refl | false ↦ refl ]

  stored_after : (k : ℕ) (s a : Cell) (locals : List Cell) → a ∷ stored unset k s locals ≡ stored unset (suc k) s (a ∷ locals)
  stored_after k s a locals = elim (is_wide s.sort) as (λ b. a ∷ (if b then set (set locals k s) (suc k) unset else set locals k s) ≡ (if b then set (set (a ∷ locals) (suc k) s) (suc (suc k)) unset else set (a ∷ locals) (suc k) s)) [ true ↦ refl | false ↦ refl ]

  lost_after : (k : ℕ) (a : Cell) (locals : List Cell) → a ∷ lost_before unset (suc k) locals ≡ lost_before unset (suc (suc k)) (a ∷ locals)
  lost_after k a locals = elim (is_wide (get_or locals k unset).sort) as (λ b. a ∷ (if b then set locals k unset else locals) ≡ (if b then set (a ∷ locals) (suc k) unset else a ∷ locals)) [ true ↦ refl | false ↦ refl ]

  lost_first : (a : Cell) (locals : List Cell) → (if is_wide a.sort then unset else a) ∷ locals ≡ lost_before unset (suc zero) (a ∷ locals)
  lost_first a locals = elim (is_wide a.sort) as (λ b. (if b then unset else a) ∷ locals ≡ (if b then unset ∷ locals else a ∷ locals)) [ true ↦ refl | false ↦ refl ]

  -- the steps of a store
  pub set_local_steps : (k : ℕ) (s : Cell) (locals : List Cell) → k < length locals → set_local sort_in unset k s locals ≡ stored unset k s (lost_before unset k locals)
  set_local_steps k s [] room = absurd (omega arith)
  set_local_steps zero s (a ∷ locals) room = stored_first s a locals
  set_local_steps (suc zero) s (a ∷ locals) room =
      let b : Cell = if is_wide a.sort then unset else a in
      ap (λ (l : List Cell). b ∷ l) (set_local_steps zero s locals (omega arith)) ∙ stored_after zero s b locals ∙ ap (stored unset (suc zero) s) (lost_first a locals)
  set_local_steps (suc (suc k)) s (a ∷ locals) room =
      ap (λ (l : List Cell). a ∷ l) (set_local_steps (suc k) s locals (omega arith)) ∙ stored_after (suc k) s a (lost_before unset (suc k) locals) ∙ ap (stored unset (suc (suc k)) s) (lost_after k a locals)

  -- there are locals for it, so this is one
  room_of : (k : ℕ) (s : Sort) (locals : List Cell) → has_room s k locals ≡ true → k < length locals
  room_of k sort.Int locals e = grind (arith, nat_tests)
  room_of k sort.Long locals e = grind (arith, nat_tests)
  room_of k sort.Ref locals e = grind (arith, nat_tests)
  room_of k sort.Unknown locals e = grind (arith, nat_tests)

  pub stored_wide : (k : ℕ) (s : Cell) (locals : List Cell) → is_wide s.sort ≡ true → set (set locals k s) (k + 1) unset ≡ stored unset k s locals
  stored_wide k s locals e = let one : k + 1 ≡ suc k = omega arith in ap (λ i. set (set locals k s) i unset) one ∙ sym (ap (λ b. if b then set (set locals k s) (suc k) unset else set locals k s) e)

  pub stored_narrow : (k : ℕ) (s : Cell) (locals : List Cell) → is_wide s.sort ≡ false → set locals k s ≡ stored unset k s locals
  stored_narrow k s locals e = sym (ap (λ b. if b then set (set locals k s) (suc k) unset else set locals k s) e)

  -- a store, from its last step on
  pub set_local_is : (k : ℕ) (s : Cell) (locals before after : List Cell) → has_room s.sort k locals ≡ true → before ≡ lost_before unset k locals → after ≡ stored unset k s before → after ≡ set_local sort_in unset k s locals
  set_local_is k s locals before after room lost is = is ∙ ap (stored unset k s) lost ∙ sym (set_local_steps k s locals (room_of k s.sort locals room))
