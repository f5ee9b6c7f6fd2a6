-- Operands on a stack whose numbers are kept with the top last.
use Rattle.std.proofs.Common.{◌≡◌, ℕ, ◌+◌, ◌-◌, ◌≤◌, Bool, true, false, List, [], ◌∷◌, ◌++◌, length, take, drop, Some, None, refl, sym, ap, ◌∙◌, arith, reverse, if◌then◌else◌, ◌&&◌, take-append-drop, length-drop}
use Rattle.pv_machine.proofs.Words.{reverse-append, reverse-reverse, length-reverse, take_rest, drop-append_seam, take-append_seam, Num, Sort, fits, with_first, taken, turned, popped, sort_of, lie_on}

-- ---- lists from their ends

module _ {A : Type 0} where
  pub reverse_last : (xs : List A) (x : A) → reverse (xs ++ x ∷ []) ≡ x ∷ reverse xs
  reverse_last xs x = reverse-append xs (x ∷ [])

  parts : (xs : List A) (m : ℕ) → reverse xs ≡ reverse (drop m xs) ++ reverse (take m xs)
  parts xs m = ap reverse (sym (take-append-drop m xs)) ∙ reverse-append (take m xs) (drop m xs)

  last_many : (xs : List A) (m k : ℕ) → m + k ≡ length xs → length (reverse (drop m xs)) ≡ k
  last_many xs m k e =
      let long = length-reverse (drop m xs) ∙ length-drop m xs in
      omega (arith, long)

  -- without the last k, from the end
  pub drop_reverse : (xs : List A) (m k : ℕ) → m + k ≡ length xs → drop k (reverse xs) ≡ reverse (take m xs)
  drop_reverse xs m k e =
      ap (λ n. drop n (reverse xs)) (sym (last_many xs m k e)) ∙ ap (drop (length (reverse (drop m xs)))) (parts xs m) ∙ drop-append_seam (reverse (drop m xs)) (reverse (take m xs))

  -- the last k
  pub take_reverse : (xs : List A) (m k : ℕ) → m + k ≡ length xs → reverse (take k (reverse xs)) ≡ drop m xs
  take_reverse xs m k e =
      ap (λ n. reverse (take n (reverse xs))) (sym (last_many xs m k e)) ∙ ap (λ l. reverse (take (length (reverse (drop m xs))) l)) (parts xs m)
      ∙ ap reverse (take-append_seam (reverse (drop m xs)) (reverse (take m xs))) ∙ reverse-reverse (drop m xs)

-- ---- operands

pub lie_none : (sorts : List Sort) → 1 ≤ length sorts → lie_on (reverse sorts) [] ≡ false
lie_none sorts some = of_reverse (reverse sorts) (length-reverse sorts)
  where
    of_reverse : (l : List Sort) → length l ≡ length sorts → lie_on l [] ≡ false
    of_reverse [] e = absurd (omega arith)
    of_reverse (s ∷ l) e = refl

lie_long : (sorts : List Sort) (stack : List Num) → lie_on sorts stack ≡ true → length sorts ≤ length stack
lie_long [] stack e = omega arith
lie_long (s ∷ sorts) [] e = absurd (cc)
lie_long (s ∷ sorts) (n ∷ stack) e =
    elim (fits (sort_of n) s) as (λ b. (b && lie_on sorts stack) ≡ true → length (s ∷ sorts) ≤ length (n ∷ stack)) [
      | true ↦ λ e. let rest = lie_long sorts stack e in omega arith
      | false ↦ λ e. absurd (cc)
    ] e

taken_lying : (sorts : List Sort) (stack : List Num) → lie_on sorts stack ≡ true → taken sort_of sorts stack ≡ Some (take (length sorts) stack, drop (length sorts) stack)
taken_lying [] stack e = refl
taken_lying (s ∷ sorts) [] e = absurd (cc)
taken_lying (s ∷ sorts) (n ∷ stack) e =
    elim (fits (sort_of n) s) as (λ b. (b && lie_on sorts stack) ≡ true → (if b then with_first n (taken sort_of sorts stack) else None) ≡ Some (n ∷ take (length sorts) stack, drop (length sorts) stack)) [
      | true ↦ λ e. ap (with_first n) (taken_lying sorts stack e)
      | false ↦ λ e. absurd (cc)
    ] e

taken_not : (sorts : List Sort) (stack : List Num) → lie_on sorts stack ≡ false → taken sort_of sorts stack ≡ None
taken_not [] stack e = absurd (cc)
taken_not (s ∷ sorts) [] e = refl
taken_not (s ∷ sorts) (n ∷ stack) e =
    elim (fits (sort_of n) s) as (λ b. (b && lie_on sorts stack) ≡ false → (if b then with_first n (taken sort_of sorts stack) else None) ≡ None) [
      | true ↦ λ e. ap (with_first n) (taken_not sorts stack e)
      | false ↦ λ e. refl
    ] e

pub enough : (sorts : List Sort) (nums : List Num) → lie_on (reverse sorts) (reverse nums) ≡ true → length sorts ≤ length nums
enough sorts nums e =
    let long = lie_long (reverse sorts) (reverse nums) e in
    let a = length-reverse sorts in
    let b = length-reverse nums in
    omega arith

pub popped_not : (sorts : List Sort) (nums : List Num) → lie_on (reverse sorts) (reverse nums) ≡ false → popped sort_of sorts (reverse nums) ≡ None
popped_not sorts nums e = ap turned (taken_not (reverse sorts) (reverse nums) e)

pub popped_lying : (sorts : List Sort) (nums : List Num) (m : ℕ) → m + length sorts ≡ length nums → lie_on (reverse sorts) (reverse nums) ≡ true →
    popped sort_of sorts (reverse nums) ≡ Some (drop m nums, drop (length (drop m nums)) (reverse nums))
popped_lying sorts nums m e on =
    let k = length-reverse sorts in
    let found : popped sort_of sorts (reverse nums) ≡ Some (reverse (take (length (reverse sorts)) (reverse nums)), drop (length (reverse sorts)) (reverse nums)) = ap turned (taken_lying (reverse sorts) (reverse nums) on) in
    let many : length (reverse sorts) ≡ length (drop m nums) = (let l = length-drop m nums in omega (arith, l)) in
    let last : reverse (take (length (reverse sorts)) (reverse nums)) ≡ drop m nums = ap (λ n. reverse (take n (reverse nums))) k ∙ take_reverse nums m (length sorts) e in
    found ∙ ap (λ l. Some (l, drop (length (reverse sorts)) (reverse nums))) last ∙ ap (λ n. Some (drop m nums, drop n (reverse nums))) many

-- ---- what the functions on stacks find

pub lie_empty : (sorts : List Sort) (nums : List Num) → 1 ≤ length sorts → length nums ≡ 0 → lie_on (reverse sorts) (reverse nums) ≡ false
lie_empty sorts [] some none = lie_none sorts some
lie_empty sorts (n ∷ nums) some none = absurd (omega arith)

module _ {A : Type 0} where
  -- the last k numbers are cut away
  pub cut_is : (items after nums : List A) (n k : ℕ) → reverse items ≡ nums → n ≡ length items → k ≤ length nums → after ≡ take (n - k) items → reverse after ≡ drop k nums
  cut_is items after nums n k view long within is =
      let all = ap length view in
      let same = length-reverse items in
      let e : (n - k) + k ≡ length items = omega arith in
      ap reverse is ∙ sym (drop_reverse items (n - k) k e) ∙ ap (drop k) view

  -- and one is put there
  pub put_is : (items cut after nums : List A) (x : A) (below k : ℕ) → reverse items ≡ nums → below + k ≡ length nums → cut ≡ take below items → after ≡ cut ++ x ∷ [] → reverse after ≡ x ∷ drop k nums
  put_is items cut after nums x below k view e is pushed =
      let all = ap length view in
      let same = length-reverse items in
      let long : below + k ≡ length items = omega arith in
      ap reverse pushed ∙ reverse_last cut x ∙ ap (λ l. x ∷ l) (ap reverse is ∙ sym (drop_reverse items below k long) ∙ ap (drop k) view)

pub no_operands : (sorts : List Sort) (items seen nums : List Num) (b : Bool) → reverse items ≡ nums → seen ≡ items → b ≡ lie_on (reverse sorts) (reverse seen) → b ≡ false → popped sort_of sorts nums ≡ None
no_operands sorts items seen nums b view same is e =
    let on : lie_on (reverse sorts) (reverse items) ≡ false = ap (λ l. lie_on (reverse sorts) (reverse l)) (sym same) ∙ sym is ∙ e in
    ap (popped sort_of sorts) (sym view) ∙ popped_not sorts items on

pub some_operands : (sorts : List Sort) (items seen last nums : List Num) (b : Bool) (n : ℕ) → reverse items ≡ nums → seen ≡ items → last ≡ items → n ≡ length items → b ≡ lie_on (reverse sorts) (reverse seen) → b ≡ true →
    popped sort_of sorts nums ≡ Some (take (length last - (n - length sorts)) (drop (n - length sorts) last), drop (length (take (length last - (n - length sorts)) (drop (n - length sorts) last))) nums)
some_operands sorts items seen last nums b n view same at long is e =
    let on : lie_on (reverse sorts) (reverse items) ≡ true = ap (λ l. lie_on (reverse sorts) (reverse l)) (sym same) ∙ sym is ∙ e in
    let within = enough sorts items on in
    let m : (n - length sorts) + length sorts ≡ length items = omega arith in
    let got : take (length last - (n - length sorts)) (drop (n - length sorts) last) ≡ drop (n - length sorts) items = take_rest last (n - length sorts) ∙ ap (drop (n - length sorts)) at in
    ap (popped sort_of sorts) (sym view) ∙ popped_lying sorts items (n - length sorts) m on
    ∙ ap (λ l. Some (drop (n - length sorts) items, drop (length (drop (n - length sorts) items)) l)) view
    ∙ ap (λ l. Some (l, drop (length l) nums)) (sym got)

pub operands_within : (sorts : List Sort) (items seen : List Num) (b : Bool) → seen ≡ items → b ≡ lie_on (reverse sorts) (reverse seen) → b ≡ true → length sorts ≤ length items
operands_within sorts items seen b same is e = enough sorts items (ap (λ l. lie_on (reverse sorts) (reverse l)) (sym same) ∙ sym is ∙ e)
