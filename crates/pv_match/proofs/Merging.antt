-- Merged lists: a run of one of them that comes before the first of the other, and what moving it leaves.
use Rattle.std.specs.Prelude.{◌≡◌, ◌<◌, ℕ, zero, suc, true, List, [], ◌∷◌, ◌++◌, length, take, drop, slice_index_or, refl, Result, Ok, Err, OnOk}
use Rattle.std.specs.Cmp.{IsTotalOrder}
use Rattle.std.specs.List.{AllByRecursion}
use Rattle.std.specs.List.Sorted.{IsStrictlySortedBy}
use Rattle.std.specs.Ordering.{match_ordering, ordering_reverse}
use Rattle.std.specs.declared.cmp.Ordering.{Ordering}
use Rattle.std.specs.declared.cmp.Ordering.TheVariants.{Less, Greater}
use Rattle.std.specs.Set.{sorted_merge}
use Rattle.std.proofs.Common.{sym, ap, ◌∙◌, subst, append_assoc, arith}
use Rattle.std.proofs.lemmas.List.{take-append-drop}

-- each of a list comes before a bound
abbrev pub AreBefore : {K : Type 0} → (K → K → Ordering) → K → List K → Type 0
AreBefore cmp bound xs = AllByRecursion (λ x. cmp x bound ≡ Less) xs

module _ {K : Type 0} (cmp : K → K → Ordering) where
  abbrev pub merged : List K → List K → List K
  merged = sorted_merge cmp true

  -- a run of the first list that comes before the second's first
  run_of_first : (run xs : List K) (y : K) (ys : List K) → AreBefore cmp y run → merged (run ++ xs) (y ∷ ys) ≡ run ++ merged xs (y ∷ ys)
  run_of_first [] xs y ys before = refl
  run_of_first (x ∷ run) xs y ys before =
      ap (λ (o : Ordering). match_ordering o (x ∷ merged (run ++ xs) (y ∷ ys)) (x ∷ merged (run ++ xs) ys) (y ∷ merged (x ∷ (run ++ xs)) ys)) before.0
      ∙ ap (λ (zs : List K). x ∷ zs) (run_of_first run xs y ys before.1)

  -- .. and of the second that comes before the first's first
  run_of_second : IsTotalOrder cmp → (run : List K) (x : K) (xs ys : List K) → AreBefore cmp x run → merged (x ∷ xs) (run ++ ys) ≡ run ++ merged (x ∷ xs) ys
  run_of_second total [] x xs ys before = refl
  run_of_second total (y ∷ run) x xs ys before =
      let after : cmp x y ≡ Greater = total.antisymm x y ∙ ap ordering_reverse before.0 in
      ap (λ (o : Ordering). match_ordering o (x ∷ merged xs (y ∷ (run ++ ys))) (x ∷ merged xs (run ++ ys)) (y ∷ merged (x ∷ xs) (run ++ ys))) after
      ∙ ap (λ (zs : List K). y ∷ zs) (run_of_second total run x xs ys before.1)

  -- ---- what is moved to the end of a list

  moved : (n : ℕ) (old new xs us left all : List K) → new ≡ old ++ take n xs → take n xs ++ left ≡ all → new ++ left ≡ old ++ all
  moved n old new xs us left all is whole = ap (λ (zs : List K). zs ++ left) is ∙ (append_assoc old (take n xs) left ∙ ap (λ (zs : List K). old ++ zs) whole)

  -- a run
  pub first_moved : (n : ℕ) (old new xs us : List K) (y : K) (ys : List K) → 0 < length ys → y ≡ slice_index_or ys 0 y → AreBefore cmp y (take n xs) → new ≡ old ++ take n xs → us ≡ drop n xs → new ++ merged us ys ≡ old ++ merged xs ys
  first_moved n old new xs us y [] some at before is rest = absurd (omega arith)
  first_moved n old new xs us y (z ∷ ys) some at before is rest =
      let run = run_of_first (take n xs) us z ys (subst (λ (k : K). AreBefore cmp k (take n xs)) at before) in
      let whole : take n xs ++ us ≡ xs = ap (λ (zs : List K). take n xs ++ zs) rest ∙ take-append-drop n xs in
      moved n old new xs us (merged us (z ∷ ys)) (merged xs (z ∷ ys)) is (sym run ∙ ap (λ (zs : List K). merged zs (z ∷ ys)) whole)

  pub second_moved : IsTotalOrder cmp → (n : ℕ) (old new : List K) (x : K) (xs ys vs : List K) → 0 < length xs → x ≡ slice_index_or xs 0 x → AreBefore cmp x (take n ys) → new ≡ old ++ take n ys → vs ≡ drop n ys → new ++ merged xs vs ≡ old ++ merged xs ys
  second_moved total n old new x [] ys vs some at before is rest = absurd (omega arith)
  second_moved total n old new x (z ∷ xs) ys vs some at before is rest =
      let run = run_of_second total (take n ys) z xs vs (subst (λ (k : K). AreBefore cmp k (take n ys)) at before) in
      let whole : take n ys ++ vs ≡ ys = ap (λ (zs : List K). take n ys ++ zs) rest ∙ take-append-drop n ys in
      moved n old new ys vs (merged (z ∷ xs) vs) (merged (z ∷ xs) ys) is (sym run ∙ ap (λ (zs : List K). merged (z ∷ xs) zs) whole)

  -- ---- ordered lists

  sorted_drop : (n : ℕ) (xs : List K) → IsStrictlySortedBy cmp xs → IsStrictlySortedBy cmp (drop n xs)
  unfolding IsStrictlySortedBy
  sorted_drop zero xs s = s
  sorted_drop (suc n) [] s = s
  sorted_drop (suc n) (x ∷ xs) s = sorted_drop n xs s.1

  pub sorted_rest : (n : ℕ) (xs us : List K) → us ≡ drop n xs → IsStrictlySortedBy cmp xs → IsStrictlySortedBy cmp us
  sorted_rest n xs us rest s = subst (IsStrictlySortedBy cmp) (sym rest) (sorted_drop n xs s)

  at_place : (P : K → Type 0) (n : ℕ) (xs : List K) (d : K) → AllByRecursion P xs → n < length xs → P (slice_index_or xs n d)
  at_place P n [] d all within = absurd (omega arith)
  at_place P zero (x ∷ xs) d all within = all.0
  at_place P (suc n) (x ∷ xs) d all within = at_place P n xs d all.1 (omega arith)

  -- where an element comes before a bound, those that are before it do
  pub up_to : IsTotalOrder cmp → (n : ℕ) (xs : List K) (z bound : K) → IsStrictlySortedBy cmp xs → n < length xs → z ≡ slice_index_or xs n z → cmp z bound ≡ Less → AreBefore cmp bound (take (suc n) xs)
  unfolding IsStrictlySortedBy
  up_to total n [] z bound s within at l = tt
  up_to total zero (x ∷ xs) z bound s within at l = (subst (λ (k : K). cmp k bound ≡ Less) at l, tt)
  up_to total (suc n) (x ∷ xs) z bound s within at l = (
    total.trans x z bound (subst (λ (k : K). cmp x k ≡ Less) (sym at) (at_place (λ y. cmp x y ≡ Less) n xs z s.0 (omega arith))) l,
    up_to total n xs z bound s.1 (omega arith) at l,
  )

-- ---- what follows from two clauses of one result

pub on_both : {X E A B C : Type 0} (r : Result X E) → OnOk r A → OnOk r B → (A → B → C) → OnOk r C
on_both (Ok x) a b then = then a b
on_both (Err e) a b then = tt
