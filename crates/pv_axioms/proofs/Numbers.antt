-- Each number stands once in the tables, by a test.
use Rattle.std.specs.Prelude.{◌≡◌, ℕ, zero, suc, Bool, true, false, List, [], ◌∷◌, ◌++◌, Some, slice_get, ◌==◌, if◌then◌else◌, refl}
use Rattle.std.proofs.Common.{inl, inr, sym, ap, ◌∙◌, arith}
use Rattle.std.proofs.lemmas.Bool.Decides.{nat_tests}
use Rattle.std.proofs.lemmas.Option.{same_Some}
use Rattle.pv_graph.specs.Walks.{In}
use Rattle.pv_pattern.specs.Patterns.{Axiom}
use Rattle.pv_choiceax.specs.Table.{choice_axioms}
use Rattle.pv_axioms.specs.Entries.{IsEntry, NumbersOnce, AreAxioms, core_axioms, axioms}

-- ---- the test

abbrev has_number : ℕ → List Axiom → Bool
has_number n [] = false
has_number n (a ∷ table) = if n == a.number then true else has_number n table

abbrev has_each_once : List Axiom → Bool
has_each_once [] = true
has_each_once (a ∷ table) = if has_number a.number table then false else has_each_once table

same_number : (n : ℕ) → (n == n) ≡ true
same_number n = grind (arith, nat_tests)

-- a table with an entry of this number has the number
number_there : (n : ℕ) (table : List Axiom) (i : ℕ) (a : Axiom) → slice_get table i ≡ Some a → a.number ≡ n → has_number n table ≡ true
number_there n [] i a at e = absurd (cc)
number_there n (b ∷ table) zero a at e = go (n == b.number) same
  where
    same : (n == b.number) ≡ true
    same = ap (λ (k : ℕ). n == k) (ap (λ (y : Axiom). y.number) (same_Some b a at) ∙ e) ∙ same_number n

    go : (t : Bool) → t ≡ true → (if t then true else has_number n table) ≡ true
    go true z = refl
    go false z = absurd (cc)
number_there n (b ∷ table) (suc i) a at e = go (n == b.number) (number_there n table i a at e)
  where
    go : (t : Bool) → has_number n table ≡ true → (if t then true else has_number n table) ≡ true
    go true z = refl
    go false z = z

first_absent : (t u : Bool) → (if t then false else u) ≡ true → (t ≡ false) × (u ≡ true)
first_absent true u e = absurd (cc)
first_absent false u e = (refl, e)

each_once : (table : List Axiom) → has_each_once table ≡ true → NumbersOnce table
each_once [] test i j a b at at' e = absurd (cc)
each_once (c ∷ table) test zero zero a b at at' e = refl
each_once (c ∷ table) test zero (suc j) a b at at' e =
    let parts = first_absent (has_number c.number table) (has_each_once table) test in
    let there = number_there c.number table j b at' (sym e ∙ sym (ap (λ (y : Axiom). y.number) (same_Some c a at))) in
    absurd (cc (parts.0, there))
each_once (c ∷ table) test (suc i) zero a b at at' e =
    let parts = first_absent (has_number c.number table) (has_each_once table) test in
    let there = number_there c.number table i a at (e ∙ sym (ap (λ (y : Axiom). y.number) (same_Some c b at'))) in
    absurd (cc (parts.0, there))
each_once (c ∷ table) test (suc i) (suc j) a b at at' e =
    ap suc (each_once table (first_absent (has_number c.number table) (has_each_once table) test).1 i j a b at at' e)

pub numbers_once : NumbersOnce axioms
numbers_once = each_once axioms refl

-- ---- a front part

front_at : (xs ys : List Axiom) (i : ℕ) (a : Axiom) → slice_get xs i ≡ Some a → slice_get (xs ++ ys) i ≡ Some a
front_at [] ys i a e = absurd (cc)
front_at (x ∷ xs) ys zero a e = e
front_at (x ∷ xs) ys (suc i) a e = front_at xs ys i a e

front_once : (xs ys : List Axiom) → NumbersOnce (xs ++ ys) → NumbersOnce xs
front_once xs ys once i j a b at there e = once i j a b (front_at xs ys i a at) (front_at xs ys j b there) e

front_in : (xs ys : List Axiom) (a : Axiom) → In xs a → In (xs ++ ys) a
front_in [] ys a m = absurd m
front_in (x ∷ xs) ys a (inl e) = inl e
front_in (x ∷ xs) ys a (inr m) = inr (front_in xs ys a m)

pub core_are : AreAxioms core_axioms
core_are = record { entries = front_in core_axioms choice_axioms; once = front_once core_axioms choice_axioms numbers_once }

pub all_are : AreAxioms axioms
all_are = record { entries = λ a m. m; once = numbers_once }

-- ---- one entry

-- an element stands at a place
place_of : (table : List Axiom) (a : Axiom) → In table a → (i : ℕ) × (slice_get table i ≡ Some a)
place_of [] a m = absurd m
place_of (b ∷ table) a (inl e) = (0, ap Some e)
place_of (b ∷ table) a (inr m) = let r = place_of table a m in (suc r.0, r.1)

-- two entries of one number are one
pub one_entry : (n : ℕ) (a b : Axiom) → IsEntry axioms n a → IsEntry axioms n b → a ≡ b
one_entry n a b p q =
    let i = place_of axioms a p.entry in
    let j = place_of axioms b q.entry in
    let same = numbers_once i.0 j.0 a b i.1 j.1 (p.number ∙ sym q.number) in
    same_Some a b (sym i.1 ∙ ap (slice_get axioms) same ∙ j.1)
