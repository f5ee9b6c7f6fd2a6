-- Each axiom asks each variable one condition at most.
use Rattle.std.specs.Prelude.{◌≡◌, ℕ, zero, suc, Bool, true, false, not, ◌&&◌, ◌||◌, ◌==◌, List, [], ◌∷◌, ◌++◌, Some, slice_get, refl}
use Rattle.std.specs.List.{AllByRecursion}
use Rattle.std.proofs.Common.{inl, inr, sym, ap, ◌∙◌, true≢false}
use Rattle.std.proofs.lemmas.Bool.Decides.{Decides-eqb}
use Rattle.std.proofs.lemmas.Option.{same_Some}
use Rattle.pv_graph.specs.Walks.{In}
use Rattle.pv_pattern.specs.declared.names.NameId.{NameId}
use Rattle.pv_pattern.specs.declared.names.NameId.TheVariants as name
use Rattle.pv_pattern.specs.Patterns.{Side, Axiom}
use Rattle.pv_pattern.specs.Binding.{names}
use Rattle.pv_scalar.specs.Table.{scalar_axioms}
use Rattle.pv_loopax.specs.Table.{loop_axioms}
use Rattle.pv_heapax.specs.Table.{heap_axioms}
use Rattle.pv_choiceax.specs.Table.{choice_axioms}
use Rattle.pv_axioms.specs.Entries.{core_axioms, axioms}
use Rattle.pv_witness.specs.Asked.{asked, AsksOnce, AskOnce}
use Rattle.pv_witness.specs.AskedTest.{is_some_of, is_constant, is_asked, has_constant, is_alone, are_alone, ask_once}

both : (a b : Bool) → (a && b) ≡ true → (a ≡ true) × (b ≡ true)
both true b e = (refl, e)
both false b e = absurd (cc)

either_left : (a b : Bool) → a ≡ true → (a || b) ≡ true
either_left true b e = refl
either_left false b e = absurd (cc)

either_right : (a b : Bool) → b ≡ true → (a || b) ≡ true
either_right true b e = refl
either_right false b e = e

never : (a : Bool) → not a ≡ true → a ≡ true → ⊥
never true e f = true≢false (sym e)
never false e f = true≢false (sym f)

itself : (j : ℕ) → (j == j) ≡ true
itself j = (Decides-eqb j j).1 refl

asked_there : (j : ℕ) (xs : List Side) (q : ℕ) (y : Side) → slice_get xs q ≡ Some y → asked y ≡ Some j → is_asked j xs ≡ true
asked_there j [] q y e a = absurd (cc)
asked_there j (x ∷ xs) zero y e a = either_left (is_some_of j (asked x)) (is_asked j xs) (ap (is_some_of j) (ap asked (same_Some x y e) ∙ a) ∙ itself j)
asked_there j (x ∷ xs) (suc q) y e a = either_right (is_some_of j (asked x)) (is_asked j xs) (asked_there j xs q y e a)

constant_there : (j : ℕ) (ns : List NameId) → In ns (name.Constant j) → has_constant j ns ≡ true
constant_there j [] i = absurd i
constant_there j (n ∷ ns) (inl e) = either_left (is_constant j n) (has_constant j ns) (ap (is_constant j) e ∙ itself j)
constant_there j (n ∷ ns) (inr i) = either_right (is_constant j n) (has_constant j ns) (constant_there j ns i)

-- what the test says of the first condition
first_alone : (ns : List NameId) (x : Side) (xs : List Side) (j : ℕ) → are_alone ns (x ∷ xs) ≡ true → asked x ≡ Some j → (not (is_asked j xs) ≡ true) × (not (has_constant j ns) ≡ true)
first_alone ns x xs j e a =
    let one = both (is_alone xs ns (asked x)) (are_alone ns xs) e in
    both (not (is_asked j xs)) (not (has_constant j ns)) (ap (is_alone xs ns) (sym a) ∙ one.0)

once : (ns : List NameId) (xs : List Side) → are_alone ns xs ≡ true → (p q j : ℕ) (x y : Side) → slice_get xs p ≡ Some x → slice_get xs q ≡ Some y → asked x ≡ Some j → asked y ≡ Some j → p ≡ q
once ns [] e p q j x y at_ there a b = absurd (cc)
once ns (z ∷ xs) e zero zero j x y at_ there a b = refl
once ns (z ∷ xs) e zero (suc q) j x y at_ there a b =
    absurd (never (is_asked j xs) (first_alone ns z xs j e (ap asked (same_Some z x at_) ∙ a)).0 (asked_there j xs q y there b))
once ns (z ∷ xs) e (suc p) zero j x y at_ there a b =
    absurd (never (is_asked j xs) (first_alone ns z xs j e (ap asked (same_Some z y there) ∙ b)).0 (asked_there j xs p x at_ a))
once ns (z ∷ xs) e (suc p) (suc q) j x y at_ there a b = ap suc (once ns xs (both (is_alone xs ns (asked z)) (are_alone ns xs) e).1 p q j x y at_ there a b)

no_constant : (ns : List NameId) (xs : List Side) → are_alone ns xs ≡ true → (p j : ℕ) (x : Side) → slice_get xs p ≡ Some x → asked x ≡ Some j → In ns (name.Constant j) → ⊥
no_constant ns [] e p j x at_ a i = absurd (cc)
no_constant ns (z ∷ xs) e zero j x at_ a i = never (has_constant j ns) (first_alone ns z xs j e (ap asked (same_Some z x at_) ∙ a)).1 (constant_there j ns i)
no_constant ns (z ∷ xs) e (suc p) j x at_ a i = no_constant ns xs (both (is_alone xs ns (asked z)) (are_alone ns xs) e).1 p j x at_ a i

tested : (table : List Axiom) → ask_once table ≡ true → AskOnce table
tested [] e = tt
tested (a ∷ table) e =
    let t = both (are_alone (names a.left) a.sides) (ask_once table) e in
    (record { once = once (names a.left) a.sides t.0; no_constant = no_constant (names a.left) a.sides t.0 }, tested table t.1)

append_all : {A : Type 0} (P : A → Type 0) (xs ys : List A) → AllByRecursion P xs → AllByRecursion P ys → AllByRecursion P (xs ++ ys)
append_all P [] ys a b = b
append_all P (x ∷ xs) ys a b = (a.0, append_all P xs ys a.1 b)

scalar_once : AskOnce scalar_axioms
scalar_once = tested scalar_axioms refl

loops_once : AskOnce loop_axioms
loops_once = tested loop_axioms refl

heap_once : AskOnce heap_axioms
heap_once = tested heap_axioms refl

choices_once : AskOnce choice_axioms
choices_once = tested choice_axioms refl

core_once : AskOnce core_axioms
core_once = append_all AsksOnce scalar_axioms (loop_axioms ++ heap_axioms) scalar_once (append_all AsksOnce loop_axioms heap_axioms loops_once heap_once)

pub all_once : AskOnce axioms
all_once = append_all AsksOnce core_axioms choice_axioms core_once choices_once
