-- What is found in the tables.
use Rattle.std.specs.Prelude.{◌≡◌, ◌⊎◌, ◌↔◌, ℕ, Bool, true, false, List, [], ◌∷◌, ◌++◌, map, Option, Some, None, MatchOption, Result, Ok, Err, IfOk, IsTrue, ◌==◌}
use Rattle.std.specs.List.{find}
use Rattle.std.specs.Option.{option_copied, option_or}
use Rattle.std.proofs.Common.{inl, inr, refl, Bor, cond, sym, ap, ◌∙◌, subst, arith}
use Rattle.std.proofs.lemmas.Bool.Decides.{nat_tests}
use Rattle.pv_value.specs.declared.memory.Memory.{Memory}
use Rattle.pv_graph.specs.Walks.{In}
use Rattle.pv_pattern.specs.declared.pattern.Axiom.{Axiom}
use Rattle.pv_pattern.specs.Patterns as patterns
use Rattle.pv_pattern.specs.Seen.{axiom_seen}
use Rattle.pv_scalar.specs.Table.{scalar_axioms}
use Rattle.pv_loopax.specs.Table.{loop_axioms}
use Rattle.pv_heapax.specs.Table.{heap_axioms}
use Rattle.pv_choiceax.specs.Table.{choice_axioms}
use Rattle.pv_axioms.specs.Entries.{core_axioms, axioms, IsEntry, HasNone}
use Rattle.pv_axioms.specs.Tables.{AreTables}
use Rattle.pv_axioms.proofs.Numbers.{one_entry}

equal_numbers : (j k : ℕ) → (j == k) ≡ true → j ≡ k
equal_numbers j k e = grind (arith, nat_tests)

other_numbers : (j k : ℕ) → (j == k) ≡ false → j ≡ k → ⊥
other_numbers j k e same = grind (arith, nat_tests)

-- the entry that a search finds, or that there is none
abbrev Finds : List patterns.Axiom → ℕ → Option Axiom → Type 0
Finds table n r = MatchOption r (HasNone table n) (λ a. IsEntry table n (axiom_seen a))

finds : (table : List Axiom) (n : ℕ) → Finds (map axiom_seen table) n (find (λ (a : Axiom). a.number == n) table)
finds [] n = λ a e. e.entry
finds (b ∷ table) n = go (b.number == n) refl (finds table n)
  where
    later : (r : Option Axiom) → (b.number ≡ n → ⊥) → Finds (map axiom_seen table) n r → Finds (axiom_seen b ∷ map axiom_seen table) n r
    later None other h = λ a e. elim e.entry [ inl here ↦ other (ap (λ (y : patterns.Axiom). y.number) here ∙ e.number) | inr there ↦ h a (record { entry = there; number = e.number }) ]
    later (Some a) other h = record { entry = inr h.entry; number = h.number }

    go : (t : Bool) → (b.number == n) ≡ t → Finds (map axiom_seen table) n (find (λ (a : Axiom). a.number == n) table)
        → Finds (axiom_seen b ∷ map axiom_seen table) n (cond t (Some b) (find (λ (a : Axiom). a.number == n) table))
    go true e h = record { entry = inl refl; number = equal_numbers b.number n e }
    go false e h = later (find (λ (a : Axiom). a.number == n) table) (other_numbers b.number n e) h

in_left : (xs ys : List patterns.Axiom) (a : patterns.Axiom) → In xs a → In (xs ++ ys) a
in_left [] ys a m = absurd m
in_left (x ∷ xs) ys a (inl e) = inl e
in_left (x ∷ xs) ys a (inr m) = inr (in_left xs ys a m)

in_right : (xs ys : List patterns.Axiom) (a : patterns.Axiom) → In ys a → In (xs ++ ys) a
in_right [] ys a m = m
in_right (x ∷ xs) ys a m = inr (in_right xs ys a m)

in_either : (xs ys : List patterns.Axiom) (a : patterns.Axiom) → In (xs ++ ys) a → In xs a ⊎ In ys a
in_either [] ys a m = inr m
in_either (x ∷ xs) ys a (inl e) = inl (inl e)
in_either (x ∷ xs) ys a (inr m) = elim (in_either xs ys a m) [ inl z ↦ inl (inr z) | inr z ↦ inr z ]

finds_or : (xs ys : List patterns.Axiom) (n : ℕ) (r s : Option Axiom) → Finds xs n r → Finds ys n s → Finds (xs ++ ys) n (option_or r s)
finds_or xs ys n (Some a) s h i = record { entry = in_left xs ys (axiom_seen a) h.entry; number = h.number }
finds_or xs ys n None (Some a) h i = record { entry = in_right xs ys (axiom_seen a) i.entry; number = i.number }
finds_or xs ys n None None h i = λ a e. elim (in_either xs ys a e.entry) [ inl z ↦ h a (record { entry = z; number = e.number }) | inr z ↦ i a (record { entry = z; number = e.number }) ]

finds_in : (table : List Axiom) (seen : List patterns.Axiom) (n : ℕ) (r : Option (Bor Axiom)) → map axiom_seen table ≡ seen → option_copied r ≡ find (λ (a : Axiom). a.number == n) table → Finds seen n (option_copied r)
finds_in table seen n r is e = subst (λ (q : List patterns.Axiom). Finds q n (option_copied r)) is (subst (Finds (map axiom_seen table) n) (sym e) (finds table n))

of_copied : (n : ℕ) (r : Option (Bor Axiom)) → Finds axioms n (option_copied r) → MatchOption r (HasNone axioms n) (λ a. IsEntry axioms n (axiom_seen a.now))
of_copied n None h = h
of_copied n (Some a) h = h

copied_or : (r s : Option (Bor Axiom)) → option_copied (option_or r s) ≡ option_or (option_copied r) (option_copied s)
copied_or None s = refl
copied_or (Some a) s = refl

-- what is found in one table, or else in another
found_or : (xs ys : List patterns.Axiom) (n : ℕ) (r s t : Option (Bor Axiom)) → t ≡ option_or r s → Finds xs n (option_copied r) → Finds ys n (option_copied s) → Finds (xs ++ ys) n (option_copied t)
found_or xs ys n r s t e p q = subst (Finds (xs ++ ys) n) (sym (ap option_copied e ∙ copied_or r s)) (finds_or xs ys n (option_copied r) (option_copied s) p q)

-- the axiom that the four searches find
pub found : (scalar loops heap choices : List Axiom) → AreTables scalar loops heap choices → (n : ℕ) (r s t u v x y : Option (Bor Axiom)) → option_copied r ≡ find (λ (a : Axiom). a.number == n) scalar
    → option_copied s ≡ find (λ (a : Axiom). a.number == n) loops → option_copied t ≡ find (λ (a : Axiom). a.number == n) heap → option_copied u ≡ find (λ (a : Axiom). a.number == n) choices
    → v ≡ option_or s t → x ≡ option_or r v → y ≡ option_or x u → MatchOption y (HasNone axioms n) (λ a. IsEntry axioms n (axiom_seen a.now))
found scalar loops heap choices are n r s t u v x y e f h i two three four =
    of_copied n y
    (found_or core_axioms choice_axioms n x u y four
    (found_or scalar_axioms (loop_axioms ++ heap_axioms) n r v x three (finds_in scalar scalar_axioms n r are.scalars e)
    (found_or loop_axioms heap_axioms n s t v two (finds_in loops loop_axioms n s are.loops_ f) (finds_in heap heap_axioms n t are.heaps h)))
    (finds_in choices choice_axioms n u are.choices_ i))

-- ---- instances

-- a test of the entry with a number is one of all entries with it
pub entry_tells : (P : patterns.Axiom → Type 0) (n : ℕ) (a : patterns.Axiom) → IsEntry axioms n a → (answer : Result Bool Memory)
    → IfOk answer (λ yes. IsTrue yes ↔ P a) → IfOk answer (λ yes. IsTrue yes ↔ ((b : patterns.Axiom) × IsEntry axioms n b × P b))
entry_tells P n a e (Ok it) h = (λ t. (a, e, h.0 t), λ i. h.1 (subst P (one_entry n i.0 a i.1 e) i.2))
entry_tells P n a e (Err memory) h = tt

-- where no entry has the number, there is none of which it holds
pub none_tells : (P : patterns.Axiom → Type 0) (n : ℕ) → HasNone axioms n → IsTrue false ↔ ((b : patterns.Axiom) × IsEntry axioms n b × P b)
none_tells P n none = (λ t. absurd (cc), λ i. absurd (none i.0 i.1))
