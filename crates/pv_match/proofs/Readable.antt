-- Tables whose left sides are read, by a test that computes.
use Rattle.std.specs.Prelude.{◌≡◌, ℕ, Bool, true, false, ◌&&◌, List, [], ◌∷◌, ◌++◌, Option, Some, None, nat_eq, refl}
use Rattle.std.proofs.Common.{inl, inr, sym, ap, ◌∙◌, subst, true≢false}
use Rattle.std.proofs.lemmas.Bool.Decides.{Decides-eqb}
use Rattle.pv_pattern.specs.Patterns.{Pattern, over, Axiom, variables, variables_of}
use Rattle.pv_pattern.specs.Binding.{names, sides_names, binds_all}
use Rattle.pv_match.specs.Reading.{IsReadable, reads_all, all_families}
use Rattle.pv_match.specs.Reading.{AreReadable}

abbrev pub is_known : Option ℕ → ℕ → Bool
is_known None n = false
is_known (Some k) n = nat_eq k n

abbrev pub left_reads : Pattern → Bool
left_reads (over h ps) = is_known (reads_all 0 ps) (variables_of ps) && all_families ps
left_reads p = false

abbrev pub is_readable : Axiom → Bool
is_readable a = left_reads a.left && binds_all a.left (names a.left ++ (names a.right ++ sides_names a.sides))

abbrev pub are_readable : List Axiom → Bool
are_readable [] = true
are_readable (a ∷ table) = is_readable a && are_readable table

both : (a b : Bool) → (a && b) ≡ true → (a ≡ true) × (b ≡ true)
both true b e = (refl, e)
both false b e = absurd (true≢false (sym e))

known_is : (o : Option ℕ) (n : ℕ) → is_known o n ≡ true → o ≡ Some n
known_is None n e = absurd (true≢false (sym e))
known_is (Some k) n e = ap Some ((Decides-eqb k n).0 e)

pub readable : (a : Axiom) → is_readable a ≡ true → IsReadable a
readable a e = go a.left refl parts.0
  where
    parts : (left_reads a.left ≡ true) × (binds_all a.left (names a.left ++ (names a.right ++ sides_names a.sides)) ≡ true)
    parts = both (left_reads a.left) (binds_all a.left (names a.left ++ (names a.right ++ sides_names a.sides))) e

    go : (p : Pattern) → a.left ≡ p → left_reads p ≡ true → IsReadable a
    go (over h ps) f t =
        let e = both (is_known (reads_all 0 ps) (variables_of ps)) (all_families ps) t in
        record { head = h; parts = ps; left = f; reads_ = known_is (reads_all 0 ps) (variables_of ps) e.0 ∙ ap Some (sym (ap variables f)); families_ = e.1; binds = parts.1 }
    go p f t = absurd (true≢false (sym t))

-- a table passes the test where each entry does
pub tested : (table : List Axiom) → are_readable table ≡ true → AreReadable table
tested [] e a m = absurd m
tested (b ∷ table) e a (inl f) = subst IsReadable f (readable b (both (is_readable b) (are_readable table) e).0)
tested (b ∷ table) e a (inr m) = tested table (both (is_readable b) (are_readable table) e).1 a m
