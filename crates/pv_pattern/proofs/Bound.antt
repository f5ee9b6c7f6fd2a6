-- Tables of axioms each of which binds its names, by a test.
use Rattle.std.proofs.Common.{◌≡◌, Bool, true, false, ◌&&◌, List, [], ◌∷◌, ◌++◌, refl}
use Rattle.std.specs.List.{AllByRecursion}
use Rattle.pv_pattern.specs.Patterns.{Axiom}
use Rattle.pv_pattern.specs.Binding.{names, sides_names, binds_all, BindsItsNames}

abbrev pub test : List Axiom → Bool
test [] = true
test (a ∷ table) = binds_all a.left (names a.left ++ (names a.right ++ sides_names a.sides)) && test table

both : (a b : Bool) → (a && b) ≡ true → (a ≡ true) × (b ≡ true)
both true b e = (refl, e)
both false b e = absurd (cc)

pub tested : (table : List Axiom) → test table ≡ true → AllByRecursion BindsItsNames table
tested [] e = tt
tested (a ∷ table) e =
    let parts = both (binds_all a.left (names a.left ++ (names a.right ++ sides_names a.sides))) (test table) e in
    (parts.0, tested table parts.1)
