-- The test whether an axiom asks each variable one condition at most.
use Rattle.std.specs.Prelude.{ℕ, Bool, true, false, not, ◌&&◌, ◌||◌, List, [], ◌∷◌, Option, Some, None, ◌==◌}
use Rattle.pv_pattern.specs.declared.names.NameId.{NameId}
use Rattle.pv_pattern.specs.declared.names.NameId.TheVariants as name
use Rattle.pv_pattern.specs.Patterns.{Side, Axiom}
use Rattle.pv_pattern.specs.Binding.{names}
use Rattle.pv_witness.specs.Asked.{asked}

abbrev pub is_some_of : ℕ → Option ℕ → Bool
is_some_of j None = false
is_some_of j (Some k) = k == j

abbrev pub is_constant : ℕ → NameId → Bool
is_constant j (name.Constant k) = k == j
is_constant j n = false

-- one of the conditions is about the variable
abbrev pub is_asked : ℕ → List Side → Bool
is_asked j [] = false
is_asked j (x ∷ xs) = is_some_of j (asked x) || is_asked j xs

-- the variable stands for constants
abbrev pub has_constant : ℕ → List NameId → Bool
has_constant j [] = false
has_constant j (n ∷ ns) = is_constant j n || has_constant j ns

abbrev pub is_alone : List Side → List NameId → Option ℕ → Bool
is_alone xs ns None = true
is_alone xs ns (Some j) = not (is_asked j xs) && not (has_constant j ns)

abbrev pub are_alone : List NameId → List Side → Bool
are_alone ns [] = true
are_alone ns (x ∷ xs) = is_alone xs ns (asked x) && are_alone ns xs

abbrev pub ask_once : List Axiom → Bool
ask_once [] = true
ask_once (a ∷ table) = are_alone (names a.left) a.sides && ask_once table
