-- How far below their own class patterns look.
use Rattle.std.specs.Prelude.{◌≡◌, ℕ, suc, Bool, true, false, ◌&&◌, List}
use Rattle.pv_graph.specs.Walks.{In}
use Rattle.pv_pattern.specs.Patterns.{bare, Pattern, var, constant, over, over_each, Patterns, none, first, Axiom}

abbrev mutual
  -- the pattern looks at most d steps to kids below its class, where it is one that a search reads
  pub looks_within : ℕ → Pattern → Bool
  looks_within d (var j) = true
  looks_within d (constant j) = true
  looks_within (suc d) (over h ps) = all_within d ps
  looks_within (suc d) (over_each which bare) = true
  looks_within d p = false

  pub all_within : ℕ → Patterns → Bool
  all_within d none = true
  all_within d (first p ps) = looks_within d p && all_within d ps

-- the parts of a left side do
abbrev pub parts_within : ℕ → Pattern → Bool
parts_within d (over h ps) = all_within d ps
parts_within d p = false

-- the parts of all left sides of a table do
abbrev pub TableWithin : ℕ → List Axiom → Type 0
TableWithin d table = (a : Axiom) → In table a → parts_within d a.left ≡ true
