-- Left sides that a search reads: each new variable is the next one, and there are no folds, no narrowings, and no family but of
-- bare kids.
use Rattle.std.specs.Prelude.{◌≡◌, ℕ, ◌+◌, Bool, true, ◌&&◌, List, Option, Some, None, nat_le, nat_lt, nat_eq, if◌then◌else◌}
use Rattle.pv_value.specs.Spelled.{bind}
use Rattle.pv_graph.specs.Walks.{In}
use Rattle.pv_pattern.specs.Patterns.{Head, bare, Pattern, var, constant, fold, narrowed, over, over_each, Patterns, none, first, Axiom, variables}
use Rattle.pv_pattern.specs.Binding.{BindsItsNames}

abbrev pub next_var : ℕ → ℕ → Option ℕ
next_var n j = if nat_lt j n then Some n else (if nat_eq j n then Some (n + 1) else None)

abbrev mutual
  -- how many variables are known once the pattern is read, where n were
  pub reads : ℕ → Pattern → Option ℕ
  reads n (var j) = next_var n j
  reads n (constant j) = next_var n j
  reads n (fold o atoms) = None
  reads n (narrowed t p) = None
  reads n (over h ps) = reads_all n ps
  reads n (over_each which bare) = Some n
  reads n (over_each which e) = None

  pub reads_all : ℕ → Patterns → Option ℕ
  reads_all n none = Some n
  reads_all n (first p ps) = bind (reads n p) (λ k. reads_all k ps)

-- the number of an operation that is no constant, text, argument or variable: it is known by its number and its parameter
abbrev pub is_told : ℕ → Bool
is_told n = nat_le 5 n && nat_le n 83

-- the operation of a family is such a one
abbrev mutual
  pub families : Pattern → Bool
  families (over_each which e) = is_told which
  families (over h ps) = all_families ps
  families p = true

  pub all_families : Patterns → Bool
  all_families none = true
  all_families (first p ps) = families p && all_families ps

-- an axiom whose left side is an operation, reads all its variables and binds all that the axiom names
pub record IsReadable (a : Axiom) : Type 0 where
  pub head : Head
  pub parts : Patterns
  pub left : a.left ≡ over head parts
  pub reads_ : reads_all 0 parts ≡ Some (variables a.left)
  pub families_ : all_families parts ≡ true
  pub binds : BindsItsNames a

abbrev pub AreReadable : List Axiom → Type 0
AreReadable table = (a : Axiom) → In table a → IsReadable a
