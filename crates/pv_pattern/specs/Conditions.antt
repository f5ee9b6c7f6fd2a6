-- Axioms without one of their conditions, none of which has its law.
use Rattle.std.specs.Prelude.{ℕ, pos, List, [], ◌∷◌}
use Rattle.pv_value.specs.declared.operation.ScalarOp.TheVariants.{Imul}
use Rattle.pv_graph.specs.declared.node.Op.TheVariants as op
use Rattle.pv_pattern.specs.Patterns.{fixed, eval_d, shift_d, getstatic, putstatic, Pattern, var, narrowed, by_symbol, over, Patterns, none, first, Side, settled, not_free, Axiom}
use Rattle.pv_pattern.specs.Laws.{Law}

abbrev pub rule : ℕ → Pattern → Pattern → List Side → Axiom
rule n l r sides = record { number = n; left = l; right = r; sides = sides }

abbrev pub two : Pattern → Pattern → Patterns
two p q = first p (first q none)

abbrev pub zero_ : Pattern
zero_ = over (fixed (op.Int (pos 0))) none

-- imul(x, 0) = 0
abbrev pub product_with_0 : Axiom
product_with_0 = rule 11 (over (fixed (op.Scalar Imul)) (two (var 0) zero_)) zero_ []

-- phi(c, a, a) = a
abbrev pub equal_sides : Axiom
equal_sides = rule 203 (over (fixed op.Phi) (first (var 0) (two (var 1) (var 1)))) (var 1) []

-- eval(a, p) = a, where the depth isn't free in a
abbrev pub eval_not_settled : Axiom
eval_not_settled = rule 302 (over eval_d (two (var 0) (var 1))) (var 0) (not_free 0 ∷ [])

-- eval(a, p) = a, where p is settled
abbrev pub eval_of_free : Axiom
eval_of_free = rule 302 (over eval_d (two (var 0) (var 1))) (var 0) (settled 1 ∷ [])

-- shift(a) = a
abbrev pub shift_of_free : Axiom
shift_of_free = rule 304 (over shift_d (first (var 0) none)) (var 0) []

-- getstatic(putstatic(h, v)) = the narrowed v
abbrev pub read_back : Axiom
read_back = rule 501 (over (getstatic 0) (first (over (putstatic 0) (two (var 0) (var 1))) none)) (narrowed (by_symbol 0) (var 1)) []

pub record NoLaws : Type 0 where
  pub product_with_0_ : Law product_with_0 → ⊥
  pub equal_sides_ : Law equal_sides → ⊥
  pub eval_not_settled_ : Law eval_not_settled → ⊥
  pub eval_of_free_ : Law eval_of_free → ⊥
  pub shift_of_free_ : Law shift_of_free → ⊥
  pub read_back_ : Law read_back → ⊥
