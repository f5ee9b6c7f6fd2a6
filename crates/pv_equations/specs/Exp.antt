-- Expressions for the values in a method.
--
-- The graphs of methods are program expression graphs, as of Tate, Stepp, Tatlock and Lerner, "Equality Saturation: a New
-- Approach to Optimization", POPL 2009. There phi chooses between two values; theta is a value that changes from iteration to
-- iteration of a loop, with one kid for the first iteration and one for the next; pass counts the iterations until a loop is
-- left, and eval gives a value in that iteration. The cycles of such a graph go through thetas. An expression here is finite:
-- the theta of a slot of a loop has a name in it, and the equations (Equations) say what the kids of that theta are.
use Rattle.std.specs.Prelude.{ℕ, List, [], ◌∷◌}
use Rattle.pv_graph.specs.declared.node.Op.{Op}
use Rattle.pv_graph.specs.declared.node.Op.TheVariants as op

mutual
  -- the theta of a slot at the header of a loop, or an operation over expressions
  pub data Exp : Type 0 where
    Name : (header slot : ℕ) → Exp
    Over : Op → Exps → Exp

  pub data Exps : Type 0 where
    NoExp : Exps
    Then : Exp → Exps → Exps

abbrev pub listed : Exps → List Exp
listed NoExp = []
listed (Then e es) = e ∷ listed es

abbrev pub one : Exp → Exps
one a = Then a NoExp

abbrev pub two : Exp → Exp → Exps
two a b = Then a (one b)

abbrev pub three : Exp → Exp → Exp → Exps
three a b c = Then a (two b c)

-- an operation over expressions, where both(unit, t) is written t
unfoldable pub made : Op → Exps → Exp
made op.Both (Then (Over op.Unit NoExp) (Then t NoExp)) = t
made o es = Over o es
