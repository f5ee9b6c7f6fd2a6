-- The root of a method.
use Rattle.std.specs.Prelude.{[]}
use Rattle.pv_graph.specs.declared.node.Op.TheVariants as op
use Rattle.pv_equations.specs.Exp.{Exp, Over, NoExp, Then, three}
use Rattle.pv_equations.specs.Flow.{Flow}
use Rattle.pv_equations.specs.Equations.{Finish, Returning, Values, or_else, tree_of, never_exp}

-- the root: slots 0 to 3 at the ends are the token, the fault, the result and the heap. Where no end is reached they are
-- `never`, no fault, d (a value of the result's sort) and the heap at the entry
abbrev pub root_of : Flow → Values → Exp → Exp
root_of f v d = Over op.Root (Then (or_else (tree_of f v [] Finish 0) never_exp)
    (three (or_else (tree_of f v [] Finish 1) (Over op.Clear NoExp)) (or_else (tree_of f v [] Returning 2) d) (or_else (tree_of f v [] Finish 3) (Over op.Heap0 NoExp))))
