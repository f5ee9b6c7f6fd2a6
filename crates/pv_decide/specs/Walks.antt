-- What the leaves and tests of a tree give, for values of the equations.
use Rattle.std.specs.Prelude.{◌≡◌, ℕ, zero, suc, ◌-◌, List, [], ◌∷◌, ◌++◌, length, take, Option, Some, None, if◌then◌else◌, ◌==◌, ◌⊎◌, ⊤}
use Rattle.pv_equations.specs.Exp.{Exp}
use Rattle.pv_equations.specs.Flow.{put, Dest, To, End, Exit, Flow}
use Rattle.pv_equations.specs.Equations.{Target, Node, Back, Finish, Returning, Leaving, Values, outs, leaf, IsTree, true_exp, false_exp, never_exp}
use Rattle.pv_decide.specs.declared.aim.Scope as scope
use Rattle.pv_decide.specs.declared.tree.Target as aim
use Rattle.pv_decide.specs.declared.tree.Target.TheVariants as target
use Rattle.pv_decide.specs.declared.tree.TreeNode.{TreeNode}
use Rattle.pv_decide.specs.Sites.{exit_at, test_at, loops_of}
use Rattle.pv_decide.specs.Folds.{Folds}

-- a target in the words of the equations
abbrev pub target_of : aim.Target → Target
target_of (target.Node n) = Node n
target_of target.Back = Back
target_of target.Exit = Finish
target_of target.Return = Returning
target_of target.Leave = Leaving

-- the loops of A inside the loops R
abbrev pub inner : List ℕ → List ℕ → List ℕ
inner R A = take (length A - length R) A

-- whether the region's loop is left by this exit
abbrev pub leaving : Dest → List ℕ → Exp
leaving (To m) (h ∷ B) = if m == h then false_exp else true_exp
leaving (To m) [] = true_exp
leaving (End k) R = true_exp

-- what an exit to the target gives for a slot
abbrev pub exit_gives : Flow → Values → List ℕ → Target → ℕ → List ℕ → ℕ → Exit → Exp
exit_gives f v R Leaving s F b x = leaving x.dest R
exit_gives f v R t s F b x = leaf v f F b x s

-- .. by its block and number
abbrev pub leaves_of : Flow → Values → List ℕ → Target → ℕ → ℕ → ℕ → Exp
leaves_of f v R t s b e = exit_gives f v R t s (inner R (f.around b)) b (exit_at (f.chain b) e)

-- a test of a block, taken out of the loops inside the region that have the block
abbrev pub tests_of : Flow → Values → List ℕ → ℕ → ℕ → Exp
tests_of f v R b t = outs v (inner R (f.around b)) (put (v.value b) (test_at (f.chain b) t))

-- what a block gives from which neither the target nor an end is ahead: never for the token, which is slot 0
abbrev pub dead_of : Target → ℕ → Option Exp
dead_of Leaving s = None
dead_of t zero = Some never_exp
dead_of t (suc s) = None

-- the target is one of the region: a block of it, or the header of an inner loop
abbrev pub IsAimed : Flow → List ℕ → Target → Type 0
IsAimed f R (Node n) = (R ≡ f.around n) ⊎ (f.around n ≡ n ∷ R)
IsAimed f R t = ⊤

-- the values have the trees of the equations for a region, a target and a slot
abbrev pub HasTrees : Flow → Values → List ℕ → Target → ℕ → Type 0
HasTrees f v R t s = (F : List ℕ) (b : ℕ) → f.around b ≡ F ++ R → IsTree f v R t s F b (v.tree R t s F b)

-- the node n gives r, for values and a slot
abbrev pub Gives : Flow → Values → scope.Scope → aim.Target → ℕ → List TreeNode → ℕ → Option Exp → Type 0
Gives f v r t s nodes = Folds nodes (leaves_of f v (loops_of f r) (target_of t) s) (tests_of f v (loops_of f r)) (dead_of (target_of t) s)
