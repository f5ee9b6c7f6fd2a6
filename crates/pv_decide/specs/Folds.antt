-- What a tree with shared nodes gives, when it is folded.
use Rattle.std.specs.Prelude.{◌≡◌, ℕ, suc, ◌<◌, List, length, Option, Some, None, slice_get, ⊤, ◌⊎◌}
use Rattle.pv_equations.specs.Exp.{Exp}
use Rattle.pv_equations.specs.Equations.{Joins}
use Rattle.pv_flow.specs.declared.block.Exit as flow
use Rattle.pv_flow.specs.declared.block.Exit.TheVariants as exit
use Rattle.pv_decide.specs.declared.site.Site.{Site}
use Rattle.pv_decide.specs.declared.aim.Scope.{Scope}
use Rattle.pv_decide.specs.declared.aim.Scope.TheVariants as scope
use Rattle.pv_decide.specs.declared.tree.Target.{Target}
use Rattle.pv_decide.specs.declared.tree.Target.TheVariants as target
use Rattle.pv_decide.specs.Sites.{Inside, AreOrdered, place_of}
use Rattle.pv_decide.specs.declared.tree.TreeNode as code
use Rattle.pv_decide.specs.declared.tree.TreeNode.TheVariants as node

-- the node n gives r, where leaf says what an exit gives, test is a test, and dead is what a dead node gives
pub data Folds (nodes : List code.TreeNode) (leaf test : ℕ → ℕ → Exp) (dead : Option Exp) : ℕ → Option Exp → Type 0 where
  at_leaf : (n b e : ℕ) (r : Option Exp) → slice_get nodes n ≡ Some (node.Leaf b e) → r ≡ Some (leaf b e) → Folds nodes leaf test dead n r
  at_test : (n b t yes' no' : ℕ) (u v r : Option Exp) → slice_get nodes n ≡ Some (node.Test b t yes' no')
      → Folds nodes leaf test dead yes' u → Folds nodes leaf test dead no' v → Joins (test b t) u v r → Folds nodes leaf test dead n r
  at_nothing : (n : ℕ) (r : Option Exp) → slice_get nodes n ≡ Some node.Nothing → r ≡ None → Folds nodes leaf test dead n r
  at_dead : (n : ℕ) (r : Option Exp) → slice_get nodes n ≡ Some node.Dead → r ≡ dead → Folds nodes leaf test dead n r

-- ---- which nodes a tree has

-- the exit e of the block b, in the region
abbrev pub IsExitOf : List Site → Scope → ℕ → ℕ → Type 0
IsExitOf sites r b e = Inside sites r b × (k : Site) × (slice_get sites b ≡ Some k) × (e < length k.exits.items)

-- the test e of the block b, in the region: each exit but the last has a test
abbrev pub IsTestOf : List Site → Scope → ℕ → ℕ → Type 0
IsTestOf sites r b e = Inside sites r b × (k : Site) × (slice_get sites b ≡ Some k) × (suc e < length k.exits.items)

-- in every order that edges follow the block comes before the target, where that is a block
abbrev pub IsEarly : List Site → Target → ℕ → Type 0
IsEarly sites t b = (n : ℕ) (order : List ℕ) → t ≡ target.Node n → n < length sites → AreOrdered sites order → place_of order b < place_of order n

-- an exit of this kind is looked for: one to the block, an end of the method, or one to the header of the region's loop
abbrev pub AimsAt : Scope → Target → flow.Exit → Type 0
AimsAt r (target.Node n) d = d ≡ exit.To n
AimsAt r target.Exit d = (d ≡ exit.Return) ⊎ (d ≡ exit.Throw)
AimsAt r target.Return d = d ≡ exit.Return
AimsAt r target.Back d = (h : ℕ) × (r ≡ scope.Loop h) × (d ≡ exit.To h)
AimsAt r target.Leave d = ⊤

-- the exit e of the block b is one that is looked for
abbrev pub IsAimedAt : List Site → Scope → Target → ℕ → ℕ → Type 0
IsAimedAt sites r t b e = (k : Site) (d : flow.Exit) → slice_get sites b ≡ Some k → slice_get k.exits.items e ≡ Some d → AimsAt r t d

-- what a node may be, at place n of the list
abbrev pub NodeFits : List Site → Scope → Target → ℕ → code.TreeNode → Type 0
NodeFits sites r t n (node.Leaf b e) = IsExitOf sites r b e × IsEarly sites t b × IsAimedAt sites r t b e
NodeFits sites r t n (node.Test b e y m) = IsTestOf sites r b e × IsEarly sites t b × (y < n) × (m < n)
NodeFits sites r t n node.Nothing = ⊤
NodeFits sites r t n node.Dead = ⊤

-- leaves are exits that are looked for, and tests are tests, of the region's blocks before the target; tests stand after their sides
abbrev pub AreSound : List Site → Scope → Target → List code.TreeNode → Type 0
AreSound sites r t nodes = (n : ℕ) (x : code.TreeNode) → slice_get nodes n ≡ Some x → NodeFits sites r t n x
