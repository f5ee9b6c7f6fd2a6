-- How a walk goes over the blocks; private to this crate.
use Rattle.std.specs.Prelude.{◌≡◌, ◌≢◌, ◌⊎◌, ℕ, ◌-◌, ◌<◌, ◌≤◌, Bool, true, false, List, [], ◌∷◌, ◌++◌, length, Option, Some, slice_get, slice_index}
use Rattle.pv_equations.specs.Exp.{Exp}
use Rattle.pv_loops.specs.Ranks.{Heads}
use Rattle.pv_equations.specs.Flow.{Flow, Shape}
use Rattle.pv_equations.specs.Equations.{Joins, Values, IsExit, OfToken, Ahead, tree_of}
use Rattle.pv_decide.specs.declared.site.Site.{Site}
use Rattle.pv_decide.specs.declared.aim.Scope as scope
use Rattle.pv_decide.specs.declared.aim.Scope.TheVariants.{Loop}
use Rattle.pv_decide.specs.declared.tree.Target as aim
use Rattle.pv_decide.specs.declared.tree.Target.TheVariants as target
use Rattle.pv_decide.specs.declared.tree.TreeNode.{TreeNode}
use Rattle.pv_decide.specs.declared.tree.TreeNode.TheVariants as node
use Rattle.pv_decide.specs.Sites.{exit_at, Stand, AreOrdered, place_of, loops_of}
use Rattle.pv_decide.specs.Folds.{Folds, AreSound}
use Rattle.pv_decide.specs.Walks.{target_of, IsAimed, HasTrees, Gives}

-- ---- what is walked

-- the flow of equations stands over these blocks
pub record IsUnder (f : Flow) (rank : ℕ → ℕ) (sites : List Site) : Type 0 where
  pub shape : Shape f rank
  pub stand : Stand f sites
  pub entry : f.entry ≡ 0

-- .. and has this region, and this target in it
pub record IsPlaced (f : Flow) (rank : ℕ → ℕ) (sites : List Site) (r : scope.Scope) (t : aim.Target) : Type 0 where
  pub under : IsUnder f rank sites
  pub region : (h : ℕ) → r ≡ Loop h → Heads (f.around h) h
  pub target : IsAimed f (loops_of f r) (target_of t)

-- the blocks from which the target or an end is ahead
abbrev pub AreAhead : Flow → List Site → scope.Scope → aim.Target → List Bool → Type 0
AreAhead f sites r t ahead = (b : ℕ) → b < length sites → (slice_get ahead b ≡ Some true → Ahead f (loops_of f r) (target_of t) b) × (slice_get ahead b ≡ Some false → Ahead f (loops_of f r) (target_of t) b → ⊥)

-- folded with what any values give at exits and tests, the last node gives the values' tree
abbrev pub IsWalk : List Site → scope.Scope → aim.Target → List Bool → List TreeNode → Type 0
IsWalk sites r t ahead nodes = (f : Flow) (rank : ℕ → ℕ) → IsPlaced f rank sites r t → AreAhead f sites r t ahead → (v : Values) (s : ℕ) → HasTrees f v (loops_of f r) (target_of t) s
    → Gives f v r t s nodes (length nodes - 1) (tree_of f v (loops_of f r) (target_of t) s)

-- ---- the nodes so far

-- nodes stand after the old ones
abbrev pub Grows : List TreeNode → List TreeNode → Type 0
Grows old new = (more : List TreeNode) × (new ≡ old ++ more)

-- the node n is this one, after the old ones
abbrev pub Pushed : List TreeNode → List TreeNode → TreeNode → ℕ → Type 0
Pushed old new x n = (n ≡ length old) × (new ≡ old ++ x ∷ [])

-- the first node gives nothing
abbrev pub HasNothing : List TreeNode → Type 0
HasNothing nodes = slice_get nodes 0 ≡ Some node.Nothing

-- the second is dead
abbrev pub HasDead : List TreeNode → Type 0
HasDead nodes = slice_get nodes 1 ≡ Some node.Dead

-- the node n gives what a test with these sides gives
abbrev pub Joined : List TreeNode → List TreeNode → ℕ → ℕ → ℕ → ℕ → ℕ → Type 0
Joined old new b t y m n = Grows old new × ((leaf test : ℕ → ℕ → Exp) (dead u v r : Option Exp)
    → Folds old leaf test dead y u → Folds old leaf test dead m v → Joins (test b t) u v r → Folds new leaf test dead n r)

-- the test is one of its sides, or a node of its own after the others
abbrev pub TestMade : List TreeNode → List TreeNode → ℕ → ℕ → ℕ → ℕ → ℕ → Type 0
TestMade old new b t y m n = ((new ≡ old) × ((n ≡ y) ⊎ (n ≡ m))) ⊎ ((y ≢ m) × (y ≢ 0) × (m ≢ 0) × Pushed old new (node.Test b t y m) n)

-- p is a node for a block, one of the first two where that doesn't come before the target
abbrev pub PlaceFits : List Site → aim.Target → List TreeNode → ℕ → ℕ → Type 0
PlaceFits sites t nodes b p = (p < length nodes) × ((n : ℕ) (order : List ℕ) → t ≡ target.Node n → n < length sites → AreOrdered sites order → place_of order n ≤ place_of order b → p < 2)

-- of each block
abbrev pub ArePlaces : List Site → aim.Target → List TreeNode → List ℕ → Type 0
ArePlaces sites t nodes places = (m : ℕ) → m < length places → PlaceFits sites t nodes m (slice_index places m)

-- with nodes that fit, and its own that does
abbrev pub FitsAt : List Site → scope.Scope → aim.Target → List TreeNode → ℕ → ℕ → Type 0
FitsAt sites r t nodes b p = AreSound sites r t nodes × PlaceFits sites t nodes b p

-- ---- the places so far

-- the blocks of the region after b have their places
abbrev pub Done : Flow → Values → List Site → List ℕ → scope.Scope → aim.Target → ℕ → List ℕ → List TreeNode → ℕ → Type 0
Done f v sites order r t s places nodes b = (m : ℕ) (F : List ℕ) → place_of order b < place_of order m → m < length sites → f.around m ≡ F ++ loops_of f r
    → Gives f v r t s nodes (slice_index places m) (v.tree (loops_of f r) (target_of t) s F m)

-- a walk, for values with their trees, done after b, where b is inside the loops F of the region
pub record Walking (f : Flow) (rank : ℕ → ℕ) (v : Values) (sites : List Site) (order : List ℕ) (r : scope.Scope) (t : aim.Target) (s : ℕ) (places : List ℕ) (nodes : List TreeNode) (b : ℕ) (F : List ℕ) : Type 0 where
  pub placed : IsPlaced f rank sites r t
  pub ordered : AreOrdered sites order
  pub trees : HasTrees f v (loops_of f r) (target_of t) s
  pub done : Done f v sites order r t s places nodes b
  pub around : f.around b ≡ F ++ loops_of f r

-- the node n gives what the exit e of b gives
abbrev pub FollowsTo : List Site → scope.Scope → aim.Target → List ℕ → List TreeNode → List TreeNode → ℕ → ℕ → ℕ → Type 0
FollowsTo sites r t places old new b e n = Grows old new × ((f : Flow) (rank : ℕ → ℕ) (v : Values) (order : List ℕ) (s : ℕ) (F : List ℕ) → Walking f rank v sites order r t s places old b F
    → (q : Option Exp) → IsExit f v (loops_of f r) (target_of t) s F b (exit_at (f.chain b) e) q → Gives f v r t s new n q)

-- the node n gives the tree of b, where b isn't dead
abbrev pub Follows : List Site → scope.Scope → aim.Target → List ℕ → List TreeNode → List TreeNode → ℕ → ℕ → Type 0
Follows sites r t places old new b n = Grows old new × ((f : Flow) (rank : ℕ → ℕ) (v : Values) (order : List ℕ) (s : ℕ) (F : List ℕ) → Walking f rank v sites order r t s places old b F
    → (OfToken (target_of t) s → Ahead f (loops_of f r) (target_of t) b) → Gives f v r t s new n (v.tree (loops_of f r) (target_of t) s F b))

-- the node n gives the tree of b
abbrev pub IsPlace : List Site → scope.Scope → aim.Target → List Bool → List ℕ → List TreeNode → List TreeNode → ℕ → ℕ → Type 0
IsPlace sites r t ahead places old new b n = Grows old new × ((f : Flow) (rank : ℕ → ℕ) (v : Values) (order : List ℕ) (s : ℕ) (F : List ℕ) → Walking f rank v sites order r t s places old b F
    → AreAhead f sites r t ahead → Gives f v r t s new n (v.tree (loops_of f r) (target_of t) s F b))
