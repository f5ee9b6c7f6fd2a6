-- What joins, and the blocks of inductions, rest on. Lists of joins have the oldest first.
use Rattle.std.specs.Prelude.{◌≡◌, ℕ, ◌<◌, ◌≤◌, List, [], ◌∷◌, ◌++◌, map, length, Some, slice_get}
use Rattle.std.specs.List.{Contains}
use Rattle.pv_graph.specs.declared.node.Op.TheVariants as op
use Rattle.pv_graph.specs.declared.node.Node.{Node}
use Rattle.pv_classes.specs.declared.join.Join.{Join}
use Rattle.pv_classes.specs.declared.join.Reason.TheVariants as reason
use Rattle.pv_classes.specs.Blocks.{Block, listed, depth_of, pairs_of, joins_of, inner_of}
use Rattle.pv_classes.specs.Linked.{Linked}
use Rattle.pv_classes.specs.Closest.{Is, IsOfKids}

-- the open inductions, the innermost first: of each the depth and the pairs
abbrev pub Context : Type 0
Context = List (ℕ × List (ℕ × ℕ))

abbrev pub depths : Context → List ℕ
depths ctx = map (λ (c : ℕ × List (ℕ × ℕ)). c.0) ctx

-- d is a depth of loops, and greater than these
pub record IsDeeper (ds : List ℕ) (d : ℕ) : Type 0 where
  pub least : 1 ≤ d
  pub most : d ≤ 16
  pub deeper : (e : ℕ) → Contains ds e → e < d

-- both are thetas of depth d; their first kids are linked by the joins before, and their second kids by those and the inner ones
pub record IsStep (nodes : List Node) (before inner : List Join) (d : ℕ) (x y : ℕ) : Type 0 where
  pub p : ℕ
  pub q : ℕ
  pub r : ℕ
  pub s : ℕ
  pub first : Is nodes x (op.Theta d) (p ∷ q ∷ [])
  pub second : Is nodes y (op.Theta d) (r ∷ s ∷ [])
  pub starts : Linked (length nodes) before p r
  pub goes_on : Linked (length nodes) (before ++ inner) q s

mutual
  -- a join rests on the joins before it, on the blocks and on the open inductions; Given says which nodes are the sides of an axiom
  pub data JoinGround (nodes : List Node) (Given : ℕ → List ℕ → ℕ → ℕ → Type 0) : Context → List Join → List Block → Join → Type 0 where
    by_axiom : (before : List Join) (blocks : List Block) (j : Join) (n : ℕ) (subst_ : List ℕ) → j.why ≡ reason.Axiom n subst_ → Given n subst_ j.first j.second → JoinGround nodes Given [] before blocks j
    by_kids : (ctx : Context) (before : List Join) (blocks : List Block) (j : Join) → IsOfKids nodes (depths ctx) before j → JoinGround nodes Given ctx before blocks j
    by_induction : (ctx : Context) (before : List Join) (blocks : List Block) (j : Join) (n : ℕ) (b : Block) → j.why ≡ reason.Induction n → slice_get blocks n ≡ Some b
        → Contains (pairs_of b) (j.first, j.second) → BlockGround nodes Given ctx before b → JoinGround nodes Given ctx before blocks j
    by_pair : (d : ℕ) (pairs : List (ℕ × ℕ)) (ctx : Context) (before : List Join) (blocks : List Block) (j : Join) (i : ℕ) → j.why ≡ reason.Pair i → slice_get pairs i ≡ Some (j.first, j.second)
        → JoinGround nodes Given ((d, pairs) ∷ ctx) before blocks j

  -- each of these joins rests on those before it
  pub data JoinsGround (nodes : List Node) (Given : ℕ → List ℕ → ℕ → ℕ → Type 0) : Context → List Join → List Block → List Join → Type 0 where
    none : (ctx : Context) (before : List Join) (blocks : List Block) → JoinsGround nodes Given ctx before blocks []
    next : (ctx : Context) (before : List Join) (blocks : List Block) (j : Join) (joins : List Join) → JoinGround nodes Given ctx before blocks j
        → JoinsGround nodes Given ctx (before ++ j ∷ []) blocks joins → JoinsGround nodes Given ctx before blocks (j ∷ joins)

  -- an induction deeper than the open ones, whose joins rest on its pairs and on what stands before it, and take each pair one iteration on
  pub data BlockGround (nodes : List Node) (Given : ℕ → List ℕ → ℕ → ℕ → Type 0) : Context → List Join → Block → Type 0 where
    rests : (ctx : Context) (before : List Join) (b : Block) → IsDeeper (depths ctx) (depth_of b)
        → ((x y : ℕ) → Contains (pairs_of b) (x, y) → IsStep nodes before (joins_of b) (depth_of b) x y)
        → JoinsGround nodes Given ((depth_of b, pairs_of b) ∷ ctx) before (listed (inner_of b)) (joins_of b) → BlockGround nodes Given ctx before b
