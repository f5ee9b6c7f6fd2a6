-- Joins that have their grounds by some axioms have them by more.
use Rattle.std.specs.Prelude.{ℕ, List, [], ◌∷◌, ◌++◌}
use Rattle.pv_graph.specs.declared.node.Node.{Node}
use Rattle.pv_classes.specs.declared.join.Join.{Join}
use Rattle.pv_classes.specs.Blocks.{Block, listed, depth_of, pairs_of, joins_of, inner_of}
use Rattle.pv_classes.specs.Grounds.{Context, JoinGround, JoinsGround, BlockGround}

module _ (nodes : List Node) (Few Many : ℕ → List ℕ → ℕ → ℕ → Type 0) (more : (n : ℕ) (ns : List ℕ) (a b : ℕ) → Few n ns a b → Many n ns a b) where
  mutual
    ground_given : (ctx : Context) (before : List Join) (blocks : List Block) (j : Join) → JoinGround nodes Few ctx before blocks j → JoinGround nodes Many ctx before blocks j
    ground_given ctx before blocks j (JoinGround.by_axiom _ _ _ n ns why h) = JoinGround.by_axiom before blocks j n ns why (more n ns j.first j.second h)
    ground_given ctx before blocks j (JoinGround.by_kids _ _ _ _ h) = JoinGround.by_kids ctx before blocks j h
    ground_given ctx before blocks j (JoinGround.by_induction _ _ _ _ n b why at_n there h) = JoinGround.by_induction ctx before blocks j n b why at_n there (block_given ctx before b h)
    ground_given ctx before blocks j (JoinGround.by_pair d pairs outer _ _ _ i why at_i) = JoinGround.by_pair d pairs outer before blocks j i why at_i

    pub grounds_given : (ctx : Context) (before : List Join) (blocks : List Block) (joins : List Join) → JoinsGround nodes Few ctx before blocks joins → JoinsGround nodes Many ctx before blocks joins
    grounds_given ctx before blocks joins (JoinsGround.none _ _ _) = JoinsGround.none ctx before blocks
    grounds_given ctx before blocks joins (JoinsGround.next _ _ _ j rest g h) = JoinsGround.next ctx before blocks j rest (ground_given ctx before blocks j g) (grounds_given ctx (before ++ j ∷ []) blocks rest h)

    block_given : (ctx : Context) (before : List Join) (b : Block) → BlockGround nodes Few ctx before b → BlockGround nodes Many ctx before b
    block_given ctx before b (BlockGround.rests _ _ _ deeper steps h) = BlockGround.rests ctx before b deeper steps (grounds_given ((depth_of b, pairs_of b) ∷ ctx) before (listed (inner_of b)) (joins_of b) h)
