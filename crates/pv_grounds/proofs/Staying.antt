-- Joins keep their grounds where old nodes stay and what was given is given still.
use Rattle.std.specs.Prelude.{◌≡◌, ℕ, zero, suc, ◌≤◌, List, [], ◌∷◌, ◌++◌, length, Some, slice_get, refl}
use Rattle.std.proofs.Common.{arith}
use Rattle.std.proofs.lemmas.Option.{slice_get_within}
use Rattle.pv_graph.specs.declared.node.Node.{Node}
use Rattle.pv_graph.proofs.Cited.{found}
use Rattle.pv_classes.specs.declared.join.Join.{Join}
use Rattle.pv_classes.specs.Blocks.{Block, listed, depth_of, pairs_of, joins_of, inner_of}
use Rattle.pv_classes.specs.Linked.{Linked}
use Rattle.pv_classes.specs.Closest.{IsOfKids}
use Rattle.pv_classes.specs.Grounds.{Context, depths, IsStep, JoinGround, JoinsGround, BlockGround}
use Rattle.pv_classes.proofs.Elements.{zip_map}

-- the nodes stay where they are
abbrev pub NodesStay : List Node → List Node → Type 0
NodesStay few many = (n : ℕ) (node : Node) → slice_get few n ≡ Some node → slice_get many n ≡ Some node

-- so there are as many
as_long : (few many : List Node) → NodesStay few many → length few ≤ length many
as_long few many stay = last (length few) refl
  where
    last : (n : ℕ) → n ≡ length few → n ≤ length many
    last zero e = omega arith
    last (suc n) e = let x = found few n (omega arith) in let lt = slice_get_within many n x.0 (stay n x.0 x.1) in omega (arith, lt)

-- what is linked among some nodes is linked among more
linked_among : (n m : ℕ) (joins : List Join) (a b : ℕ) → n ≤ m → Linked n joins a b → Linked m joins a b
linked_among n m joins a b low (Linked.joined _ _ j there e f) = Linked.joined a b j there e f
linked_among n m joins a b low (Linked.same _ lt) = Linked.same a (omega arith)
linked_among n m joins a b low (Linked.flip _ _ h) = Linked.flip a b (linked_among n m joins b a low h)
linked_among n m joins a b low (Linked.chain _ c _ h k) = Linked.chain a c b (linked_among n m joins a c low h) (linked_among n m joins c b low k)

module _ (few many : List Node) (stay : NodesStay few many) (Given Later : ℕ → List ℕ → ℕ → ℕ → Type 0)
    (given : (n : ℕ) (nodes : List ℕ) (a b : ℕ) → Given n nodes a b → Later n nodes a b) where
  links : (joins : List Join) (a b : ℕ) → Linked (length few) joins a b → Linked (length many) joins a b
  links joins a b l = linked_among (length few) (length many) joins a b (as_long few many stay) l

  kids_stay : (fixed : List ℕ) (before : List Join) (j : Join) → IsOfKids few fixed before j → IsOfKids many fixed before j
  kids_stay fixed before j h = record {
    why = h.why;
    o = h.o;
    ks = h.ks;
    ls = h.ls;
    first = stay j.first _ h.first;
    second = stay j.second _ h.second;
    outside = h.outside;
    kids = zip_map (Linked (length few) before) (Linked (length many) before) h.ks h.ls (λ a b c d l. links before a b l) h.kids;
  }

  step_stays : (before inner : List Join) (d x y : ℕ) → IsStep few before inner d x y → IsStep many before inner d x y
  step_stays before inner d x y h = record {
    p = h.p;
    q = h.q;
    r = h.r;
    s = h.s;
    first = stay x _ h.first;
    second = stay y _ h.second;
    starts = links before h.p h.r h.starts;
    goes_on = links (before ++ inner) h.q h.s h.goes_on;
  }

  mutual
    pub join_stays : (ctx : Context) (before : List Join) (blocks : List Block) (j : Join) → JoinGround few Given ctx before blocks j → JoinGround many Later ctx before blocks j
    join_stays ctx before blocks j (JoinGround.by_axiom _ _ _ n nodes why h) = JoinGround.by_axiom before blocks j n nodes why (given n nodes j.first j.second h)
    join_stays ctx before blocks j (JoinGround.by_kids _ _ _ _ h) = JoinGround.by_kids ctx before blocks j (kids_stay (depths ctx) before j h)
    join_stays ctx before blocks j (JoinGround.by_induction _ _ _ _ n b why at_n there h) = JoinGround.by_induction ctx before blocks j n b why at_n there (block_stays ctx before b h)
    join_stays ctx before blocks j (JoinGround.by_pair d pairs outer _ _ _ i why at_i) = JoinGround.by_pair d pairs outer before blocks j i why at_i

    pub joins_stay : (ctx : Context) (before : List Join) (blocks : List Block) (joins : List Join) → JoinsGround few Given ctx before blocks joins → JoinsGround many Later ctx before blocks joins
    joins_stay ctx before blocks joins (JoinsGround.none _ _ _) = JoinsGround.none ctx before blocks
    joins_stay ctx before blocks joins (JoinsGround.next _ _ _ j rest g h) =
        JoinsGround.next ctx before blocks j rest (join_stays ctx before blocks j g) (joins_stay ctx (before ++ j ∷ []) blocks rest h)

    pub block_stays : (ctx : Context) (before : List Join) (b : Block) → BlockGround few Given ctx before b → BlockGround many Later ctx before b
    block_stays ctx before b (BlockGround.rests _ _ _ deeper steps h) =
        BlockGround.rests ctx before b deeper (λ x y there. step_stays before (joins_of b) (depth_of b) x y (steps x y there))
        (joins_stay ((depth_of b, pairs_of b) ∷ ctx) before (listed (inner_of b)) (joins_of b) h)
