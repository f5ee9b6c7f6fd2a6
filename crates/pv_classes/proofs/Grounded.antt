-- What joins rest on: joins by kids, one list after another, more joins before, and more blocks.
use Rattle.std.proofs.Common.{◌≡◌, inl, inr, ℕ, zero, suc, List, [], ◌∷◌, ◌++◌, length, Some, slice_get, refl, sym, ap, subst, append_assoc}
use Rattle.std.specs.List.{Contains}
use Rattle.std.proofs.lemmas.List.{append-nil}
use Rattle.std.proofs.lemmas.List.Elements.{Contains-append_left, Contains-append_right, Contains-append_cases}
use Rattle.std.proofs.lemmas.Option.{none-some}
use Rattle.pv_graph.specs.declared.node.Node.{Node}
use Rattle.pv_classes.specs.declared.join.Join.{Join}
use Rattle.pv_classes.specs.Blocks.{Block, listed, blocks_of, depth_of, pairs_of, joins_of, inner_of}
use Rattle.pv_classes.specs.Linked.{Linked}
use Rattle.pv_classes.specs.Closest.{IsOfKids, AreOfKids}
use Rattle.pv_classes.specs.Grounds.{Context, depths, IsStep, JoinGround, JoinsGround, BlockGround}
use Rattle.pv_classes.proofs.Elements.{in_first, in_rest, zip_map}

module _ (nodes : List Node) (Given : ℕ → List ℕ → ℕ → ℕ → Type 0) where
  -- what a closing joins has its ground
  pub grounds_of_kids : (ctx : Context) (before : List Join) (blocks : List Block) (joins : List Join) → AreOfKids nodes (depths ctx) before joins → JoinsGround nodes Given ctx before blocks joins
  grounds_of_kids ctx before blocks [] (AreOfKids.none _) = JoinsGround.none ctx before blocks
  grounds_of_kids ctx before blocks (j ∷ joins) (AreOfKids.next _ _ _ h r) =
      JoinsGround.next ctx before blocks j joins (JoinGround.by_kids ctx before blocks j h) (grounds_of_kids ctx (before ++ j ∷ []) blocks joins r)

  -- joins after others
  pub grounds_on : (ctx : Context) (before : List Join) (blocks : List Block) (joins more : List Join) → JoinsGround nodes Given ctx before blocks joins → JoinsGround nodes Given ctx (before ++ joins) blocks more
      → JoinsGround nodes Given ctx before blocks (joins ++ more)
  grounds_on ctx before blocks [] more (JoinsGround.none _ _ _) r = subst (λ (b : List Join). JoinsGround nodes Given ctx b blocks more) (append-nil before) r
  grounds_on ctx before blocks (j ∷ joins) more (JoinsGround.next _ _ _ _ _ g h) r =
      JoinsGround.next ctx before blocks j (joins ++ more) g
      (grounds_on ctx (before ++ j ∷ []) blocks joins more h (subst (λ (b : List Join). JoinsGround nodes Given ctx b blocks more) (sym (append_assoc before (j ∷ []) joins)) r))

  abbrev IsIn : List Join → List Join → Type 0
  IsIn few many = (j : Join) → Contains few j → Contains many j

  pub linked_in : (n : ℕ) (few many : List Join) (a b : ℕ) → ((j : Join) → Contains few j → Contains many j) → Linked n few a b → Linked n many a b
  linked_in n few many a b i (Linked.joined _ _ j there e f) = Linked.joined a b j (i j there) e f
  linked_in n few many a b i (Linked.same _ lt) = Linked.same a lt
  linked_in n few many a b i (Linked.flip _ _ h) = Linked.flip a b (linked_in n few many b a i h)
  linked_in n few many a b i (Linked.chain _ c _ h k) = Linked.chain a c b (linked_in n few many a c i h) (linked_in n few many c b i k)

  in_both : (few many more : List Join) → IsIn few many → IsIn (few ++ more) (many ++ more)
  in_both few many more i j there =
      elim (Contains-append_cases few more j there) [ inl c ↦ Contains-append_left many more j (i j c) | inr c ↦ Contains-append_right many more j c ]

  kids_in : (fixed : List ℕ) (few many : List Join) (j : Join) → IsIn few many → IsOfKids nodes fixed few j → IsOfKids nodes fixed many j
  kids_in fixed few many j i h = record {
    why = h.why;
    o = h.o;
    ks = h.ks;
    ls = h.ls;
    first = h.first;
    second = h.second;
    outside = h.outside;
    kids = zip_map (Linked (length nodes) few) (Linked (length nodes) many) h.ks h.ls (λ a b c d l. linked_in (length nodes) few many a b i l) h.kids;
  }

  step_in : (few many inner : List Join) (d x y : ℕ) → IsIn few many → IsStep nodes few inner d x y → IsStep nodes many inner d x y
  step_in few many inner d x y i h = record {
    p = h.p;
    q = h.q;
    r = h.r;
    s = h.s;
    first = h.first;
    second = h.second;
    starts = linked_in (length nodes) few many h.p h.r i h.starts;
    goes_on = linked_in (length nodes) (few ++ inner) (many ++ inner) h.q h.s (in_both few many inner i) h.goes_on;
  }

  -- more joins before keep the ground
  mutual
    pub ground_in : (ctx : Context) (few many : List Join) (blocks : List Block) (j : Join) → ((k : Join) → Contains few k → Contains many k) → JoinGround nodes Given ctx few blocks j → JoinGround nodes Given ctx many blocks j
    ground_in ctx few many blocks j i (JoinGround.by_axiom _ _ _ n nodes_ why given) = JoinGround.by_axiom many blocks j n nodes_ why given
    ground_in ctx few many blocks j i (JoinGround.by_kids _ _ _ _ h) = JoinGround.by_kids ctx many blocks j (kids_in (depths ctx) few many j i h)
    ground_in ctx few many blocks j i (JoinGround.by_induction _ _ _ _ n b why at_n there h) = JoinGround.by_induction ctx many blocks j n b why at_n there (block_in ctx few many b i h)
    ground_in ctx few many blocks j i (JoinGround.by_pair d pairs outer _ _ _ n why at_n) = JoinGround.by_pair d pairs outer many blocks j n why at_n

    pub grounds_in : (ctx : Context) (few many : List Join) (blocks : List Block) (joins : List Join) → ((k : Join) → Contains few k → Contains many k) → JoinsGround nodes Given ctx few blocks joins → JoinsGround nodes Given ctx many blocks joins
    grounds_in ctx few many blocks joins i (JoinsGround.none _ _ _) = JoinsGround.none ctx many blocks
    grounds_in ctx few many blocks joins i (JoinsGround.next _ _ _ j rest g h) =
        JoinsGround.next ctx many blocks j rest (ground_in ctx few many blocks j i g) (grounds_in ctx (few ++ j ∷ []) (many ++ j ∷ []) blocks rest (in_both few many (j ∷ []) i) h)

    pub block_in : (ctx : Context) (few many : List Join) (b : Block) → ((k : Join) → Contains few k → Contains many k) → BlockGround nodes Given ctx few b → BlockGround nodes Given ctx many b
    block_in ctx few many b i (BlockGround.rests _ _ _ deeper steps h) =
        BlockGround.rests ctx many b deeper (λ x y there. step_in few many (joins_of b) (depth_of b) x y i (steps x y there))
        (grounds_in ((depth_of b, pairs_of b) ∷ ctx) few many (listed (inner_of b)) (joins_of b) i h)

  -- joins that have their ground after all that has the joins before
  pub grounds_each : (ctx : Context) (before : List Join) (blocks : List Block) (joins : List Join) → ((j : Join) (many : List Join) → Contains joins j → ((k : Join) → Contains before k → Contains many k) → JoinGround nodes Given ctx many blocks j)
      → JoinsGround nodes Given ctx before blocks joins
  grounds_each ctx before blocks [] h = JoinsGround.none ctx before blocks
  grounds_each ctx before blocks (j ∷ joins) h =
      JoinsGround.next ctx before blocks j joins (h j before (in_first joins j) (λ k c. c))
      (grounds_each ctx (before ++ j ∷ []) blocks joins (λ i many there into. h i many (in_rest joins j i there) (λ k c. into k (Contains-append_left before (j ∷ []) k c))))

  -- more blocks keep the ground
  block_still : (blocks more : List Block) (n : ℕ) (b : Block) → slice_get blocks n ≡ Some b → slice_get (blocks ++ more) n ≡ Some b
  block_still [] more n b e = absurd (none-some b e)
  block_still (c ∷ blocks) more zero b e = e
  block_still (c ∷ blocks) more (suc n) b e = block_still blocks more n b e

  ground_blocks : (ctx : Context) (before : List Join) (blocks more : List Block) (j : Join) → JoinGround nodes Given ctx before blocks j → JoinGround nodes Given ctx before (blocks ++ more) j
  ground_blocks ctx before blocks more j (JoinGround.by_axiom _ _ _ n nodes_ why given) = JoinGround.by_axiom before (blocks ++ more) j n nodes_ why given
  ground_blocks ctx before blocks more j (JoinGround.by_kids _ _ _ _ h) = JoinGround.by_kids ctx before (blocks ++ more) j h
  ground_blocks ctx before blocks more j (JoinGround.by_induction _ _ _ _ n b why at_n there h) = JoinGround.by_induction ctx before (blocks ++ more) j n b why (block_still blocks more n b at_n) there h
  ground_blocks ctx before blocks more j (JoinGround.by_pair d pairs outer _ _ _ n why at_n) = JoinGround.by_pair d pairs outer before (blocks ++ more) j n why at_n

  pub grounds_blocks : (ctx : Context) (before : List Join) (blocks more : List Block) (joins : List Join) → JoinsGround nodes Given ctx before blocks joins → JoinsGround nodes Given ctx before (blocks ++ more) joins
  grounds_blocks ctx before blocks more joins (JoinsGround.none _ _ _) = JoinsGround.none ctx before (blocks ++ more)
  grounds_blocks ctx before blocks more joins (JoinsGround.next _ _ _ j rest g h) =
      JoinsGround.next ctx before (blocks ++ more) j rest (ground_blocks ctx before blocks more j g) (grounds_blocks ctx (before ++ j ∷ []) blocks more rest h)

-- the blocks that were listed
pub listed_blocks : (blocks : List Block) → listed (blocks_of blocks) ≡ blocks
listed_blocks [] = refl
listed_blocks (b ∷ blocks) = ap (λ (l : List Block). b ∷ l) (listed_blocks blocks)
