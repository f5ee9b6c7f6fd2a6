-- A block keeps its ground where fewer joins before it link the nodes that it names, and their kids.
use Rattle.std.specs.Prelude.{◌≡◌, ◌⊎◌, ℕ, ◌<◌, List, [], ◌∷◌, ◌++◌, length, Some, slice_get}
use Rattle.std.specs.List.{AllByRecursion, AllZip, Contains}
use Rattle.std.proofs.Common.{inl, inr, refl, sym, subst}
use Rattle.std.proofs.lemmas.Option.{slice_get_within}
use Rattle.std.proofs.lemmas.List.Elements.{Contains-append_left, Contains-append_right, Contains-append_cases}
use Rattle.pv_list.proofs.Elements.{all_here}
use Rattle.pv_graph.specs.declared.node.Node.{Node}
use Rattle.pv_graph.specs.Nodes.{node_of}
use Rattle.pv_classes.specs.declared.join.Join.{Join}
use Rattle.pv_classes.specs.Blocks.{Block, depth_of, inner_of, joins_of, listed, pairs_of}
use Rattle.pv_classes.specs.Linked.{Linked}
use Rattle.pv_classes.specs.Closest.{IsOfKids}
use Rattle.pv_classes.specs.Grounds.{Context, depths, IsStep, JoinGround, JoinsGround, BlockGround}
use Rattle.pv_classes.proofs.Elements.{contains_at, in_cons, none_in}
use Rattle.pv_classes.proofs.Grounded.{linked_in}
use Rattle.pv_explain.specs.Named.{OfBlock, OfCited, OfJoin, OfPair}
use Rattle.pv_explain.proofs.Linking.{at_index}
use Rattle.pv_explain.proofs.Naming.{inside_named, pair_named}

-- ---- nodes of joins

-- the pairs of the open inductions are of nodes
abbrev pub ArePairsLow : List Node → Context → Type 0
ArePairsLow nodes [] = Unit {0}
ArePairsLow nodes (c ∷ ctx) = ((a b : ℕ) → Contains c.1 (a, b) → (a < length nodes) × (b < length nodes)) × ArePairsLow nodes ctx

-- an axiom is given of nodes
abbrev pub IsGivenLow : List Node → (ℕ → List ℕ → ℕ → ℕ → Type 0) → Type 0
IsGivenLow nodes Given = (n : ℕ) (ns : List ℕ) (a b : ℕ) → Given n ns a b → (a < length nodes) × (b < length nodes)

block_low : (nodes : List Node) (Given : ℕ → List ℕ → ℕ → ℕ → Type 0) (ctx : Context) (before : List Join) (b : Block) → BlockGround nodes Given ctx before b → (x y : ℕ) → Contains (pairs_of b) (x, y) → (x < length nodes) × (y < length nodes)
block_low nodes Given ctx before b (BlockGround.rests _ _ _ deeper steps h) x y c =
    let z = steps x y c in (slice_get_within nodes x _ z.first, slice_get_within nodes y _ z.second)

-- the nodes of a join that has its ground are nodes
pub ground_low : (nodes : List Node) (Given : ℕ → List ℕ → ℕ → ℕ → Type 0) → IsGivenLow nodes Given → (ctx : Context) (before : List Join) (blocks : List Block) (j : Join) → ArePairsLow nodes ctx → JoinGround nodes Given ctx before blocks j → (j.first < length nodes) × (j.second < length nodes)
ground_low nodes Given given ctx before blocks j low (JoinGround.by_axiom _ _ _ n ns why g) = given n ns j.first j.second g
ground_low nodes Given given ctx before blocks j low (JoinGround.by_kids _ _ _ _ k) = (slice_get_within nodes j.first (node_of k.o k.ks) k.first, slice_get_within nodes j.second (node_of k.o k.ls) k.second)
ground_low nodes Given given ctx before blocks j low (JoinGround.by_induction _ _ _ _ n b why at_n there h) = block_low nodes Given ctx before b h j.first j.second there
ground_low nodes Given given ctx before blocks j low (JoinGround.by_pair d pairs outer _ _ _ i why at_i) = low.0 j.first j.second (contains_at pairs (j.first, j.second) i at_i)

grounds_low : (nodes : List Node) (Given : ℕ → List ℕ → ℕ → ℕ → Type 0) → IsGivenLow nodes Given → (ctx : Context) (before : List Join) (blocks : List Block) (joins : List Join) → ArePairsLow nodes ctx → JoinsGround nodes Given ctx before blocks joins
    → (j : Join) → Contains joins j → (j.first < length nodes) × (j.second < length nodes)
grounds_low nodes Given given ctx before blocks joins low (JoinsGround.none _ _ _) j c = absurd (none_in j c)
grounds_low nodes Given given ctx before blocks joins low (JoinsGround.next _ _ _ k rest g h) j c = by (in_cons rest k j c) (λ d. grounds_low nodes Given given ctx (before ++ k ∷ []) blocks rest low h j d)
  where
    by : (k ≡ j) ⊎ Contains rest j → (Contains rest j → (j.first < length nodes) × (j.second < length nodes)) → (j.first < length nodes) × (j.second < length nodes)
    by (inl e) r = subst (λ (q : Join). (q.first < length nodes) × (q.second < length nodes)) e (ground_low nodes Given given ctx before blocks k low g)
    by (inr d) r = r d

module _ (nodes : List Node) (Given : ℕ → List ℕ → ℕ → ℕ → Type 0) (given : IsGivenLow nodes Given) (N : ℕ → Type 0) (within : (k : ℕ) → N k → k < length nodes) where
  -- ---- fewer joins before, which link the same ones of some nodes

  -- those that the many link, the few link
  abbrev StillLink : List Join → List Join → Type 0
  StillLink many few = (a b : ℕ) → N a → N b → Linked (length nodes) many a b → Linked (length nodes) few a b

  -- if it is a node, it is one of these, and so are its kids
  abbrev IsWithKids : ℕ → Type 0
  IsWithKids n = n < length nodes → N n × ((node : Node) → slice_get nodes n ≡ Some node → AllByRecursion N node.kids)

  -- a way from a to b: by the many to one of these nodes, by the others to another one, and by the many on
  record Through (many others : List Join) (a b : ℕ) : Type 0 where
    pub x : ℕ
    pub y : ℕ
    pub first_in : N x
    pub second_in : N y
    pub to : Linked (length nodes) many a x
    pub along : Linked (length nodes) others x y
    pub on : Linked (length nodes) many y b

  through_joined : (many few more : List Join) (a b : ℕ) (j : Join) → N j.first → N j.second → Contains more j → j.first ≡ a → j.second ≡ b → Through many (few ++ more) a b
  through_joined many few more a b j p q c e f = record {
    x = j.first;
    y = j.second;
    first_in = p;
    second_in = q;
    to = subst (λ (m : ℕ). Linked (length nodes) many m j.first) e (Linked.same j.first (within j.first p));
    along = Linked.joined j.first j.second j (Contains-append_right few more j c) refl refl;
    on = subst (λ (m : ℕ). Linked (length nodes) many j.second m) f (Linked.same j.second (within j.second q));
  }

  through_flip : (many others : List Join) (a b : ℕ) → Through many others b a → Through many others a b
  through_flip many others a b t = record {
    x = t.y;
    y = t.x;
    first_in = t.second_in;
    second_in = t.first_in;
    to = Linked.flip a t.y t.on;
    along = Linked.flip t.y t.x t.along;
    on = Linked.flip t.x b t.to;
  }

  through_chain : (many few more : List Join) → StillLink many few → (a b c : ℕ) → Through many (few ++ more) a b → Through many (few ++ more) b c → Through many (few ++ more) a c
  through_chain many few more still a b c t u = record {
    x = t.x;
    y = u.y;
    first_in = t.first_in;
    second_in = u.second_in;
    to = t.to;
    along =
        Linked.chain t.x t.y u.y t.along
        (Linked.chain t.y u.x u.y (linked_in nodes Given (length nodes) few (few ++ more) t.y u.x (λ j k. Contains-append_left few more j k) (still t.y u.x t.second_in u.first_in (Linked.chain t.y b u.x t.on u.to))) u.along);
    on = u.on;
  }

  through_after : (many others : List Join) (a b c : ℕ) → Linked (length nodes) many a b → Through many others b c → Through many others a c
  through_after many others a b c l t = record { x = t.x; y = t.y; first_in = t.first_in; second_in = t.second_in; to = Linked.chain a b t.x l t.to; along = t.along; on = t.on }

  through_before : (many others : List Join) (a b c : ℕ) → Through many others a b → Linked (length nodes) many b c → Through many others a c
  through_before many others a b c t l = record { x = t.x; y = t.y; first_in = t.first_in; second_in = t.second_in; to = t.to; along = t.along; on = Linked.chain t.y b c t.on l }

  both_chain : (many few more : List Join) → StillLink many few → (a b c : ℕ) → Linked (length nodes) many a b ⊎ Through many (few ++ more) a b → Linked (length nodes) many b c ⊎ Through many (few ++ more) b c → Linked (length nodes) many a c ⊎ Through many (few ++ more) a c
  both_chain many few more still a b c (inl l) (inl m) = inl (Linked.chain a b c l m)
  both_chain many few more still a b c (inl l) (inr u) = inr (through_after many (few ++ more) a b c l u)
  both_chain many few more still a b c (inr t) (inl m) = inr (through_before many (few ++ more) a b c t m)
  both_chain many few more still a b c (inr t) (inr u) = inr (through_chain many few more still a b c t u)

  both_flip : (many others : List Join) (a b : ℕ) → Linked (length nodes) many b a ⊎ Through many others b a → Linked (length nodes) many a b ⊎ Through many others a b
  both_flip many others a b (inl l) = inl (Linked.flip a b l)
  both_flip many others a b (inr t) = inr (through_flip many others a b t)

  abbrev AreEnds : List Join → Type 0
  AreEnds joins = (j : Join) → Contains joins j → N j.first × N j.second

  through : (many few more : List Join) → StillLink many few → AreEnds more → (a b : ℕ) → Linked (length nodes) (many ++ more) a b → Linked (length nodes) many a b ⊎ Through many (few ++ more) a b
  through many few more still ends a b (Linked.joined _ _ j c e f) = by (Contains-append_cases many more j c)
    where
      by : Contains many j ⊎ Contains more j → Linked (length nodes) many a b ⊎ Through many (few ++ more) a b
      by (inl d) = inl (Linked.joined a b j d e f)
      by (inr d) = inr (through_joined many few more a b j (ends j d).0 (ends j d).1 d e f)
  through many few more still ends a b (Linked.same _ low) = inl (Linked.same a low)
  through many few more still ends a b (Linked.flip _ _ h) = both_flip many (few ++ more) a b (through many few more still ends b a h)
  through many few more still ends a b (Linked.chain _ c _ h k) = both_chain many few more still a c b (through many few more still ends a c h) (through many few more still ends c b k)

  -- the same with more joins after both
  still_more : (many few more : List Join) → StillLink many few → AreEnds more → StillLink (many ++ more) (few ++ more)
  still_more many few more still ends a b p q h = by (through many few more still ends a b h)
    where
      among : (c d : ℕ) → Linked (length nodes) few c d → Linked (length nodes) (few ++ more) c d
      among c d l = linked_in nodes Given (length nodes) few (few ++ more) c d (λ j k. Contains-append_left few more j k) l

      by : Linked (length nodes) many a b ⊎ Through many (few ++ more) a b → Linked (length nodes) (few ++ more) a b
      by (inl l) = among a b (still a b p q l)
      by (inr t) = Linked.chain a t.x b (among a t.x (still a t.x p t.first_in t.to)) (Linked.chain t.x t.y b t.along (among t.y b (still t.y b t.second_in q t.on)))

  -- ---- grounds

  zip_still : (many few : List Join) → StillLink many few → (ks ls : List ℕ) → AllByRecursion N ks → AllByRecursion N ls → AllZip (Linked (length nodes) many) ks ls → AllZip (Linked (length nodes) few) ks ls
  zip_still many few still [] [] p q h = tt
  zip_still many few still [] (l ∷ ls) p q h = absurd h
  zip_still many few still (k ∷ ks) [] p q h = absurd h
  zip_still many few still (k ∷ ks) (l ∷ ls) p q h = (still k l p.0 q.0 h.0, zip_still many few still ks ls p.1 q.1 h.1)

  kids_still : (fixed : List ℕ) (many few : List Join) (j : Join) → StillLink many few → OfJoin IsWithKids j → IsOfKids nodes fixed many j → IsOfKids nodes fixed few j
  kids_still fixed many few j still named h = record {
    why = h.why;
    o = h.o;
    ks = h.ks;
    ls = h.ls;
    first = h.first;
    second = h.second;
    outside = h.outside;
    kids = zip_still many few still h.ks h.ls ((named.first (slice_get_within nodes j.first (node_of h.o h.ks) h.first)).1 (node_of h.o h.ks) h.first)
        ((named.second (slice_get_within nodes j.second (node_of h.o h.ls) h.second)).1 (node_of h.o h.ls) h.second) h.kids;
  }

  step_still : (many few inner : List Join) (d x y : ℕ) → StillLink many few → AreEnds inner → OfPair IsWithKids (x, y) → IsStep nodes many inner d x y → IsStep nodes few inner d x y
  step_still many few inner d x y still ends named h =
      let left = (named.0 (slice_get_within nodes x _ h.first)).1 _ h.first in
      let right = (named.1 (slice_get_within nodes y _ h.second)).1 _ h.second in
      record {
        p = h.p;
        q = h.q;
        r = h.r;
        s = h.s;
        first = h.first;
        second = h.second;
        starts = still h.p h.r left.0 right.0 h.starts;
        goes_on = still_more many few inner still ends h.q h.s left.1.0 right.1.0 h.goes_on;
      }

  ends_of_named : (joins : List Join) → ((j : Join) → Contains joins j → OfJoin IsWithKids j) → ((j : Join) → Contains joins j → (j.first < length nodes) × (j.second < length nodes)) → AreEnds joins
  ends_of_named joins named low j c = let of = named j c in ((of.first (low j c).0).0, (of.second (low j c).1).0)

  one_end : (j : Join) → OfJoin IsWithKids j → (j.first < length nodes) × (j.second < length nodes) → AreEnds (j ∷ [])
  one_end j of low k c = by (in_cons [] j k c)
    where
      by : (j ≡ k) ⊎ Contains [] k → N k.first × N k.second
      by (inl e) = subst (λ (q : Join). N q.first × N q.second) e ((of.first low.0).0, (of.second low.1).0)
      by (inr d) = absurd (none_in k d)

  inner_joins : (b : Block) → OfBlock IsWithKids b → (j : Join) → Contains (joins_of b) j → OfJoin IsWithKids j
  inner_joins b h j c = (all_here (OfCited IsWithKids (listed (inner_of b))) (joins_of b) c.0 j (inside_named IsWithKids b h) (at_index (joins_of b) c.0 j c.1 (sym c.2))).join

  mutual
    ground_still : (ctx : Context) (many few : List Join) (blocks : List Block) (j : Join) → ArePairsLow nodes ctx → StillLink many few → OfCited IsWithKids blocks j → JoinGround nodes Given ctx many blocks j → JoinGround nodes Given ctx few blocks j
    ground_still ctx many few blocks j low still of (JoinGround.by_axiom _ _ _ n ns why g) = JoinGround.by_axiom few blocks j n ns why g
    ground_still ctx many few blocks j low still of (JoinGround.by_kids _ _ _ _ h) = JoinGround.by_kids ctx few blocks j (kids_still (depths ctx) many few j still of.join h)
    ground_still ctx many few blocks j low still of (JoinGround.by_induction _ _ _ _ n b why at_n there h) =
        JoinGround.by_induction ctx few blocks j n b why at_n there (block_still ctx many few b low still (of.cited n b why at_n) h)
    ground_still ctx many few blocks j low still of (JoinGround.by_pair d pairs outer _ _ _ n why at_n) = JoinGround.by_pair d pairs outer few blocks j n why at_n

    grounds_still : (ctx : Context) (many few : List Join) (blocks : List Block) (joins : List Join) → ArePairsLow nodes ctx → StillLink many few → AllByRecursion (OfCited IsWithKids blocks) joins → JoinsGround nodes Given ctx many blocks joins → JoinsGround nodes Given ctx few blocks joins
    grounds_still ctx many few blocks joins low still of (JoinsGround.none _ _ _) = JoinsGround.none ctx few blocks
    grounds_still ctx many few blocks joins low still of (JoinsGround.next _ _ _ j rest g h) =
        JoinsGround.next ctx few blocks j rest (ground_still ctx many few blocks j low still of.0 g)
        (grounds_still ctx (many ++ j ∷ []) (few ++ j ∷ []) blocks rest low (still_more many few (j ∷ []) still (one_end j of.0.join (ground_low nodes Given given ctx many blocks j low g))) of.1 h)

    -- the block keeps its ground where fewer joins before it link what it names, and the kids of that
    pub block_still : (ctx : Context) (many few : List Join) (b : Block) → ArePairsLow nodes ctx → ((x y : ℕ) → N x → N y → Linked (length nodes) many x y → Linked (length nodes) few x y)
        → OfBlock (λ n. n < length nodes → N n × ((node : Node) → slice_get nodes n ≡ Some node → AllByRecursion N node.kids)) b → BlockGround nodes Given ctx many b → BlockGround nodes Given ctx few b
    block_still ctx many few b low still of (BlockGround.rests _ _ _ deeper steps h) =
        let inside : ArePairsLow nodes ((depth_of b, pairs_of b) ∷ ctx) = (block_low nodes Given ctx many b (BlockGround.rests ctx many b deeper steps h), low) in
        let ends = ends_of_named (joins_of b) (inner_joins b of) (grounds_low nodes Given given ((depth_of b, pairs_of b) ∷ ctx) many (listed (inner_of b)) (joins_of b) inside h) in
        BlockGround.rests ctx few b deeper (λ x y c. step_still many few (joins_of b) (depth_of b) x y still ends (pair_named IsWithKids b (x, y) of c) (steps x y c))
        (grounds_still ((depth_of b, pairs_of b) ∷ ctx) many few (listed (inner_of b)) (joins_of b) inside still (inside_named IsWithKids b of) h)
