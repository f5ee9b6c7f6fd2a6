-- What marked joins link, and what rests on them.
use Rattle.std.specs.Prelude.{◌≡◌, ◌⊎◌, ℕ, zero, suc, ◌+◌, ◌-◌, ◌<◌, ◌≤◌, Bool, true, false, List, [], ◌∷◌, ◌++◌, length, replicate, Some, slice_get, slice_set, take}
use Rattle.std.specs.List.{AllZip, Contains}
use denote.Bor.{Bor}
use Rattle.std.proofs.Common.{inl, inr, refl, sym, ap, ◌∙◌, subst, arith, append_assoc, take_all}
use Rattle.std.proofs.lemmas.List.{append-nil}
use Rattle.std.proofs.lemmas.Option.{same_Some, slice_get_within}
use Rattle.pv_graph.specs.declared.node.Node.{Node}
use Rattle.pv_graph.specs.Nodes.{node_of}
use Rattle.pv_graph.specs.Graphs.{IsGraph}
use Rattle.pv_graph.specs.Walks.{In}
use Rattle.pv_graph.proofs.Cited.{kid_within}
use Rattle.pv_paths.specs.declared.forest.Way.{Way}
use Rattle.pv_paths.specs.declared.forest.Way.TheVariants.{Forth, Back}
use Rattle.pv_paths.specs.Paths.{Joined, Leads}
use Rattle.pv_classes.specs.declared.join.Join.{Join}
use Rattle.pv_classes.specs.declared.join.Reason.TheVariants as reason
use Rattle.pv_classes.specs.Blocks.{Block, pairs_of}
use Rattle.pv_classes.specs.Linked.{Linked, joined, same, flip, chain}
use Rattle.pv_classes.specs.Closest.{IsOfKids}
use Rattle.pv_classes.specs.Grounds.{Context, depths, JoinGround, JoinsGround, BlockGround}
use Rattle.pv_classes.proofs.Elements.{in_first, in_rest, in_cons, none_in, zip_map}
use Rattle.pv_classes.proofs.Grounded.{block_in, ground_in}
use Rattle.pv_explain.specs.declared.source.Search.{Search}
use Rattle.pv_explain.specs.Sections.{IsGiven, IsGrounded}
use Rattle.pv_explain.specs.Levels.{ends_of}
use Rattle.pv_explain.specs.Pairs.{HasLinkedPairs}
use Rattle.pv_explain.specs.Named.{IsMarkedWithKids, OfBlock}
use Rattle.pv_explain.specs.Needed.{AreMarkedOn, AreNodesOf, AreRested, IsCite, IsFirstCite, IsForestOf, LinkedByMarked, LinkedPairsByMarked, LinkedBefore, LinkedPairsBefore, RestsOnMarked, StayGrounded, StayLinked, StillLinked, if_marked, marked}
use Rattle.pv_explain.specs.Marks.{IsMarked, MarksMore}
use Rattle.pv_explain.proofs.Linking.{linked_path}
use Rattle.pv_explain.proofs.Thinning.{block_still}

-- ---- the marked joins

-- a join that is marked, at its place
pub record IsMarkedAt (i : ℕ) (needed : List Bool) (joins : List Join) (j : Join) : Type 0 where
  pub k : ℕ
  pub low : k < i
  pub on : IsMarked needed k
  pub there : slice_get joins k ≡ Some j

pub in_marked : (i : ℕ) (needed : List Bool) (joins : List Join) (k : ℕ) (j : Join) → k < i → IsMarked needed k → slice_get joins k ≡ Some j → Contains (marked (take i needed) joins) j
in_marked zero needed joins k j low m e = absurd (omega (arith, low))
in_marked (suc i) [] joins k j low m e = absurd (cc)
in_marked (suc i) (b ∷ needed) [] k j low m e = absurd (cc)
in_marked (suc i) (true ∷ needed) (h ∷ joins) zero j low m e = subst (λ (q : Join). Contains (h ∷ marked (take i needed) joins) q) (same_Some _ _ e) (in_first (marked (take i needed) joins) h)
in_marked (suc i) (false ∷ needed) (h ∷ joins) zero j low m e = absurd (cc)
in_marked (suc i) (true ∷ needed) (h ∷ joins) (suc k) j low m e = in_rest (marked (take i needed) joins) h j (in_marked i needed joins k j (omega (arith, low)) m e)
in_marked (suc i) (false ∷ needed) (h ∷ joins) (suc k) j low m e = in_marked i needed joins k j (omega (arith, low)) m e

of_marked : (i : ℕ) (needed : List Bool) (joins : List Join) (j : Join) → Contains (marked (take i needed) joins) j → IsMarkedAt i needed joins j
of_marked zero needed joins j c = absurd (none_in j c)
of_marked (suc i) [] joins j c = absurd (none_in j c)
of_marked (suc i) (b ∷ needed) [] j c = absurd (none_in j c)
of_marked (suc i) (true ∷ needed) (h ∷ joins) j c = by (of_marked i needed joins j) (in_cons (marked (take i needed) joins) h j c)
  where
    by : (Contains (marked (take i needed) joins) j → IsMarkedAt i needed joins j) → (h ≡ j) ⊎ Contains (marked (take i needed) joins) j → IsMarkedAt (suc i) (true ∷ needed) (h ∷ joins) j
    by more (inl e) = record { k = 0; low = omega arith; on = refl; there = ap (λ (q : Join). Some q) e }
    by more (inr r) = let z = more r in let l = z.low in record { k = suc z.k; low = omega (arith, l); on = z.on; there = z.there }
of_marked (suc i) (false ∷ needed) (h ∷ joins) j c = let z = of_marked i needed joins j c in let l = z.low in record { k = suc z.k; low = omega (arith, l); on = z.on; there = z.there }

-- with more marks there are more of them
marked_more : (old new : List Bool) (joins : List Join) (before i : ℕ) (j : Join) → MarksMore before old new → Contains (marked (take i old) joins) j → Contains (marked (take i new) joins) j
marked_more old new joins before i j more c = let z = of_marked i old joins j c in in_marked i new joins z.k j z.low (more.stay z.k z.on) z.there

-- one more
marked_suc : (i : ℕ) (needed : List Bool) (joins : List Join) (b : Bool) (j : Join) → slice_get needed i ≡ Some b → slice_get joins i ≡ Some j → marked (take (suc i) needed) joins ≡ marked (take i needed) joins ++ if_marked b j
marked_suc i [] joins b j m e = absurd (cc)
marked_suc i (c ∷ needed) [] b j m e = absurd (cc)
marked_suc zero (true ∷ needed) (h ∷ joins) b j m e = ap (λ (q : Join). q ∷ []) (same_Some _ _ e) ∙ ap (λ (c : Bool). if_marked c j) (same_Some _ _ m)
marked_suc zero (false ∷ needed) (h ∷ joins) b j m e = ap (λ (c : Bool). if_marked c j) (same_Some _ _ m)
marked_suc (suc i) (true ∷ needed) (h ∷ joins) b j m e = ap (λ (js : List Join). h ∷ js) (marked_suc i needed joins b j m e)
marked_suc (suc i) (false ∷ needed) (h ∷ joins) b j m e = marked_suc i needed joins b j m e

pub marked_next : (i : ℕ) (needed : List Bool) (joins : List Join) (b : Bool) (j : Join) → slice_get needed i ≡ Some b → slice_get joins i ≡ Some j → marked (take i needed) joins ++ if_marked b j ≡ marked (take (i + 1) needed) joins
marked_next i needed joins b j m e = sym (marked_suc i needed joins b j m e) ∙ ap (λ (n : ℕ). marked (take n needed) joins) (one_more i)
  where
    one_more : (n : ℕ) → suc n ≡ n + 1
    one_more n = omega arith

-- ---- paths

record IsJoinOf (joins : List Join) (k a b : ℕ) : Type 0 where
  pub j : Join
  pub there : slice_get joins k ≡ Some j
  pub first : j.first ≡ a
  pub second : j.second ≡ b

ends_back : (joins : List Join) (k a b : ℕ) → slice_get (ends_of joins) k ≡ Some (a, b) → IsJoinOf joins k a b
ends_back [] k a b e = absurd (cc)
ends_back (j ∷ joins) zero a b e =
    let p : ◌≡◌ {A = ℕ × ℕ} (j.first, j.second) (a, b) = same_Some _ _ e in
    record { j = j; there = refl; first = ap (λ (q : ℕ × ℕ). q.0) p; second = ap (λ (q : ℕ × ℕ). q.1) p }
ends_back (j ∷ joins) (suc k) a b e = let z = ends_back joins k a b e in record { j = z.j; there = z.there; first = z.first; second = z.second }

-- a path through marked joins links
leads_linked : (n : ℕ) (joins : List Join) (needed : List Bool) (before : ℕ) (ws : List Way) (a b : ℕ) → b < n → Leads (ends_of joins) before ws a b → AreMarkedOn needed ws → Linked n (marked (take before needed) joins) a b
leads_linked n joins needed before [] a b low h c = subst (λ (m : ℕ). Linked n (marked (take before needed) joins) m b) (sym h) (same b low)
leads_linked n joins needed before (Forth i ∷ ws) a b low h c =
    let z = ends_back joins i a h.0 h.1.1 in
    chain a h.0 b (joined a h.0 z.j (in_marked before needed joins i z.j h.1.0 (c 0 (Forth i) refl) z.there) z.first z.second) (leads_linked n joins needed before ws h.0 b low h.2 (λ k w e. c (suc k) w e))
leads_linked n joins needed before (Back i ∷ ws) a b low h c =
    let z = ends_back joins i h.0 a h.1.1 in
    chain a h.0 b (flip a h.0 (joined h.0 a z.j (in_marked before needed joins i z.j h.1.0 (c 0 (Back i) refl) z.there) z.first z.second)) (leads_linked n joins needed before ws h.0 b low h.2 (λ k w e. c (suc k) w e))

marked_linked : (s : Search) (f : Joined) (needed : List Bool) (before a b : ℕ) → IsForestOf s f → LinkedByMarked f needed before a b → Linked (length s.graph.now.nodes) (marked (take before needed) s.joins.now) a b
marked_linked s f needed before a b is h =
    leads_linked (length s.graph.now.nodes) s.joins.now needed before h.path a b (subst (λ (n : ℕ). b < n) is.nodes_ h.second) (subst (λ (es : List (ℕ × ℕ)). Leads es before h.path a b) is.ends h.leads) h.crossed

ends_take : (joins : List Join) (i k : ℕ) (p : ℕ × ℕ) → slice_get (ends_of (take i joins)) k ≡ Some p → (k < i) × (slice_get (ends_of joins) k ≡ Some p)
ends_take joins zero k p e = absurd (cc)
ends_take [] (suc i) k p e = absurd (cc)
ends_take (j ∷ joins) (suc i) zero p e = (omega arith, e)
ends_take (j ∷ joins) (suc i) (suc k) p e = let z = ends_take joins i k p e in let l = z.0 in (omega (arith, l), z.1)

leads_take : (joins : List Join) (i t : ℕ) (ws : List Way) (a b : ℕ) → Leads (ends_of (take i joins)) t ws a b → Leads (ends_of joins) i ws a b
leads_take joins i t [] a b h = h
leads_take joins i t (Forth k ∷ ws) a b h = (h.0, ends_take joins i k (a, h.0) h.1.1, leads_take joins i t ws h.0 b h.2)
leads_take joins i t (Back k ∷ ws) a b h = (h.0, ends_take joins i k (h.0, a) h.1.1, leads_take joins i t ws h.0 b h.2)

-- what joins before a number link has a path through them
linked_before : (s : Search) (f : Joined) (i a b : ℕ) → IsForestOf s f → a < length s.graph.now.nodes → b < length s.graph.now.nodes → Linked (length s.graph.now.nodes) (take i s.joins.now) a b → LinkedBefore f i a b
linked_before s f i a b is p q h =
    let w = linked_path (length s.graph.now.nodes) (take i s.joins.now) a b h in
    record {
      first = subst (λ (n : ℕ). a < n) (sym is.nodes_) p;
      second = subst (λ (n : ℕ). b < n) (sym is.nodes_) q;
      path = (w.0, subst (λ (es : List (ℕ × ℕ)). Leads es i w.0 a b) (sym is.ends) (leads_take s.joins.now i (length (take i s.joins.now)) w.0 a b w.1));
    }

all_linked_before : (s : Search) (f : Joined) (i : ℕ) (ks ls : List ℕ) → IsForestOf s f → ((k : ℕ) → In ks k → k < length s.graph.now.nodes) → ((l : ℕ) → In ls l → l < length s.graph.now.nodes) → AllZip (Linked (length s.graph.now.nodes) (take i s.joins.now)) ks ls
    → AllZip (LinkedBefore f i) ks ls
all_linked_before s f i [] [] is p q h = tt
all_linked_before s f i [] (l ∷ ls) is p q h = absurd h
all_linked_before s f i (k ∷ ks) [] is p q h = absurd h
all_linked_before s f i (k ∷ ks) (l ∷ ls) is p q h =
    (linked_before s f i k l is (p k (inl refl)) (q l (inl refl)) h.0, all_linked_before s f i ks ls is (λ n m. p n (inr m)) (λ n m. q n (inr m)) h.1)

-- ---- grounds of single joins

ground_at : (nodes : List Node) (Given : ℕ → List ℕ → ℕ → ℕ → Type 0) (ctx : Context) (before : List Join) (bs : List Block) (joins : List Join) (i : ℕ) (j : Join) → JoinsGround nodes Given ctx before bs joins → slice_get joins i ≡ Some j
    → JoinGround nodes Given ctx (before ++ take i joins) bs j
ground_at nodes Given ctx before bs [] i j g e = absurd (cc)
ground_at nodes Given ctx before bs (k ∷ joins) zero j (JoinsGround.next _ _ _ _ _ g h) e =
    subst (λ (b : List Join). JoinGround nodes Given ctx b bs j) (sym (append-nil before)) (subst (λ (q : Join). JoinGround nodes Given ctx before bs q) (same_Some _ _ e) g)
ground_at nodes Given ctx before bs (k ∷ joins) (suc i) j (JoinsGround.next _ _ _ _ _ g h) e =
    subst (λ (b : List Join). JoinGround nodes Given ctx b bs j) (append_assoc before (k ∷ []) (take i joins)) (ground_at nodes Given ctx (before ++ k ∷ []) bs joins i j h e)

pub join_at : (s : Search) (assumed : List ℕ) (i : ℕ) (j : Join) → IsGrounded s assumed → slice_get s.joins.now i ≡ Some j → JoinGround s.graph.now.nodes (IsGiven s.graph.now assumed) [] (take i s.joins.now) s.blocks.now j
join_at s assumed i j g e = ground_at s.graph.now.nodes (IsGiven s.graph.now assumed) [] [] s.blocks.now s.joins.now i j g e

-- the nodes of a join that has its ground are nodes
join_low : (s : Search) (assumed : List ℕ) (before : List Join) (j : Join) → JoinGround s.graph.now.nodes (IsGiven s.graph.now assumed) [] before s.blocks.now j → (j.first < length s.graph.now.nodes) × (j.second < length s.graph.now.nodes)
join_low s assumed before j g = by [] refl g
  where
    nodes : List Node
    nodes = s.graph.now.nodes

    block_low : (ctx : Context) (b : Block) (x y : ℕ) → Contains (pairs_of b) (x, y) → BlockGround s.graph.now.nodes (IsGiven s.graph.now assumed) ctx before b → (x < length s.graph.now.nodes) × (y < length s.graph.now.nodes)
    block_low ctx b x y c (BlockGround.rests _ _ _ deeper steps h) =
        let z = steps x y c in (slice_get_within s.graph.now.nodes x _ z.first, slice_get_within s.graph.now.nodes y _ z.second)

    by : (ctx : Context) → ctx ≡ [] → JoinGround s.graph.now.nodes (IsGiven s.graph.now assumed) ctx before s.blocks.now j → (j.first < length s.graph.now.nodes) × (j.second < length s.graph.now.nodes)
    by ctx e (JoinGround.by_axiom _ _ _ n ns why given) = (given.first, given.second)
    by ctx e (JoinGround.by_kids _ _ _ _ k) = (slice_get_within s.graph.now.nodes j.first (node_of k.o k.ks) k.first, slice_get_within s.graph.now.nodes j.second (node_of k.o k.ls) k.second)
    by ctx e (JoinGround.by_induction _ _ _ _ n b why at_n there h) = block_low ctx b j.first j.second there h
    by ctx e (JoinGround.by_pair d pairs outer _ _ _ i why at_i) = absurd (cc)

pub joins_low : (s : Search) (assumed : List ℕ) → IsGrounded s assumed → AreNodesOf (length s.graph.now.nodes) s.joins.now
joins_low s assumed g j c = let z = at_of s.joins.now j c in join_low s assumed (take z.0 s.joins.now) j (join_at s assumed z.0 j g z.1)
  where
    at_of : (joins : List Join) (k : Join) → Contains joins k → (i : ℕ) × (slice_get joins i ≡ Some k)
    at_of [] k d = absurd (none_in k d)
    at_of (h ∷ joins) k d = elim (in_cons joins h k d) [ inl e ↦ (0, ap (λ (q : Join). Some q) e) | inr r ↦ let z = at_of joins k r in (suc z.0, z.1) ]

pub low_at : (s : Search) (assumed : List ℕ) (i : ℕ) (j : Join) → IsGrounded s assumed → slice_get s.joins.now i ≡ Some j → (j.first < length s.graph.now.nodes) × (j.second < length s.graph.now.nodes)
low_at s assumed i j g at = join_low s assumed (take i s.joins.now) j (join_at s assumed i j g at)

of_kids : (s : Search) (assumed : List ℕ) (before : List Join) (j : Join) → j.why ≡ reason.Kids → JoinGround s.graph.now.nodes (IsGiven s.graph.now assumed) [] before s.blocks.now j → IsOfKids s.graph.now.nodes [] before j
of_kids s assumed before j e g = by [] refl g
  where
    by : (ctx : Context) → ctx ≡ [] → JoinGround s.graph.now.nodes (IsGiven s.graph.now assumed) ctx before s.blocks.now j → IsOfKids s.graph.now.nodes [] before j
    by ctx none (JoinGround.by_axiom _ _ _ n ns why given) = absurd (let z = sym why ∙ e in cc)
    by ctx none (JoinGround.by_kids _ _ _ _ k) = subst (λ (c : Context). IsOfKids s.graph.now.nodes (depths c) before j) none k
    by ctx none (JoinGround.by_induction _ _ _ _ n b why at_n there h) = absurd (let z = sym why ∙ e in cc)
    by ctx none (JoinGround.by_pair d pairs outer _ _ _ i why at_i) = absurd (let z = sym why ∙ e in cc)

-- ---- what a join rests on is marked

-- the kids of a join by kids may be linked before it
pub kids_linked_before : (s : Search) (f : Joined) (assumed : List ℕ) (i : ℕ) (j : Join) (left right : Node) (lefts rights : List ℕ) → IsGraph s.graph.now → IsGrounded s assumed → IsForestOf s f → slice_get s.joins.now i ≡ Some j → j.why ≡ reason.Kids
    → slice_get s.graph.now.nodes j.first ≡ Some left → slice_get s.graph.now.nodes j.second ≡ Some right → lefts ≡ left.kids → rights ≡ right.kids → AllZip (LinkedBefore f i) lefts rights
kids_linked_before s f assumed i j left right lefts rights made g is at why p q a b =
    let h = of_kids s assumed (take i s.joins.now) j why (join_at s assumed i j g at) in
    let low = λ (n : ℕ) (node : Node) (e : slice_get s.graph.now.nodes n ≡ Some node) (k : ℕ) (m : In node.kids k). kid_within s.graph.now made n k node e m in
    subst (λ (ls : List ℕ). AllZip (LinkedBefore f i) lefts ls) (ap (λ (n : Node). n.kids) (same_Some _ _ (sym h.second ∙ q)) ∙ sym b)
    (subst (λ (ks : List ℕ). AllZip (LinkedBefore f i) ks h.ls) (ap (λ (n : Node). n.kids) (same_Some _ _ (sym h.first ∙ p)) ∙ sym a)
    (all_linked_before s f i h.ks h.ls is (low j.first (node_of h.o h.ks) h.first) (low j.second (node_of h.o h.ls) h.second) h.kids))

pub rests_kids : (s : Search) (f : Joined) (needed : List Bool) (i : ℕ) (j : Join) (left right : Node) (lefts rights : List ℕ) → IsForestOf s f → slice_get s.joins.now i ≡ Some j → j.why ≡ reason.Kids → slice_get s.graph.now.nodes j.first ≡ Some left
    → slice_get s.graph.now.nodes j.second ≡ Some right → lefts ≡ left.kids → rights ≡ right.kids → AllZip (LinkedByMarked f needed i) lefts rights → RestsOnMarked s needed i
rests_kids s f needed i j left right lefts rights is at why p q a b links assumed g k here =
    let few = marked (take i needed) s.joins.now in
    let n = length s.graph.now.nodes in
    let h = of_kids s assumed (take i s.joins.now) j why (join_at s assumed i j g at) in
    let there : AllZip (LinkedByMarked f needed i) h.ks h.ls =
    subst (λ (ls : List ℕ). AllZip (LinkedByMarked f needed i) h.ks ls) (b ∙ ap (λ (m : Node). m.kids) (same_Some _ _ (sym q ∙ h.second)))
    (subst (λ (ks : List ℕ). AllZip (LinkedByMarked f needed i) ks rights) (a ∙ ap (λ (m : Node). m.kids) (same_Some _ _ (sym p ∙ h.first))) links) in
    subst (λ (t : Join). JoinGround s.graph.now.nodes (IsGiven s.graph.now assumed) [] few s.blocks.now t) (same_Some _ _ (sym at ∙ here))
    (JoinGround.by_kids [] few s.blocks.now j
    (record {
      why = h.why;
      o = h.o;
      ks = h.ks;
      ls = h.ls;
      first = h.first;
      second = h.second;
      outside = h.outside;
      kids = zip_map (LinkedByMarked f needed i) (Linked n few) h.ks h.ls (λ x y c d l. marked_linked s f needed i x y is l) there;
    }))

-- the block of a join by an induction has its ground among marked ones that link what it names as all joins before do
block_on_marked : (s : Search) (f : Joined) (needed nodes : List Bool) (i n : ℕ) (b : Block) (assumed : List ℕ) → IsForestOf s f → IsCite s.joins.now n i → slice_get s.blocks.now n ≡ Some b → length nodes ≡ length s.graph.now.nodes
    → OfBlock (IsMarkedWithKids s.graph.now nodes) b → StillLinked f needed i nodes → IsGrounded s assumed → BlockGround s.graph.now.nodes (IsGiven s.graph.now assumed) [] (marked (take i needed) s.joins.now) b
block_on_marked s f needed nodes i n b assumed is cite at long named linked g = by [] refl (join_at s assumed i cite.j g cite.there)
  where
    within : (m : ℕ) → IsMarked nodes m → m < length s.graph.now.nodes
    within m on = let z = slice_get_within nodes m true on in omega (arith, z, long)

    still : (x y : ℕ) → IsMarked nodes x → IsMarked nodes y → Linked (length s.graph.now.nodes) (take i s.joins.now) x y → Linked (length s.graph.now.nodes) (marked (take i needed) s.joins.now) x y
    still x y p q l =
        let z = linked x y p q (linked_before s f i x y is (within x p) (within y q) l).path in
        chain x z.0 y (marked_linked s f needed i x z.0 is z.1) (flip z.0 y (marked_linked s f needed i y z.0 is z.2))

    block : (ctx : Context) (c : Block) → ctx ≡ [] → c ≡ b → BlockGround s.graph.now.nodes (IsGiven s.graph.now assumed) ctx (take i s.joins.now) c → BlockGround s.graph.now.nodes (IsGiven s.graph.now assumed) [] (marked (take i needed) s.joins.now) b
    block ctx c none e h =
        block_still s.graph.now.nodes (IsGiven s.graph.now assumed) (λ m ns x y given. (given.first, given.second)) (IsMarked nodes) within [] (take i s.joins.now) (marked (take i needed) s.joins.now) b tt still named
        (subst (BlockGround s.graph.now.nodes (IsGiven s.graph.now assumed) [] (take i s.joins.now)) e (subst (λ (q : Context). BlockGround s.graph.now.nodes (IsGiven s.graph.now assumed) q (take i s.joins.now) c) none h))

    by : (ctx : Context) → ctx ≡ [] → JoinGround s.graph.now.nodes (IsGiven s.graph.now assumed) ctx (take i s.joins.now) s.blocks.now cite.j → BlockGround s.graph.now.nodes (IsGiven s.graph.now assumed) [] (marked (take i needed) s.joins.now) b
    by ctx none (JoinGround.by_axiom _ _ _ m ms why given) = absurd (let z = sym why ∙ cite.why in cc)
    by ctx none (JoinGround.by_kids _ _ _ _ h) = absurd (let z = sym h.why ∙ cite.why in cc)
    by ctx none (JoinGround.by_induction _ _ _ _ m c why at_m there h) =
        let z : reason.Induction m ≡ reason.Induction n = sym why ∙ cite.why in
        let p : m ≡ n = cc in
        block ctx c none (same_Some c b (sym at_m ∙ ap (slice_get s.blocks.now) p ∙ at)) h
    by ctx none (JoinGround.by_pair d pairs outer _ _ _ m why at_i) = absurd (let z = sym why ∙ cite.why in cc)

-- so has that of each later join that cites it
pub rests_induction : (s : Search) (f : Joined) (needed nodes : List Bool) (i n : ℕ) (b : Block) → IsForestOf s f → IsFirstCite s.joins.now n i → slice_get s.blocks.now n ≡ Some b → length nodes ≡ length s.graph.now.nodes → OfBlock (IsMarkedWithKids s.graph.now nodes) b
    → StillLinked f needed i nodes → (k : ℕ) → IsCite s.joins.now n k → RestsOnMarked s needed k
rests_induction s f needed nodes i n b is first at long named linked k cite assumed g j here = by [] refl (join_at s assumed k j g here)
  where
    why_is : j.why ≡ reason.Induction n
    why_is = ap (λ (t : Join). t.why) (same_Some j cite.j (sym here ∙ cite.there)) ∙ cite.why

    later : (t : Join) → Contains (marked (take i needed) s.joins.now) t → Contains (marked (take k needed) s.joins.now) t
    later t c = let z = of_marked i needed s.joins.now t c in let l = z.low in let m = first.first k cite in in_marked k needed s.joins.now z.k t (omega (arith, l, m)) z.on z.there

    block : BlockGround s.graph.now.nodes (IsGiven s.graph.now assumed) [] (marked (take k needed) s.joins.now) b
    block =
        block_in s.graph.now.nodes (IsGiven s.graph.now assumed) [] (marked (take i needed) s.joins.now) (marked (take k needed) s.joins.now) b later
        (block_on_marked s f needed nodes i n b assumed is first.cite at long named linked g)

    by : (ctx : Context) → ctx ≡ [] → JoinGround s.graph.now.nodes (IsGiven s.graph.now assumed) ctx (take k s.joins.now) s.blocks.now j → JoinGround s.graph.now.nodes (IsGiven s.graph.now assumed) [] (marked (take k needed) s.joins.now) s.blocks.now j
    by ctx none (JoinGround.by_axiom _ _ _ m ms why given) = absurd (let z = sym why ∙ why_is in cc)
    by ctx none (JoinGround.by_kids _ _ _ _ h) = absurd (let z = sym h.why ∙ why_is in cc)
    by ctx none (JoinGround.by_induction _ _ _ _ m c why at_m there h) =
        let z : reason.Induction m ≡ reason.Induction n = sym why ∙ why_is in
        let p : m ≡ n = cc in
        JoinGround.by_induction [] (marked (take k needed) s.joins.now) s.blocks.now j m c why at_m there
        (subst (BlockGround s.graph.now.nodes (IsGiven s.graph.now assumed) [] (marked (take k needed) s.joins.now)) (same_Some b c (sym at ∙ ap (slice_get s.blocks.now) (sym p) ∙ at_m)) block)
    by ctx none (JoinGround.by_pair d pairs outer _ _ _ m why at_i) = absurd (let z = sym why ∙ why_is in cc)

-- a join by an axiom rests on no joins
pub rests_axiom : (s : Search) (needed : List Bool) (i n : ℕ) (ns : List ℕ) (j : Join) → slice_get s.joins.now i ≡ Some j → j.why ≡ reason.Axiom n ns → RestsOnMarked s needed i
rests_axiom s needed i n ns j at e assumed g k here = by [] refl (join_at s assumed i k g here)
  where
    why_is : k.why ≡ reason.Axiom n ns
    why_is = ap (λ (t : Join). t.why) (same_Some k j (sym here ∙ at)) ∙ e

    by : (ctx : Context) → ctx ≡ [] → JoinGround s.graph.now.nodes (IsGiven s.graph.now assumed) ctx (take i s.joins.now) s.blocks.now k → JoinGround s.graph.now.nodes (IsGiven s.graph.now assumed) [] (marked (take i needed) s.joins.now) s.blocks.now k
    by ctx none (JoinGround.by_axiom _ _ _ m ms why given) = JoinGround.by_axiom (marked (take i needed) s.joins.now) s.blocks.now k m ms why given
    by ctx none (JoinGround.by_kids _ _ _ _ h) = absurd (let z = sym h.why ∙ why_is in cc)
    by ctx none (JoinGround.by_induction _ _ _ _ m b why at_n there h) = absurd (let z = sym why ∙ why_is in cc)
    by ctx none (JoinGround.by_pair d pairs outer _ _ _ m why at_i) = absurd (cc)

-- outside of all inductions no join is by a pair
pub rests_pair : (s : Search) (needed : List Bool) (i n : ℕ) (j : Join) → slice_get s.joins.now i ≡ Some j → j.why ≡ reason.Pair n → RestsOnMarked s needed i
rests_pair s needed i n j at e assumed g k here = by [] refl (join_at s assumed i k g here)
  where
    why_is : k.why ≡ reason.Pair n
    why_is = ap (λ (t : Join). t.why) (same_Some k j (sym here ∙ at)) ∙ e

    by : (ctx : Context) → ctx ≡ [] → JoinGround s.graph.now.nodes (IsGiven s.graph.now assumed) ctx (take i s.joins.now) s.blocks.now k → JoinGround s.graph.now.nodes (IsGiven s.graph.now assumed) [] (marked (take i needed) s.joins.now) s.blocks.now k
    by ctx none (JoinGround.by_axiom _ _ _ m ms why given) = absurd (let z = sym why ∙ why_is in cc)
    by ctx none (JoinGround.by_kids _ _ _ _ h) = absurd (let z = sym h.why ∙ why_is in cc)
    by ctx none (JoinGround.by_induction _ _ _ _ m b why at_n there h) = absurd (let z = sym why ∙ why_is in cc)
    by ctx none (JoinGround.by_pair d pairs outer _ _ _ m why at_i) = absurd (cc)

-- more marks keep it
pub rests_more : (s : Search) (old new : List Bool) (before i : ℕ) → MarksMore before old new → RestsOnMarked s old i → RestsOnMarked s new i
rests_more s old new before i more h assumed g j at =
    ground_in s.graph.now.nodes (IsGiven s.graph.now assumed) [] (marked (take i old) s.joins.now) (marked (take i new) s.joins.now) s.blocks.now j (λ k c. marked_more old new s.joins.now before i k more c) (h assumed g j at)

-- ---- blocks whose joins rest on marked ones

-- no join before the next number cites the block
pub no_cite_next : (joins : List Join) (n i : ℕ) (j : Join) → slice_get joins i ≡ Some j → (j.why ≡ reason.Induction n → ⊥) → ((k : ℕ) → k < i → IsCite joins n k → ⊥) → (k : ℕ) → k < i + 1 → IsCite joins n k → ⊥
no_cite_next joins n i j at other earlier k low cite = by (split k low)
  where
    split : (m : ℕ) → m < i + 1 → (m < i) ⊎ (m ≡ i)
    split m h = grind arith

    by : (k < i) ⊎ (k ≡ i) → ⊥
    by (inl h) = earlier k h cite
    by (inr e) = other (ap (λ (t : Join). t.why) (same_Some j cite.j (sym at ∙ ap (slice_get joins) (sym e) ∙ cite.there)) ∙ cite.why)

-- one that does is among the joins, and at the number or after it
pub cite_low : (joins : List Join) (n i k : ℕ) → ((m : ℕ) → m < i → IsCite joins n m → ⊥) → IsCite joins n k → (i ≤ k) × (k < length joins)
cite_low joins n i k earlier cite = (by (split k), slice_get_within joins k cite.j cite.there)
  where
    split : (m : ℕ) → (m < i) ⊎ (i ≤ m)
    split m = grind arith

    by : (k < i) ⊎ (i ≤ k) → i ≤ k
    by (inl h) = absurd (earlier k h cite)
    by (inr h) = h

unmarked : (n m : ℕ) → IsMarked (replicate n false) m → ⊥
unmarked zero m h = absurd (cc)
unmarked (suc n) zero h = absurd (cc)
unmarked (suc n) (suc m) h = unmarked n m h

-- where no block is marked
pub none_rested : (s : Search) (needed rested : List Bool) (n : ℕ) → rested ≡ replicate n false → AreRested s needed rested
none_rested s needed rested n e m i on cite = absurd (unmarked n m (subst (λ (rs : List Bool). IsMarked rs m) e on))

pub rested_more : (s : Search) (old new rested : List Bool) (before : ℕ) → MarksMore before old new → AreRested s old rested → AreRested s new rested
rested_more s old new rested before more h n i on cite = rests_more s old new before i more (h n i on cite)

marks_set : (marks : List Bool) (n m : ℕ) → IsMarked (slice_set marks n true) m → (m ≡ n) ⊎ IsMarked marks m
marks_set [] n m h = absurd (cc)
marks_set (b ∷ marks) zero zero h = inl refl
marks_set (b ∷ marks) zero (suc m) h = inr h
marks_set (b ∷ marks) (suc n) zero h = inr h
marks_set (b ∷ marks) (suc n) (suc m) h = by (marks_set marks n m h)
  where
    by : (m ≡ n) ⊎ IsMarked marks m → (suc m ≡ suc n) ⊎ IsMarked marks m
    by (inl e) = inl (ap suc e)
    by (inr i) = inr i

pub marked_set : (marks : List Bool) (n : ℕ) → n < length marks → IsMarked (slice_set marks n true) n
marked_set [] n low = absurd (omega (arith, low))
marked_set (b ∷ marks) zero low = refl
marked_set (b ∷ marks) (suc n) low = marked_set marks n (omega (arith, low))

-- one block more
pub rested_next : (s : Search) (needed rested : List Bool) (n : ℕ) → AreRested s needed rested → ((i : ℕ) → IsCite s.joins.now n i → RestsOnMarked s needed i) → AreRested s needed (slice_set rested n true)
rested_next s needed rested n h here m i on cite = by (marks_set rested n m on)
  where
    by : (m ≡ n) ⊎ IsMarked rested m → RestsOnMarked s needed i
    by (inl e) = here i (subst (λ (k : ℕ). IsCite s.joins.now k i) e cite)
    by (inr r) = h m i r cite

-- ---- the marked joins alone

thinned : (nodes : List Node) (Given : ℕ → List ℕ → ℕ → ℕ → Type 0) (bs : List Block) (before : List Join) (needed : List Bool) (joins : List Join)
    → ((i : ℕ) (j : Join) → slice_get joins i ≡ Some j → IsMarked needed i → JoinGround nodes Given [] (before ++ marked (take i needed) joins) bs j) → JoinsGround nodes Given [] before bs (marked needed joins)
thinned nodes Given bs before [] joins h = JoinsGround.none [] before bs
thinned nodes Given bs before (b ∷ needed) [] h = JoinsGround.none [] before bs
thinned nodes Given bs before (true ∷ needed) (j ∷ joins) h =
    JoinsGround.next [] before bs j (marked needed joins) (subst (λ (b : List Join). JoinGround nodes Given [] b bs j) (append-nil before) (h 0 j refl refl))
    (thinned nodes Given bs (before ++ j ∷ []) needed joins (λ i k e m. subst (λ (b : List Join). JoinGround nodes Given [] b bs k) (sym (append_assoc before (j ∷ []) (marked (take i needed) joins))) (h (suc i) k e m)))
thinned nodes Given bs before (false ∷ needed) (j ∷ joins) h = thinned nodes Given bs before needed joins (λ i k e m. h (suc i) k e m)

pub stay_grounded : (s : Search) (needed : List Bool) → ((i : ℕ) → IsMarked needed i → RestsOnMarked s needed i) → StayGrounded s (marked needed s.joins.now)
stay_grounded s needed h assumed g = thinned s.graph.now.nodes (IsGiven s.graph.now assumed) s.blocks.now [] needed s.joins.now (λ i j e m. h i m assumed g j e)

pub stay_linked : (s : Search) (f : Joined) (old new : List Bool) (before up : ℕ) (pairs : List (ℕ × ℕ)) → IsForestOf s f → MarksMore up old new → length new ≤ before → LinkedPairsByMarked f old before pairs → StayLinked s (marked new s.joins.now) pairs
stay_linked s f old new before up [] is more long h = tt
stay_linked s f old new before up (p ∷ pairs) is more long h = (
  subst (λ (ns : List Bool). Linked (length s.graph.now.nodes) (marked ns s.joins.now) p.0 p.1) (take_all before new long)
      (marked_linked s f new before p.0 p.1 is (record { second = h.0.second; path = h.0.path; leads = h.0.leads; crossed = λ k w e. more.stay _ (h.0.crossed k w e) })),
  stay_linked s f old new before up pairs is more long h.1,
)

-- ---- the pairs that are asked for

pub pairs_linked_before : (s : Search) (f : Joined) (joins : ℕ) (pairs : List (ℕ × ℕ)) → IsGraph s.graph.now → IsForestOf s f → length s.joins.now ≤ joins → HasLinkedPairs s pairs → LinkedPairsBefore f joins pairs
pairs_linked_before s f joins [] made is long h = tt
pairs_linked_before s f joins (p ∷ pairs) made is long h =
    let low = made.base in
    let a = h.0.first in
    let b = h.0.second in (
      linked_before s f joins p.0 p.1 is (omega (arith, low, a)) (omega (arith, low, b)) (subst (λ (js : List Join). Linked (length s.graph.now.nodes) js p.0 p.1) (sym (take_all joins s.joins.now long)) h.0.linked),
      pairs_linked_before s f joins pairs made is long h.1,
    )

pub pairs_stay : (s : Search) (kept : Bor (List Join)) (pairs : List (ℕ × ℕ)) → HasLinkedPairs s pairs → StayLinked s kept.now pairs → HasLinkedPairs (record { graph = s.graph; blocks = s.blocks; joins = kept }) pairs
pairs_stay s kept [] h k = tt
pairs_stay s kept (p ∷ pairs) h k = (record { first = h.0.first; second = h.0.second; linked = k.0 }, pairs_stay s kept pairs h.1 k.1)

-- ---- as the loop over joins has it

-- the next join down rests on marked ones, if it is marked
pub rests_next : (s : Search) (old new : List Bool) (joins k : ℕ) → k < joins → MarksMore (joins - 1 - k) old new → ((i : ℕ) → joins ≤ i + k → IsMarked old i → RestsOnMarked s old i) → (IsMarked new (joins - 1 - k) → RestsOnMarked s new (joins - 1 - k))
    → (i : ℕ) → joins ≤ i + (k + 1) → IsMarked new i → RestsOnMarked s new i
rests_next s old new joins k low more earlier here i high m = by (split i high)
  where
    split : (n : ℕ) → joins ≤ n + (k + 1) → (joins ≤ n + k) ⊎ (n ≡ joins - 1 - k)
    split n h = grind arith

    by : (joins ≤ i + k) ⊎ (i ≡ joins - 1 - k) → RestsOnMarked s new i
    by (inl h) = rests_more s old new (joins - 1 - k) i more (earlier i h (more.rest i (omega (arith, h, low)) m))
    by (inr e) = subst (λ (n : ℕ). RestsOnMarked s new n) (sym e) (here (subst (λ (n : ℕ). IsMarked new n) e m))
