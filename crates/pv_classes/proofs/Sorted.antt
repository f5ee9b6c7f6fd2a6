-- Joins are of nodes of one sort: nodes of one operation with kids of the same sorts have one sort, and a theta has that of its first kid.
use Rattle.std.proofs.Common.{◌≡◌, inl, inr, ℕ, List, [], ◌∷◌, ◌++◌, length, Some, slice_get, refl, sym, ◌∙◌, ap, subst, arith}
use Rattle.std.specs.List.{Contains, AllZip}
use Rattle.std.proofs.lemmas.Option.{slice_get_within, same_Some}
use Rattle.std.proofs.lemmas.List.Elements.{Contains-push_cases}
use Rattle.pv_graph.specs.declared.node.Op.{Op}
use Rattle.pv_graph.specs.declared.node.Op.TheVariants as op
use Rattle.pv_graph.specs.declared.node.OpSort.{OpSort}
use Rattle.pv_graph.specs.declared.node.Node.{Node}
use Rattle.pv_graph.specs.Nodes.{node_of}
use Rattle.pv_graph.specs.Ops.{sort_over, HaveSorts, HasSort}
use Rattle.pv_graph.specs.Calls.{AreSorts}
use Rattle.pv_graph.proofs.Cited.{shape_takes}
use Rattle.pv_classes.specs.declared.join.Join.{Join}
use Rattle.pv_classes.specs.declared.join.Reason.TheVariants as reason
use Rattle.pv_classes.specs.Blocks.{Block, pairs_of}
use Rattle.pv_classes.specs.Linked.{Linked}
use Rattle.pv_classes.specs.Closest.{Is}
use Rattle.pv_classes.specs.Grounds.{Context, IsStep, JoinGround, JoinsGround, BlockGround}
use Rattle.pv_classes.specs.Sorts.{HaveOneSort, JoinOneSort, PairOneSort}
use Rattle.pv_classes.proofs.Elements.{none_in, found, in_cons, contains_at, zip_map}

module _ (nodes : List Node) (sorts : List OpSort) (sorted : AreSorts nodes sorts) where
  -- ---- nodes

  has_sort : (n : ℕ) (o : Op) (ks : List ℕ) → Is nodes n o ks → (s : OpSort) × (slice_get sorts n ≡ Some s) × HasSort sorts o ks s
  has_sort n o ks is =
      let lt = slice_get_within nodes n (node_of o ks) is in let s = found sorts n (let z = sorted.long in omega arith) in
      (s.0, s.1, sorted.each n (node_of o ks) s.0 is s.1)

  same_sorts : (ks ls : List ℕ) (ss ts : List OpSort) → AllZip (HaveOneSort sorts) ks ls → HaveSorts sorts ks ss → HaveSorts sorts ls ts → ss ≡ ts
  same_sorts [] [] [] [] a b c = refl
  same_sorts [] [] [] (t ∷ ts) a b c = absurd c
  same_sorts [] [] (s ∷ ss) ts a b c = absurd b
  same_sorts [] (l ∷ ls) ss ts a b c = absurd a
  same_sorts (k ∷ ks) [] ss ts a b c = absurd a
  same_sorts (k ∷ ks) (l ∷ ls) [] ts a b c = absurd b
  same_sorts (k ∷ ks) (l ∷ ls) (s ∷ ss) [] a b c = absurd c
  same_sorts (k ∷ ks) (l ∷ ls) (s ∷ ss) (t ∷ ts) a b c =
      let here : s ≡ t = same_Some s t (sym b.0 ∙ a.0 ∙ c.0) in let rest = same_sorts ks ls ss ts a.1 b.1 c.1 in λ i. here i ∷ rest i

  kids_sorts : (a b : ℕ) (o : Op) (ks ls : List ℕ) → Is nodes a o ks → Is nodes b o ls → AllZip (HaveOneSort sorts) ks ls → HaveOneSort sorts a b
  kids_sorts a b o ks ls p q all =
      let s = has_sort a o ks p in let t = has_sort b o ls q in
      s.1 ∙ (sym s.2.over ∙ ap (sort_over o) (same_sorts ks ls s.2.sorts t.2.sorts all s.2.kids_have t.2.kids_have) ∙ t.2.over) ∙ sym t.1

  theta_sort : (n d p q : ℕ) → Is nodes n (op.Theta d) (p ∷ q ∷ []) → HaveOneSort sorts n p
  theta_sort n d p q is =
      let s = has_sort n (op.Theta d) (p ∷ q ∷ []) is in
      let kids : HaveSorts sorts (p ∷ q ∷ []) (s.0 ∷ s.0 ∷ []) = subst (HaveSorts sorts (p ∷ q ∷ [])) (shape_takes (op.Theta d) s.2.sorts s.0 s.2.over) s.2.kids_have in
      s.1 ∙ sym kids.0

  -- ---- joins

  linked_sorts : (joins : List Join) → JoinOneSort sorts joins → (a b : ℕ) → Linked (length nodes) joins a b → HaveOneSort sorts a b
  linked_sorts joins one a b (Linked.joined _ _ j there e f) = subst (λ (v : ℕ). HaveOneSort sorts v b) e (subst (λ (v : ℕ). HaveOneSort sorts j.first v) f (one j there))
  linked_sorts joins one a b (Linked.same _ lt) = refl
  linked_sorts joins one a b (Linked.flip _ _ h) = sym (linked_sorts joins one b a h)
  linked_sorts joins one a b (Linked.chain _ c _ h k) = linked_sorts joins one a c h ∙ linked_sorts joins one c b k

  step_sorts : (before inner : List Join) (d x y : ℕ) → JoinOneSort sorts before → IsStep nodes before inner d x y → HaveOneSort sorts x y
  step_sorts before inner d x y one h = theta_sort x d h.p h.q h.first ∙ linked_sorts before one h.p h.r h.starts ∙ sym (theta_sort y d h.r h.s h.second)

  -- the pairs of the open inductions are of nodes of one sort
  abbrev pub ContextOneSort : Context → Type 0
  ContextOneSort [] = Unit {0}
  ContextOneSort (c ∷ ctx) = PairOneSort sorts c.1 × ContextOneSort ctx

  module _ (Given : ℕ → List ℕ → ℕ → ℕ → Type 0) (given : (n : ℕ) (subst_ : List ℕ) (a b : ℕ) → Given n subst_ a b → HaveOneSort sorts a b) where
    -- the pairs of an induction are, since the joins before it join their first kids
    pub pairs_sorts : (ctx : Context) (before : List Join) (b : Block) → JoinOneSort sorts before → BlockGround nodes Given ctx before b → PairOneSort sorts (pairs_of b)
    pairs_sorts ctx before b one (BlockGround.rests _ _ _ deeper steps h) x y there = step_sorts before _ _ x y one (steps x y there)

    ground_sorts : (ctx : Context) (before : List Join) (blocks : List Block) (j : Join) → JoinOneSort sorts before → ContextOneSort ctx → JoinGround nodes Given ctx before blocks j → HaveOneSort sorts j.first j.second
    ground_sorts ctx before blocks j one open_ (JoinGround.by_axiom _ _ _ n subst_ why h) = given n subst_ j.first j.second h
    ground_sorts ctx before blocks j one open_ (JoinGround.by_kids _ _ _ _ h) =
        kids_sorts j.first j.second h.o h.ks h.ls h.first h.second (zip_map (Linked (length nodes) before) (HaveOneSort sorts) h.ks h.ls (λ k l c d r. linked_sorts before one k l r) h.kids)
    ground_sorts ctx before blocks j one open_ (JoinGround.by_induction _ _ _ _ n b why at_n there h) = pairs_sorts ctx before b one h j.first j.second there
    ground_sorts ctx before blocks j one open_ (JoinGround.by_pair d pairs outer _ _ _ i why at_i) = open_.0 j.first j.second (contains_at pairs (j.first, j.second) i at_i)

    one_more : (before : List Join) (j : Join) → JoinOneSort sorts before → HaveOneSort sorts j.first j.second → JoinOneSort sorts (before ++ j ∷ [])
    one_more before j one h k there = elim (Contains-push_cases before j k there) [ inl c ↦ one k c | inr e ↦ subst (λ (v : Join). HaveOneSort sorts v.first v.second) e h ]

    -- joins after others, each with its ground
    pub grounds_sorts : (ctx : Context) (before : List Join) (blocks : List Block) (joins : List Join) → JoinOneSort sorts before → ContextOneSort ctx → JoinsGround nodes Given ctx before blocks joins → JoinOneSort sorts joins
    grounds_sorts ctx before blocks joins one open_ (JoinsGround.none _ _ _) k there = absurd (none_in k there)
    grounds_sorts ctx before blocks joins one open_ (JoinsGround.next _ _ _ j rest g h) k there =
        let here = ground_sorts ctx before blocks j one open_ g in
        elim (in_cons rest j k there) [
          | inl e ↦ subst (λ (v : Join). HaveOneSort sorts v.first v.second) e here
          | inr c ↦ grounds_sorts ctx (before ++ j ∷ []) blocks rest (one_more before j one here) open_ h k c
        ]

    -- the pairs of the inductions that joins name
    named_pairs : (ctx : Context) (before : List Join) (blocks : List Block) (j : Join) (n : ℕ) (b : Block) → JoinOneSort sorts before → JoinGround nodes Given ctx before blocks j → j.why ≡ reason.Induction n → slice_get blocks n ≡ Some b → PairOneSort sorts (pairs_of b)
    named_pairs ctx before blocks j n b one (JoinGround.by_axiom _ _ _ m subst_ why h) e at_n = absurd (let f = sym why ∙ e in cc)
    named_pairs ctx before blocks j n b one (JoinGround.by_kids _ _ _ _ h) e at_n = absurd (let f = sym h.why ∙ e in cc)
    named_pairs ctx before blocks j n b one (JoinGround.by_induction _ _ _ _ m c why at_m there h) e at_n =
        let f : reason.Induction m ≡ reason.Induction n = sym why ∙ e in let same : m ≡ n = cc in
        subst (λ (v : Block). PairOneSort sorts (pairs_of v)) (same_Some c b (sym at_m ∙ ap (slice_get blocks) same ∙ at_n)) (pairs_sorts ctx before c one h)
    named_pairs ctx before blocks j n b one (JoinGround.by_pair d pairs outer _ _ _ i why at_i) e at_n = absurd (let f = sym why ∙ e in cc)

    pub all_named_pairs : (ctx : Context) (before : List Join) (blocks : List Block) (joins : List Join) → JoinOneSort sorts before → ContextOneSort ctx → JoinsGround nodes Given ctx before blocks joins
        → (k : Join) (n : ℕ) (b : Block) → Contains joins k → k.why ≡ reason.Induction n → slice_get blocks n ≡ Some b → PairOneSort sorts (pairs_of b)
    all_named_pairs ctx before blocks joins one open_ (JoinsGround.none _ _ _) k n b there e at_n = absurd (none_in k there)
    all_named_pairs ctx before blocks joins one open_ (JoinsGround.next _ _ _ j rest g h) k n b there e at_n =
        elim (in_cons rest j k there) [
          | inl f ↦ named_pairs ctx before blocks j n b one g (ap (λ (v : Join). v.why) f ∙ e) at_n
          | inr c ↦ all_named_pairs ctx (before ++ j ∷ []) blocks rest (one_more before j one (ground_sorts ctx before blocks j one open_ g)) open_ h k n b c e at_n
        ]
