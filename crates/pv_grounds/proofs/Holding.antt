-- What joins say inside the inductions around them: the two nodes of a join have the same values there.
use Rattle.std.specs.Prelude.{◌≡◌, ℕ, zero, suc, List, [], ◌∷◌, ◌++◌, length, Some, false, refl}
use Rattle.std.specs.List.{Contains, AllZip}
use Rattle.std.proofs.Common.{inl, inr, sym, ◌∙◌, subst, arith}
use Rattle.std.proofs.lemmas.List.Elements.{Contains-append_cases, Contains-push_cases}
use Rattle.pv_value.specs.declared.world.World.{World}
use Rattle.pv_value.specs.declared.outcome.Input.{Input}
use Rattle.pv_value.specs.declared.outcome.Val.{Val}
use Rattle.pv_value.specs.Worlds.{IsWorld}
use Rattle.pv_value.specs.Inputs.{IsInput}
use Rattle.pv_graph.specs.declared.node.Op.{Op}
use Rattle.pv_graph.specs.declared.node.Op.TheVariants as op
use Rattle.pv_graph.specs.Ops.{shape}
use Rattle.pv_graph.specs.Forms.{form}
use Rattle.pv_graph.specs.Nodes.{node_of}
use Rattle.pv_graph.specs.Graphs.{Graph, form_at, IsWellMade}
use Rattle.pv_graph.proofs.Cited.{form_there}
use Rattle.pv_denote.specs.Denote.{Index, at_depth, Value, SameAt}
use Rattle.pv_denote.proofs.Cited.{den_makes, value_says, means_map, Moves, Stays, at_same}
use Rattle.pv_steps.specs.Steps.{Loop, Ending}
use Rattle.pv_steps.specs.Steps as steps
use Rattle.pv_steps.specs.Right.{by_axiom, IsFresh}
use Rattle.pv_steps.specs.Facts.{View, Keeps, Satisfies, Holds}
use Rattle.pv_steps.proofs.Blocks.{Under, holds_under}
use Rattle.pv_axioms.proofs.Cited.{sound}
use Rattle.pv_rounds.proofs.Cited.{get_in, in_get}
use Rattle.pv_heights.proofs.Zips.{zip_flip}
use Rattle.pv_classes.specs.declared.join.Join.{Join}
use Rattle.pv_classes.specs.Blocks.{Block, listed, depth_of, pairs_of, joins_of, inner_of}
use Rattle.pv_classes.specs.Linked.{Linked}
use Rattle.pv_classes.specs.Closest.{IsOutside, IsOfKids}
use Rattle.pv_classes.specs.Grounds.{Context, depths, IsDeeper, IsStep, JoinGround, JoinsGround, BlockGround}
use Rattle.pv_classes.proofs.Elements.{none_in, in_first, in_rest, in_cons, contains_at, zip_map}
use Rattle.pv_explain.specs.Sections.{IsGiven}
use Rattle.pv_grounds.proofs.Iterations.{keeps_fresh, keeps_context, keeps_in_context, satisfies_context}
use Rattle.pv_grounds.proofs.Thetas.{first_same, later_same}

-- ---- the blocks around a join

-- the open inductions, inside a block in which these nodes end; its root plays no part
abbrev pub around : Context → List ℕ → List steps.Block
around [] assumed = Ending 0 assumed ∷ []
around (c ∷ ctx) assumed = Loop c.0 c.1 ∷ around ctx assumed

-- a depth that none of them has
fresh_around : (ctx : Context) (assumed : List ℕ) (d : ℕ) → (Contains (depths ctx) d → ⊥) → IsFresh d (around ctx assumed)
fresh_around [] assumed d out = tt
fresh_around (c ∷ ctx) assumed d out = (
  λ e. out (subst (λ (k : ℕ). Contains (c.0 ∷ depths ctx) k) (sym e) (in_first (depths ctx) c.0)),
  fresh_around ctx assumed d (λ m. out (in_rest (depths ctx) c.0 d m)),
)

deeper_fresh : (ctx : Context) (assumed : List ℕ) (d : ℕ) → IsDeeper (depths ctx) d → IsFresh d (around ctx assumed)
deeper_fresh ctx assumed d deep = fresh_around ctx assumed d (λ m. let z = deep.deeper d m in omega (arith, z))

-- ---- what is linked

-- the nodes of each of these joins are the same inside the blocks
abbrev pub AllHold : View → List steps.Block → List Join → Type 0
AllHold view bs joins = (j : Join) → Contains joins j → Holds view bs j.first j.second

-- then linked nodes are
pub linked_holds : (view : View) (bs : List steps.Block) (n : ℕ) (joins : List Join) → AllHold view bs joins → (a b : ℕ) → Linked n joins a b → Holds view bs a b
linked_holds view bs n joins all a b (Linked.joined _ _ j there e f) =
    subst (λ (v : ℕ). Holds view bs v b) e (subst (λ (v : ℕ). Holds view bs j.first v) f (all j there))
linked_holds view bs n joins all a b (Linked.same _ lt) = λ w x world input it s i y v. (λ h. h, λ h. h)
linked_holds view bs n joins all a b (Linked.flip _ _ h) = λ w x world input it s i y v.
    let z = linked_holds view bs n joins all b a h w x world input it s i y v in
    (z.1, z.0)
linked_holds view bs n joins all a b (Linked.chain _ c _ h k) = λ w x world input it s i y v.
    let l = linked_holds view bs n joins all a c h w x world input it s i y v in
    let m = linked_holds view bs n joins all c b k w x world input it s i y v in
    (λ z. m.0 (l.0 z), λ z. l.1 (m.1 z))

both_hold : (view : View) (bs : List steps.Block) (joins more : List Join) → AllHold view bs joins → AllHold view bs more → AllHold view bs (joins ++ more)
both_hold view bs joins more all rest k there = elim (Contains-append_cases joins more k there) [ inl c ↦ all k c | inr c ↦ rest k c ]

one_holds : (view : View) (bs : List steps.Block) (joins : List Join) (j : Join) → AllHold view bs joins → Holds view bs j.first j.second → AllHold view bs (joins ++ j ∷ [])
one_holds view bs joins j all h k there = elim (Contains-push_cases joins j k there) [ inl c ↦ all k c | inr e ↦ subst (λ (v : Join). Holds view bs v.first v.second) e h ]

-- ---- nodes of one operation

moves_outside : (fixed : List ℕ) (P : ℕ → Type 0) → ((d : ℕ) → (Contains fixed d → ⊥) → P d) → (o : Op) → IsOutside fixed o → Moves P (shape o)
moves_outside fixed P p (op.Theta d) out = p d out
moves_outside fixed P p (op.Eval d) out = p d out
moves_outside fixed P p (op.Pass d) out = p d out
moves_outside fixed P p (op.Shift d) out = p d out
moves_outside fixed P p o out = tt

module _ (view : View) (bs : List steps.Block) where
  -- the values of a go to b, where those of its kids go to the kids of b
  kids_lead : (T : ℕ → ℕ → Type 0) (w : World) (x : Input) (it : Index) → ((a b : ℕ) (j : Index) (v : Val) → T a b → Keeps bs it j → Value view w x a j v → Value view w x b j v)
      → (o : Op) (ks ls : List ℕ) → Moves (Stays (Keeps bs it)) (shape o) → AllZip T ks ls → (a b : ℕ) → view a ≡ Some (form o ks) → view b ≡ Some (form o ls)
      → (i : Index) (v : Val) → Keeps bs it i → Value view w x a i v → Value view w x b i v
  kids_lead T w x it go o ks ls moves kids a b left right i v y h =
      den_makes view w x b i v o ls right (means_map w x (Keeps bs it) (Value view w x) (Value view w x) T go (shape o) o ks ls i v moves kids y (value_says view w x a i v o ks left h))

  kids_hold : (o : Op) (ks ls : List ℕ) → ((it : Index) → Moves (Stays (Keeps bs it)) (shape o)) → AllZip (Holds view bs) ks ls → (a b : ℕ) → view a ≡ Some (form o ks) → view b ≡ Some (form o ls) → Holds view bs a b
  kids_hold o ks ls moves kids a b left right w x world input it s i y v = (
    kids_lead (Holds view bs) w x it (λ k l j u t z. (t w x world input it s j z u).0) o ks ls (moves it) kids a b left right i v y,
    kids_lead (λ k l. Holds view bs l k) w x it (λ k l j u t z. (t w x world input it s j z u).1) o ls ks (moves it)
        (zip_flip (Holds view bs) (λ k l. Holds view bs l k) (λ k l r. r) ks ls kids) b a right left i v y,
  )

-- ---- an induction

module _ (g : Graph) (assumed : List ℕ) (ctx : Context) (before inner : List Join) (d : ℕ) (pairs : List (ℕ × ℕ)) (fresh : IsFresh d (around ctx assumed))
    (steps_ : (a b : ℕ) → Contains pairs (a, b) → IsStep g.nodes before inner d a b) (all : AllHold (form_at g.nodes) (around ctx assumed) before)
    (more : AllHold (form_at g.nodes) (Loop d pairs ∷ around ctx assumed) (before ++ inner)) (w : World) (x : Input) (world : IsWorld w) (input : IsInput x) where
  abbrev bs : List steps.Block
  bs = around ctx assumed

  -- its pairs are the same at iteration k of its depth, by those before and, after the first, by those inside it one iteration earlier
  at_iteration : (k : ℕ) (it : Index) → Satisfies (form_at g.nodes) w x it bs → (i : Index) → Keeps bs it i → i d ≡ k → (a b : ℕ) → Contains pairs (a, b) → SameAt (form_at g.nodes) w x i a b
  at_iteration zero it s i y e a b there =
      let h = steps_ a b there in
      let left = form_there g.nodes a (node_of (op.Theta d) (h.p ∷ h.q ∷ [])) h.first in
      let right = form_there g.nodes b (node_of (op.Theta d) (h.r ∷ h.s ∷ [])) h.second in
      first_same (form_at g.nodes) w x d i a b h.p h.q h.r h.s left right e (linked_holds (form_at g.nodes) bs (length g.nodes) before all h.p h.r h.starts w x world input it s i y)
  at_iteration (suc k) it s i y e a b there =
      let h = steps_ a b there in
      let left = form_there g.nodes a (node_of (op.Theta d) (h.p ∷ h.q ∷ [])) h.first in
      let right = form_there g.nodes b (node_of (op.Theta d) (h.r ∷ h.s ∷ [])) h.second in
      let j : Index = at_depth i d k in
      let c : Index = at_depth it d k in
      let inside : Satisfies (form_at g.nodes) w x c (Loop d pairs ∷ bs) = (
        λ n z p q m. at_iteration k it s n (keeps_context bs it n d k fresh z.1) (z.0 ∙ at_same it d k) p q (let at = in_get pairs (p, q) m in contains_at pairs (p, q) at.0 at.1),
        satisfies_context (form_at g.nodes) w x bs it d k fresh s,
      ) in
      let kept : Keeps (Loop d pairs ∷ bs) c j = (at_same i d k ∙ sym (at_same it d k), keeps_in_context bs it j d k fresh (keeps_fresh bs it i d k fresh y)) in
      later_same (form_at g.nodes) w x d i a b h.p h.q h.r h.s k left right e
      (linked_holds (form_at g.nodes) (Loop d pairs ∷ bs) (length g.nodes) (before ++ inner) more h.q h.s h.goes_on w x world input c inside j kept)

-- ---- joins that have their grounds

module _ (g : Graph) (made : IsWellMade g) (sealed : g.is_open ≡ false) (assumed : List ℕ) where
  -- what holds inside some inductions holds inside one more
  one_deeper : (d : ℕ) (pairs : List (ℕ × ℕ)) (ctx : Context) (joins : List Join) → AllHold (form_at g.nodes) (around ctx assumed) joins → AllHold (form_at g.nodes) (Loop d pairs ∷ around ctx assumed) joins
  one_deeper d pairs ctx joins all k there = holds_under (form_at g.nodes) (around ctx assumed) (Loop d pairs ∷ around ctx assumed) k.first k.second (inr (inside (around ctx assumed))) (all k there)
    where
      inside : (outer : List steps.Block) → Under outer outer
      inside [] = refl
      inside (b ∷ outer) = inl refl

  of_kids : (ctx : Context) (before : List Join) (j : Join) → IsOfKids g.nodes (depths ctx) before j → AllHold (form_at g.nodes) (around ctx assumed) before → Holds (form_at g.nodes) (around ctx assumed) j.first j.second
  of_kids ctx before j h all =
      let bs : List steps.Block = around ctx assumed in
      let fixed_ = λ (it : Index) (d : ℕ) (out : Contains (depths ctx) d → ⊥) (i : Index) (k : ℕ) (y : Keeps bs it i). keeps_fresh bs it i d k (fresh_around ctx assumed d out) y in
      kids_hold (form_at g.nodes) bs h.o h.ks h.ls (λ it. moves_outside (depths ctx) (Stays (Keeps bs it)) (fixed_ it) h.o h.outside)
      (zip_map (Linked (length g.nodes) before) (Holds (form_at g.nodes) bs) h.ks h.ls (λ k l c e r. linked_holds (form_at g.nodes) bs (length g.nodes) before all k l r) h.kids)
      j.first j.second (form_there g.nodes j.first (node_of h.o h.ks) h.first) (form_there g.nodes j.second (node_of h.o h.ls) h.second)

  mutual
    ground_holds : (ctx : Context) (before : List Join) (blocks : List Block) (j : Join) → JoinGround g.nodes (IsGiven g assumed) ctx before blocks j → AllHold (form_at g.nodes) (around ctx assumed) before
        → Holds (form_at g.nodes) (around ctx assumed) j.first j.second
    ground_holds ctx before blocks j (JoinGround.by_axiom _ _ _ n nodes why h) all = λ w x world input it s i y. sound.same g assumed (by_axiom n) nodes j.first j.second made sealed h.instance_ w x world input s.0 i
    ground_holds ctx before blocks j (JoinGround.by_kids _ _ _ _ h) all = of_kids ctx before j h all
    ground_holds ctx before blocks j (JoinGround.by_induction _ _ _ _ n b why at_n there h) all = block_holds ctx before b h all j.first j.second there
    ground_holds ctx before blocks j (JoinGround.by_pair d pairs outer _ _ _ n why at_n) all = λ w x world input it s i y. s.0 i y j.first j.second (get_in pairs n (j.first, j.second) at_n)

    -- joins after others that hold, each with its ground
    pub joins_hold : (ctx : Context) (before : List Join) (blocks : List Block) (joins : List Join) → JoinsGround g.nodes (IsGiven g assumed) ctx before blocks joins → AllHold (form_at g.nodes) (around ctx assumed) before
        → AllHold (form_at g.nodes) (around ctx assumed) joins
    joins_hold ctx before blocks joins (JoinsGround.none _ _ _) all = λ k there. absurd (none_in k there)
    joins_hold ctx before blocks joins (JoinsGround.next _ _ _ j rest h hs) all = λ k there.
        let here = ground_holds ctx before blocks j h all in
        elim (in_cons rest j k there) [
          | inl e ↦ subst (λ (v : Join). Holds (form_at g.nodes) (around ctx assumed) v.first v.second) e here
          | inr c ↦ joins_hold ctx (before ++ j ∷ []) blocks rest hs (one_holds (form_at g.nodes) (around ctx assumed) before j all here) k c
        ]

    -- the pairs of an induction
    block_holds : (ctx : Context) (before : List Join) (b : Block) → BlockGround g.nodes (IsGiven g assumed) ctx before b → AllHold (form_at g.nodes) (around ctx assumed) before
        → (p q : ℕ) → Contains (pairs_of b) (p, q) → Holds (form_at g.nodes) (around ctx assumed) p q
    block_holds ctx before b (BlockGround.rests _ _ _ deeper steps_ hs) all =
        let d : ℕ = depth_of b in
        let still = one_deeper d (pairs_of b) ctx before all in
        let inner = joins_hold ((d, pairs_of b) ∷ ctx) before (listed (inner_of b)) (joins_of b) hs still in
        λ p q there w x world input it s i y.
        at_iteration g assumed ctx before (joins_of b) d (pairs_of b) (deeper_fresh ctx assumed d deeper) steps_ all (both_hold (form_at g.nodes) (Loop d (pairs_of b) ∷ around ctx assumed) before (joins_of b) still inner)
        w x world input (i d) it s i y refl p q there
