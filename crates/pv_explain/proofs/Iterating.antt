-- Thetas at iteration 0, and one iteration later: their sorts, and what is stated of them.
use Rattle.std.specs.Prelude.{◌≡◌, ℕ, ◌<◌, Bool, true, false, List, [], ◌∷◌, length, Option, Some, None, slice_get, if◌then◌else◌}
use Rattle.std.specs.List.{AllZip}
use Rattle.std.proofs.Math.ListN.{get_or}
use Rattle.std.proofs.Common.{inl, inr, refl, sym, ap, ◌∙◌, subst, arith}
use Rattle.std.proofs.lemmas.Option.{same_Some, slice_get_within}
use Rattle.pv_graph.specs.declared.node.Op.TheVariants as op
use Rattle.pv_graph.specs.declared.node.OpSort.{OpSort}
use Rattle.pv_graph.specs.declared.node.OpSort.TheVariants as sort
use Rattle.pv_graph.specs.declared.node.Node.{Node}
use Rattle.pv_graph.specs.Ops.{is_depth, but_root, same_sort, alike, HaveSorts, sort_over}
use Rattle.pv_graph.specs.Nodes.{node_of}
use Rattle.pv_graph.specs.Graphs.{Graph, IsGraph}
use Rattle.pv_graph.specs.Calls.{AreNodes, FitsOver}
use Rattle.pv_graph.proofs.Cited.{exactly_are, kid_within, shape_takes}
use Rattle.pv_steps.specs.declared.step.Fact.{Fact}
use Rattle.pv_axioms.specs.Entries.{Instance}
use Rattle.pv_classes.specs.Closest.{Is}
use Rattle.pv_writer.specs.Written.{Written, IsAt, IsFact, IsLater, GoesOn, HasNode, States}
use Rattle.pv_writer.proofs.Pushing.{fact_goes}
use Rattle.pv_explain.specs.declared.source.Source.{Source}
use Rattle.pv_explain.specs.declared.follow.Equal.{Equal}
use Rattle.pv_explain.specs.declared.iteration.Unrolled.{Unrolled}
use Rattle.pv_explain.specs.Copies.{IsCopied, HasCopy}
use Rattle.pv_explain.specs.Lines.{IsSource}
use Rattle.pv_explain.specs.Iterations.{AreKids, IsTheta, IsThetaAt, IsZero, IsStart, IsNext, IsUnrolled}
use Rattle.pv_explain.proofs.Copying.{kids_copied, sort_of}
use Rattle.pv_explain.proofs.Following.{copied_one}
use Rattle.pv_explain.proofs.Congruent.{copy_at}
use Rattle.pv_explain.proofs.Inductions.{first_instance, next_instance}

-- ---- sorts

then_is : {X : Type 0} (t : Bool) (o : Option X) (y : X) → t ≡ true → o ≡ Some y → (if t then o else None) ≡ Some y
then_is true o y h e = e
then_is false o y h e = absurd (cc)

if_then : {X : Type 0} (t : Bool) (o : Option X) (y : X) → (if t then o else None) ≡ Some y → (t ≡ true) × (o ≡ Some y)
if_then true o y e = (refl, e)
if_then false o y e = absurd (cc)

-- a theta has a depth, two kids of its own sort, and no root's
theta_over : (d : ℕ) (ss : List OpSort) (s : OpSort) → sort_over (op.Theta d) ss ≡ Some s → (is_depth d ≡ true) × (but_root s ≡ Some s) × (ss ≡ s ∷ s ∷ [])
theta_over d ss s e =
    let two = shape_takes (op.Theta d) ss s e in
    let outer = if_then (is_depth d) (alike ss) s e in
    let inner = if_then (same_sort s s) (but_root s) s (subst (λ (ts : List OpSort). alike ts ≡ Some s) two outer.1) in
    (outer.0, inner.1, two)

eval_fits : (g : Graph) (d a z : ℕ) (s : OpSort) → is_depth d ≡ true → but_root s ≡ Some s → slice_get g.sorts a ≡ Some s → slice_get g.sorts z ≡ Some sort.N → FitsOver g (op.Eval d) (a ∷ z ∷ [])
eval_fits g d a z s depth proper e f = (s, record { sorts = s ∷ sort.N ∷ []; kids_have = (e, (f, tt)); over = then_is (is_depth d) (but_root s) s depth proper })

shift_fits : (g : Graph) (d a : ℕ) (s : OpSort) → is_depth d ≡ true → but_root s ≡ Some s → slice_get g.sorts a ≡ Some s → FitsOver g (op.Shift d) (a ∷ [])
shift_fits g d a s depth proper e = (s, record { sorts = s ∷ []; kids_have = (e, tt); over = then_is (is_depth d) (but_root s) s depth proper })

-- ---- iteration 0

pub zero_fits : (g : Graph) → FitsOver g op.Zero []
zero_fits g = (sort.N, record { sorts = []; kids_have = tt; over = refl })

pub zero_made : (old new : Written) (z : ℕ) → HasNode old new op.Zero [] z → IsZero new z
zero_made old new z h =
    let t = sort_of new.graph h.made h.sealed z (node_of op.Zero []) h.is in
    record { is = h.is; sort_ = t.1 ∙ ap (λ (q : OpSort). Some q) (sym (exactly_are [] sort.N t.2.sorts t.0 t.2.over).1) }

pub zero_later : (old new : Written) (z : ℕ) → IsLater old new → IsZero old z → IsZero new z
zero_later old new z later h = record { is = later.nodes z (node_of op.Zero []) h.is; sort_ = later.sorts z sort.N h.sort_ }

-- ---- a theta

two_copies : (map : List (Option ℕ)) (p q a b : ℕ) (ms : List ℕ) → AllZip (IsCopied map) (p ∷ q ∷ []) ms → IsCopied map p a → IsCopied map q b → ms ≡ a ∷ b ∷ []
two_copies map p q a b [] z h k = absurd z
two_copies map p q a b (m ∷ []) z h k = absurd z.1
two_copies map p q a b (m ∷ n ∷ []) z h k = ap (λ (i : ℕ). i ∷ n ∷ []) (copied_one map p m a z.0 h) ∙ ap (λ (i : ℕ). a ∷ i ∷ []) (copied_one map q n b z.1.0 k)
two_copies map p q a b (m ∷ n ∷ o ∷ ms) z h k = absurd z.1.1

pub theta_at : (w : Written) (s : Source) (d n p q x a b : ℕ) → IsSource w s → Is s.graph.now.nodes n (op.Theta d) (p ∷ q ∷ []) → IsCopied s.map.now n x → IsCopied s.map.now p a → IsCopied s.map.now q b → IsThetaAt w d x a b
theta_at w s d n p q x a b source is cx ca cb =
    let g = s.graph.now in
    let copy = copy_at w g s.map.now source.copies n x (op.Theta d) (p ∷ q ∷ []) cx is in
    let t = sort_of g source.made source.sealed n (node_of (op.Theta d) (p ∷ q ∷ [])) is in
    let over = theta_over d t.2.sorts t.0 t.2.over in
    let kids : HaveSorts g.sorts (p ∷ q ∷ []) (t.0 ∷ t.0 ∷ []) = subst (HaveSorts g.sorts (p ∷ q ∷ [])) over.2 t.2.kids_have in
    record {
      is = subst (IsAt w x (op.Theta d)) (two_copies s.map.now p q a b copy.0 copy.1 ca cb) copy.2;
      first_is = let c = source.copies.each p a ca in (node_of c.node.op c.kids, c.copy_is);
      depth = over.0;
      s = t.0;
      proper = over.1;
      sort_ = source.copies.sorts n x t.0 cx t.1;
      first = source.copies.sorts p a t.0 ca kids.0;
    }

pub theta_later : (old new : Written) (d x a b : ℕ) → IsLater old new → IsThetaAt old d x a b → IsThetaAt new d x a b
theta_later old new d x a b later h = record {
  is = later.nodes x (node_of (op.Theta d) (a ∷ b ∷ [])) h.is;
  first_is = (h.first_is.0, later.nodes a h.first_is.0 h.first_is.1);
  depth = h.depth;
  s = h.s;
  proper = h.proper;
  sort_ = later.sorts x h.s h.sort_;
  first = later.sorts a h.s h.first;
}

pub theta_zero_nodes : (w : Written) (d x a b z : ℕ) → IsThetaAt w d x a b → IsZero w z → AreNodes w.graph (x ∷ z ∷ [])
theta_zero_nodes w d x a b z h is_zero = (slice_get_within w.graph.nodes x (node_of (op.Theta d) (a ∷ b ∷ [])) h.is, (slice_get_within w.graph.nodes z (node_of op.Zero []) is_zero.is, tt))

pub first_zero_nodes : (w : Written) (d x a b z : ℕ) → IsThetaAt w d x a b → IsZero w z → AreNodes w.graph (a ∷ z ∷ [])
first_zero_nodes w d x a b z h is_zero = (slice_get_within w.graph.nodes a h.first_is.0 h.first_is.1, (slice_get_within w.graph.nodes z (node_of op.Zero []) is_zero.is, tt))

pub theta_nodes : (w : Written) (d x a b : ℕ) → IsThetaAt w d x a b → AreNodes w.graph (x ∷ [])
theta_nodes w d x a b h = (slice_get_within w.graph.nodes x (node_of (op.Theta d) (a ∷ b ∷ [])) h.is, tt)

pub theta_eval : (w : Written) (d x a b z : ℕ) → IsThetaAt w d x a b → IsZero w z → FitsOver w.graph (op.Eval d) (x ∷ z ∷ [])
theta_eval w d x a b z h is_zero = eval_fits w.graph d x z h.s h.depth h.proper h.sort_ is_zero.sort_

pub first_eval : (w : Written) (d x a b z : ℕ) → IsThetaAt w d x a b → IsZero w z → FitsOver w.graph (op.Eval d) (a ∷ z ∷ [])
first_eval w d x a b z h is_zero = eval_fits w.graph d a z h.s h.depth h.proper h.first is_zero.sort_

pub theta_shift : (w : Written) (d x a b : ℕ) → IsThetaAt w d x a b → FitsOver w.graph (op.Shift d) (x ∷ [])
theta_shift w d x a b h = shift_fits w.graph d x h.s h.depth h.proper h.sort_

-- the kids that were found are those of the theta
pub theta_is : (nodes : List Node) (n d a b : ℕ) → IsTheta nodes d n → AreKids nodes n a b → Is nodes n (op.Theta d) (a ∷ b ∷ [])
theta_is nodes n d a b is are = subst (Is nodes n (op.Theta d)) (are (node_of (op.Theta d) (is.0 ∷ is.1 ∷ [])) is.2) is.2

pub theta_kids_are : (nodes : List Node) (n d p q : ℕ) (node : Node) (list : List ℕ) → Is nodes n (op.Theta d) (p ∷ q ∷ []) → slice_get nodes n ≡ Some node → list ≡ node.kids → list ≡ p ∷ q ∷ []
theta_kids_are nodes n d p q node list is at e = e ∙ ap (λ (m : Node). m.kids) (same_Some _ _ (sym at ∙ is))

pub two_read : (xs : List ℕ) (p q : ℕ) → xs ≡ p ∷ q ∷ [] → (0 < length xs) × (1 < length xs)
two_read xs p q e = let n : length xs ≡ 2 = ap length e in (omega (arith, n), omega (arith, n))

pub two_same : (xs ys : List ℕ) (p q d : ℕ) → xs ≡ p ∷ q ∷ [] → ys ≡ p ∷ q ∷ [] → xs ≡ get_or ys 0 d ∷ get_or ys 1 d ∷ []
two_same xs ys p q d e f = e ∙ ap (λ (zs : List ℕ). get_or zs 0 d ∷ get_or zs 1 d ∷ []) (sym f)

-- its kids are nodes
pub kid_low : (g : Graph) → IsGraph g → (n d p q : ℕ) → Is g.nodes n (op.Theta d) (p ∷ q ∷ []) → (p < length g.nodes) × (q < length g.nodes)
kid_low g made n d p q is = (kid_within g made n p (node_of (op.Theta d) (p ∷ q ∷ [])) is (inl refl), kid_within g made n q (node_of (op.Theta d) (p ∷ q ∷ [])) is (inr (inl refl)))

-- its kids have copies, where it has one
pub theta_copies : (w : Written) (s : Source) (n d p q : ℕ) → IsSource w s → Is s.graph.now.nodes n (op.Theta d) (p ∷ q ∷ []) → HasCopy s.map.now n → HasCopy s.map.now p × HasCopy s.map.now q
theta_copies w s n d p q source is h = let z = kids_copied s.graph.now w.graph s.map.now source.copies n (node_of (op.Theta d) (p ∷ q ∷ [])) is h in (z.0, z.1.0)

-- ---- the two axioms, stated

pub start_instance : (u v w : Written) (assumed : List ℕ) (d z x a b e f : ℕ) → IsThetaAt u d x a b → IsZero u z → HasNode u v (op.Eval d) (x ∷ z ∷ []) e → HasNode v w (op.Eval d) (a ∷ z ∷ []) f → Instance w.graph assumed 301 (a ∷ b ∷ []) e f
start_instance u v w assumed d z x a b e f theta is_zero left right =
    first_instance w.graph assumed d x a b z e f (right.goes.later.nodes x (node_of (op.Theta d) (a ∷ b ∷ [])) (left.goes.later.nodes x (node_of (op.Theta d) (a ∷ b ∷ [])) theta.is))
    (right.goes.later.nodes z (node_of op.Zero []) (left.goes.later.nodes z (node_of op.Zero []) is_zero.is)) (right.goes.later.nodes e (node_of (op.Eval d) (x ∷ z ∷ [])) left.is) right.is

pub start_is : (u v w last : Written) (d z x a e f : ℕ) (fact : Fact) → IsZero u z → HasNode u v (op.Eval d) (x ∷ z ∷ []) e → HasNode v w (op.Eval d) (a ∷ z ∷ []) f → States w last e f fact → IsStart last d z x a (record { left = e; right = f; fact = fact })
start_is u v w last d z x a e f fact is_zero left right states = record {
  zero_ = states.goes.later.nodes z (node_of op.Zero []) (right.goes.later.nodes z (node_of op.Zero []) (left.goes.later.nodes z (node_of op.Zero []) is_zero.is));
  left = states.goes.later.nodes e (node_of (op.Eval d) (x ∷ z ∷ [])) (right.goes.later.nodes e (node_of (op.Eval d) (x ∷ z ∷ [])) left.is);
  right = states.goes.later.nodes f (node_of (op.Eval d) (a ∷ z ∷ [])) right.is;
  known = states.shows;
}

pub later_instance : (u v : Written) (assumed : List ℕ) (d x a b e : ℕ) → IsThetaAt u d x a b → HasNode u v (op.Shift d) (x ∷ []) e → Instance v.graph assumed 303 (a ∷ b ∷ []) e b
later_instance u v assumed d x a b e theta left = next_instance v.graph assumed d x a b e (left.goes.later.nodes x (node_of (op.Theta d) (a ∷ b ∷ [])) theta.is) left.is

pub next_is : (u v last : Written) (d x b e : ℕ) (fact : Fact) → HasNode u v (op.Shift d) (x ∷ []) e → States v last e b fact → IsNext last d x b (record { left = e; right = b; fact = fact })
next_is u v last d x b e fact left states = record { left = states.goes.later.nodes e (node_of (op.Shift d) (x ∷ [])) left.is; right = refl; known = states.shows }

pub theta_same : (nodes : List Node) (n d p q r t : ℕ) → Is nodes n (op.Theta d) (p ∷ q ∷ []) → Is nodes n (op.Theta d) (r ∷ t ∷ []) → (p ≡ r) × (q ≡ t)
theta_same nodes n d p q r t h k = let e : p ∷ q ∷ [] ≡ r ∷ t ∷ [] = ap (λ (m : Node). m.kids) (same_Some _ _ (sym h ∙ k)) in (cc, cc)

-- ---- what is stated stays

-- where facts stay visible
start_later : (old new : Written) (d z x a : ℕ) (e : Equal) → IsLater old new → ((f : Fact) (m n : ℕ) → IsFact old f m n → IsFact new f m n) → IsStart old d z x a e → IsStart new d z x a e
start_later old new d z x a e later facts h = record {
  zero_ = later.nodes z (node_of op.Zero []) h.zero_;
  left = later.nodes e.left (node_of (op.Eval d) (x ∷ z ∷ [])) h.left;
  right = later.nodes e.right (node_of (op.Eval d) (a ∷ z ∷ [])) h.right;
  known = facts e.fact e.left e.right h.known;
}

next_later : (old new : Written) (d x b : ℕ) (e : Equal) → IsLater old new → ((f : Fact) (m n : ℕ) → IsFact old f m n → IsFact new f m n) → IsNext old d x b e → IsNext new d x b e
next_later old new d x b e later facts h = record { left = later.nodes e.left (node_of (op.Shift d) (x ∷ [])) h.left; right = h.right; known = facts e.fact e.left e.right h.known }

pub unrolled_later : (old new : Written) (s : Source) (d z x : ℕ) (u : Unrolled) → IsLater old new → ((f : Fact) (m n : ℕ) → IsFact old f m n → IsFact new f m n) → IsUnrolled old s d z x u → IsUnrolled new s d z x u
unrolled_later old new s d z x u later facts h = record {
  theta_ = h.theta_;
  is = h.is;
  copy_ = h.copy_;
  a = h.a;
  b = h.b;
  first = h.first;
  second = h.second;
  start_ = start_later old new d z u.copy h.a u.start later facts h.start_;
  next_ = next_later old new d u.copy h.b u.next later facts h.next_;
}

pub start_goes : (old new : Written) (d z x a : ℕ) (e : Equal) → GoesOn old new → IsStart old d z x a e → IsStart new d z x a e
start_goes old new d z x a e goes h = start_later old new d z x a e goes.later (λ f m n k. fact_goes old new f m n goes k) h

pub unrolled_goes : (old new : Written) (s : Source) (d z x : ℕ) (u : Unrolled) → GoesOn old new → IsUnrolled old s d z x u → IsUnrolled new s d z x u
unrolled_goes old new s d z x u goes h = unrolled_later old new s d z x u goes.later (λ f m n k. fact_goes old new f m n goes k) h
