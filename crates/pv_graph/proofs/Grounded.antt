-- Where each cycle takes the second kid of some theta, walks that take none come to an end.
use Rattle.std.specs.Prelude.{◌≡◌, ◌⊎◌, ℕ, zero, suc, ◌<◌, false, List, [], ◌∷◌, ◌++◌, length, Option, Some, slice_get, refl}
use Rattle.std.specs.List.{range_with_len}
use Rattle.std.proofs.Common.{inl, inr, ⊎_elim, sym, ap, ◌∙◌, subst, arith}
use Rattle.std.proofs.lemmas.Option.{slice_get_within, same_Some}
use Rattle.pv_graph.specs.declared.node.OpSort.{OpSort}
use Rattle.pv_graph.specs.declared.node.Node.{Node}
use Rattle.pv_graph.proofs.Elements.{found}
use Rattle.pv_graph.specs.Ops.{Shape, theta, shape, sort_over, HaveSorts, HasSort, is_theta}
use Rattle.pv_graph.specs.Forms.{Form}
use Rattle.pv_graph.specs.Walks.{In, Move, down, move_to, Edge, Walk, stop, step}
use Rattle.pv_graph.specs.Graphs.{form_at}
use Rattle.pv_graph.specs.Calls.{LeavesNoSortOpen, AreSorts}
use Rattle.pv_graph.proofs.Sorting.{ShapeTakes, shape_takes}
use Rattle.pv_graph.proofs.NodeLaws.{form_there, in_range}

-- no second kid of a theta
abbrev pub IsFlat : Move → Type 0
IsFlat m = (d : ℕ) → m ≡ down d → ⊥

abbrev pub AreFlat : List Move → Type 0
AreFlat ms = (d : ℕ) → In ms (down d) → ⊥

-- no walk from n that takes no second kid of a theta is endless, inside the nodes X
pub data Grounded {N : Type 0} (view : N → Option (Form N)) (X : List N) : N → Type 0 where
  grounded : (n : N) → ((m : Move) (k : N) → Edge view n m k → IsFlat m → In X k → Grounded view X k) → Grounded view X n

flat_more : (m : Move) (ms : List Move) → IsFlat m → AreFlat ms → AreFlat (m ∷ ms)
flat_more m ms f fs d (inl e) = f d e
flat_more m ms f fs d (inr h) = fs d h

flat_on : (ms : List Move) (m : Move) → AreFlat ms → IsFlat m → AreFlat (ms ++ m ∷ [])
flat_on [] m fs f d (inl e) = f d e
flat_on [] m fs f d (inr h) = absurd h
flat_on (p ∷ ms) m fs f d (inl e) = fs d (inl e)
flat_on (p ∷ ms) m fs f d (inr h) = flat_on ms m (λ e z. fs e (inr z)) f d h

pub walk_on : {N : Type 0} (view : N → Option (Form N)) (n : N) (ms : List Move) (k : N) (m : Move) (o : N) → Walk view n ms k → Edge view k m o → Walk view n (ms ++ m ∷ []) o
walk_on view n ms k m o (stop c) e = step c o o m [] e (stop o)
walk_on view n ms k m o (step c q r p ps a w) e = step c q o p (ps ++ m ∷ []) a (walk_on view q ps r m o w e)

module _ {N : Type 0} (view : N → Option (Form N)) (cycles : (n : N) (m : Move) (ms : List Move) → Walk view n (m ∷ ms) n → (d : ℕ) × In (m ∷ ms) (down d)) where
  -- no cycle takes none
  no_cycle : (n : N) (m : Move) (ms : List Move) → Walk view n (m ∷ ms) n → AreFlat (m ∷ ms) → ⊥
  no_cycle n m ms w flat = let d = cycles n m ms w in flat d.0 d.1

  module _ (n : N) (X : List N) where
    away : (k : N) → Grounded view X k → (m : Move) (ms : List Move) → Walk view n (m ∷ ms) k → AreFlat (m ∷ ms) → Grounded view (n ∷ X) k
    away k (grounded c h) m ms w flat = grounded c (λ p o a f y. ⊎_elim
        (λ z. absurd (no_cycle n m (ms ++ p ∷ []) (subst (λ (o : N). Walk view n (m ∷ (ms ++ p ∷ [])) o) (sym z) (walk_on view n (m ∷ ms) c p o w a)) (flat_on (m ∷ ms) p flat f)))
        (λ z. away o (h p o a f z) m (ms ++ p ∷ []) (walk_on view n (m ∷ ms) c p o w a) (flat_on (m ∷ ms) p flat f)) y)

    home : ((k : N) → In X k → Grounded view X k) → Grounded view (n ∷ X) n
    home rest = grounded n (λ p o a f y. ⊎_elim
        (λ z. absurd (no_cycle n p [] (subst (λ (o : N). Walk view n (p ∷ []) o) (sym z) (step n o o p [] a (stop o))) (flat_more p [] f (λ d z. z))))
        (λ z. away o (rest o z) p [] (step n o o p [] a (stop o)) (flat_more p [] f (λ d z. z))) y)

    others : Grounded view (n ∷ X) n → (k : N) → Grounded view X k → Grounded view (n ∷ X) k
    others at_home k (grounded c h) = grounded c (λ p o a f y. ⊎_elim (λ z. subst (λ (o : N). Grounded view (n ∷ X) o) z at_home) (λ z. others at_home o (h p o a f z)) y)

  pub all_grounded : (X : List N) (k : N) → In X k → Grounded view X k
  all_grounded [] k y = absurd y
  all_grounded (n ∷ X) k y =
      let h = home n X (λ k y. all_grounded X k y) in
      ⊎_elim (λ z. subst (λ (k : N). Grounded view (n ∷ X) k) z h) (λ z. others n X h k (all_grounded X k z)) y

  -- so nodes of which each has a kid among them, but as the second kid of a theta, are none: numbering from below goes on
  pub none_left : (X : List N) (P : N → Type 0) → ((n : N) → P n → In X n) → ((n : N) → P n → (m : Move) × (k : N) × Edge view n m k × IsFlat m × P k) → (n : N) → P n → ⊥
  none_left X P inside goes n p = fall n (all_grounded X n (inside n p)) p
    where
      fall : (n : N) → Grounded view X n → P n → ⊥
      fall n (grounded c h) p = let e = goes c p in fall e.1 (h e.0 e.1 e.2 e.3 (inside e.1 e.4)) e.4

-- ---- the sorts of a base

-- the kid at a place other than a theta's second
pub flat_edge : (nodes : List Node) (n k p : ℕ) (node : Node) → slice_get nodes n ≡ Some node → slice_get node.kids p ≡ Some k → IsFlat (move_to (shape node.op) p) → Edge (form_at nodes) n (move_to (shape node.op) p) k
flat_edge nodes n k p node e at flat = record { o = node.op; ks = node.kids; place = p; is = form_there nodes n node e; there = at; moves = refl }

pub flat_unless : (s : Shape) (p : ℕ) → is_theta s ≡ false → IsFlat (move_to s p)
flat_unless (theta e) p t d m = absurd (cc)
flat_unless s p t d m = absurd (cc)

pub flat_first : (s : Shape) → IsFlat (move_to s 0)
flat_first (theta e) d m = absurd (cc)
flat_first s d m = absurd (cc)

pub theta_or_not : (s : Shape) → ((d : ℕ) × (s ≡ theta d)) ⊎ (is_theta s ≡ false)
theta_or_not (theta d) = inl (d, refl)
theta_or_not s = inr refl

-- kids of one sort in both have one list of sorts
pub same_sorts_of : (all all' : List OpSort) (ks : List ℕ) (ss ts : List OpSort) → HaveSorts all ks ss → HaveSorts all' ks ts → ((p k : ℕ) → slice_get ks p ≡ Some k → slice_get all k ≡ slice_get all' k) → ss ≡ ts
same_sorts_of all all' [] [] [] h y same = refl
same_sorts_of all all' [] [] (t ∷ ts) h y same = absurd y
same_sorts_of all all' [] (s ∷ ss) ts h y same = absurd h
same_sorts_of all all' (k ∷ ks) [] ts h y same = absurd h
same_sorts_of all all' (k ∷ ks) (s ∷ ss) [] h y same = absurd y
same_sorts_of all all' (k ∷ ks) (s ∷ ss) (t ∷ ts) h y same =
    let one : s ≡ t = same_Some s t (sym h.0 ∙ same 0 k refl ∙ y.0) in
    let others : ss ≡ ts = same_sorts_of all all' ks ss ts h.1 y.1 (λ p l e. same (suc p) l e) in
    cc (one, others)

-- a theta has the sort of its first kid
pub first_sort : (all : List OpSort) (ks : List ℕ) (s : OpSort) → HaveSorts all ks (s ∷ s ∷ []) → (k : ℕ) × (slice_get ks 0 ≡ Some k) × (slice_get all k ≡ Some s)
first_sort all [] s h = absurd h
first_sort all (k ∷ ks) s h = (k, refl, h.0)

pub theta_takes : (s : Shape) (d : ℕ) (ss : List OpSort) (t : OpSort) → s ≡ theta d → ShapeTakes s ss t → ss ≡ t ∷ t ∷ []
theta_takes (theta e) d ss t is h = h
theta_takes s d ss t is h = absurd (cc)

module _ (nodes : List Node) (cycles : LeavesNoSortOpen nodes) (all all' : List OpSort) (are : AreSorts nodes all) (are' : AreSorts nodes all') where
  abbrev numbers_of : List ℕ
  numbers_of = range_with_len 0 (length nodes)

  -- what holds of the kids of a node but the second of a theta
  abbrev KidsSame : Node → Type 0
  KidsSame node = (p k : ℕ) → slice_get node.kids p ≡ Some k → IsFlat (move_to (shape node.op) p) → slice_get all k ≡ slice_get all' k

  node_same : (node : Node) (s t : OpSort) → HasSort all node.op node.kids s → HasSort all' node.op node.kids t → KidsSame node → s ≡ t
  node_same node s t h y same = elim (theta_or_not (shape node.op)) [
    | inl th ↦
        let ss = theta_takes (shape node.op) th.0 h.sorts s th.1 (shape_takes node.op h.sorts s h.over) in
        let ts = theta_takes (shape node.op) th.0 y.sorts t th.1 (shape_takes node.op y.sorts t y.over) in
        let a = first_sort all node.kids s (subst (HaveSorts all node.kids) ss h.kids_have) in
        let b = first_sort all' node.kids t (subst (HaveSorts all' node.kids) ts y.kids_have) in
        let one : a.0 ≡ b.0 = same_Some a.0 b.0 (sym a.1 ∙ b.1) in
        same_Some s t (sym a.2 ∙ same 0 a.0 a.1 (flat_first (shape node.op)) ∙ ap (slice_get all') one ∙ b.2)
    | inr no' ↦
        let sorts = same_sorts_of all all' node.kids h.sorts y.sorts h.kids_have y.kids_have (λ p k e. same p k e (flat_unless (shape node.op) p no')) in
        same_Some s t (sym h.over ∙ ap (sort_over node.op) sorts ∙ y.over)
  ]

  in_numbers : (k : ℕ) (s : OpSort) → slice_get all k ≡ Some s → In numbers_of k
  in_numbers k s e = in_range 0 (length nodes) k (omega arith) (omega (arith, slice_get_within all k s e, are.long))

  kid_sort : (ks : List ℕ) (ss : List OpSort) (p k : ℕ) → HaveSorts all ks ss → slice_get ks p ≡ Some k → (s : OpSort) × (slice_get all k ≡ Some s)
  kid_sort [] ss p k h e = absurd (let z = e in cc)
  kid_sort (l ∷ ks) [] p k h e = absurd h
  kid_sort (l ∷ ks) (s ∷ ss) zero k h e = (s, ap (slice_get all) (let z : k ≡ l = cc in z) ∙ h.0)
  kid_sort (l ∷ ks) (s ∷ ss) (suc p) k h e = kid_sort ks ss p k h.1 e

  sort_same : (n : ℕ) → Grounded (form_at nodes) numbers_of n → n < length nodes → slice_get all n ≡ slice_get all' n
  sort_same n (grounded c more) lt =
      let node = found nodes c lt in
      let s = found all c (omega (arith, are.long)) in
      let t = found all' c (omega (arith, are'.long)) in
      let h = are.each c node.0 s.0 node.1 s.1 in
      let y = are'.each c node.0 t.0 node.1 t.1 in
      let kids : KidsSame node.0 = (λ p k e flat.
      let r = kid_sort node.0.kids h.sorts p k h.kids_have e in
      sort_same k (more (move_to (shape node.0.op) p) k (flat_edge nodes c k p node.0 node.1 e flat) flat (in_numbers k r.0 r.1)) (omega (arith, slice_get_within all k r.0 r.1, are.long))) in
      s.1 ∙ ap Some (node_same node.0 s.0 t.0 h y kids) ∙ sym t.1

  each_same : (n : ℕ) → n < length nodes → slice_get all n ≡ slice_get all' n
  each_same n lt = sort_same n (all_grounded (form_at nodes) cycles numbers_of n (in_range 0 (length nodes) n (omega arith) (omega arith))) lt

pub same_everywhere : (xs ys : List OpSort) → length xs ≡ length ys → ((n : ℕ) → n < length xs → slice_get xs n ≡ slice_get ys n) → xs ≡ ys
same_everywhere [] [] e h = refl
same_everywhere [] (y ∷ ys) e h = absurd (omega arith)
same_everywhere (x ∷ xs) [] e h = absurd (omega arith)
same_everywhere (x ∷ xs) (y ∷ ys) e h =
    let one : x ≡ y = same_Some x y (h 0 (omega arith)) in
    let others : xs ≡ ys = same_everywhere xs ys (omega arith) (λ n lt. h (suc n) (omega arith)) in
    cc (one, others)

-- where each cycle takes the second kid of some theta, the nodes have their sorts in one way
pub sorts_once : (nodes : List Node) → LeavesNoSortOpen nodes → (all all' : List OpSort) → AreSorts nodes all → AreSorts nodes all' → all ≡ all'
sorts_once nodes cycles all all' are are' = same_everywhere all all' (are.long ∙ sym are'.long) (λ n lt. each_same nodes cycles all all' are are' n (omega (arith, are.long)))
