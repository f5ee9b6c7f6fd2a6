-- Nodes of two sealed and well-made graphs that unfold as each other have one sort.
use Rattle.std.specs.Prelude.{◌≡◌, ℕ, zero, suc, false, List, [], ◌∷◌, length, Some, slice_get, refl}
use Rattle.std.specs.List.{range_with_len}
use Rattle.std.proofs.Common.{inl, inr, sym, ap, ◌∙◌, subst, arith}
use Rattle.std.proofs.lemmas.Option.{slice_get_within, same_Some}
use Rattle.pv_graph.specs.declared.node.Op.{Op}
use Rattle.pv_graph.specs.declared.node.OpSort.{OpSort}
use Rattle.pv_graph.specs.declared.node.Node.{Node}
use Rattle.pv_graph.proofs.Cited.{found, in_range, tied, shape_takes, IsFlat, Grounded, grounded, all_grounded, flat_edge, flat_unless, flat_first, theta_or_not, first_sort, theta_takes}
use Rattle.pv_graph.specs.Ops.{shape, sort_over, HaveSorts, HasSort}
use Rattle.pv_graph.specs.Walks.{In, move_to, KeepsRule}
use Rattle.pv_graph.specs.Graphs.{Graph, form_at, IsGraph, IsWellMade}
use Rattle.pv_graph.specs.Unfold.{unfold_at}
use Rattle.pv_alike.specs.Least.{UnfoldsAs}
use Rattle.pv_alike.proofs.Places.{zip_length}
use Rattle.pv_alike.proofs.LeastOnce.{AllUnfold, parts}

-- kids that unfold equally, place by place
zip_at : (g h : List Node) (ks ls : List ℕ) (p k l : ℕ) → AllUnfold g h ks ls → slice_get ks p ≡ Some k → slice_get ls p ≡ Some l → UnfoldsAs g k h l
zip_at g h [] ls p k l all e f = absurd (let z = e in cc)
zip_at g h (a ∷ ks) [] p k l all e f = absurd all
zip_at g h (a ∷ ks) (b ∷ ls) zero k l all e f = subst (λ (x : ℕ). UnfoldsAs g x h l) (same_Some a k e) (subst (λ (y : ℕ). UnfoldsAs g a h y) (same_Some b l f) all.0)
zip_at g h (a ∷ ks) (b ∷ ls) (suc p) k l all e f = zip_at g h ks ls p k l all.1 e f

sorts_alike : (all all' : List OpSort) (ks ls : List ℕ) (ss ts : List OpSort) → length ks ≡ length ls → HaveSorts all ks ss → HaveSorts all' ls ts
    → ((p k l : ℕ) (s t : OpSort) → slice_get ks p ≡ Some k → slice_get ls p ≡ Some l → slice_get all k ≡ Some s → slice_get all' l ≡ Some t → s ≡ t) → ss ≡ ts
sorts_alike all all' [] [] [] [] e h y same = refl
sorts_alike all all' [] [] [] (t ∷ ts) e h y same = absurd y
sorts_alike all all' [] [] (s ∷ ss) ts e h y same = absurd h
sorts_alike all all' [] (l ∷ ls) ss ts e h y same = absurd (omega arith)
sorts_alike all all' (k ∷ ks) [] ss ts e h y same = absurd (omega arith)
sorts_alike all all' (k ∷ ks) (l ∷ ls) [] ts e h y same = absurd h
sorts_alike all all' (k ∷ ks) (l ∷ ls) (s ∷ ss) [] e h y same = absurd y
sorts_alike all all' (k ∷ ks) (l ∷ ls) (s ∷ ss) (t ∷ ts) e h y same =
    let one : s ≡ t = same 0 k l s t refl refl h.0 y.0 in
    let others : ss ≡ ts = sorts_alike all all' ks ls ss ts (omega arith) h.1 y.1 (λ p a b c d x z u v. same (suc p) a b c d x z u v) in
    cc (one, others)

-- a node of a sealed graph has its sort
pub node_sort : (g : Graph) → IsGraph g → g.is_open ≡ false → (n : ℕ) (x : Node) (s : OpSort) → slice_get g.nodes n ≡ Some x → slice_get g.sorts n ≡ Some s → HasSort g.sorts x.op x.kids s
node_sort g is closed n x s e f = tied g closed x s (is.sorted n x s e f)

module _ (g h : Graph) (is : IsGraph g) (is' : IsGraph h) (closed : g.is_open ≡ false) (closed' : h.is_open ≡ false) (rule : KeepsRule (form_at g.nodes)) where
  abbrev X : List ℕ
  X = range_with_len 0 (length g.nodes)

  -- what holds of the kids of a node but the second of a theta
  abbrev KidsAlike : Node → Type 0
  KidsAlike x = (p k l : ℕ) (s t : OpSort) → slice_get x.kids p ≡ Some k → IsFlat (move_to (shape x.op) p) → UnfoldsAs g.nodes k h.nodes l → slice_get g.sorts k ≡ Some s → slice_get h.sorts l ≡ Some t → s ≡ t

  node_alike : (x y : Node) (s t : OpSort) → x.op ≡ y.op → AllUnfold g.nodes h.nodes x.kids y.kids → HasSort g.sorts x.op x.kids s → HasSort h.sorts y.op y.kids t → KidsAlike x → s ≡ t
  node_alike x y s t op kids has has' same = elim (theta_or_not (shape x.op)) [
    | inl th ↦
        let ss = theta_takes (shape x.op) th.0 has.sorts s th.1 (shape_takes x.op has.sorts s has.over) in
        let ts = theta_takes (shape y.op) th.0 has'.sorts t (ap shape (sym op) ∙ th.1) (shape_takes y.op has'.sorts t has'.over) in
        let a = first_sort g.sorts x.kids s (subst (HaveSorts g.sorts x.kids) ss has.kids_have) in
        let b = first_sort h.sorts y.kids t (subst (HaveSorts h.sorts y.kids) ts has'.kids_have) in
        same 0 a.0 b.0 s t a.1 (flat_first (shape x.op)) (zip_at g.nodes h.nodes x.kids y.kids 0 a.0 b.0 kids a.1 b.1) a.2 b.2
    | inr no' ↦
        let sorts = sorts_alike g.sorts h.sorts x.kids y.kids has.sorts has'.sorts (zip_length (λ (a b : ℕ). UnfoldsAs g.nodes a h.nodes b) x.kids y.kids kids) has.kids_have has'.kids_have
        (λ p k l r q e f u v. same p k l r q e (flat_unless (shape x.op) p no') (zip_at g.nodes h.nodes x.kids y.kids p k l kids e f) u v) in
        same_Some s t (sym has.over ∙ ap (sort_over x.op) sorts ∙ ap (λ (o : Op). sort_over o has'.sorts) op ∙ has'.over)
  ]

  sort_in : (k : ℕ) (s : OpSort) → slice_get g.sorts k ≡ Some s → In X k
  sort_in k s e = in_range 0 (length g.nodes) k (omega arith) (omega (arith, slice_get_within g.sorts k s e, is.long))

  alike_sort : (a : ℕ) → Grounded (form_at g.nodes) X a → (b : ℕ) (s t : OpSort) → UnfoldsAs g.nodes a h.nodes b → slice_get g.sorts a ≡ Some s → slice_get h.sorts b ≡ Some t → s ≡ t
  alike_sort a (grounded c more) b s t same e f =
      let x = found g.nodes c (omega (arith, slice_get_within g.sorts c s e, is.long)) in
      let y = found h.nodes b (omega (arith, slice_get_within h.sorts b t f, is'.long)) in
      let both = parts g.nodes h.nodes c b x.0 y.0 x.1 y.1 same in
      let kids : KidsAlike x.0 = (λ p k l r q at flat u v z. alike_sort k (more (move_to (shape x.0.op) p) k (flat_edge g.nodes c k p x.0 x.1 at flat) flat (sort_in k r v)) l r q u v z) in
      node_alike x.0 y.0 s t both.0 both.1 (node_sort g is closed c x.0 s x.1 e) (node_sort h is' closed' b y.0 t y.1 f) kids

  -- nodes that unfold as each other have one sort
  pub one_sort : (a b : ℕ) (s t : OpSort) → UnfoldsAs g.nodes a h.nodes b → slice_get g.sorts a ≡ Some s → slice_get h.sorts b ≡ Some t → s ≡ t
  one_sort a b s t same e f =
      alike_sort a (all_grounded (form_at g.nodes) (λ n m ms w. let r = rule n m ms w in (r.d, r.takes)) X a (sort_in a s e)) b s t same e f

-- two lists that have the same sort at each place are one
same_places : (xs ys : List OpSort) → length xs ≡ length ys → ((n : ℕ) (s t : OpSort) → slice_get xs n ≡ Some s → slice_get ys n ≡ Some t → s ≡ t) → xs ≡ ys
same_places [] [] e each = refl
same_places [] (y ∷ ys) e each = absurd (omega arith)
same_places (x ∷ xs) [] e each = absurd (omega arith)
same_places (x ∷ xs) (y ∷ ys) e each =
    let one : x ≡ y = each 0 x y refl refl in
    let others : xs ≡ ys = same_places xs ys (omega arith) (λ n s t. each (suc n) s t) in
    cc (one, others)

-- sealed and well-made graphs with one list of nodes have one list of sorts
pub one_sorts : (g h : Graph) → g.nodes ≡ h.nodes → IsWellMade g → IsWellMade h → g.is_open ≡ false → h.is_open ≡ false → g.sorts ≡ h.sorts
one_sorts g h e made made' closed closed' =
    same_places g.sorts h.sorts (made.graph.long ∙ ap (λ (xs : List Node). length xs) e ∙ sym made'.graph.long)
    (λ n s t. one_sort g h made.graph made'.graph closed closed' made.rule n n s t (λ m. ap (λ (xs : List Node). unfold_at (form_at xs) m n) e))
