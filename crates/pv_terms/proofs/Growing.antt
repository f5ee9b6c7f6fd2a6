-- Graphs to which nodes are added, and the sorts of these.
use Rattle.std.proofs.Common.{◌≡◌, ◌≢◌, ℕ, ◌<◌, List, [], ◌∷◌, ◌++◌, length, Bool, true, false, Some, None, slice_get, ◌⊎◌, inl, inr, ⊎_elim, refl, sym, ap, ◌∙◌, subst, arith, if◌then◌else◌}
use Rattle.pv_terms.proofs.Words.{Result, Ok, Err, OnErr, slice_get_within, same_Some, Op, Node, OpSort, found, push_cases, added_made, added_extends, begun_made, begun_extends, node_of, IsAbsent, is_depth, sort_over, but_root, HaveSorts, HasSort, Graph, IsGraph, IsUnfinished, Extends, IsSame, AreNodes, IsOpenTheta, appended, Added, Begun, IsNoTheta, has_depth, IsFlat, IsFlatOrOut, GrowsBy, Grows, Opens, Keeps, IsOfSort, IsValue, HasItsSort, KeepsSort}
use Rattle.pv_graph.specs.declared.node.Op.TheVariants as op
use Rattle.pv_graph.specs.declared.node.OpSort.TheVariants as sort

-- ---- graphs that grow

pub grows_by_same : (P : Op → Type 0) (g : Graph) → IsGraph g → GrowsBy P g g
grows_by_same P g is = record { graph = is; made = λ m. m; extends = record { nodes = λ n x at. at; sorts = λ n s at. at }; open_ = refl; left = λ n is. is; added = λ n x at. inl at }

pub grows_same : (g : Graph) → IsGraph g → Grows g g
grows_same g is = grows_by_same IsFlat g is

pub grows_by_then : (P : Op → Type 0) (a b c : Graph) → GrowsBy P a b → GrowsBy P b c → GrowsBy P a c
grows_by_then P a b c p q = record {
  graph = q.graph;
  made = λ m. q.made (p.made m);
  extends = record { nodes = λ n x at. q.extends.nodes n x (p.extends.nodes n x at); sorts = λ n s at. q.extends.sorts n s (p.extends.sorts n s at) };
  open_ = q.open_ ∙ p.open_;
  left = λ n is. p.left n (q.left n is);
  added = λ n x at. ⊎_elim (λ old. p.added n x old) (λ more. inr more) (q.added n x at);
}

pub grows_then : (a b c : Graph) → Grows a b → Grows b c → Grows a c
grows_then a b c p q = grows_by_then IsFlat a b c p q

-- what is said of fewer operations is said of more
pub grows_wider : (P Q : Op → Type 0) (a b : Graph) → ((o : Op) → P o → Q o) → GrowsBy P a b → GrowsBy Q a b
grows_wider P Q a b f p = record {
  graph = p.graph;
  made = p.made;
  extends = p.extends;
  open_ = p.open_;
  left = p.left;
  added = λ n x at. ⊎_elim (λ old. inl old) (λ is. inr (f x.op is)) (p.added n x at);
}

pub flat_or_out : (d : ℕ) (a b : Graph) → Grows a b → GrowsBy (IsFlatOrOut d) a b
flat_or_out d a b grows = grows_wider IsFlat (IsFlatOrOut d) a b (λ o is. inl is) grows

-- an equal graph, prepared or not
same_graph : (old : Graph) (prepared : Bool) → IsGraph old → IsGraph (record old { is_prepared = prepared })
same_graph old prepared g = record { long = g.long; base = g.base; open_ = g.open_; sorted = g.sorted; early = g.early; late = g.late; ranged = g.ranged; variables = g.variables }

same_grows : (P : Op → Type 0) (old : Graph) (prepared : Bool) → IsGraph old → GrowsBy P old (record old { is_prepared = prepared })
same_grows P old prepared is = record {
  graph = same_graph old prepared is;
  made = λ m. record { graph = same_graph old prepared m.graph; rule = m.rule };
  extends = record { nodes = λ n x at. at; sorts = λ n s at. at };
  open_ = refl;
  left = λ n is. is;
  added = λ n x at. inl at;
}

pub grows_by_unchanged : (P : Op → Type 0) (old new : Graph) → IsGraph old → IsSame old new → GrowsBy P old new
grows_by_unchanged P old new is same = subst (GrowsBy P old) (sym same) (same_grows P old new.is_prepared is)

pub grows_unchanged : (old new : Graph) → IsGraph old → IsSame old new → Grows old new
grows_unchanged old new is same = grows_by_unchanged IsFlat old new is same

added_open : (old new : Graph) (o : Op) (kids : List ℕ) (s : OpSort) → IsSame old new ⊎ (IsAbsent old.nodes (node_of o kids) × (new ≡ appended old (node_of o kids) s new.is_prepared)) → new.is_open ≡ old.is_open
added_open old new o kids s (inl same) = ap (λ (g : Graph). g.is_open) same
added_open old new o kids s (inr more) = ap (λ (g : Graph). g.is_open) more.1

-- a node of another operation leaves no theta without kids
added_left : (old new : Graph) (o : Op) (kids : List ℕ) (s : OpSort) → IsNoTheta o → IsSame old new ⊎ (IsAbsent old.nodes (node_of o kids) × (new ≡ appended old (node_of o kids) s new.is_prepared)) → (n : ℕ) → IsOpenTheta new n → IsOpenTheta old n
added_left old new o kids s other (inl same) n is = (is.0, sym (ap (λ (g : Graph). slice_get g.nodes n) same) ∙ is.1)
added_left old new o kids s other (inr more) n is =
    let at : slice_get (old.nodes ++ node_of o kids ∷ []) n ≡ Some (node_of (op.Theta is.0) []) = sym (ap (λ (g : Graph). slice_get g.nodes n) more.1) ∙ is.1 in
    elim (push_cases old.nodes (node_of o kids) (node_of (op.Theta is.0) []) n at) [
      | inl there ↦ (is.0, there)
      | inr last ↦ absurd (other is.0 (ap (λ (y : Node). y.op) last.1))
    ]

-- a node that isn't an old one is the one that was added
added_node : (old new : Graph) (o : Op) (kids : List ℕ) (s : OpSort) → IsSame old new ⊎ (IsAbsent old.nodes (node_of o kids) × (new ≡ appended old (node_of o kids) s new.is_prepared)) → (n : ℕ) (x : Node) → slice_get new.nodes n ≡ Some x
    → (slice_get old.nodes n ≡ Some x) ⊎ (x.op ≡ o)
added_node old new o kids s (inl same) n x at = inl (sym (ap (λ (g : Graph). slice_get g.nodes n) same) ∙ at)
added_node old new o kids s (inr more) n x at =
    elim (push_cases old.nodes (node_of o kids) x n (sym (ap (λ (g : Graph). slice_get g.nodes n) more.1) ∙ at)) [
      | inl there ↦ inl there
      | inr last ↦ inr (sym (ap (λ (y : Node). y.op) last.1))
    ]

pub grows_added : (P : Op → Type 0) (old new : Graph) (o : Op) (kids : List ℕ) (n : ℕ) → IsGraph old → IsNoTheta o → P o → Added old new o kids n → GrowsBy P old new
grows_added P old new o kids n is other has added = record {
  graph = added.graph;
  made = λ m. added_made old new o kids n m added;
  extends = added_extends old new o kids n is added;
  open_ = added_open old new o kids added.fits.0 added.grows;
  left = added_left old new o kids added.fits.0 other added.grows;
  added = λ m x at. ⊎_elim (λ old. inl old) (λ e. inr (subst P (sym e) has)) (added_node old new o kids added.fits.0 added.grows m x at);
}

-- an operation without a depth is no theta, and neither is one that takes a value out of a loop
pub flat_no_theta : (o : Op) → IsFlat o → IsNoTheta o
flat_no_theta o flat d e = let z : has_depth (op.Theta d) ≡ false = subst IsFlat e flat in absurd (cc)

pub out_no_theta : (d : ℕ) (o : Op) → (o ≡ op.Eval d) ⊎ (o ≡ op.Pass d) → IsNoTheta o
out_no_theta d o (inl is) e f = absurd (let z = sym is ∙ f in cc)
out_no_theta d o (inr is) e f = absurd (let z = sym is ∙ f in cc)

begun_left : (old new : Graph) (d : ℕ) (s : OpSort) (n : ℕ) → Begun old new d s n → (m : ℕ) → IsOpenTheta new m → IsOpenTheta old m ⊎ (m ≡ n)
begun_left old new d s n begun m is =
    let at : slice_get (old.nodes ++ node_of (op.Theta d) [] ∷ []) m ≡ Some (node_of (op.Theta is.0) []) = sym (ap (λ (g : Graph). slice_get g.nodes m) begun.grows) ∙ is.1 in
    elim (push_cases old.nodes (node_of (op.Theta d) []) (node_of (op.Theta is.0) []) m at) [
      | inl there ↦ inl (is.0, there)
      | inr last ↦ inr (last.0 ∙ sym begun.number)
    ]

begun_node : (old new : Graph) (d : ℕ) (s : OpSort) (n : ℕ) → Begun old new d s n → (m : ℕ) (x : Node) → slice_get new.nodes m ≡ Some x → (slice_get old.nodes m ≡ Some x) ⊎ (m ≡ n)
begun_node old new d s n begun m x at =
    elim (push_cases old.nodes (node_of (op.Theta d) []) x m (sym (ap (λ (g : Graph). slice_get g.nodes m) begun.grows) ∙ at)) [
      | inl there ↦ inl there
      | inr last ↦ inr (last.0 ∙ sym begun.number)
    ]

pub opens_begun : (old new : Graph) (d : ℕ) (s : OpSort) (n : ℕ) → IsGraph old → Begun old new d s n → Opens old new n
opens_begun old new d s n is begun = record {
  graph = begun.graph;
  made = λ m. begun_made old new d s n m begun;
  extends = begun_extends old new d s n is begun;
  open_ = ap (λ (g : Graph). g.is_open) begun.grows;
  left = begun_left old new d s n begun;
  after = begun.number;
  added = begun_node old new d s n begun;
}

pub keeps_begun : (old new : Graph) (d : ℕ) (s : OpSort) (n : ℕ) → IsGraph old → Begun old new d s n → Keeps old new
keeps_begun old new d s n is begun = record { graph = begun.graph; extends = begun_extends old new d s n is begun }

pub on_err : {A E : Type 0} (r : Result A E) (P : Type 0) → P → OnErr r P
on_err (Ok x) P p = tt
on_err (Err e) P p = p

-- ---- sorts

-- kids have one list of sorts
sorts_once : (all : List OpSort) (kids : List ℕ) (ss ts : List OpSort) → HaveSorts all kids ss → HaveSorts all kids ts → ss ≡ ts
sorts_once all [] [] [] p q = refl
sorts_once all [] [] (t ∷ ts) p q = absurd q
sorts_once all [] (s ∷ ss) ts p q = absurd p
sorts_once all (k ∷ ks) [] ts p q = absurd p
sorts_once all (k ∷ ks) (s ∷ ss) [] p q = absurd q
sorts_once all (k ∷ ks) (s ∷ ss) (t ∷ ts) p q =
    let one : s ≡ t = same_Some s t (sym p.0 ∙ q.0) in
    let others : ss ≡ ts = sorts_once all ks ss ts p.1 q.1 in
    cc (one, others)

sorts_kept : (old new : Graph) → Extends old new → (kids : List ℕ) (ss : List OpSort) → HaveSorts old.sorts kids ss → HaveSorts new.sorts kids ss
sorts_kept old new grows [] [] h = tt
sorts_kept old new grows [] (s ∷ ss) h = absurd h
sorts_kept old new grows (k ∷ ks) [] h = absurd h
sorts_kept old new grows (k ∷ ks) (s ∷ ss) h = (grows.sorts k s h.0, sorts_kept old new grows ks ss h.1)

-- a node that has a sort is there
pub sorted_within : (g : Graph) (n : ℕ) (s : OpSort) → IsGraph g → IsOfSort g n s → n < length g.nodes
sorted_within g n s is at = let within = slice_get_within g.sorts n s at in let long = is.long in omega arith

-- kids that have sorts are nodes
pub fit_nodes : (g : Graph) → IsGraph g → (kids : List ℕ) (ss : List OpSort) → HaveSorts g.sorts kids ss → AreNodes g kids
fit_nodes g is [] ss h = tt
fit_nodes g is (k ∷ ks) [] h = absurd h
fit_nodes g is (k ∷ ks) (s ∷ ss) h = (sorted_within g k s is h.0, fit_nodes g is ks ss h.1)

-- the sort of a node that isn't a theta is what its operation gives over the sorts of its kids
pub sort_is : (g : Graph) (n : ℕ) (o : Op) (kids : List ℕ) (s : OpSort) → IsGraph g → IsNoTheta o → slice_get g.nodes n ≡ Some (node_of o kids) → HasSort g.sorts o kids s → IsOfSort g n s
sort_is g n o kids s is other at has =
    let within : n < length g.nodes = slice_get_within g.nodes n (node_of o kids) at in
    let one = found g.sorts n (let long = is.long in omega arith) in
    one.1 ∙ ap (λ (t : OpSort). Some t) (by one.0 (is.sorted n (node_of o kids) one.0 at one.1))
  where
    by : (t : OpSort) → HasSort g.sorts o kids t ⊎ ((g.is_open ≡ true) × IsUnfinished (node_of o kids) t) → t ≡ s
    by t (inl h) = same_Some t s (sym h.over ∙ ap (sort_over o) (sorts_once g.sorts kids h.sorts has.sorts h.kids_have has.kids_have) ∙ has.over)
    by t (inr h) = absurd (other h.1.depth h.1.theta_)

pub has_sort_kept : (old new : Graph) → Extends old new → (o : Op) (kids : List ℕ) (s : OpSort) → HasSort old.sorts o kids s → HasSort new.sorts o kids s
has_sort_kept old new grows o kids s h = record { sorts = h.sorts; kids_have = sorts_kept old new grows kids h.sorts h.kids_have; over = h.over }

pub sort_added : (old new : Graph) (o : Op) (kids : List ℕ) (n : ℕ) → IsGraph old → IsNoTheta o → Added old new o kids n → HasItsSort old o kids new n
sort_added old new o kids n is other added s has = sort_is new n o kids s added.graph other added.first.there (has_sort_kept old new (added_extends old new o kids n is added) o kids s has)

-- ---- the operations of loops, and of tokens

pass_sort : (d : ℕ) → is_depth d ≡ true → sort_over (op.Pass d) (sort.I ∷ []) ≡ Some sort.N
pass_sort d h = ap (λ (b : Bool). if b then Some sort.N else None) h

value_sort : (s : OpSort) → s ≢ sort.R → but_root s ≡ Some s
value_sort sort.R ne = absurd (ne refl)
value_sort sort.I ne = refl
value_sort sort.L ne = refl
value_sort sort.A ne = refl
value_sort sort.N ne = refl
value_sort sort.F ne = refl
value_sort sort.T ne = refl
value_sort sort.H ne = refl

eval_sort_is : (d : ℕ) (s : OpSort) → is_depth d ≡ true → s ≢ sort.R → sort_over (op.Eval d) (s ∷ sort.N ∷ []) ≡ Some s
eval_sort_is d s h ne = ap (λ (b : Bool). if b then but_root s else None) h ∙ value_sort s ne

pub pass_has : (g : Graph) (d e : ℕ) → is_depth d ≡ true → IsOfSort g e sort.I → HasSort g.sorts (op.Pass d) (e ∷ []) sort.N
pass_has g d e h at = record { sorts = sort.I ∷ []; kids_have = (at, tt); over = pass_sort d h }

pub eval_has : (g : Graph) (d n p : ℕ) (s : OpSort) → is_depth d ≡ true → s ≢ sort.R → IsOfSort g n s → IsOfSort g p sort.N → HasSort g.sorts (op.Eval d) (n ∷ p ∷ []) s
eval_has g d n p s h ne at pass = record { sorts = s ∷ sort.N ∷ []; kids_have = (at, (pass, tt)); over = eval_sort_is d s h ne }

pub both_has : (g : Graph) (a b : ℕ) → IsOfSort g a sort.T → IsOfSort g b sort.T → HasSort g.sorts op.Both (a ∷ b ∷ []) sort.T
both_has g a b p q = record { sorts = sort.T ∷ sort.T ∷ []; kids_have = (p, (q, tt)); over = refl }

-- a value taken over its pass has its sort
pub eval_keeps : (old mid new : Graph) (d n p r : ℕ) → is_depth d ≡ true → IsValue old n → GrowsBy (IsFlatOrOut d) old mid → IsOfSort mid p sort.N → HasItsSort mid (op.Eval d) (n ∷ p ∷ []) new r → KeepsSort old n new r
eval_keeps old mid new d n p r h value grows pass has s at = has s (eval_has mid d n p s h (λ e. value.2 (same_Some value.0 s (sym value.1 ∙ at) ∙ e)) (grows.extends.sorts n s at) pass)
