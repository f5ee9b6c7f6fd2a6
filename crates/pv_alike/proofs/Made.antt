-- The least graph of two nodes of a well-made graph is a well-made graph.
use Rattle.std.specs.Prelude.{◌≡◌, ℕ, zero, suc, ◌+◌, ◌<◌, ◌≤◌, false, List, [], ◌∷◌, length, Some, slice_get, refl}
use Rattle.std.specs.List.{AllByRecursion}
use Rattle.std.proofs.Common.{inl, inr, sym, ap, ◌∙◌, subst, arith}
use Rattle.std.proofs.lemmas.Option.{slice_get_within, same_Some}
use Rattle.pv_graph.specs.declared.node.Op.{Op}
use Rattle.pv_graph.specs.declared.node.OpSort.{OpSort}
use Rattle.pv_graph.specs.declared.node.Node.{Node}
use Rattle.pv_graph.proofs.Cited.{found, sort_there}
use Rattle.pv_graph.specs.Ops.{sort_over, HaveSorts, HasSort}
use Rattle.pv_graph.specs.Walks.{In, KeepsRule}
use Rattle.pv_graph.specs.Graphs.{Graph, form_at, IsRanged, IsGraph, IsWellMade}
use Rattle.pv_alike.specs.Least.{UnfoldsAs, UnfoldEqually, IsLeast}
use Rattle.pv_alike.proofs.LeastLaws.{least_within}
use Rattle.pv_alike.proofs.LeastOnce.{AllUnfold, parts}
use Rattle.pv_alike.proofs.Origins.{HasOrigin, there, least_origins}
use Rattle.pv_alike.proofs.Fewest.{no_more}
use Rattle.pv_alike.proofs.Ruled.{least_keeps_rule}
use Rattle.pv_alike.proofs.Sorts.{node_sort, one_sort}

module _ (g : Graph) (is : IsGraph g) (closed : g.is_open ≡ false) (rule : KeepsRule (form_at g.nodes)) where
  module _ (h : List Node) (each : (p : ℕ) → p < length h → HasOrigin h g.nodes p) (distinct : (m n : ℕ) → m < length h → n < length h → UnfoldEqually h m n → m ≡ n) where
    -- a sort for each node, from place a on
    sorts_from : (a k : ℕ) → a + k ≡ length h → List OpSort
    sorts_from a zero e = []
    sorts_from a (suc k) e = (sort_there g is (each a (omega arith)).0 (each a (omega arith)).1).0 ∷ sorts_from (suc a) k (omega arith)

    sorts_length : (a k : ℕ) (e : a + k ≡ length h) → length (sorts_from a k e) ≡ k
    unfolding sorts_from
    sorts_length a zero e = refl
    sorts_length a (suc k) e = ap suc (sorts_length (suc a) k (omega arith))

    -- it is the sort of some origin
    sort_from : (a k : ℕ) (e : a + k ≡ length h) (p : ℕ) (s : OpSort) → slice_get (sorts_from a k e) p ≡ Some s → (n : ℕ) × UnfoldsAs h (a + p) g.nodes n × (slice_get g.sorts n ≡ Some s)
    unfolding sorts_from
    sort_from a zero e p s at = absurd (let z = at in cc)
    sort_from a (suc k) e zero s at =
        let o = each a (omega arith) in
        let r = sort_there g is o.0 o.1 in
        let one : r.0 ≡ s = same_Some r.0 s at in
        (o.0, subst (λ (x : ℕ). UnfoldsAs h x g.nodes o.0) (let z : a ≡ a + 0 = omega arith in z) o.2, r.1 ∙ ap Some one)
    sort_from a (suc k) e (suc p) s at =
        let r = sort_from (suc a) k (omega arith) p s at in
        (r.0, subst (λ (x : ℕ). UnfoldsAs h x g.nodes r.0) (let z : suc a + p ≡ a + suc p = omega arith in z) r.1, r.2)

    pub sorts : List OpSort
    sorts = sorts_from 0 (length h) (omega arith)

    pub sorts_long : length sorts ≡ length h
    unfolding sorts
    sorts_long = sorts_length 0 (length h) (omega arith)

    -- a sort of a node is that of each node that it unfolds as
    sort_of : (p : ℕ) (s : OpSort) (n : ℕ) (t : OpSort) → slice_get sorts p ≡ Some s → UnfoldsAs h p g.nodes n → slice_get g.sorts n ≡ Some t → s ≡ t
    unfolding sorts
    sort_of p s n t at u e =
        let r = sort_from 0 (length h) (omega arith) p s at in
        let v : UnfoldsAs h p g.nodes r.0 = subst (λ (x : ℕ). UnfoldsAs h x g.nodes r.0) (let z : 0 + p ≡ p = omega arith in z) r.1 in
        one_sort g g is is closed closed rule r.0 n s t (λ m. sym (v m) ∙ u m) r.2 e

    kids_sorted : (ks ls : List ℕ) (ss : List OpSort) → AllUnfold h g.nodes ks ls → AllByRecursion (λ k. k < length h) ks → HaveSorts g.sorts ls ss → HaveSorts sorts ks ss
    kids_sorted [] [] [] all low have = tt
    kids_sorted [] [] (s ∷ ss) all low have = absurd have
    kids_sorted [] (l ∷ ls) ss all low have = absurd all
    kids_sorted (k ∷ ks) [] ss all low have = absurd all
    kids_sorted (k ∷ ks) (l ∷ ls) [] all low have = absurd have
    kids_sorted (k ∷ ks) (l ∷ ls) (s ∷ ss) all low have =
        let r = found sorts k (let z = sorts_long in let y = low.0 in omega arith) in
        (r.1 ∙ ap Some (sort_of k r.0 l s r.1 all.0 have.0), kids_sorted ks ls ss all.1 low.1 have.1)

    -- the sorts fit
    pub sorts_fit : (p : ℕ) (x : Node) (s : OpSort) → slice_get h p ≡ Some x → slice_get sorts p ≡ Some s → AllByRecursion (λ k. k < length h) x.kids → HasSort sorts x.op x.kids s
    sorts_fit p x s at e low =
        let o = each p (slice_get_within h p x at) in
        let y = there h g.nodes p o.0 x at o.2 in
        let both = parts h g.nodes p o.0 x y.0 at y.1 o.2 in
        let t = sort_there g is o.0 o.1 in
        let one : s ≡ t.0 = sort_of p s o.0 t.0 e o.2 t.1 in
        let has = node_sort g is closed o.0 y.0 t.0 y.1 t.1 in
        record {
          sorts = has.sorts;
          kids_have = kids_sorted x.kids y.0.kids has.sorts both.1 low has.kids_have;
          over = ap (λ (q : Op). sort_over q has.sorts) both.0 ∙ has.over ∙ ap Some (sym one);
        }

    pub ranges_fit : (p : ℕ) (x : Node) → slice_get h p ≡ Some x → IsRanged x.op
    ranges_fit p x at =
        let o = each p (slice_get_within h p x at) in
        let y = there h g.nodes p o.0 x at o.2 in
        let both = parts h g.nodes p o.0 x y.0 at y.1 o.2 in
        subst IsRanged (sym both.0) (is.ranged o.0 y.0 y.1)

-- a sealed graph of which all nodes are the base
abbrev pub based : List Node → List OpSort → Graph
based h sorts = record { nodes = h; sorts = sorts; is_open = false; base = length h; is_prepared = false }

all_in : (P : ℕ → Type 0) (ks : List ℕ) (k : ℕ) → AllByRecursion P ks → In ks k → P k
all_in P [] k all m = absurd m
all_in P (l ∷ ks) k all (inl e) = subst P e all.0
all_in P (l ∷ ks) k all (inr m) = all_in P ks k all.1 m

-- with some sorts the least graph of two nodes of a well-made graph is well made
pub least_made : (g : Graph) (a b : ℕ) (h : List Node) (r s : ℕ) → IsWellMade g → g.is_open ≡ false → IsLeast g.nodes a b h r s → (ss : List OpSort) × IsWellMade (based h ss)
least_made g a b h r s made closed least =
    let is = made.graph in
    let rule = made.rule in
    let each : (p : ℕ) → p < length h → HasOrigin h g.nodes p = (λ p lt. least_origins least p lt) in
    let ss = sorts g is closed rule h each least.distinct in
    let within = least_within least in (
      ss,
      record {
        graph = record {
          long = sorts_long g is closed rule h each least.distinct;
          base = (let z : length h ≤ length h = omega arith in z);
          open_ = λ e. refl;
          sorted = λ n x t e f. inl (sorts_fit g is closed rule h each least.distinct n x t e f (within.kids n x e));
          early = λ n k x e lt m. all_in (λ j. j < length h) x.kids k (within.kids n x e) m;
          late = λ n k x e le m. absurd (omega (arith, slice_get_within h n x e));
          ranged = λ n x e. ranges_fit g is closed rule h each least.distinct n x e;
          variables = λ n x e le. absurd (omega (arith, slice_get_within h n x e));
        };
        rule = least_keeps_rule g.nodes a b h r s least rule;
      },
    )
