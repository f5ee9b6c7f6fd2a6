-- The least graph of folded nodes is that of the nodes before folding.
use Rattle.std.specs.Prelude.{◌≡◌, ◌<◌, ◌+◌, ℕ, zero, suc, Bool, true, false, List, [], ◌∷◌, ◌++◌, length, Some, slice_get, refl}
use Rattle.std.proofs.Common.{inl, inr, sym, ap, ◌∙◌, subst, arith, length-append}
use Rattle.std.proofs.lemmas.Option.{slice_get_within, same_Some, none-some}
use Rattle.pv_graph.specs.declared.node.Op.{Op}
use Rattle.pv_graph.specs.declared.node.Op.TheVariants as op
use Rattle.pv_graph.specs.declared.node.OpSort.{OpSort}
use Rattle.pv_graph.specs.declared.node.Node.{Node}
use Rattle.pv_graph.specs.Nodes.{node_of}
use Rattle.pv_graph.specs.Ops.{sort_over, HaveSorts}
use Rattle.pv_graph.specs.Walks.{In, Walk, step, KeepsRule}
use Rattle.pv_graph.specs.Graphs.{Graph, form_at, IsGraph, IsWellMade}
use Rattle.pv_graph.specs.Calls.{AreSettledMarks, AreSorts, IsBase, LeavesNoSortOpen}
use Rattle.pv_graph.proofs.Cited.{bases_are_made, found, kid_within, node_at, push_cases, sort_there}
use Rattle.pv_alike.specs.Least.{Rooted, UnfoldsAs, IsLeastOf}
use Rattle.pv_alike.proofs.Cited.{least_moved}
use Rattle.pv_alike.proofs.LeastOnce.{AllUnfold, parts}
use Rattle.pv_alike.proofs.Origins.{there}
use Rattle.pv_alike.proofs.Ruled.{cycle_falls}
use Rattle.pv_alike.proofs.Sorts.{node_sort, one_sort}
use Rattle.pv_counted.specs.Counted.{AreCounted}
use Rattle.pv_counted.specs.Cleared.{IsDead, IsClearing, IsCleared, with_nodes}
use Rattle.pv_counted.specs.Folding.{KidsAreNodes, IsFolded}
use Rattle.pv_counted.specs.Replaced.{IsReplaced, AreReplaced}
use Rattle.pv_counted.proofs.ClearedValues.{clearing_keeps}

-- one thing for each number
choose : {A : Type 0} → (P : ℕ → A → Type 0) (n : ℕ) → ((i : ℕ) → i < n → (x : A) × P i x) → (xs : List A) × (length xs ≡ n) × ((i : ℕ) (x : A) → slice_get xs i ≡ Some x → P i x)
choose P zero all = ([], refl, λ i x e. absurd (none-some x e))
choose {A} P (suc n) all = by (all 0 (omega arith)) (choose (λ i. P (suc i)) n (λ i lt. all (suc i) (omega (arith, lt))))
  where
    by : (x : A) × P 0 x → (xs : List A) × (length xs ≡ n) × ((i : ℕ) (x : A) → slice_get xs i ≡ Some x → P (suc i) x) → (xs : List A) × (length xs ≡ suc n) × ((i : ℕ) (x : A) → slice_get xs i ≡ Some x → P i x)
    by (x, p) (xs, long, says) = (x ∷ xs, ap suc long, each)
      where
        each : (i : ℕ) (y : A) → slice_get (x ∷ xs) i ≡ Some y → P i y
        each zero y e = subst (P 0) (same_Some x y e) p
        each (suc i) y e = says i y e

module _ (g : Graph) (made : IsWellMade g) (closed : g.is_open ≡ false) (a b : ℕ) (k : List Node) (r s : ℕ) (f : IsFolded g.nodes a b k r s) where
  rule : KeepsRule (form_at k)
  rule n m ms w = cycle_falls k g.nodes made.rule n m ms w (f.each n (inside w))
    where
      inside : Walk (form_at k) n (m ∷ ms) n → n < length k
      inside (step q j o m' ps e v) = let x = node_at k q e.o e.ks e.is in slice_get_within k q x.0 x.1

  pub folded_cycles : LeavesNoSortOpen k
  folded_cycles = bases_are_made.cycles k rule

  -- a node that it unfolds as has this sort
  abbrev HasItsSort : ℕ → OpSort → Type 0
  HasItsSort p t = (n : ℕ) × UnfoldsAs k p g.nodes n × (slice_get g.sorts n ≡ Some t)

  sorts : (all : List OpSort) × (length all ≡ length k) × ((p : ℕ) (t : OpSort) → slice_get all p ≡ Some t → HasItsSort p t)
  sorts = choose HasItsSort (length k) (λ p lt. let o = f.each p lt in let t = sort_there g made.graph o.0 o.1 in (t.0, (o.0, o.2, t.1)))

  kids_sorted : (all : List OpSort) → length all ≡ length k → ((p : ℕ) (t : OpSort) → slice_get all p ≡ Some t → HasItsSort p t) → (ks ls : List ℕ) (ss : List OpSort) → AllUnfold k g.nodes ks ls → ((j : ℕ) → In ks j → j < length k) → HaveSorts g.sorts ls ss → HaveSorts all ks ss
  kids_sorted all long says [] [] [] same low have = tt
  kids_sorted all long says [] [] (t ∷ ss) same low have = absurd have
  kids_sorted all long says [] (l ∷ ls) ss same low have = absurd same
  kids_sorted all long says (j ∷ ks) [] ss same low have = absurd same
  kids_sorted all long says (j ∷ ks) (l ∷ ls) [] same low have = absurd have
  kids_sorted all long says (j ∷ ks) (l ∷ ls) (t ∷ ss) same low have =
      let q = found all j (let z = low j (inl refl) in omega (arith, z, long)) in
      let o = says j q.0 q.1 in
      let one : q.0 ≡ t = one_sort g g made.graph made.graph closed closed made.rule o.0 l q.0 t (λ m. sym (o.1 m) ∙ same.0 m) o.2 have.0 in
      (q.1 ∙ ap Some one, kids_sorted all long says ks ls ss same.1 (λ i m. low i (inr m)) have.1)

  pub folded_sorts : (all : List OpSort) × AreSorts k all
  folded_sorts = (
    sorts.0,
    record {
      long = sorts.1;
      each = λ p x t at e.
          let o = sorts.2 p t e in
          let y = there k g.nodes p o.0 x at o.1 in
          let both = parts k g.nodes p o.0 x y.0 at y.1 o.1 in
          let has = node_sort g made.graph closed o.0 y.0 t y.1 o.2 in
          record {
            sorts = has.sorts;
            kids_have = kids_sorted sorts.0 sorts.1 sorts.2 x.kids y.0.kids has.sorts both.1 (λ j m. f.within p j x at m) has.kids_have;
            over = ap (λ (q : Op). sort_over q has.sorts) both.0 ∙ has.over;
          };
    },
  )

  pub folded_made : (h : Graph) → IsBase h k → IsWellMade h
  folded_made h base = bases_are_made.made h k base rule

  pub folded_least : (h : Graph) (m : Rooted) → IsBase h k → IsLeastOf h r s m → IsLeastOf g a b m
  folded_least h m base q = record {
    least = least_moved h.nodes g.nodes r s a b m.graph.nodes m.first m.second
        (record { first = subst (λ (xs : List Node). UnfoldsAs xs r g.nodes a) (sym base.nodes_) f.first; second = subst (λ (xs : List Node). UnfoldsAs xs s g.nodes b) (sym base.nodes_) f.second }) q.least;
    sealed = q.sealed;
    base = q.base;
    made = q.made;
  }

-- ---- replaced nodes

pub replaced_none : (g : Graph) (marks : List Bool) → AreReplaced g marks 0 []
replaced_none g marks = record { long = refl; each = λ n node e. absurd (none-some node e) }

pub replaced_more : (g : Graph) (marks : List Bool) (n : ℕ) (nodes : List Node) (node : Node) → AreReplaced g marks n nodes → IsReplaced g marks n node → AreReplaced g marks (n + 1) (nodes ++ node ∷ [])
replaced_more g marks n nodes node is new = record {
  long = length-append nodes (node ∷ []) ∙ ap (λ (k : ℕ). k + 1) is.long;
  each = λ m x e. elim (push_cases nodes node x m e) [
    | inl old ↦ is.each m x old
    | inr here ↦ subst (λ (y : Node). IsReplaced g marks m y) here.1 (subst (λ (k : ℕ). IsReplaced g marks k node) (sym is.long ∙ sym here.0) new)
  ];
}

module _ (g : Graph) (counted : List ℕ) (marks : List Bool) (nodes : List Node) (are : AreSettledMarks g counted marks) (is : AreReplaced g marks (length g.nodes) nodes) where
  dead_marked : (n : ℕ) → n < length g.nodes → IsDead g counted n → slice_get marks n ≡ Some true
  dead_marked n lt dead = let m = found marks n (let z = are.long in omega (arith, z, lt)) in m.1 ∙ ap Some ((are.says n m.0 m.1).1 dead.1)

  pub is_clearing : IsClearing g counted (with_nodes g nodes)
  is_clearing = record {
    long = is.long;
    sorts = refl;
    open_ = refl;
    base = refl;
    each = λ n lt.
        let x = found nodes n (omega (arith, lt, is.long)) in
        elim (is.each n x.0 x.1) [
          | inl y ↦ inl ((y.0.0, (are.says n true y.0.1).0 refl), x.1 ∙ ap Some y.1)
          | inr y ↦ inr ((λ dead. y.0 (dead.0, dead_marked n lt dead)), x.1 ∙ sym y.1)
        ];
  }

pub clearing_within : (g : Graph) (counted : List ℕ) (nodes : List Node) → IsGraph g → IsClearing g counted (with_nodes g nodes) → KidsAreNodes nodes
clearing_within g counted nodes is c n k node e m =
    let lt : n < length g.nodes = (let z = slice_get_within nodes n node e in omega (arith, z, c.long)) in
    elim (c.each n lt) [
      | inl y ↦ absurd (subst (λ (x : Node). In x.kids k) (same_Some node (node_of op.Unit []) (sym e ∙ y.1)) m)
      | inr y ↦ let z = kid_within g is n k node (sym y.1 ∙ e) m in omega (arith, z, c.long)
    ]

pub clearing_at : (g h : Graph) (counted counted' : List ℕ) (nodes : List Node) → g ≡ h → counted ≡ counted' → IsClearing g counted (with_nodes g nodes) → IsClearing h counted' (with_nodes h nodes)
clearing_at g h counted counted' nodes e f c =
    subst (λ (x : Graph). IsClearing x counted' (with_nodes x nodes)) e (subst (λ (xs : List ℕ). IsClearing g xs (with_nodes g nodes)) f c)

-- ---- a cleared graph

module _ (l : Rooted) (counted : List ℕ) (nodes : List Node) (made : IsWellMade l.graph) (closed : l.graph.is_open ≡ false) (all : AreCounted l.graph.nodes counted) (clearing : IsClearing l.graph counted (with_nodes l.graph nodes)) where
  clearing_made : IsWellMade (with_nodes l.graph nodes)
  clearing_made = (clearing_keeps l.graph (with_nodes l.graph nodes) counted made closed all clearing).made

  module _ (a b : ℕ) (k : List Node) (r s : ℕ) (f : IsFolded nodes a b k r s) where
    pub cleared_cycles : LeavesNoSortOpen k
    cleared_cycles = folded_cycles (with_nodes l.graph nodes) clearing_made closed a b k r s f

    pub cleared_sorts : (sorts : List OpSort) × AreSorts k sorts
    cleared_sorts = folded_sorts (with_nodes l.graph nodes) clearing_made closed a b k r s f

    pub cleared_made : (h : Graph) → IsBase h k → IsWellMade h
    cleared_made h base = folded_made (with_nodes l.graph nodes) clearing_made closed a b k r s f h base

  pub is_cleared : (a b : ℕ) (k : List Node) (r s : ℕ) → a ≡ l.first → b ≡ l.second → IsFolded nodes a b k r s → (h : Graph) (m : Rooted) → IsBase h k → IsLeastOf h r s m → IsCleared l m
  is_cleared a b k r s e e' f h m base least =
      let at = subst (λ (x : ℕ). IsFolded nodes x l.second k r s) e (subst (λ (y : ℕ). IsFolded nodes a y k r s) e' f) in
      (counted, with_nodes l.graph nodes, all, clearing, folded_least (with_nodes l.graph nodes) clearing_made closed l.first l.second k r s at h m base least)
