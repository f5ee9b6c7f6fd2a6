-- One witness more.
use Rattle.std.specs.Prelude.{◌≡◌, ◌⊎◌, ℕ, ◌<◌, ◌≤◌, Bool, false, List, [], ◌∷◌, ◌++◌, length, Option, Some, None, slice_get, slice_set, refl}
use Rattle.std.proofs.Common.{inl, inr, sym, ap, ◌∙◌, subst, arith, take, take_all}
use Rattle.std.proofs.lemmas.Option.{slice_get_within}
use Rattle.pv_graph.specs.declared.node.Op.{Op}
use Rattle.pv_graph.specs.declared.node.OpSort.{OpSort}
use Rattle.pv_graph.specs.declared.node.Node.{Node}
use Rattle.pv_graph.specs.Forms.{form}
use Rattle.pv_graph.specs.Ops.{HasSort}
use Rattle.pv_graph.specs.Walks.{In}
use Rattle.pv_graph.specs.Graphs.{Graph, form_at, IsGraph, Extends}
use Rattle.pv_graph.proofs.Cited.{equal_or_not, found, form_there, kid_within, in_cases, push_cases, set_length, set_other, set_same, sort_there, tied}
use Rattle.pv_witness.specs.declared.condition.Condition.{Condition}
use Rattle.pv_marks.specs.Classes.{class_of}
use Rattle.pv_witness.specs.Conditions.{HoldsOfNode}
use Rattle.pv_heights.specs.Rounds as copy
use Rattle.pv_heights.specs.Searches.{OneClass}
use Rattle.pv_instances.specs.Made.{GrowsBy, KeepsDistinct}
use Rattle.pv_instances.proofs.Cited.{same_extends, extends_both, added_grows, added_distinct, sort_is, sorts_kept}
use Rattle.pv_witness.specs.Supports.{HandsOn, counted, Covers, IsReady, IsSupport, AreSupports, none, more}
use Rattle.pv_instances.specs.Classes.{JoinedHaveOneSort}
use Rattle.pv_witness.specs.Witnesses.{IsCopy, IsWitness}
use Rattle.pv_witness.specs.Table.{IsOldOrCopied, HoldsOfMarked, AreWitnessed, IsChosen, IsMadeAgain, FitsAgain, HasNumberedKids, IsTaken}
use Rattle.pv_witness.proofs.Supporting.{take_front}
use Rattle.pv_witness.proofs.Copies.{has_kept, node_has, copy_kept, longer, witness_kept, counted_chosen, chosen_sorts, chosen_copies}

pub none_witnessed : (g old : Graph) (numbers : List ℕ) (t : Condition) (starts : List Bool) (table : List (Option ℕ)) → Extends g old → old.is_open ≡ g.is_open → old.base ≡ g.base → length table ≡ length g.nodes
    → ((c w : ℕ) → slice_get table c ≡ Some (Some w) → ⊥) → AreWitnessed g old old numbers t starts [] table
none_witnessed g old numbers t starts table e sealed base long empty = record {
  grows = record { extends_ = e; sealed = sealed; base = base; news = λ n low high. inl high };
  kept = same_extends old;
  distinct = λ d. d;
  long = long;
  each = λ c w e. absurd (empty c w e);
  has = λ assumed c w marked e. absurd (empty c w e);
  all = λ c h. absurd h.1;
}

module _ (g old mid : Graph) (numbers : List ℕ) (t : Condition) (starts : List Bool) (xs : List ℕ) (table : List (Option ℕ)) (is_graph : IsGraph g) (sealed : g.is_open ≡ false) (long : length numbers ≡ length g.nodes) (one : JoinedHaveOneSort g (OneClass numbers))
    (is_mid : IsGraph mid) (w : AreWitnessed g old mid numbers t starts xs table) (n : ℕ) (lt : n < length g.nodes) where
  -- the node of the first graph
  old_node : (node : Node) → slice_get mid.nodes n ≡ Some node → slice_get g.nodes n ≡ Some node
  old_node node e = let x = found g.nodes n lt in x.1 ∙ sym (w.grows.extends_.nodes n x.0 x.1) ∙ e

  kids_low : (node : Node) (k : ℕ) → slice_get mid.nodes n ≡ Some node → In node.kids k → k < length g.nodes
  kids_low node k e i = kid_within g is_graph n k node (old_node node e) i

  -- what the call of the next node needs
  pub kids_numbered : ((k : ℕ) → k < length g.nodes → class_of numbers k < length g.nodes) → HasNumberedKids mid numbers table n
  kids_numbered within = record {
    kids = λ node k e i. (let z = kids_low node k e i in omega (arith, z, long));
    places = λ node k e i. (let z = within k (kids_low node k e i) in let y = w.long in omega (arith, z, y));
  }

  -- the node's sort, and those of its kids
  node_sort : (node : Node) → slice_get mid.nodes n ≡ Some node → (s : OpSort) × (slice_get g.sorts n ≡ Some s) × HasSort g.sorts node.op node.kids s
  node_sort node e = let s = sort_there g is_graph n lt in (s.0, s.1, tied g sealed node s.0 (is_graph.sorted n node s.0 (old_node node e) s.1))

  pub fits_again : FitsAgain mid numbers table n
  fits_again node ws e chosen =
      let s = node_sort node e in
      let h = s.2 in
      (s.0, record { sorts = h.sorts; kids_have = chosen_sorts g mid numbers table w.grows.extends_ long one w.each node.kids ws h.sorts (λ k i. kids_low node k e i) chosen h.kids_have; over = h.over })

  -- ---- the support itself

  start_witness : IsWitness g mid numbers (class_of numbers n) n
  start_witness = record {
    there = (let z = longer g mid w.grows.extends_ in omega (arith, lt, z));
    of_ = n;
    is_node = lt;
    class = refl;
    copy = copy.itself n n lt refl;
    sort_ = (let s = sort_there g is_graph n lt in w.grows.extends_.sorts n s.0 s.1 ∙ sym s.1);
  }

  -- ---- the node again

  module _ (new : Graph) (m : ℕ) (a : IsMadeAgain mid new numbers table n m) where
    later : GrowsBy mid new (λ k. form_at new.nodes k ≡ Some (form a.node.op a.over))
    later = added_grows mid new a.node.op a.over m (w.grows.sealed ∙ sealed) a.added

    copies : (k : ℕ) → form_at new.nodes k ≡ Some (form a.node.op a.over) → k < length new.nodes → IsCopy g new numbers k n
    copies k at_ there =
        let c = chosen_copies g mid numbers table w.grows.extends_ long one w.each a.node.kids a.over (λ j i. kids_low a.node j a.is i) a.chosen in
        let longer_ = longer mid new later.extends_ in
        copy.again k n a.node.op a.over a.node.kids c.of_ there at_ lt (form_there new.nodes n a.node (later.extends_.nodes n a.node a.is)) c.long_
        (λ j v u x y. copy_kept g mid new numbers later.extends_ longer_ v u (c.copies j v u x y)) c.classes

    news : (k : ℕ) → length g.nodes ≤ k → k < length new.nodes → IsOldOrCopied g old new numbers k
    news k low high = elim (low_or_high k (length mid.nodes)) [
      | inl l ↦ elim (w.grows.news k low l) [ inl before ↦ inl before | inr c ↦ inr (c.0, copy_kept g mid new numbers later.extends_ (longer mid new later.extends_) k c.0 c.1) ]
      | inr l ↦ inr (n, copies k (later.news k l high) high)
    ]
      where
        low_or_high : (i j : ℕ) → (i < j) ⊎ (j ≤ i)
        low_or_high i j = grind arith

    again_grows : GrowsBy g new (IsOldOrCopied g old new numbers)
    again_grows = record { extends_ = extends_both g mid new w.grows.extends_ later.extends_; sealed = later.sealed ∙ w.grows.sealed; base = later.base ∙ w.grows.base; news = news }

    again_there : m < length new.nodes
    again_there = slice_get_within new.nodes m _ a.added.first.there

    again_witness : IsWitness g new numbers (class_of numbers n) m
    again_witness = record {
      there = again_there;
      of_ = n;
      is_node = lt;
      class = refl;
      copy = copies m (form_there new.nodes m _ a.added.first.there) again_there;
      sort_ = (let s = node_sort a.node a.is in let h = s.2 in
          sort_is new a.added.graph (again_grows.sealed ∙ sealed) m a.node.op a.over h.sorts s.0 a.added.first.there
          (sorts_kept mid new later.extends_ a.over h.sorts (chosen_sorts g mid numbers table w.grows.extends_ long one w.each a.node.kids a.over h.sorts (λ k i. kids_low a.node k a.is i) a.chosen h.kids_have)) h.over ∙ sym s.1);
    }

    again_has : IsReady g numbers t xs n → (assumed : List ℕ) → HoldsOfMarked g assumed t starts → HoldsOfNode new assumed t m
    again_has r assumed begun =
        let e : Some (form a.node.op a.node.kids) ≡ Some (form r.o r.ks) = sym (form_there g.nodes n a.node (old_node a.node a.is)) ∙ r.is in
        let ops : a.node.op ≡ r.o = cc in
        let kids : a.node.kids ≡ r.ks = cc in
        node_has new assumed t m a.node.op a.over (form_there new.nodes m _ a.added.first.there) (subst (HandsOn t) (sym ops) r.passes)
        (λ v i. each_has r ops kids assumed begun v (counted_chosen numbers table t a.node.op a.node.kids a.over v a.chosen i))
      where
        each_has : (r : IsReady g numbers t xs n) → a.node.op ≡ r.o → a.node.kids ≡ r.ks → (assumed : List ℕ) → HoldsOfMarked g assumed t starts → (v : ℕ) → (k : ℕ) × In (counted t a.node.op a.node.kids) k × IsChosen numbers table k v
            → HoldsOfNode new assumed t v
        each_has r ops kids assumed begun v (k, i, inl h) =
            has_kept mid new is_mid later.extends_ assumed t v (w.each (class_of numbers k) v h).there (w.has assumed (class_of numbers k) v begun h)
        each_has r ops kids assumed begun v (k, i, inr h) =
            let x = w.all (class_of numbers k) (r.kids k (subst (λ (o : Op). In (counted t o r.ks) k) ops (subst (λ (ks : List ℕ). In (counted t a.node.op ks) k) kids i))) in
            absurd (let z : Some (Some x.0) ≡ Some None = sym x.1 ∙ h.0 in cc)

  -- ---- the table

  module _ (new : Graph) (m : ℕ) (e : Extends mid new) (distinct : KeepsDistinct mid new) (grows : GrowsBy g new (IsOldOrCopied g old new numbers)) (here : IsWitness g new numbers (class_of numbers n) m)
      (has : (assumed : List ℕ) → HoldsOfMarked g assumed t starts → HoldsOfNode new assumed t m) where
    set_cases : (c v : ℕ) → class_of numbers n < length table → slice_get (slice_set table (class_of numbers n) (Some m)) c ≡ Some (Some v) → ((c ≡ class_of numbers n) × (m ≡ v)) ⊎ (slice_get table c ≡ Some (Some v))
    set_cases c v low at_ = elim (equal_or_not c (class_of numbers n)) [
      | inl same ↦ inl (same, (let z : Some (Some m) ≡ Some (Some v) = sym (set_same table (class_of numbers n) (Some m) low) ∙ ap (slice_get (slice_set table (class_of numbers n) (Some m))) (sym same) ∙ at_ in cc))
      | inr ne ↦ inr (sym (set_other table (class_of numbers n) (Some m) c ne) ∙ at_)
    ]

    put : class_of numbers n < length table → AreWitnessed g old new numbers t starts (xs ++ n ∷ []) (slice_set table (class_of numbers n) (Some m))
    put low = record {
      grows = grows;
      kept = extends_both old mid new w.kept e;
      distinct = λ d. distinct (w.distinct d);
      long = set_length table (class_of numbers n) (Some m) ∙ w.long;
      each = λ c v at_. elim (set_cases c v low at_) [
        | inl s ↦ subst (IsWitness g new numbers c) s.1 (subst (λ (k : ℕ). IsWitness g new numbers k m) (sym s.0) here)
        | inr before ↦ witness_kept g mid new numbers c v e is_mid (w.each c v before)
      ];
      has = λ assumed c v begun at_. elim (set_cases c v low at_) [
        | inl s ↦ subst (HoldsOfNode new assumed t) s.1 (has assumed begun)
        | inr before ↦ has_kept mid new is_mid e assumed t v (w.each c v before).there (w.has assumed c v begun before)
      ];
      all = λ c h. all_there c h;
    }
      where
        all_there : (c : ℕ) → Covers numbers (xs ++ n ∷ []) c → (v : ℕ) × (slice_get (slice_set table (class_of numbers n) (Some m)) c ≡ Some (Some v))
        all_there c (b, i, is) = elim (equal_or_not c (class_of numbers n)) [
          | inl same ↦ (m, ap (slice_get (slice_set table (class_of numbers n) (Some m))) same ∙ set_same table (class_of numbers n) (Some m) low)
          | inr ne ↦ elim (in_cases xs n b i) [
            | inl before ↦ (let x = w.all c (b, before, is) in (x.0, set_other table (class_of numbers n) (Some m) c ne ∙ x.1))
            | inr last ↦ absurd (ne (sym is ∙ ap (class_of numbers) (sym last)))
          ]
        ]

  pub witnessed_more : (new : Graph) (m : ℕ) → class_of numbers n < length table → IsSupport g numbers t starts xs n → IsTaken mid new numbers starts table n m
      → AreWitnessed g old new numbers t starts (xs ++ n ∷ []) (slice_set table (class_of numbers n) (Some m)) × IsGraph new
  witnessed_more new m low support (inl (marked, is_n, same)) =
      let here : IsWitness g mid numbers (class_of numbers n) m = subst (IsWitness g mid numbers (class_of numbers n)) (sym is_n) start_witness in
      let has : (assumed : List ℕ) → HoldsOfMarked g assumed t starts → HoldsOfNode mid assumed t m =
      λ assumed begun. subst (HoldsOfNode mid assumed t) (sym is_n) (has_kept g mid is_graph w.grows.extends_ assumed t n lt (begun n marked)) in
      (subst (λ (h : Graph). AreWitnessed g old h numbers t starts (xs ++ n ∷ []) (slice_set table (class_of numbers n) (Some m))) (sym same) (put mid m (same_extends mid) (λ d. d) w.grows here has low), subst IsGraph (sym same) is_mid)
  witnessed_more new m low (inl marked) (inr (unmarked, a)) = absurd (unmarked marked)
  witnessed_more new m low (inr ready) (inr (unmarked, a)) =
      (put new m (later new m a).extends_ (added_distinct mid new a.node.op a.over m a.added) (again_grows new m a) (again_witness new m a) (again_has new m a ready) low, a.added.graph)

-- the support at a place, by those before it
pub support_at : (g : Graph) (numbers : List ℕ) (t : Condition) (starts : List Bool) (list : List ℕ) (i b : ℕ) → AreSupports g numbers t starts list → slice_get list i ≡ Some b → IsSupport g numbers t starts (take i list) b
support_at g numbers t starts _ i b none e = absurd (cc)
support_at g numbers t starts _ i b (more list n a is) e = elim (push_cases list n b i e) [
  | inl old ↦
      subst (λ (xs : List ℕ). IsSupport g numbers t starts xs b) (sym (take_front list (n ∷ []) i (let z = slice_get_within list i b old in omega arith))) (support_at g numbers t starts list i b a old)
  | inr new ↦
      let at_end : take i (list ++ n ∷ []) ≡ list = take_front list (n ∷ []) i (omega (arith, new.0)) ∙ take_all i list (omega (arith, new.0)) in
      subst (λ (xs : List ℕ). IsSupport g numbers t starts xs b) (sym at_end) (subst (IsSupport g numbers t starts list) new.1 is)
]
