-- What is made of a side, and of parts one after another.
use Rattle.std.specs.Prelude.{◌≡◌, ℕ, zero, suc, false, List, [], ◌∷◌, ◌++◌, Some, None, slice_get, refl}
use Rattle.std.proofs.Common.{inl, inr, sym, ap, ◌∙◌, subst}
use Rattle.std.proofs.lemmas.Option.{same_Some}
use Rattle.pv_graph.specs.declared.node.Op.{Op}
use Rattle.pv_graph.specs.declared.node.OpSort.{OpSort}
use Rattle.pv_graph.specs.Forms.{form}
use Rattle.pv_graph.specs.Ops.{sort_over, HaveSorts}
use Rattle.pv_graph.specs.Graphs.{Graph, Extends}
use Rattle.pv_graph.specs.Nodes.{node_of}
use Rattle.pv_graph.specs.Calls.{Added, FitsOver}
use Rattle.pv_graph.proofs.Cited.{form_there}
use Rattle.pv_heights.specs.Filled.{Hole, kid, variable, Filled, at, of, Parts, no_part, part}
use Rattle.pv_heights.specs.Sides.{Match, thing_at}
use Rattle.pv_heights.specs.Rounds.{IsPart, IsPartOf}
use Rattle.pv_instances.specs.Sorted.{IsSorted, AreSorted}
use Rattle.pv_instances.specs.Seen.{parts}
use Rattle.pv_instances.specs.Made.{SortedOver, IsSideAt, IsPartAt, MadeSide}
use Rattle.pv_instances.specs.Parts.{AllSortedOver, AreSidesAt, IsPartOfAt, MadeSides}
use Rattle.pv_instances.proofs.Growing.{zip_get, form_within, form_kept, node_kept, sorts_kept, Is, nothing_new, added_grows, added_distinct, grows_both, sort_is}

-- ---- what is a side stays one

module _ (g h : Graph) (e : Extends g h) (m : Match ℕ) where
  mutual
    pub side_kept : (p : Filled) (n : ℕ) → IsSideAt g m p n → IsSideAt h m p n
    side_kept (at x) n s = s
    side_kept (of o ps) n (ks, there, is, all) = (ks, node_kept g h e n there, form_kept g h e n (form o ks) is, sides_kept ps ks all)

    pub sides_kept : (ps : Parts) (ks : List ℕ) → AreSidesAt g m ps ks → AreSidesAt h m ps ks
    sides_kept no_part [] s = tt
    sides_kept no_part (k ∷ ks) s = absurd s
    sides_kept (part p ps) [] s = absurd s
    sides_kept (part p ps) (k ∷ ks) s = (side_kept p k s.0, sides_kept ps ks s.1)

pub part_kept : (g h : Graph) → Extends g h → (m : Match ℕ) (whole : Filled) (n : ℕ) → IsPartAt g m whole n → IsPartAt h m whole n
part_kept g h e m whole n p = record { inner = p.inner; is_inner = p.is_inner; is = side_kept g h e m p.inner n p.is }

-- ---- one side

hole_sorted : (g : Graph) (m : Match ℕ) (x : Hole) (s : OpSort) → SortedOver g m (at x) s → (n : ℕ) × (thing_at m x ≡ Some n) × (slice_get g.sorts n ≡ Some s)
hole_sorted g m (kid i) s h = zip_get (λ k t. slice_get g.sorts k ≡ Some t) m.kids h.kid_sorts i s h.kids_have h.sorted
hole_sorted g m (variable j) s h = zip_get (λ k t. slice_get g.sorts k ≡ Some t) m.vars h.var_sorts j s h.vars_have h.sorted

-- a hole that has a sort has a node
pub hole_found : (g : Graph) (m : Match ℕ) (x : Hole) (s : OpSort) → SortedOver g m (at x) s → thing_at m x ≡ None → ⊥
hole_found g m x s h e = let n = hole_sorted g m x s h in absurd (let z = n.1 in cc)

pub made_hole : (g : Graph) (m : Match ℕ) (x : Hole) (n : ℕ) → thing_at m x ≡ Some n → MadeSide g g m (at x) n
made_hole g m x n e = record {
  grows = nothing_new g (IsPartAt g m (at x));
  distinct = λ d. d;
  is = e;
  sort_ = λ s h. (let y = hole_sorted g m x s h in let same : y.0 ≡ n = same_Some y.0 n (sym y.1 ∙ e) in subst (λ (k : ℕ). slice_get g.sorts k ≡ Some s) same y.2);
}

-- what an operation's parts need
pub parts_sorted : (g : Graph) (m : Match ℕ) (o : Op) (ps : Parts) (s : OpSort) → SortedOver g m (of o ps) s → (ss : List OpSort) × AllSortedOver g m ps ss × (sort_over o ss ≡ Some s)
parts_sorted g m o ps s h =
    let t = h.sorted in
    (t.0, record { kid_sorts = h.kid_sorts; var_sorts = h.var_sorts; kids_have = h.kids_have; vars_have = h.vars_have; sorted = t.2 }, t.1)

-- .. so that the operation fits over them
pub parts_fit : (g h : Graph) (m : Match ℕ) (o : Op) (ps : Parts) (s : OpSort) (ns : List ℕ) → SortedOver g m (of o ps) s → MadeSides g h m ps ns → FitsOver h o ns
parts_fit g h m o ps s ns sorted made =
    let t = parts_sorted g m o ps s sorted in
    (s, record { sorts = t.0; kids_have = made.sorts t.0 t.1; over = t.2 })

pub made_over : (g h i : Graph) (m : Match ℕ) (o : Op) (ps : Parts) (ns : List ℕ) (n : ℕ) → g.is_open ≡ false → MadeSides g h m ps ns → Added h i o ns n → MadeSide g i m (of o ps) n
made_over g h i m o ps ns n sealed made added =
    let more = added_grows h i o ns n (made.grows.sealed ∙ sealed) added in
    let all : AreSidesAt i m ps ns = sides_kept h i more.extends_ m ps ns made.are in
    record {
      grows = grows_both g h i (IsPartOfAt h m ps) (Is i o ns) (IsPartAt i m (of o ps)) made.grows more
          (λ k p. record { inner = p.inner; is_inner = inr p.is_inner; is = side_kept h i more.extends_ m p.inner k p.is })
          (λ k e. record { inner = of o ps; is_inner = inl refl; is = (ns, form_within i k (form o ns) e, e, all) });
      distinct = λ d. added_distinct h i o ns n added (made.distinct d);
      is = (let there = form_there i.nodes n (node_of o ns) added.first.there in (ns, form_within i n (form o ns) there, there, all));
      sort_ = λ s sorted. (let t = parts_sorted g m o ps s sorted in
          sort_is i added.graph (more.sealed ∙ (made.grows.sealed ∙ sealed)) n o ns t.0 s added.first.there (sorts_kept h i more.extends_ ns t.0 (made.sorts t.0 t.1)) t.2);
    }

-- ---- parts, one after another

pub made_none : (g : Graph) (m : Match ℕ) → MadeSides g g m no_part []
made_none g m = record { grows = nothing_new g (IsPartOfAt g m no_part); distinct = λ d. d; are = tt; sorts = λ ss h. none_sorted h.kid_sorts h.var_sorts ss h.sorted }
  where
    none_sorted : (ks vs : List OpSort) (ss : List OpSort) → AreSorted ks vs no_part ss → HaveSorts g.sorts [] ss
    none_sorted ks vs [] a = tt
    none_sorted ks vs (s ∷ ss) a = absurd a

sides_more : (g : Graph) (m : Match ℕ) (xs : List Filled) (ks : List ℕ) (x : Filled) (k : ℕ) → AreSidesAt g m (parts xs) ks → IsSideAt g m x k → AreSidesAt g m (parts (xs ++ x ∷ [])) (ks ++ k ∷ [])
sides_more g m [] [] x k a s = (s, tt)
sides_more g m [] (l ∷ ks) x k a s = absurd a
sides_more g m (y ∷ xs) [] x k a s = absurd a
sides_more g m (y ∷ xs) (l ∷ ks) x k a s = (a.0, sides_more g m xs ks x k a.1 s)

part_front : (xs : List Filled) (x p : Filled) → IsPartOf p (parts xs) → IsPartOf p (parts (xs ++ x ∷ []))
part_front [] x p a = absurd a
part_front (y ∷ xs) x p (inl a) = inl a
part_front (y ∷ xs) x p (inr a) = inr (part_front xs x p a)

part_last : (xs : List Filled) (x p : Filled) → IsPart p x → IsPartOf p (parts (xs ++ x ∷ []))
part_last [] x p a = inl a
part_last (y ∷ xs) x p a = inr (part_last xs x p a)

-- the sorts of parts are those of the first ones, and that of the last
record Parted (kids vars : List OpSort) (xs : List Filled) (x : Filled) (ss : List OpSort) : Type 0 where
  fronts : List OpSort
  last : OpSort
  are : ss ≡ fronts ++ last ∷ []
  front_sorted : AreSorted kids vars (parts xs) fronts
  last_sorted : IsSorted kids vars x last

parted : (kids vars : List OpSort) (xs : List Filled) (x : Filled) (ss : List OpSort) → AreSorted kids vars (parts (xs ++ x ∷ [])) ss → Parted kids vars xs x ss
parted kids vars [] x [] a = absurd a
parted kids vars [] x (s ∷ []) a = record { fronts = []; last = s; are = refl; front_sorted = tt; last_sorted = a.0 }
parted kids vars [] x (s ∷ t ∷ ss) a = absurd a.1
parted kids vars (y ∷ xs) x [] a = absurd a
parted kids vars (y ∷ xs) x (s ∷ ss) a =
    let p = parted kids vars xs x ss a.1 in
    record { fronts = s ∷ p.fronts; last = p.last; are = ap (λ (z : List OpSort). s ∷ z) p.are; front_sorted = (a.0, p.front_sorted); last_sorted = p.last_sorted }

sorts_more : (all : List OpSort) (ks : List ℕ) (ss : List OpSort) (k : ℕ) (s : OpSort) → HaveSorts all ks ss → slice_get all k ≡ Some s → HaveSorts all (ks ++ k ∷ []) (ss ++ s ∷ [])
sorts_more all [] [] k s z e = (e, tt)
sorts_more all [] (t ∷ ss) k s z e = absurd z
sorts_more all (l ∷ ks) [] k s z e = absurd z
sorts_more all (l ∷ ks) (t ∷ ss) k s z e = (z.0, sorts_more all ks ss k s z.1 e)

-- nodes that had sorts have them in a graph that grew
pub sorted_later : (g h : Graph) (m : Match ℕ) (x : Filled) (s : OpSort) → Extends g h → SortedOver g m x s → SortedOver h m x s
sorted_later g h m x s e a = record {
  kid_sorts = a.kid_sorts;
  var_sorts = a.var_sorts;
  kids_have = sorts_kept g h e m.kids a.kid_sorts a.kids_have;
  vars_have = sorts_kept g h e m.vars a.var_sorts a.vars_have;
  sorted = a.sorted;
}

pub made_more : (g h i : Graph) (m : Match ℕ) (xs : List Filled) (ns : List ℕ) (x : Filled) (n : ℕ) → MadeSides g h m (parts xs) ns → MadeSide h i m x n → MadeSides g i m (parts (xs ++ x ∷ [])) (ns ++ n ∷ [])
made_more g h i m xs ns x n made one = record {
  grows = grows_both g h i (IsPartOfAt h m (parts xs)) (IsPartAt i m x) (IsPartOfAt i m (parts (xs ++ x ∷ []))) made.grows one.grows
      (λ k p. record { inner = p.inner; is_inner = part_front xs x p.inner p.is_inner; is = side_kept h i one.grows.extends_ m p.inner k p.is })
      (λ k p. record { inner = p.inner; is_inner = part_last xs x p.inner p.is_inner; is = p.is });
  distinct = λ d. one.distinct (made.distinct d);
  are = sides_more i m xs ns x n (sides_kept h i one.grows.extends_ m (parts xs) ns made.are) one.is;
  sorts = λ ss h'. all_have ss h';
}
  where
    all_have : (ss : List OpSort) → AllSortedOver g m (parts (xs ++ x ∷ [])) ss → HaveSorts i.sorts (ns ++ n ∷ []) ss
    all_have ss a =
        let p = parted a.kid_sorts a.var_sorts xs x ss a.sorted in
        let fronts = made.sorts p.fronts (record { kid_sorts = a.kid_sorts; var_sorts = a.var_sorts; kids_have = a.kids_have; vars_have = a.vars_have; sorted = p.front_sorted }) in
        let last = one.sort_ p.last (sorted_later g h m x p.last made.grows.extends_ (record { kid_sorts = a.kid_sorts; var_sorts = a.var_sorts; kids_have = a.kids_have; vars_have = a.vars_have; sorted = p.last_sorted })) in
        subst (HaveSorts i.sorts (ns ++ n ∷ [])) (sym p.are) (sorts_more i.sorts ns p.fronts n p.last (sorts_kept h i one.grows.extends_ ns p.fronts fronts) last)

-- what the next part needs
part_sorted : (kids vars : List OpSort) (xs : List Filled) (j : ℕ) (x : Filled) (ss : List OpSort) → slice_get xs j ≡ Some x → AreSorted kids vars (parts xs) ss → (s : OpSort) × IsSorted kids vars x s
part_sorted kids vars [] j x ss e a = absurd (cc)
part_sorted kids vars (y ∷ xs) j x [] e a = absurd a
part_sorted kids vars (y ∷ xs) zero x (s ∷ ss) e a = (s, subst (λ (z : Filled). IsSorted kids vars z s) (same_Some y x e) a.0)
part_sorted kids vars (y ∷ xs) (suc j) x (s ∷ ss) e a = part_sorted kids vars xs j x ss e a.1

pub next_sorted : (g h : Graph) (m : Match ℕ) (xs : List Filled) (j : ℕ) (x : Filled) (ss : List OpSort) → slice_get xs j ≡ Some x → Extends g h → AllSortedOver g m (parts xs) ss → (s : OpSort) × SortedOver h m x s
next_sorted g h m xs j x ss at_ e a =
    let s = part_sorted a.kid_sorts a.var_sorts xs j x ss at_ a.sorted in
    (s.0, sorted_later g h m x s.0 e (record { kid_sorts = a.kid_sorts; var_sorts = a.var_sorts; kids_have = a.kids_have; vars_have = a.vars_have; sorted = s.1 }))
