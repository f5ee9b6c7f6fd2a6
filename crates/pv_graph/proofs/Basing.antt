-- The sorts of a base: what the nodes take is what they have, wherever a list of sorts fits them.
use Rattle.std.specs.Prelude.{◌≡◌, ◌≢◌, ◌⊎◌, ◌↔◌, ℕ, zero, suc, ◌+◌, ◌<◌, ◌≤◌, Bool, true, false, ◌==◌, List, [], ◌∷◌, ◌++◌, map, length, Option, Some, None, slice_get, slice_set, refl}
use Rattle.std.specs.List.{range_with_len}
use Rattle.std.proofs.Common.{inl, inr, sym, ap, ◌∙◌, subst, arith, get_or, take, length-append}
use Rattle.std.proofs.lemmas.Bool.Decides.{nat_tests}
use Rattle.std.proofs.lemmas.List.{take_more, length-take-le}
use Rattle.std.proofs.lemmas.Option.{slice_get_within, same_Some}
use Rattle.std.specs.Option.{option_eq}
use Rattle.pv_value.specs.Spelled.{bind}
use Rattle.pv_graph.specs.contracts.node.OpSortPartialEq.TheImpl.{eq-value as sort_eq}
use Rattle.pv_value.specs.Operations.{takes, gives}
use Rattle.pv_graph.specs.declared.node.Op.{Op}
use Rattle.pv_graph.specs.declared.node.Op.TheVariants as op
use Rattle.pv_graph.specs.declared.node.OpSort.{OpSort}
use Rattle.pv_graph.specs.declared.node.OpSort.TheVariants.{I, L, A, N, F, T, H, R}
use Rattle.pv_graph.specs.declared.node.Node.{Node}
use Rattle.pv_graph.specs.declared.reach.Use.{Use}
use Rattle.pv_graph.specs.declared.reach.Look.TheVariants as look
use Rattle.pv_graph.proofs.Elements.{found, push_cases, get_front, get_last}
use Rattle.pv_graph.specs.Ops.{shape, same_sort, word_sort, kind_sort, field_sort, call_sorts, param_sort, exactly, CallSorts, sort_over, HaveSorts, HasSort}
use Rattle.pv_graph.specs.SortCode.{own_sort, is_source}
use Rattle.pv_graph.specs.Walks.{In, move_to}
use Rattle.pv_graph.specs.Graphs.{form_at, IsGraph}
use Rattle.pv_graph.specs.Kept.{graph_of}
use Rattle.pv_graph.specs.Reach.{Uses, IsUse, IsMarked, AreUses, AreOut, Hits, AreReached, KidsWithin, AllKidsWithin}
use Rattle.pv_graph.specs.Reach as hits
use Rattle.pv_graph.specs.Calls.{AreSorts, LeavesNoSortOpen}
use Rattle.pv_graph.specs.Base.{Takes, own, from, own_sorts, AreAllUses, AreOfSort, AreTakers, Gives, AreTaken, AreRanged, value_sorts}
use Rattle.pv_graph.proofs.NodeLaws.{bind_some, in_range}
use Rattle.pv_graph.proofs.Sorting.{same_sort_is, exactly_are, shape_takes}
use Rattle.pv_graph.proofs.SortSteps.{same_sort_test}
use Rattle.pv_graph.proofs.Tying.{set_same, set_other, set_length, equal_or_not}
use Rattle.pv_graph.proofs.Reaching.{in_at, in_cases}
use Rattle.pv_graph.proofs.Marking.{out_free, place_of}
use Rattle.pv_graph.proofs.Grounded.{IsFlat, Grounded, grounded, all_grounded, flat_edge, flat_first, same_sorts_of, same_everywhere}

-- ---- one operation

-- the sort comes from the operation, or from the kid whose sort it takes
abbrev pub ComesFrom : Op → List OpSort → OpSort → Type 0
ComesFrom o ss s = (own_sort o ≡ Some s) ⊎ ((p : ℕ) × (is_source o p ≡ true) × (slice_get ss p ≡ Some s))

fixed : (o : Op) (wants : List OpSort) (t : OpSort) (ss : List OpSort) (s : OpSort) → own_sort o ≡ Some t → exactly wants t ss ≡ Some s → ComesFrom o ss s
fixed o wants t ss s mine e = inl (mine ∙ ap Some (exactly_are wants t ss s e).1)

param_is : (t p : OpSort) → param_sort t ≡ Some p → t ≡ p
param_is I p e = cc
param_is L p e = cc
param_is A p e = cc
param_is t p e = absurd (cc)

pub comes_from : (o : Op) (ss : List OpSort) (s : OpSort) → sort_over o ss ≡ Some s → ComesFrom o ss s
comes_from (op.Int c) ss s e = fixed (op.Int c) [] I ss s refl e
comes_from (op.Long c) ss s e = fixed (op.Long c) [] L ss s refl e
comes_from op.Null ss s e = fixed op.Null [] A ss s refl e
comes_from (op.Literal t) ss s e = fixed (op.Literal t) [] A ss s refl e
comes_from (op.Param j t) ss s e =
    let p = bind_some (param_sort t) (λ q. exactly [] q ss) s e in
    fixed (op.Param j t) [] p.0 ss s (ap Some (param_is t p.0 p.1)) p.2
comes_from op.This ss s e = fixed op.This [] A ss s refl e
comes_from op.Heap0 ss s e = fixed op.Heap0 [] H ss s refl e
comes_from op.Unit ss s e = fixed op.Unit [] T ss s refl e
comes_from op.Never ss s e = fixed op.Never [] T ss s refl e
comes_from op.Clear ss s e = fixed op.Clear [] F ss s refl e
comes_from op.FNull ss s e = fixed op.FNull [] F ss s refl e
comes_from op.FArith ss s e = fixed op.FArith [] F ss s refl e
comes_from op.FIndex ss s e = fixed op.FIndex [] F ss s refl e
comes_from op.Zero ss s e = fixed op.Zero [] N ss s refl e
comes_from op.Succ ss s e = fixed op.Succ (N ∷ []) N ss s refl e
comes_from op.Thrown ss s e = fixed op.Thrown (A ∷ []) F ss s refl e
comes_from op.IsClear ss s e = fixed op.IsClear (F ∷ []) I ss s refl e
comes_from op.Both ss s e = fixed op.Both (T ∷ T ∷ []) T ss s refl e
comes_from op.Phi ss s e = inr (1, refl, ap (λ (ts : List OpSort). slice_get ts 1) (shape_takes op.Phi ss s e))
comes_from (op.Theta d) ss s e = inr (0, refl, ap (λ (ts : List OpSort). slice_get ts 0) (shape_takes (op.Theta d) ss s e))
comes_from (op.Eval d) ss s e = inr (0, refl, ap (λ (ts : List OpSort). slice_get ts 0) (shape_takes (op.Eval d) ss s e))
comes_from (op.Pass d) ss s e = inl (ap Some (sym (shape_takes (op.Pass d) ss s e).1))
comes_from (op.Shift d) ss s e = inr (0, refl, ap (λ (ts : List OpSort). slice_get ts 0) (shape_takes (op.Shift d) ss s e))
comes_from op.Root ss s e = inl (ap Some (sym (shape_takes op.Root ss s e).3))
comes_from (op.Scalar o) ss s e = fixed (op.Scalar o) (map word_sort (takes o)) (word_sort (gives o)) ss s refl e
comes_from op.Aeq ss s e = fixed op.Aeq (A ∷ A ∷ []) I ss s refl e
comes_from (op.GetStatic y) ss s e =
    let t = bind_some (field_sort y) (λ u. exactly (H ∷ []) u ss) s e in
    fixed (op.GetStatic y) (H ∷ []) t.0 ss s t.1 t.2
comes_from (op.PutStatic y) ss s e =
    let t = bind_some (field_sort y) (λ u. exactly (H ∷ u ∷ []) H ss) s e in
    fixed (op.PutStatic y) (H ∷ t.0 ∷ []) H ss s refl t.2
comes_from (op.GetField y) ss s e =
    let t = bind_some (field_sort y) (λ u. exactly (H ∷ A ∷ []) u ss) s e in
    fixed (op.GetField y) (H ∷ A ∷ []) t.0 ss s t.1 t.2
comes_from (op.PutField y) ss s e =
    let t = bind_some (field_sort y) (λ u. exactly (H ∷ A ∷ u ∷ []) H ss) s e in
    fixed (op.PutField y) (H ∷ A ∷ t.0 ∷ []) H ss s refl t.2
comes_from (op.Load k) ss s e = fixed (op.Load k) (H ∷ A ∷ I ∷ []) (kind_sort k) ss s refl e
comes_from (op.Store k) ss s e = fixed (op.Store k) (H ∷ A ∷ I ∷ kind_sort k ∷ []) H ss s refl e
comes_from op.Length ss s e = fixed op.Length (A ∷ []) I ss s refl e
comes_from (op.CallEnd y) ss s e =
    let c = bind_some (call_sorts y) (λ c. exactly c.kids T ss) s e in
    fixed (op.CallEnd y) c.0.kids T ss s refl c.2
comes_from (op.CallRes y) ss s e =
    let c = bind_some (call_sorts y) (λ c. bind c.result (λ t. exactly c.kids t ss)) s e in
    let t = bind_some c.0.result (λ t. exactly c.0.kids t ss) s c.2 in
    fixed (op.CallRes y) c.0.kids t.0 ss s (ap (λ (q : Option CallSorts). bind q (λ c. c.result)) c.1 ∙ t.1) t.2
comes_from (op.CallFault y) ss s e =
    let c = bind_some (call_sorts y) (λ c. exactly c.kids F ss) s e in
    fixed (op.CallFault y) c.0.kids F ss s refl c.2
comes_from (op.CallHeap y) ss s e =
    let c = bind_some (call_sorts y) (λ c. exactly c.kids H ss) s e in
    fixed (op.CallHeap y) c.0.kids H ss s refl c.2
comes_from (op.Var j t) ss s e = fixed (op.Var j t) [] t ss s refl e

-- an operation with a sort of its own takes none
no_source : (o : Op) (s : OpSort) (p : ℕ) → own_sort o ≡ Some s → is_source o p ≡ true → ⊥
no_source op.Phi s p e f = cc
no_source (op.Theta d) s p e f = cc
no_source (op.Eval d) s p e f = cc
no_source (op.Shift d) s p e f = cc
no_source o s p e f = absurd (cc)

is_place : (p q : ℕ) → (p == q) ≡ true → p ≡ q
is_place p q e = grind (arith, nat_tests)

one_source : (o : Op) (p q : ℕ) → is_source o p ≡ true → is_source o q ≡ true → p ≡ q
one_source op.Phi p q e f = is_place p 1 e ∙ sym (is_place q 1 f)
one_source (op.Theta d) p q e f = is_place p 0 e ∙ sym (is_place q 0 f)
one_source (op.Eval d) p q e f = is_place p 0 e ∙ sym (is_place q 0 f)
one_source (op.Shift d) p q e f = is_place p 0 e ∙ sym (is_place q 0 f)
one_source o p q e f = absurd (cc)

-- the kid whose sort is taken is no second kid of a theta
flat_source : (o : Op) (p : ℕ) → is_source o p ≡ true → IsFlat (move_to (shape o) p)
flat_source op.Phi p e d m = absurd (cc)
flat_source (op.Theta t) p e d m = flat_first (shape (op.Theta t)) d (ap (move_to (shape (op.Theta t))) (sym (is_place p 0 e)) ∙ m)
flat_source (op.Eval t) p e d m = absurd (cc)
flat_source (op.Shift t) p e d m = absurd (cc)
flat_source o p e d m = absurd (cc)

have_at : (all : List OpSort) (ks : List ℕ) (ss : List OpSort) (p k : ℕ) (s : OpSort) → HaveSorts all ks ss → slice_get ks p ≡ Some k → slice_get ss p ≡ Some s → slice_get all k ≡ Some s
have_at all [] [] p k s h e f = absurd (let z = e in cc)
have_at all [] (t ∷ ts) p k s h e f = absurd h
have_at all (l ∷ ks) [] p k s h e f = absurd h
have_at all (l ∷ ks) (t ∷ ts) zero k s h e f = ap (slice_get all) (sym (same_Some l k e)) ∙ h.0 ∙ f
have_at all (l ∷ ks) (t ∷ ts) (suc p) k s h e f = have_at all ks ts p k s h.1 e f

have_kid : (all : List OpSort) (ks : List ℕ) (ss : List OpSort) (p : ℕ) (s : OpSort) → HaveSorts all ks ss → slice_get ss p ≡ Some s → (k : ℕ) × (slice_get ks p ≡ Some k)
have_kid all [] [] p s h f = absurd (let z = f in cc)
have_kid all [] (t ∷ ts) p s h f = absurd h
have_kid all (l ∷ ks) [] p s h f = absurd h
have_kid all (l ∷ ks) (t ∷ ts) zero s h f = (l, refl)
have_kid all (l ∷ ks) (t ∷ ts) (suc p) s h f = have_kid all ks ts p s h.1 f

have_sort : (all : List OpSort) (ks : List ℕ) (ss : List OpSort) (p k : ℕ) → HaveSorts all ks ss → slice_get ks p ≡ Some k → k < length all
have_sort all [] ss p k h e = absurd (let z = e in cc)
have_sort all (l ∷ ks) [] p k h e = absurd h
have_sort all (l ∷ ks) (t ∷ ts) zero k h e = slice_get_within all k t (ap (slice_get all) (sym (same_Some l k e)) ∙ h.0)
have_sort all (l ∷ ks) (t ∷ ts) (suc p) k h e = have_sort all ks ts p k h.1 e

-- ---- a list of sorts that fits

module _ (nodes : List Node) (all : List OpSort) (are : AreSorts nodes all) where
  sort_at : (n : ℕ) (node : Node) → slice_get nodes n ≡ Some node → (s : OpSort) × (slice_get all n ≡ Some s) × HasSort all node.op node.kids s
  sort_at n node at =
      let s = found all n (let z = slice_get_within nodes n node at in let y = are.long in omega arith) in
      (s.0, s.1, are.each n node s.0 at s.1)

  -- what a node takes it has
  takes_has : (s : OpSort) (n : ℕ) → Takes nodes s n → slice_get all n ≡ Some s
  takes_has s n (own m node at gives_) =
      let t = sort_at m node at in
      t.1 ∙ elim (comes_from node.op t.2.sorts t.0 t.2.over) [
        | inl mine ↦ sym mine ∙ gives_
        | inr takes_ ↦ absurd (no_source node.op s takes_.0 gives_ takes_.1)
      ]
  takes_has s n (from m p k node at kid source h) =
      let t = sort_at m node at in
      t.1 ∙ elim (comes_from node.op t.2.sorts t.0 t.2.over) [
        | inl mine ↦ absurd (no_source node.op t.0 p mine source)
        | inr takes_ ↦
            let place : slice_get t.2.sorts p ≡ Some t.0 = ap (slice_get t.2.sorts) (one_source node.op p takes_.0 source takes_.1) ∙ takes_.2 in
            sym (have_at all node.kids t.2.sorts p k t.0 t.2.kids_have kid place) ∙ takes_has s k h
      ]

  pub sorts_within : AllKidsWithin nodes (length nodes)
  sorts_within n node at p k kid =
      let t = sort_at n node at in
      let lt = have_sort all node.kids t.2.sorts p k t.2.kids_have kid in
      omega (arith, are.long)

  module _ (cycles : LeavesNoSortOpen nodes) where
    abbrev numbers : List ℕ
    numbers = range_with_len 0 (length nodes)

    in_numbers : (k : ℕ) (s : OpSort) → slice_get all k ≡ Some s → In numbers k
    in_numbers k s e = in_range 0 (length nodes) k (omega arith) (omega (arith, slice_get_within all k s e, are.long))

    has_takes_on : (n : ℕ) → Grounded (form_at nodes) numbers n → (s : OpSort) → slice_get all n ≡ Some s → Takes nodes s n
    has_takes_on n (grounded c more) s e =
        let node = found nodes c (omega (arith, slice_get_within all c s e, are.long)) in
        let h = are.each c node.0 s node.1 e in
        elim (comes_from node.0.op h.sorts s h.over) [
          | inl mine ↦ own c node.0 node.1 mine
          | inr takes_ ↦
              let kid = have_kid all node.0.kids h.sorts takes_.0 s h.kids_have takes_.2 in
              let has = have_at all node.0.kids h.sorts takes_.0 kid.0 s h.kids_have kid.1 takes_.2 in
              let flat = flat_source node.0.op takes_.0 takes_.1 in
              from c takes_.0 kid.0 node.0 node.1 kid.1 takes_.1
              (has_takes_on kid.0 (more (move_to (shape node.0.op) takes_.0) kid.0 (flat_edge nodes c kid.0 takes_.0 node.0 node.1 kid.1 flat) flat (in_numbers kid.0 s has)) s has)
        ]

    -- what a node has it takes
    has_takes : (n : ℕ) (s : OpSort) → slice_get all n ≡ Some s → Takes nodes s n
    has_takes n s e = has_takes_on n (all_grounded (form_at nodes) cycles numbers n (in_numbers n s e)) s e

    value_or_root : (s : OpSort) → In value_sorts s ⊎ (s ≡ R)
    value_or_root I = inl (inl refl)
    value_or_root L = inl (inr (inl refl))
    value_or_root A = inl (inr (inr (inl refl)))
    value_or_root N = inl (inr (inr (inr (inl refl))))
    value_or_root F = inl (inr (inr (inr (inr (inl refl)))))
    value_or_root T = inl (inr (inr (inr (inr (inr (inl refl))))))
    value_or_root H = inl (inr (inr (inr (inr (inr (inr (inl refl)))))))
    value_or_root R = inr refl

    -- so the sorts that were found are those
    pub found_are : (sorts : List OpSort) → AreTaken nodes value_sorts sorts → AreSorts nodes sorts
    found_are sorts is = subst (AreSorts nodes) (same_everywhere all sorts (are.long ∙ sym is.long) (λ n lt.
        let s = found all n lt in
        let t = found sorts n (omega (arith, is.long, are.long)) in
        s.1 ∙ elim (is.taken n t.0 t.1) [
          | inl root ↦ elim (value_or_root s.0) [
            | inl value ↦ absurd (is.all n s.0 value (has_takes n s.0 s.1) (t.1 ∙ ap Some root))
            | inr same ↦ ap Some same ∙ ap Some (sym root) ∙ sym t.1
          ]
          | inr takes_ ↦ sym s.1 ∙ takes_has t.0 n takes_ ∙ sym t.1
        ])) are

-- ---- the marks

own_at : (nodes : List Node) (n : ℕ) (s : OpSort) → slice_get (own_sorts nodes) n ≡ Some (Some s) → (node : Node) × (slice_get nodes n ≡ Some node) × (own_sort node.op ≡ Some s)
own_at [] n s e = absurd (let z = e in cc)
own_at (x ∷ xs) zero s e = (x, refl, same_Some (own_sort x.op) (Some s) e)
own_at (x ∷ xs) (suc n) s e = own_at xs n s e

at_own : (nodes : List Node) (n : ℕ) (node : Node) (s : OpSort) → slice_get nodes n ≡ Some node → own_sort node.op ≡ Some s → slice_get (own_sorts nodes) n ≡ Some (Some s)
at_own [] n node s e f = absurd (let z = e in cc)
at_own (x ∷ xs) zero node s e f = ap Some (ap (λ (y : Node). own_sort y.op) (same_Some x node e) ∙ f)
at_own (x ∷ xs) (suc n) node s e f = at_own xs n node s e f

module _ (nodes : List Node) (uses : Uses) (are : AreAllUses nodes uses) (s : OpSort) (starts marks : List Bool) (begun : AreOfSort (own_sorts nodes) s starts) (reached : AreReached nodes uses look.Sort starts marks) where
  hit_takes : (n : ℕ) → Hits nodes uses look.Sort starts n → Takes nodes s n
  hit_takes n (hits.begin m st) = let r = own_at nodes m s ((begun.says m).0 st) in own m r.0 r.1 r.2
  hit_takes n (hits.along m k u use_ passes e h) =
      let r = (are.says k u).0 use_ in
      let same : passes.0 ≡ r.0 = same_Some passes.0 r.0 (sym passes.1 ∙ r.1) in
      subst (λ (j : ℕ). Takes nodes s j) e (from u.node u.place k r.0 r.1 r.2 (ap (λ (x : Node). is_source x.op u.place) (sym same) ∙ passes.2) (hit_takes k h))

  takes_hit : (n : ℕ) → Takes nodes s n → Hits nodes uses look.Sort starts n
  takes_hit n (own m node at mine) = hits.begin m ((begun.says m).1 (at_own nodes m node s at mine))
  takes_hit n (from m p k node at kid source h) =
      let u : Use = record { node = m; place = p } in
      hits.along m k u ((are.says k u).1 (node, at, kid)) (node, at, source) refl (takes_hit k h)

  pub are_takers : AreTakers nodes s marks
  are_takers = record { long = reached.long; says = λ n. ((λ m. hit_takes n ((reached.says n).0 m)), (λ h. (reached.says n).1 (takes_hit n h))) }

-- places that aren't left out
pub all_are_uses : (nodes : List Node) (out : List Bool) (uses : Uses) → AreOut (length nodes) [] out → AreUses nodes out uses → length uses ≡ length nodes → AreAllUses nodes uses
all_are_uses nodes out uses is are long = record {
  long = long;
  says = λ k u. (
    (λ h. let r = (are k u).0 h in (r.0, r.1, r.3)),
    (λ r. (are k u).1 (r.0, r.1, out_free (length nodes) [] out is u.node (slice_get_within nodes u.node r.0 r.1) (λ z. z), r.2)),
  );
}

pub uses_within : (nodes : List Node) (uses : Uses) → AreAllUses nodes uses → (k : ℕ) (u : Use) → IsUse uses k u → u.node < length nodes
uses_within nodes uses are k u h = let r = (are.says k u).0 h in slice_get_within nodes u.node r.0 r.1

-- ---- steps of loops

same_self : (s : OpSort) → same_sort s s ≡ true
same_self I = refl
same_self L = refl
same_self A = refl
same_self N = refl
same_self F = refl
same_self T = refl
same_self H = refl
same_self R = refl

pub own_test : (mine : Option OpSort) (s : OpSort) (b : Bool) → b ≡ option_eq sort_eq.it mine (Some s) → (b ≡ true) ↔ (mine ≡ Some s)
own_test None s b e = ((λ y. absurd (cc)), (λ m. absurd (cc)))
own_test (Some t) s b e = ((λ y. ap Some (same_sort_is t s (sym (same_sort_test t s) ∙ sym e ∙ y))), (λ m. e ∙ same_sort_test t s ∙ ap (same_sort t) (sym (same_Some t s m)) ∙ same_self t))

-- one place more
module _ (s : OpSort) (owns : List (Option OpSort)) (i : ℕ) (lt : i < length owns) (b : Bool) (test : (b ≡ true) ↔ (get_or owns i None ≡ Some s)) where
  abbrev mine : Option OpSort
  mine = get_or owns i None

  pub places_more : (starts : List Bool) → AreOfSort (take i owns) s starts → AreOfSort (take (i + 1) owns) s (starts ++ b ∷ [])
  places_more starts is = subst (λ (xs : List (Option OpSort)). AreOfSort xs s (starts ++ b ∷ [])) (sym (take_more owns i None lt)) (record {
    long = length-append starts (b ∷ []) ∙ ap (λ (n : ℕ). n + 1) is.long ∙ sym (length-append (take i owns) (mine ∷ []));
    says = λ n. (
      (λ m. elim (push_cases starts b true n m) [
        | inl x ↦ let h = (is.says n).0 x in get_front (take i owns) mine n (slice_get_within (take i owns) n (Some s) h) ∙ h
        | inr y ↦ ap (slice_get (take i owns ++ mine ∷ [])) (y.0 ∙ is.long) ∙ get_last (take i owns) mine ∙ ap Some (test.0 y.1)
      ]),
      (λ h. elim (push_cases (take i owns) mine (Some s) n h) [
        | inl x ↦ let m = (is.says n).1 x in get_front starts b n (slice_get_within starts n true m) ∙ m
        | inr y ↦ ap (slice_get (starts ++ b ∷ [])) (y.0 ∙ sym is.long) ∙ get_last starts b ∙ ap Some (test.1 y.1)
      ]),
    );
  })

-- one mark more
module _ (s : OpSort) (marks : List Bool) (i : ℕ) (lt : i < length marks) (old now : List OpSort) (is : Gives s (take i marks) old now) where
  abbrev mark : Bool
  mark = get_or marks i false

  short : length (take i marks) ≡ i
  short = length-take-le i marks (omega arith)

  before : (n : ℕ) → n ≢ i → IsMarked (take i marks ++ mark ∷ []) n → IsMarked (take i marks) n
  before n ne m = elim (push_cases (take i marks) mark true n m) [ inl x ↦ x | inr y ↦ absurd (ne (y.0 ∙ short)) ]

  after : (n : ℕ) → IsMarked (take i marks) n → IsMarked (take i marks ++ mark ∷ []) n
  after n m = get_front (take i marks) mark n (slice_get_within (take i marks) n true m) ∙ m

  pub gives_more : mark ≡ true → i < length now → Gives s (take (i + 1) marks) old (slice_set now i s)
  gives_more set_ low = subst (λ (ms : List Bool). Gives s ms old (slice_set now i s)) (sym (take_more marks i false lt)) (record {
    long = set_length now i s ∙ is.long;
    here = λ n m. elim (equal_or_not n i) [ inl same ↦ ap (slice_get (slice_set now i s)) same ∙ set_same now i s low | inr ne ↦ set_other now i s n ne ∙ is.here n (before n ne m) ];
    others = λ n no'. elim (equal_or_not n i) [
      | inl same ↦ absurd (no' (ap (slice_get (take i marks ++ mark ∷ [])) (same ∙ sym short) ∙ get_last (take i marks) mark ∙ ap Some set_))
      | inr ne ↦ set_other now i s n ne ∙ is.others n (λ m. no' (after n m))
    ];
  })

  pub gives_same : mark ≡ false → Gives s (take (i + 1) marks) old now
  gives_same clear = subst (λ (ms : List Bool). Gives s ms old now) (sym (take_more marks i false lt)) (record {
    long = is.long;
    here = λ n m. elim (push_cases (take i marks) mark true n m) [ inl x ↦ is.here n x | inr y ↦ absurd (let z = y.1 in cc) ];
    others = λ n no'. is.others n (λ m. no' (after n m));
  })

marked_or_not : (marks : List Bool) (n : ℕ) → IsMarked marks n ⊎ (IsMarked marks n → ⊥)
marked_or_not [] n = inr (λ m. let z = m in cc)
marked_or_not (true ∷ marks) zero = inl refl
marked_or_not (false ∷ marks) zero = inr (λ m. let z = m in cc)
marked_or_not (b ∷ marks) (suc n) = marked_or_not marks n

-- one sort more
module _ (nodes : List Node) (these : List OpSort) (i : ℕ) (d : OpSort) (lt : i < length these) (marks : List Bool) (old new : List OpSort) (value : get_or these i d ≢ R) (are : AreTakers nodes (get_or these i d) marks) (by : Gives (get_or these i d) marks old new) (is : AreTaken nodes (take i these) old) where
  abbrev this : OpSort
  this = get_or these i d

  pub taken_more : AreTaken nodes (take (i + 1) these) new
  taken_more = subst (λ (xs : List OpSort). AreTaken nodes xs new) (sym (take_more these i d lt)) (record {
    long = by.long ∙ is.long;
    taken = λ n t e. elim (marked_or_not marks n) [
      | inl m ↦ inr (subst (λ (q : OpSort). Takes nodes q n) (same_Some this t (sym (by.here n m) ∙ e)) ((are.says n).0 m))
      | inr no' ↦ is.taken n t (sym (by.others n no') ∙ e)
    ];
    all = λ n t m h e. elim (marked_or_not marks n) [
      | inl y ↦ value (same_Some this R (sym (by.here n y) ∙ e))
      | inr no' ↦ elim (in_cases (take i these) this t m) [
        | inl x ↦ is.all n t x h (sym (by.others n no') ∙ e)
        | inr same ↦ no' ((are.says n).1 (subst (λ (q : OpSort). Takes nodes q n) (sym same) h))
      ]
    ];
  })

no_root : (s : OpSort) → In value_sorts s → s ≢ R
no_root s (inl e) r = cc
no_root s (inr (inl e)) r = cc
no_root s (inr (inr (inl e))) r = cc
no_root s (inr (inr (inr (inl e)))) r = cc
no_root s (inr (inr (inr (inr (inl e))))) r = cc
no_root s (inr (inr (inr (inr (inr (inl e)))))) r = cc
no_root s (inr (inr (inr (inr (inr (inr (inl e))))))) r = cc
no_root s (inr (inr (inr (inr (inr (inr (inr h))))))) r = absurd h

pub value_no_root : (i : ℕ) (d : OpSort) → i < 7 → get_or value_sorts i d ≢ R
value_no_root i d lt = no_root (get_or value_sorts i d) (in_at value_sorts i d lt)

-- the operation gives the sort over the sorts of its kids where it gives it over those that were found
pub has_sort : (all : List OpSort) (o : Op) (ks : List ℕ) (ss : List OpSort) (s : OpSort) → HaveSorts all ks ss → (sort_over o ss ≡ Some s) ↔ HasSort all o ks s
has_sort all o ks ss s have = (
  (λ e. record { sorts = ss; kids_have = have; over = e }),
  (λ h. ap (sort_over o) (same_sorts_of all all ks ss h.sorts have h.kids_have (λ p k e. refl)) ∙ h.over),
)

-- one node more whose sort fits
abbrev pub FitBefore : List Node → List OpSort → ℕ → Type 0
FitBefore nodes all i = (m : ℕ) (node : Node) (s : OpSort) → m < i → slice_get nodes m ≡ Some node → slice_get all m ≡ Some s → HasSort all node.op node.kids s

pub fit_more : (nodes : List Node) (all : List OpSort) (i : ℕ) (node : Node) (s : OpSort) → slice_get nodes i ≡ Some node → slice_get all i ≡ Some s → HasSort all node.op node.kids s → FitBefore nodes all i → FitBefore nodes all (i + 1)
fit_more nodes all i node s at at_s has fit m other t lt at_m at_t = elim (equal_or_not m i) [
  | inl same ↦
      let one : node ≡ other = same_Some node other (sym at ∙ ap (slice_get nodes) (sym same) ∙ at_m) in
      let two : s ≡ t = same_Some s t (sym at_s ∙ ap (slice_get all) (sym same) ∙ at_t) in
      subst (λ (x : Node). HasSort all x.op x.kids t) one (subst (λ (q : OpSort). HasSort all node.op node.kids q) two has)
  | inr ne ↦ fit m other t (omega arith) at_m at_t
]

pub fit_all : (nodes : List Node) (all : List OpSort) (i : ℕ) → length all ≡ length nodes → length nodes ≤ i → FitBefore nodes all i → AreSorts nodes all
fit_all nodes all i long done fit = record { long = long; each = λ n node s at at_s. fit n node s (let z = slice_get_within nodes n node at in omega arith) at at_s }

-- ---- the graph

pub base_graph : (nodes : List Node) (sorts : List OpSort) → AreSorts nodes sorts → AreRanged nodes → IsGraph (graph_of nodes sorts false (length nodes) None)
base_graph nodes sorts are ranged = record {
  long = are.long;
  base = omega arith;
  open_ = λ e. absurd (cc);
  sorted = λ n node s at at_s. inl (are.each n node s at at_s);
  early = λ n k node at low m. let p = place_of node.kids k m in sorts_within nodes sorts are n node at p.0 k p.1;
  late = λ n k node at high m. absurd (let z = slice_get_within nodes n node at in omega arith);
  ranged = ranged;
  variables = λ n node at high. (let z = slice_get_within nodes n node at in absurd (omega arith));
}
