-- A value of a node is one of its sort; and a settled node of a well-made graph has a value at every index.
use Rattle.std.specs.Prelude.{◌≡◌, ◌⊎◌, ℕ, zero, suc, ◌<◌, pos, Bool, true, false, not, List, [], ◌∷◌, length, Option, Some, None, slice_get, if◌then◌else◌, refl}
use Rattle.std.specs.List.{AllZip}
use Rattle.std.specs.Ordering.{int_eq}
use Rattle.std.proofs.Common.{inl, inr, sym, ap, ◌∙◌, subst, arith}
use Rattle.pv_value.specs.Heaps.{IsHeap}
use Rattle.pv_value.specs.Inputs.{IsInput}
use Rattle.pv_value.specs.Worlds.{IsWorld}
use Rattle.pv_value.specs.declared.world.World.{World}
use Rattle.pv_value.specs.declared.heap.Heap.{Heap}
use Rattle.pv_value.specs.declared.number.Num.{Num}
use Rattle.pv_value.specs.declared.number.Num.TheVariants as num
use Rattle.pv_value.specs.declared.outcome.Input.{Input}
use Rattle.pv_value.specs.declared.outcome.Outcome.TheVariants.{Returned, Threw}
use Rattle.pv_value.specs.declared.outcome.Fault.{Fault}
use Rattle.pv_value.specs.declared.outcome.Fault.TheVariants as fault
use Rattle.pv_value.specs.declared.outcome.Val.{Val}
use Rattle.pv_value.specs.declared.outcome.Val.TheVariants as val
use Rattle.pv_graph.specs.declared.node.Op.{Op}
use Rattle.pv_graph.specs.declared.node.Op.TheVariants as op
use Rattle.pv_graph.specs.declared.node.OpSort.{OpSort}
use Rattle.pv_graph.specs.declared.node.OpSort.TheVariants.{I, L, A, F, T, H, R}
use Rattle.pv_graph.specs.declared.node.OpSort.TheVariants as sort
use Rattle.pv_graph.specs.Ops.{Shape, plain, choice, theta, eval, pass, shift, root, shape, is_result, sort_over, may_not_end}
use Rattle.pv_graph.specs.Forms.{Form, form}
use Rattle.pv_denote.specs.Denote.{Index, at_depth, truth, result_of, strict, den, Value}
use Rattle.pv_denote.specs.Means.{Ending, Means}
use Rattle.pv_denote.specs.Typed.{IsFault, IsEnd, IsOf}
use Rattle.pv_graph.specs.Graphs.{IsRanged}
use Rattle.pv_graph.specs.Walks.{In, itself, along, IsSettled, Move, down, move_to, Edge, KeepsRule}
use Rattle.pv_denote.proofs.Values.{With, den_says, den_makes}
use Rattle.pv_denote.proofs.Indices.{at_id}
use Rattle.pv_graph.proofs.Cited.{ShapeTakes, KidCount, zip_length, kid_count, shape_takes, theta_depth}
use Rattle.pv_denote.proofs.Typing.{Gives, strict_is}
use Rattle.pv_denote.proofs.Cycles.{Looks, Ends, ends, all_end}

-- ---- values have their sorts

zip_both : {N : Type 0} (typed : N → OpSort → Type 0) (P : N → Val → Type 0) → ((k : N) (s : OpSort) (v : Val) → typed k s → P k v → IsOf s v)
    → (ks : List N) (ss : List OpSort) (vs : List Val) → AllZip typed ks ss → AllZip P ks vs → AllZip IsOf ss vs
zip_both typed P p [] [] [] t h = tt
zip_both typed P p [] [] (v ∷ vs) t h = absurd h
zip_both typed P p [] (s ∷ ss) vs t h = absurd t
zip_both typed P p (k ∷ ks) [] vs t h = absurd t
zip_both typed P p (k ∷ ks) (s ∷ ss) [] t h = absurd h
zip_both typed P p (k ∷ ks) (s ∷ ss) (v ∷ vs) t h = (p k s v t.0 h.0, zip_both typed P p ks ss vs t.1 h.1)

-- a result in range
result_is : (t : OpSort) (u : Val) (n : Option Num) (m : Heap) → is_result t ≡ true → IsOf t u → result_of u ≡ Some n → IsHeap m → IsEnd (Returned n m)
result_is I (val.Num (num.Int k)) n m r h e heap = subst (λ (q : Option Num). IsEnd (Returned q m)) (let z : Some (num.Int k) ≡ n = cc in z) (h, heap)
result_is L (val.Num (num.Long k)) n m r h e heap = subst (λ (q : Option Num). IsEnd (Returned q m)) (let z : Some (num.Long k) ≡ n = cc in z) (h, heap)
result_is A (val.Num (num.Ref k)) n m r h e heap = subst (λ (q : Option Num). IsEnd (Returned q m)) (let z : Some (num.Ref k) ≡ n = cc in z) (h, heap)
result_is T val.Unit n m r h e heap = subst (λ (q : Option Num). IsEnd (Returned q m)) (let z : None ≡ n = cc in z) heap
result_is sort.N u n m r h e heap = absurd (cc)
result_is F u n m r h e heap = absurd (cc)
result_is H u n m r h e heap = absurd (cc)
result_is R u n m r h e heap = absurd (cc)
result_is t u n m r h e heap = absurd h

module _ {N : Type 0} (w : World) (x : Input) (world : IsWorld w) (input : IsInput x) (typed : N → OpSort → Type 0) where
  module _ (S : N → Index → Val → Type 0) (each : (k : N) (s : OpSort) (i : Index) (v : Val) → typed k s → S k i v → IsOf s v) where
    ending_is : (r : N) (t : OpSort) (i : Index) (e : Fault) (m : Heap) (v : Val) → typed r t → is_result t ≡ true → IsFault e → IsHeap m → Ending S r i e m v → IsOf R v
    ending_is r t i fault.Clear m v k y f heap h = subst (IsOf R) (sym h.4) (result_is t h.0 h.1 m y (each r t i h.0 k h.2) h.3 heap)
    ending_is r t i e m v k y f heap h = subst (IsOf R) (sym h) (f, heap)

    -- where kids have values of their sorts, so has the operation
    means_is : (s : Shape) (o : Op) (ks : List N) (ss : List OpSort) (t : OpSort) (i : Index) (v : Val) → shape o ≡ s → IsRanged o → sort_over o ss ≡ Some t → ShapeTakes s ss t → AllZip typed ks ss → Means w x S s o ks i v → IsOf t v
    means_is plain o ks ss t i v is ranged e k z h = go (strict_is w x world input o ranged ss t h.0 e is (zip_both typed (λ k u. S k i u) (λ k s u y r. each k s i u y r) ks ss h.0 z h.1))
      where
        go : Gives (may_not_end o) t (strict w x o h.0) → IsOf t v
        go (inl g) = absurd (let y = g.1 in let q = h.2 in cc)
        go (inr g) = subst (IsOf t) (let y = g.1 in let q = h.2 in let u : g.0 ≡ v = cc in u) g.2
    means_is choice o (c ∷ a ∷ b ∷ []) ss t i v is ranged e k z h = go h.0 h.2 (subst (AllZip typed (c ∷ a ∷ b ∷ [])) k z)
      where
        go : (q : Bool) → S (if q then a else b) i v → AllZip typed (c ∷ a ∷ b ∷ []) (I ∷ t ∷ t ∷ []) → IsOf t v
        go true r y = each a t i v y.1.0 r
        go false r y = each b t i v y.1.1.0 r
    means_is (theta d) o (a ∷ b ∷ []) ss t i v is ranged e k z (inl h) = let y = subst (AllZip typed (a ∷ b ∷ [])) k z in each a t i v y.0 h.1
    means_is (theta d) o (a ∷ b ∷ []) ss t i v is ranged e k z (inr h) = let y = subst (AllZip typed (a ∷ b ∷ [])) k z in each b t (at_depth i d h.0) v y.1.0 h.2
    means_is (eval d) o (a ∷ p ∷ []) ss t i v is ranged e k z h = let y = subst (AllZip typed (a ∷ p ∷ [])) k z in each a t (at_depth i d h.0) v y.0 h.2
    means_is (pass d) o (c ∷ []) ss t i v is ranged e k z h = subst (IsOf t) (sym h.count) (subst (λ (q : OpSort). IsOf q (val.Count h.k)) (sym k.1) tt)
    means_is (shift d) o (a ∷ []) ss t i v is ranged e k z h = let y = subst (AllZip typed (a ∷ [])) k z in each a t (at_depth i d (suc (i d))) v y.0 h
    means_is root o (tk ∷ f ∷ r ∷ hp ∷ []) ss t i v is ranged e k z h =
        let y = subst (AllZip typed (tk ∷ f ∷ r ∷ hp ∷ [])) k.1 z in
        let fits : IsFault h.0 = each f F i (val.Fault h.0) y.1.0 h.3 in
        let heap : IsHeap h.1 = each hp H i (val.Heap h.1) y.1.1.1.0 h.4 in
        subst (λ (q : OpSort). IsOf q v) (sym k.3) (ending_is r k.0 i h.0 h.1 v y.1.1.0 k.2 fits heap h.5)
    means_is s o ks ss t i v is ranged e k z h = absurd h

  -- nodes whose kids are typed, as their operation takes them
  module _ (view : N → Option (Form N))
      (sorted : (n : N) (s : OpSort) → typed n s → (o : Op) × (ks : List N) × (ss : List OpSort) × (view n ≡ Some (form o ks)) × AllZip typed ks ss × (sort_over o ss ≡ Some s) × IsRanged o) where
    typed_with : (fuel : ℕ) (n : N) (s : OpSort) (i : Index) (v : Val) → typed n s → With view w x fuel n i v → IsOf s v
    unfolding den
    typed_with zero n s i v t h = absurd (cc)
    typed_with (suc fuel) n s i v t h =
        let r = den_says view w x fuel n i v h in
        let q = sorted n s t in
        let same : r.0 ≡ q.0 = (let y = r.2 in let z = q.3 in cc) in
        let kids : r.1 ≡ q.1 = (let y = r.2 in let z = q.3 in cc) in
        let m = subst (λ (ks : List N). Means w x (With view w x fuel) (shape q.0) q.0 ks i v) kids (subst (λ (o : Op). Means w x (With view w x fuel) (shape o) o r.1 i v) same r.3) in
        means_is (With view w x fuel) (λ k s i v y z. typed_with fuel k s i v y z) (shape q.0) q.0 q.1 q.2 s i v refl q.6 q.5 (shape_takes q.0 q.2 s q.5) q.4 m

    -- a value of a node is one of its sort, in range
    pub value_is : (n : N) (s : OpSort) (i : Index) (v : Val) → typed n s → Value view w x n i v → IsOf s v
    value_is n s i v t h = typed_with h.0 n s i v t h.1

    -- ---- settled nodes

    -- a kid has a value at each index at which its operation looks at it
    abbrev pub KidsHave : Shape → List N → Index → Type 0
    KidsHave s ks i = (p : ℕ) (k : N) (r : OpSort) (j : Index) → slice_get ks p ≡ Some k → typed k r → Looks (move_to s p) i j → (v : Val) × Value view w x k j v

    values_all : (i : Index) (ks : List N) (ss : List OpSort) → AllZip typed ks ss → ((p : ℕ) (k : N) (r : OpSort) → slice_get ks p ≡ Some k → typed k r → (v : Val) × Value view w x k i v)
        → (vs : List Val) × AllZip (λ k u. Value view w x k i u) ks vs × AllZip IsOf ss vs
    values_all i [] [] t h = ([], tt, tt)
    values_all i [] (s ∷ ss) t h = absurd t
    values_all i (k ∷ ks) [] t h = absurd t
    values_all i (k ∷ ks) (s ∷ ss) t h =
        let v = h 0 k s refl t.0 in
        let vs = values_all i ks ss t.1 (λ p k r e y. h (suc p) k r e y) in
        (v.0 ∷ vs.0, (v.1, vs.1), (value_is k s i v.0 t.0 v.1, vs.2))

    int_true : (u : Val) → IsOf I u → (t : Bool) × (truth u ≡ Some t)
    int_true (val.Num (num.Int n)) h = (not (int_eq n (pos 0)), refl)
    int_true u h = absurd h

    is_count : (u : Val) → IsOf sort.N u → (k : ℕ) × (u ≡ val.Count k)
    is_count (val.Count k) h = (k, refl)
    is_count u h = absurd h

    is_unit : (u : Val) → IsOf T u → u ≡ val.Unit
    is_unit val.Unit h = refl
    is_unit u h = absurd h

    is_fault : (u : Val) → IsOf F u → (f : Fault) × (u ≡ val.Fault f)
    is_fault (val.Fault f) h = (f, refl)
    is_fault u h = absurd h

    is_heap : (u : Val) → IsOf H u → (m : Heap) × (u ≡ val.Heap m)
    is_heap (val.Heap m) h = (m, refl)
    is_heap u h = absurd h

    has_result : (t : OpSort) (u : Val) → is_result t ≡ true → IsOf t u → (n : Option Num) × (result_of u ≡ Some n)
    has_result t (val.Num n) r h = (Some n, refl)
    has_result t val.Unit r h = (None, refl)
    has_result sort.N u r h = absurd (cc)
    has_result F u r h = absurd (cc)
    has_result H u r h = absurd (cc)
    has_result R u r h = absurd (cc)
    has_result t u r h = absurd h

    ends_so : (r : N) (t : OpSort) (i : Index) (e : Fault) (m : Heap) → is_result t ≡ true → typed r t → (u : Val) × Value view w x r i u → (v : Val) × Ending (Value view w x) r i e m v
    ends_so r t i fault.Clear m y z h = let n = has_result t h.0 y (value_is r t i h.0 z h.1) in (val.End (Returned n.0 m), (h.0, n.0, h.1, n.1, refl))
    ends_so r t i e m y z h = (val.End (Threw e m), refl)

    pass_may : (o : Op) (d : ℕ) → shape o ≡ pass d → may_not_end o ≡ true
    pass_may (op.Pass e) d is = refl
    pass_may o d is = absurd (cc)

    by_count : (d : ℕ) (a b : N) (s : OpSort) (i : Index) (n : ℕ) → i d ≡ n → typed a s → typed b s → KidsHave (theta d) (a ∷ b ∷ []) i → (v : Val) × (((i d ≡ 0) × Value view w x a i v) ⊎ ((k : ℕ) × (i d ≡ suc k) × Value view w x b (at_depth i d k) v))
    by_count d a b s i zero e t y h = let v = h 0 a s i refl t refl in (v.0, inl (e, v.1))
    by_count d a b s i (suc n) e t y h = let v = h 1 b s (at_depth i d n) refl y (n, e, refl) in (v.0, inr (n, e, v.1))

    -- the operation has a value, where its kids have
    settles : (s : Shape) (o : Op) (ks : List N) (ss : List OpSort) (t : OpSort) (i : Index) → shape o ≡ s → IsRanged o → sort_over o ss ≡ Some t → ShapeTakes s ss t → AllZip typed ks ss → may_not_end o ≡ false → KidCount s (length ks) → KidsHave s ks i → (v : Val) × Means w x (Value view w x) s o ks i v
    settles plain o ks ss t i is ranged e k z stays number h =
        let vs = values_all i ks ss z (λ p k r f y. h p k r i f y refl) in
        go vs (strict_is w x world input o ranged ss t vs.0 e is vs.2)
      where
        go : (vs : (us : List Val) × AllZip (λ k u. Value view w x k i u) ks us × AllZip IsOf ss us) → Gives (may_not_end o) t (strict w x o vs.0) → (v : Val) × Means w x (Value view w x) plain o ks i v
        go vs (inl g) = absurd (let y = g.0 in cc)
        go vs (inr g) = (g.0, (vs.0, vs.1, g.1))
    settles choice o (c ∷ a ∷ b ∷ []) ss t i is ranged e k z stays number h =
        let y = subst (AllZip typed (c ∷ a ∷ b ∷ [])) k z in
        let u = h 0 c I i refl y.0 refl in
        let q = int_true u.0 (value_is c I i u.0 y.0 u.1) in
        go u q.0 q.1 y
      where
        go : (u : (v : Val) × Value view w x c i v) (q : Bool) → truth u.0 ≡ Some q → AllZip typed (c ∷ a ∷ b ∷ []) (I ∷ t ∷ t ∷ []) → (v : Val) × Means w x (Value view w x) choice o (c ∷ a ∷ b ∷ []) i v
        go u true f y = let v = h 1 a t i refl y.1.0 refl in (v.0, (true, (u.0, u.1, f), v.1))
        go u false f y = let v = h 2 b t i refl y.1.1.0 refl in (v.0, (false, (u.0, u.1, f), v.1))
    settles (theta d) o (a ∷ b ∷ []) ss t i is ranged e k z stays number h = let y = subst (AllZip typed (a ∷ b ∷ [])) k z in by_count d a b t i (i d) refl y.0 y.1.0 h
    settles (eval d) o (a ∷ p ∷ []) ss t i is ranged e k z stays number h =
        let y = subst (AllZip typed (a ∷ p ∷ [])) k z in
        let u = h 1 p sort.N i refl y.1.0 (i d, sym (at_id i d (i d) refl)) in
        let n = is_count u.0 (value_is p sort.N i u.0 y.1.0 u.1) in
        let v = h 0 a t (at_depth i d n.0) refl y.0 (n.0, refl) in
        (v.0, (n.0, subst (Value view w x p i) n.1 u.1, v.1))
    settles (pass d) o (c ∷ []) ss t i is ranged e k z stays number h = absurd (let y = pass_may o d is in cc)
    settles (shift d) o (a ∷ []) ss t i is ranged e k z stays number h = let y = subst (AllZip typed (a ∷ [])) k z in h 0 a t (at_depth i d (suc (i d))) refl y.0 (suc (i d), refl)
    settles root o (tk ∷ f ∷ r ∷ hp ∷ []) ss t i is ranged e k z stays number h =
        let y = subst (AllZip typed (tk ∷ f ∷ r ∷ hp ∷ [])) k.1 z in
        let u = h 0 tk T i refl y.0 refl in
        let q = h 1 f F i refl y.1.0 refl in
        let m = h 3 hp H i refl y.1.1.1.0 refl in
        let unit = is_unit u.0 (value_is tk T i u.0 y.0 u.1) in
        let fl = is_fault q.0 (value_is f F i q.0 y.1.0 q.1) in
        let heap = is_heap m.0 (value_is hp H i m.0 y.1.1.1.0 m.1) in
        let v = ends_so r k.0 i fl.0 heap.0 k.2 y.1.1.0 (h 2 r k.0 i refl y.1.1.0 refl) in
        (v.0, (fl.0, heap.0, subst (Value view w x tk i) unit u.1, subst (Value view w x f i) fl.1 q.1, subst (Value view w x hp i) heap.1 m.1, v.1))
    settles s o ks ss t i is ranged e k z stays number h = absurd (omega arith)

    in_at : (ks : List N) (p : ℕ) (k : N) → slice_get ks p ≡ Some k → In ks k
    in_at [] p k e = absurd (let z = e in cc)
    in_at (l ∷ ks) zero k e = inl (let z : l ≡ k = cc in z)
    in_at (l ∷ ks) (suc p) k e = inr (in_at ks p k e)

    theta_shape : (s : Shape) (d p : ℕ) → down d ≡ move_to s p → s ≡ theta d
    theta_shape (theta e) d zero m = absurd (cc)
    theta_shape (theta e) d (suc p) m = cc
    theta_shape s d p m = absurd (cc)

    -- nodes X that hold their kids, and assumed nodes that have a value at every index
    module _ (all_typed : (n : N) (o : Op) (ks : List N) → view n ≡ Some (form o ks) → (s : OpSort) × typed n s) (X : List N) (within : (n k : N) (o : Op) (ks : List N) → view n ≡ Some (form o ks) → In ks k → In X k) (rule : KeepsRule view)
        (assumed : List N) (known : (n : N) → In assumed n ⊎ (In assumed n → ⊥)) (have : (n : N) (i : Index) → In assumed n → (v : Val) × Value view w x n i v) where
      edge_depth : (n k : N) (d : ℕ) → Edge view n (down d) k → d < 17
      edge_depth n k d e =
          let t = all_typed n e.o e.ks e.is in
          let q = sorted n t.0 t.1 in
          let same : q.0 ≡ e.o = (let y = q.3 in let z = e.is in cc) in
          theta_depth q.0 d q.2 t.0 (ap shape same ∙ theta_shape (shape e.o) d e.place e.moves) q.5

      -- what holds of the kids of a node, along the steps inside X
      abbrev pub Again : N → Index → Type 0
      Again n i = (m : Move) (k : N) (j : Index) → Edge view n m k → Looks m i j → In X k → (r : OpSort) → typed k r → IsSettled view assumed k → (v : Val) × Value view w x k j v

      settle_free : (n : N) (i : Index) → Again n i → (s : OpSort) → typed n s → IsSettled view assumed n → (In assumed n → ⊥) → (v : Val) × Value view w x n i v
      settle_free n i again s t calm free =
          let q = sorted n s t in
          let stays = calm n q.0 q.1 (itself n) free q.3 in
          let kids : KidsHave (shape q.0) q.1 i =
          (λ p k r j at y l. again (move_to (shape q.0) p) k j (record { o = q.0; ks = q.1; place = p; is = q.3; there = at; moves = refl }) l (within n k q.0 q.1 q.3 (in_at q.1 p k at)) r y
          (λ m o ks reach. calm m o ks (along n k m q.0 q.1 free q.3 (in_at q.1 p k at) reach))) in
          let m = settles (shape q.0) q.0 q.1 q.2 s i refl q.6 q.5 (shape_takes q.0 q.2 s q.5) q.4 stays
          (kid_count (shape q.0) q.2 s (length q.1) (shape_takes q.0 q.2 s q.5) (zip_length typed q.1 q.2 q.4)) kids in
          (m.0, den_makes view w x n i m.0 q.0 q.1 q.3 m.1)

      settle_known : (n : N) (i : Index) → Again n i → (s : OpSort) → typed n s → IsSettled view assumed n → In assumed n ⊎ (In assumed n → ⊥) → (v : Val) × Value view w x n i v
      settle_known n i again s t calm (inl y) = have n i y
      settle_known n i again s t calm (inr free) = settle_free n i again s t calm free

      settle : (n : N) (i : Index) → Ends view X n i → (s : OpSort) → typed n s → IsSettled view assumed n → (v : Val) × Value view w x n i v
      settle n i (ends c e h) s t calm = settle_known c e (λ m k j edge l y r z more. settle k j (h m k j edge l y) r z more) s t calm (known c)

      -- a settled node has a value at every index
      pub settled_value : (n : N) (i : Index) (s : OpSort) → In X n → typed n s → IsSettled view assumed n → (v : Val) × Value view w x n i v
      settled_value n i s m t calm = settle n i (all_end view 17 rule edge_depth X n i m) s t calm
