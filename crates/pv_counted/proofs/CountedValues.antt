-- A counted node has a value at every index.
use Rattle.std.specs.Prelude.{◌≡◌, ◌⊎◌, ℕ, zero, suc, ◌<◌, ◌≤◌, ℤ, pos, ◌+ℤ◌, ◌≤ℤ◌, Bool, true, false, not, List, [], ◌∷◌, length, Option, Some, int_lt, FitsSigned, refl}
use Rattle.std.specs.Int.{w32, int_wrap}
use Rattle.std.specs.List.{AllZip}
use Rattle.std.proofs.Common.{inl, inr, sym, subst, arith}
use Rattle.std.proofs.lemmas.Int.{ints, SFits-int_wrap}
use Rattle.std.proofs.lemmas.Option.{slice_get_within}
use Rattle.pv_value.specs.Inputs.{IsInput}
use Rattle.pv_value.specs.Worlds.{IsWorld}
use Rattle.pv_value.specs.Operations as operation
use Rattle.pv_value.specs.declared.operation.ScalarOp.{ScalarOp}
use Rattle.pv_value.specs.declared.operation.ScalarOp.TheVariants.{Iadd, Ilt}
use Rattle.pv_value.specs.declared.world.World.{World}
use Rattle.pv_value.specs.declared.number.Num.TheVariants as num
use Rattle.pv_value.specs.declared.outcome.Input.{Input}
use Rattle.pv_value.specs.declared.outcome.Val.{Val}
use Rattle.pv_value.specs.declared.outcome.Val.TheVariants as val
use Rattle.pv_graph.specs.declared.node.Op.{Op}
use Rattle.pv_graph.specs.declared.node.Op.TheVariants as op
use Rattle.pv_graph.specs.declared.node.OpSort.{OpSort}
use Rattle.pv_graph.specs.declared.node.OpSort.TheVariants.{I}
use Rattle.pv_graph.specs.Ops.{sort_over}
use Rattle.pv_graph.specs.Forms.{form}
use Rattle.pv_graph.specs.Walks.{In, IsSettled}
use Rattle.pv_graph.specs.Graphs.{Graph, form_at, IsWellMade}
use Rattle.pv_graph.proofs.Cited.{HasSortAt, exactly_are, graph_sorted, kid_within, node_at, sort_there}
use Rattle.pv_denote.specs.Denote.{Index, at_depth, strict}
use Rattle.pv_denote.specs.Means.{IsTrueAt, PassFrom}
use Rattle.pv_denote.specs.Meaning.{Value}
use Rattle.pv_denote.specs.Typed.{IsOf}
use Rattle.pv_denote.proofs.Cited.{at_at, at_same, den_makes, not_free, settled_law, sort_law}
use Rattle.pv_counted.specs.Counted.{IsInt, IsSum, CountsUp, IsCounted, counts}
use Rattle.pv_counted.specs.Laws.{CountedValue}
use Rattle.pv_counted.proofs.Ends.{one_more, lt_or_not, nearer, no_gap, gap_is}

abbrev Int : ℤ → Val
Int c = val.Num (num.Int c)

is_int : (v : Val) → IsOf I v → (c : ℤ) × (v ≡ Int c) × FitsSigned w32 c
is_int (val.Num (num.Int c)) h = (c, refl, h)
is_int v h = absurd h

module _ (g : Graph) (w : World) (x : Input) (made : IsWellMade g) (closed : g.is_open ≡ false) (world : IsWorld w) (input : IsInput x) where
  abbrev Has : ℕ → Index → Val → Type 0
  Has n i v = Value g w x n i v

  -- ---- sorts of kids

  node_within : (n : ℕ) (o : Op) (ks : List ℕ) → form_at g.nodes n ≡ Some (form o ks) → n < length g.nodes
  node_within n o ks e = let node = node_at g.nodes n o ks e in slice_get_within g.nodes n node.0 node.1

  kids_sorted : (n : ℕ) (o : Op) (ks : List ℕ) → form_at g.nodes n ≡ Some (form o ks) → (s : OpSort) × (ss : List OpSort) × AllZip (HasSortAt g) ks ss × (sort_over o ss ≡ Some s)
  kids_sorted n o ks e =
      let s = sort_there g made.graph n (node_within n o ks e) in
      let q = graph_sorted g made.graph closed n s.0 s.1 in
      let o_is : q.0 ≡ o = (let y = q.3 in cc) in
      let ks_are : q.1 ≡ ks = (let y = q.3 in cc) in
      (s.0, q.2, subst (λ (zs : List ℕ). AllZip (HasSortAt g) zs q.2) ks_are q.4, subst (λ (p : Op). sort_over p q.2 ≡ Some s.0) o_is q.5)

  -- the kids of a sum and of a comparison are ints
  ints_over : (n a b : ℕ) (o : ScalarOp) → sort_over (op.Scalar o) ≡ sort_over (op.Scalar Iadd) → form_at g.nodes n ≡ Some (form (op.Scalar o) (a ∷ b ∷ [])) → HasSortAt g a I × HasSortAt g b I
  ints_over n a b o same e =
      let q = kids_sorted n (op.Scalar o) (a ∷ b ∷ []) e in
      let both = exactly_are (I ∷ I ∷ []) I q.1 q.0 (subst (λ (f : List OpSort → Option OpSort). f q.1 ≡ Some q.0) same q.3) in
      let h = subst (λ (ss : List OpSort). AllZip (HasSortAt g) (a ∷ b ∷ []) ss) (sym both.0) q.2 in
      (h.0, h.1.0)

  int_at : (n : ℕ) (i : Index) → HasSortAt g n I → (v : Val) × Has n i v → (c : ℤ) × Has n i (Int c) × FitsSigned w32 c
  int_at n i s h =
      let c = is_int h.0 (sort_law g w x n I i h.0 made.graph closed world input s h.1) in
      (c.0, subst (λ (v : Val). Has n i v) c.1 h.1, c.2)

  -- ---- what nodes have

  const_has : (n : ℕ) (c : ℤ) (i : Index) → IsInt (form_at g.nodes) c n → Has n i (Int c)
  unfolding strict
  const_has n c i e = den_makes (form_at g.nodes) w x n i (Int c) (op.Int c) [] e ([], tt, refl)

  sum_has : (n a b : ℕ) (i : Index) (c d : ℤ) → form_at g.nodes n ≡ Some (form (op.Scalar Iadd) (a ∷ b ∷ [])) → Has a i (Int c) → Has b i (Int d) → Has n i (Int (int_wrap w32 (c +ℤ d)))
  unfolding strict
  sum_has n a b i c d e h k = den_makes (form_at g.nodes) w x n i (Int (int_wrap w32 (c +ℤ d))) (op.Scalar Iadd) (a ∷ b ∷ []) e (Int c ∷ Int d ∷ [], (h, (k, tt)), refl)

  less_has : (n a b : ℕ) (i : Index) (c d : ℤ) → form_at g.nodes n ≡ Some (form (op.Scalar Ilt) (a ∷ b ∷ [])) → Has a i (Int c) → Has b i (Int d) → Has n i (Int (int_wrap w32 (operation.truth (int_lt c d))))
  unfolding strict
  less_has n a b i c d e h k = den_makes (form_at g.nodes) w x n i (Int (int_wrap w32 (operation.truth (int_lt c d)))) (op.Scalar Ilt) (a ∷ b ∷ []) e (Int c ∷ Int d ∷ [], (h, (k, tt)), refl)

  -- ---- a loop that counts up

  module _ (p start bound : ℕ) (l : CountsUp (form_at g.nodes) p start bound) (i : Index) where
    abbrev at : ℕ → Index
    at k = at_depth i l.depth k

    adds : (k : ℕ) (c : ℤ) → Has l.x (at k) (Int c) → Has l.y (at k) (Int (int_wrap w32 (c +ℤ pos 1)))
    adds k c h = go l.step.2
      where
        one : Has l.step.0 (at k) (Int (pos 1))
        one = const_has l.step.0 (pos 1) (at k) l.step.1

        go : IsSum (form_at g.nodes) l.x l.step.0 l.y → Has l.y (at k) (Int (int_wrap w32 (c +ℤ pos 1)))
        go (inl e) = sum_has l.y l.x l.step.0 (at k) c (pos 1) e h one
        go (inr e) = subst (λ (d : ℤ). Has l.y (at k) (Int (int_wrap w32 d))) turned (sum_has l.y l.step.0 l.x (at k) (pos 1) c e one h)
          where
            turned : pos 1 +ℤ c ≡ c +ℤ pos 1
            turned = omega (arith, ints)

    next_x : (k : ℕ) (v : Val) → Has l.y (at k) v → Has l.x (at (suc k)) v
    next_x k v h =
        den_makes (form_at g.nodes) w x l.x (at (suc k)) v (op.Theta l.depth) (start ∷ l.y ∷ []) l.theta_
        (inr (k, at_same i l.depth (suc k), subst (λ (j : Index). Has l.y j v) (sym (at_at i l.depth (suc k) k)) h))

    first_x : (v : Val) → Has start (at 0) v → Has l.x (at 0) v
    first_x v h = den_makes (form_at g.nodes) w x l.x (at 0) v (op.Theta l.depth) (start ∷ l.y ∷ []) l.theta_ (inl (at_same i l.depth 0, h))

    x_is_int : HasSortAt g l.x I
    x_is_int = go l.step.2
      where
        go : IsSum (form_at g.nodes) l.x l.step.0 l.y → HasSortAt g l.x I
        go (inl e) = (ints_over l.y l.x l.step.0 Iadd refl e).0
        go (inr e) = (ints_over l.y l.step.0 l.x Iadd refl e).1

    -- the counter grows by 1 in each iteration
    grows : (k : ℕ) (c : ℤ) → Has l.counter (at k) (Int c) → Has l.counter (at (suc k)) (Int (int_wrap w32 (c +ℤ pos 1)))
    grows k c = go l.either
      where
        go : (l.counter ≡ l.x) ⊎ (l.counter ≡ l.y) → Has l.counter (at k) (Int c) → Has l.counter (at (suc k)) (Int (int_wrap w32 (c +ℤ pos 1)))
        go (inl e) h = subst (λ (n : ℕ). Has n (at (suc k)) (Int (int_wrap w32 (c +ℤ pos 1)))) (sym e) (next_x k _ (adds k c (subst (λ (n : ℕ). Has n (at k) (Int c)) e h)))
        go (inr e) h = subst (λ (n : ℕ). Has n (at (suc k)) (Int (int_wrap w32 (c +ℤ pos 1)))) (sym e) (adds (suc k) c (next_x k (Int c) (subst (λ (n : ℕ). Has n (at k) (Int c)) e h)))

    -- where the start has a value, the counter begins with an int
    begins : (v : Val) × Has start (at 0) v → (c : ℤ) × Has l.counter (at 0) (Int c) × FitsSigned w32 c
    begins h = go l.either (int_at l.x (at 0) x_is_int (h.0, first_x h.0 h.1))
      where
        go : (l.counter ≡ l.x) ⊎ (l.counter ≡ l.y) → (c : ℤ) × Has l.x (at 0) (Int c) × FitsSigned w32 c → (c : ℤ) × Has l.counter (at 0) (Int c) × FitsSigned w32 c
        go (inl e) (c, has, fits) = (c, subst (λ (n : ℕ). Has n (at 0) (Int c)) (sym e) has, fits)
        go (inr e) (c, has, fits) = (int_wrap w32 (c +ℤ pos 1), subst (λ (n : ℕ). Has n (at 0) (Int (int_wrap w32 (c +ℤ pos 1)))) (sym e) (adds 0 c has), SFits-int_wrap w32 (c +ℤ pos 1))

    module _ (b : ℤ) (b_fits : FitsSigned w32 b) (bound_is : (k : ℕ) → Has bound (at k) (Int b)) where
      test_is : (k : ℕ) (c : ℤ) (t : Bool) → int_lt c b ≡ t → Has l.counter (at k) (Int c) → IsTrueAt Has (not t) l.test (at k)
      unfolding int_wrap
      test_is k c true e h =
          let less = subst (λ (t : Bool). Has l.less (at k) (Int (int_wrap w32 (operation.truth t)))) e (less_has l.less l.counter bound (at k) c b l.below h (bound_is k)) in
          (Int (pos 0), den_makes (form_at g.nodes) w x l.test (at k) (Int (pos 0)) op.Phi (l.less ∷ l.zero_ ∷ l.one_ ∷ []) l.test_ (true, (Int (pos 1), less, refl), const_has l.zero_ (pos 0) (at k) l.goes_on), refl)
      test_is k c false e h =
          let less = subst (λ (t : Bool). Has l.less (at k) (Int (int_wrap w32 (operation.truth t)))) e (less_has l.less l.counter bound (at k) c b l.below h (bound_is k)) in
          (Int (pos 1), den_makes (form_at g.nodes) w x l.test (at k) (Int (pos 1)) op.Phi (l.less ∷ l.zero_ ∷ l.one_ ∷ []) l.test_ (false, (Int (pos 0), less, refl), const_has l.one_ (pos 1) (at k) l.ends), refl)

      now : (k : ℕ) (c : ℤ) → int_lt c b ≡ false → Has l.counter (at k) (Int c) → (v : Val) × PassFrom Has l.depth l.test i k v
      now k c e h = (val.Count k, record { k = k; count = refl; low = omega arith; ends = test_is k c false e h; goes_on = λ j low high. absurd (omega (arith, low, high)) })

      later : (k : ℕ) (c : ℤ) → int_lt c b ≡ true → Has l.counter (at k) (Int c) → (v : Val) × PassFrom Has l.depth l.test i (suc k) v → (v : Val) × PassFrom Has l.depth l.test i k v
      later k c e h (v, q) = (
        v,
        record {
          k = q.k;
          count = q.count;
          low = let z = q.low in omega (arith, z);
          ends = q.ends;
          goes_on = λ j low high. elim (here_or_later j low) [ inl z ↦ subst (λ (n : ℕ). IsTrueAt Has false l.test (at n)) z (test_is k c true e h) | inr z ↦ q.goes_on j z high ];
        },
      )
        where
          here_or_later : (j : ℕ) → k ≤ j → (k ≡ j) ⊎ (suc k ≤ j)
          here_or_later j low = grind arith

      -- it meets the bound: below the bound, and so below the greatest int, 1 more doesn't wrap
      ends : (gap k : ℕ) (c : ℤ) → FitsSigned w32 c → Has l.counter (at k) (Int c) → b ≤ℤ (c +ℤ pos gap) → (v : Val) × PassFrom Has l.depth l.test i k v
      ends zero k c fits h le = elim (lt_or_not c b) [ inl y ↦ absurd (no_gap c b y.1 le) | inr n ↦ now k c n.0 h ]
      ends (suc gap) k c fits h le = elim (lt_or_not c b) [
        | inl y ↦
            let wraps = one_more c b fits b_fits y.1 in
            later k c y.0 h (ends gap (suc k) (int_wrap w32 (c +ℤ pos 1)) (SFits-int_wrap w32 (c +ℤ pos 1)) (grows k c h) (subst (λ (d : ℤ). b ≤ℤ (d +ℤ pos gap)) (sym wraps) (nearer c b gap le)))
        | inr n ↦ now k c n.0 h
      ]

    -- where start and bound have values at every index, so has the pass
    pub pass_has : ((j : Index) → (v : Val) × Has start j v) → ((j : Index) → (v : Val) × Has bound j v) → (v : Val) × Has p i v
    pass_has starts bounds =
        let b = int_at bound (at 0) (ints_over l.less l.counter bound Ilt refl l.below).1 (bounds (at 0)) in
        let same : (k : ℕ) → Has bound (at k) (Int b.0) =
        (λ k. subst (λ (j : Index). Has bound j (Int b.0)) (at_at i l.depth 0 k) ((not_free (form_at g.nodes) w x bound (at 0) l.depth k (Int b.0) l.stays).0 b.1)) in
        let c = begins (starts (at 0)) in
        let gap = gap_is c.0 b.0 in
        let pass = ends b.0 b.2 same gap.0 0 c.0 c.2 c.1 gap.1 in
        (pass.0, den_makes (form_at g.nodes) w x p i pass.0 (op.Pass l.depth) (l.test ∷ []) l.pass_ pass.1)

  -- ---- all counted nodes

  settled_has : (assumed : List ℕ) → ((e : ℕ) → In assumed e → (j : Index) → (v : Val) × Has e j v) → (n : ℕ) → n < length g.nodes → IsSettled (form_at g.nodes) assumed n → (j : Index) → (v : Val) × Has n j v
  settled_has assumed have n lt calm j = settled_law g w x assumed n j made closed world input (λ e j m. have e m j) lt calm

  kid_there : (n k : ℕ) (o : Op) (ks : List ℕ) → form_at g.nodes n ≡ Some (form o ks) → In ks k → k < length g.nodes
  kid_there n k o ks e m = let node = node_at g.nodes n o ks e in kid_within g made.graph n k node.0 node.1 (subst (λ (zs : List ℕ). In zs k) (sym node.3) m)

  pub counted_has : (p : ℕ) → IsCounted (form_at g.nodes) p → (i : Index) → (v : Val) × Has p i v
  counted_has p (counts q start bound assumed l within a b) i =
      pass_has q start bound l i
      (settled_has assumed (λ e m. counted_has e (within e m)) start (kid_there l.x start _ _ l.theta_ (inl refl)) a)
      (settled_has assumed (λ e m. counted_has e (within e m)) bound (kid_there l.less bound _ _ l.below (inr (inl refl))) b)

pub counted_value : CountedValue
counted_value g w x p i made closed world input h = counted_has g w x made closed world input p h i
