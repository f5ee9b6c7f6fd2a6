-- An order of the nodes of a shape that steps reduce to one node.
use Rattle.std.proofs.Common.{◌≡◌, ◌≢◌, ℕ, zero, suc, ◌<◌, ◌≤◌, ◌+◌, ◌-◌, List, [], ◌∷◌, ◌++◌, length, get_or, refl, sym, ◌∙◌, ap, subst, cond, eqb, arith, ◌⊎◌, inl, inr, ⊎_elim, eq-eqb, ne_eqb, length-append, get_or-append-add}
use Rattle.pv_loops.proofs.Words.{cases_eq, cases_lt, get_or_append_left, get_or_push, TStep, T1, T2, Edge, IsShape, IsReversed, Graph, graph_of, Applies, after, AllApply, after_all, ReduceToOne, IsOrder, Grouped}
use Rattle.pv_loops.proofs.Grouping.{source_within, MergedLeaders, grouped_start, grouped_step, leaders_after, merged_by}
use Rattle.pv_loops.proofs.Descending.{keeps_entry}

-- x stands at place k
abbrev pub At : List ℕ → ℕ → ℕ → Type 0
At xs k x = (k < length xs) × (get_or xs k 0 ≡ x)

at_left : (us vs : List ℕ) (k x : ℕ) → At us k x → At (us ++ vs) k x
at_left us vs k x (lt, e) = (omega (arith, lt, length-append us vs), get_or_append_left us vs 0 k lt ∙ e)

at_right : (us vs : List ℕ) (k x : ℕ) → At vs k x → At (us ++ vs) (length us + k) x
at_right us vs k x (lt, e) = (omega (arith, lt, length-append us vs), get_or-append-add us vs k 0 ∙ e)

at_cases : (us vs : List ℕ) (k x : ℕ) → At (us ++ vs) k x → At us k x ⊎ ((j : ℕ) × (k ≡ length us + j) × At vs j x)
at_cases us vs k x (lt, e) = ⊎_elim
    (λ (less : k < length us). inl (less, sym (get_or_append_left us vs 0 k less) ∙ e))
    (λ (ge : length us ≤ k).
    let at : k ≡ length us + (k - length us) = omega arith in
    inr (k - length us, at, (omega (arith, lt, length-append us vs), sym (get_or-append-add us vs (k - length us) 0) ∙ ap (λ v. get_or (us ++ vs) v 0) (sym at) ∙ e)))
    (cases_lt k (length us))

same_at : (xs : List ℕ) (k x y : ℕ) → At xs k x → At xs k y → x ≡ y
same_at xs k x y a b = sym a.1 ∙ b.1

-- each node of the graph has a list of the nodes of the shape that it stands for, in order, itself first
record Listed (s : List (List ℕ)) (g : Graph) (leader : ℕ → ℕ) (L : ℕ → List ℕ) : Type 0 where
  head : (a : ℕ) → g.Node a → At (L a) 0 a
  has : (x : ℕ) → x < length s → (k : ℕ) × At (L (leader x)) k x
  of : (a k x : ℕ) → g.Node a → At (L a) k x → (x < length s) × (leader x ≡ a)
  once : (a j k x : ℕ) → g.Node a → At (L a) j x → At (L a) k x → j ≡ k
  fed : (a k y : ℕ) → g.Node a → At (L a) k y → 0 < k → (j : ℕ) × (x : ℕ) × (j < k) × At (L a) j x × Edge s x y
  spans : (a i j k z w x y : ℕ) → g.Node a → At (L a) i z → At (L a) j w → At (L a) k x → i < k → k ≤ j → Edge s w z → Edge s y x → (m : ℕ) × (i ≤ m) × At (L a) m y

listed_start : (s : List (List ℕ)) → Listed s (graph_of s) (λ x. x) (λ a. a ∷ [])
listed_start s = record {
  head = λ a _. (omega arith, refl);
  has = λ x _. (0, (omega arith, refl));
  of = λ a k x lt at. let e = only a k x at in (omega (arith, e, lt), e);
  once = λ a j k x _ p q. let a1 = p.0 in let b = q.0 in omega (arith, a1, b);
  fed = λ a k y _ p lt. let b = p.0 in absurd (omega (arith, b));
  spans = λ a i j k z w x y _ p q r lt le _ _. let b = r.0 in absurd (omega (arith, b));
}
  where
    only : (a k x : ℕ) → At (a ∷ []) k x → x ≡ a
    only a zero x at = sym at.1
    only a (suc k) x at = let b = at.0 in absurd (omega (arith, b))

-- the lists after n is merged into p
record Joined (L K : ℕ → List ℕ) (n p : ℕ) : Type 0 where
  into : K p ≡ L p ++ L n
  others : (a : ℕ) → a ≢ p → K a ≡ L a

module _ (s : List (List ℕ)) (S : IsShape s) (g : Graph) (leader after_leader : ℕ → ℕ) (L K : ℕ → List ℕ) (n p : ℕ) (G : Grouped s g leader) (D : Listed s g leader L) (M : MergedLeaders leader after_leader n p) (J : Joined L K n p) (a : Applies g (T2 n p)) where
  other : p ≢ n
  other = a.1

  -- an edge from p to n
  source : (leader n ≡ n) × ((x : ℕ) × Edge s x n × (leader x ≡ p))
  source = G.into p n a.2

  n_in : n < length s
  n_in = S.within source.1.0 n source.1.1

  p_node : g.Node p
  p_node = subst (λ v. g.Node v) source.1.2 (G.led source.1.0 (source_within s source.1.0 n source.1.1))

  n_node : g.Node n
  n_node = subst (λ v. g.Node v) source.0 (G.led n n_in)

  -- where a node of the new graph is p, and where it's another one
  by_p : (P : ℕ → List ℕ → Type 0) → P p (L p ++ L n) → ((b : ℕ) → g.Node b → b ≢ n → b ≢ p → P b (L b)) → (b : ℕ) → g.Node b × (b ≢ n) → P b (K b)
  by_p P at_p at_other b node = ⊎_elim
      (λ (e : b ≡ p). subst (λ v. P v (K v)) (sym e) (subst (λ (l : List ℕ). P p l) (sym J.into) at_p))
      (λ (ne : b ≢ p). subst (λ (l : List ℕ). P b l) (sym (J.others b ne)) (at_other b node.0 node.1 ne))
      (cases_eq b p)

  -- a node that isn't first in its list is entered from its list alone
  inner : (b k x y : ℕ) → g.Node b → At (L b) k x → 0 < k → Edge s y x → leader y ≡ b
  inner b k x y node at lt e = ⊎_elim
      (λ (h : leader y ≡ leader x). h ∙ (D.of b k x node at).1)
      (λ (h : leader y ≢ leader x).
      let own : x ≡ b = sym (G.out y x e h).1 ∙ (D.of b k x node at).1 in
      let first = D.once b k 0 x node at (subst (λ v. At (L b) 0 v) (sym own) (D.head b node)) in
      absurd (omega (arith, first, lt)))
      (cases_eq (leader y) (leader x))

  -- a node with an edge to one of n is in p or in n
  into_n : (k x y : ℕ) → At (L n) k x → Edge s y x → (leader y ≡ p) ⊎ (leader y ≡ n)
  into_n k x y at e = ⊎_elim
      (λ (h : leader y ≡ leader x). inr (h ∙ (D.of n k x n_node at).1))
      (λ (h : leader y ≢ leader x).
      let o = G.out y x e h in
      let own : x ≡ n = sym o.1 ∙ (D.of n k x n_node at).1 in
      inl (a.3 (leader y) (subst (λ v. g.Arrow (leader y) v) own o.0)))
      (cases_eq (leader y) (leader x))

  -- a node of either list has a place in both together
  either_place : (y : ℕ) → y < length s → (leader y ≡ p) ⊎ (leader y ≡ n) → (m : ℕ) × At (L p ++ L n) m y
  either_place y lt (inl e) = let h = D.has y lt in (h.0, at_left (L p) (L n) h.0 y (subst (λ v. At (L v) h.0 y) e h.1))
  either_place y lt (inr e) = let h = D.has y lt in (length (L p) + h.0, at_right (L p) (L n) h.0 y (subst (λ v. At (L v) h.0 y) e h.1))

  joined_has : (x : ℕ) → x < length s → (k : ℕ) × At (K (after_leader x)) k x
  joined_has x lt = ⊎_elim
      (λ (e : leader x ≡ n). in_p (M.moved x e) (inr e))
      (λ (ne : leader x ≢ n). ⊎_elim
      (λ (e : leader x ≡ p). in_p (M.kept x ne ∙ e) (inl e))
      (λ (away : leader x ≢ p). let h = D.has x lt in (h.0, subst (λ v. At (K v) h.0 x) (sym (M.kept x ne)) (subst (λ (l : List ℕ). At l h.0 x) (sym (J.others (leader x) away)) h.1)))
      (cases_eq (leader x) p))
      (cases_eq (leader x) n)
    where
      in_p : after_leader x ≡ p → (leader x ≡ p) ⊎ (leader x ≡ n) → (k : ℕ) × At (K (after_leader x)) k x
      in_p at e = let h = either_place x lt e in (h.0, subst (λ v. At (K v) h.0 x) (sym at) (subst (λ (l : List ℕ). At l h.0 x) (sym J.into) h.1))

  joined_of : (k x : ℕ) → At (L p ++ L n) k x → (x < length s) × (after_leader x ≡ p)
  joined_of k x at = ⊎_elim
      (λ (q : At (L p) k x). let o = D.of p k x p_node q in (o.0, M.kept x (λ e. other (sym o.1 ∙ e)) ∙ o.1))
      (λ (q : (j : ℕ) × (k ≡ length (L p) + j) × At (L n) j x). let o = D.of n q.0 x n_node q.2 in (o.0, M.moved x o.1))
      (at_cases (L p) (L n) k x at)

  joined_once : (j k x : ℕ) → At (L p ++ L n) j x → At (L p ++ L n) k x → j ≡ k
  joined_once j k x at_j at_k = go (at_cases (L p) (L n) j x at_j) (at_cases (L p) (L n) k x at_k)
    where
      apart : (i l : ℕ) → At (L p) i x → At (L n) l x → ⊥
      apart i l u v = other (sym (D.of p i x p_node u).1 ∙ (D.of n l x n_node v).1)

      go : At (L p) j x ⊎ ((i : ℕ) × (j ≡ length (L p) + i) × At (L n) i x) → At (L p) k x ⊎ ((i : ℕ) × (k ≡ length (L p) + i) × At (L n) i x) → j ≡ k
      go (inl u) (inl v) = D.once p j k x p_node u v
      go (inl u) (inr v) = absurd (apart j v.0 u v.2)
      go (inr u) (inl v) = absurd (apart k u.0 v u.2)
      go (inr u) (inr v) = u.1 ∙ ap (λ i. length (L p) + i) (D.once n u.0 v.0 x n_node u.2 v.2) ∙ sym v.1

  joined_fed : (k y : ℕ) → At (L p ++ L n) k y → 0 < k → (j : ℕ) × (x : ℕ) × (j < k) × At (L p ++ L n) j x × Edge s x y
  joined_fed k y at lt = ⊎_elim
      (λ (q : At (L p) k y). let f = D.fed p k y p_node q lt in (f.0, f.1, f.2, at_left (L p) (L n) f.0 f.1 f.3, f.4))
      (λ (q : (j : ℕ) × (k ≡ length (L p) + j) × At (L n) j y). in_n q.0 q.1 q.2)
      (at_cases (L p) (L n) k y at)
    where
      in_n : (j : ℕ) → k ≡ length (L p) + j → At (L n) j y → (j : ℕ) × (x : ℕ) × (j < k) × At (L p ++ L n) j x × Edge s x y
      in_n zero e q =
          let own : n ≡ y = same_at (L n) 0 n y (D.head n n_node) q in
          let x = source.1.0 in
          let h = D.has x (source_within s x n source.1.1) in
          let at_x : At (L p) h.0 x = subst (λ v. At (L v) h.0 x) source.1.2 h.1 in
          let less = at_x.0 in
          (h.0, x, omega (arith, less, e), at_left (L p) (L n) h.0 x at_x, subst (λ v. Edge s x v) own source.1.1)
      in_n (suc j) e q = let f = D.fed n (suc j) y n_node q (omega arith) in (length (L p) + f.0, f.1, (let less = f.2 in omega (arith, less, e)), at_right (L p) (L n) f.0 f.1 f.3, f.4)

  joined_spans : (i j k z w x y : ℕ) → At (L p ++ L n) i z → At (L p ++ L n) j w → At (L p ++ L n) k x → i < k → k ≤ j → Edge s w z → Edge s y x → (m : ℕ) × (i ≤ m) × At (L p ++ L n) m y
  joined_spans i j k z w x y at_z at_w at_x lt le ewz eyx = go (at_cases (L p) (L n) i z at_z) (at_cases (L p) (L n) j w at_w) (at_cases (L p) (L n) k x at_x)
    where
      go : At (L p) i z ⊎ ((h : ℕ) × (i ≡ length (L p) + h) × At (L n) h z) → At (L p) j w ⊎ ((h : ℕ) × (j ≡ length (L p) + h) × At (L n) h w) → At (L p) k x ⊎ ((h : ℕ) × (k ≡ length (L p) + h) × At (L n) h x) → (m : ℕ) × (i ≤ m) × At (L p ++ L n) m y
      go (inl u) (inl v) (inl r) = let q = D.spans p i j k z w x y p_node u v r lt le ewz eyx in (q.0, q.1, at_left (L p) (L n) q.0 y q.2)
      go (inl u) (inl v) (inr r) = let e = r.1 in let b = v.0 in absurd (omega (arith, e, b, le))
      go (inr u) (inl v) r = let e = u.1 in let b = v.0 in absurd (omega (arith, e, b, lt, le))
      go (inr u) (inr v) (inl r) = let e = u.1 in let b = r.0 in absurd (omega (arith, e, b, lt))
      go (inr u) (inr v) (inr r) =
          let e = u.1 in
          let f = v.1 in
          let h = r.1 in
          let q = D.spans n u.0 v.0 r.0 z w x y n_node u.2 v.2 r.2 (omega (arith, e, h, lt)) (omega (arith, f, h, le)) ewz eyx in
          (length (L p) + q.0, (let b = q.1 in omega (arith, b, e)), at_right (L p) (L n) q.0 y q.2)
      go (inl u) (inr v) r =
          let oz = D.of p i z p_node u in
          let ow = D.of n v.0 w n_node v.2 in
          let out = G.out w z ewz (λ q. other (sym oz.1 ∙ sym q ∙ ow.1)) in
          let first : i ≡ 0 = D.once p i 0 z p_node u (subst (λ v. At (L p) 0 v) (sym oz.1 ∙ out.1) (D.head p p_node)) in
          let m = either_place y (source_within s y x eyx) (⊎_elim
          (λ (q : At (L p) k x). inl (inner p k x y p_node q (omega arith) eyx))
          (λ (q : (h : ℕ) × (k ≡ length (L p) + h) × At (L n) h x). into_n q.0 x y q.2 eyx)
          r) in
          (m.0, omega (arith, first), m.1)

  listed_joined : Listed s (after g (T2 n p)) after_leader K
  listed_joined = record {
    head = by_p (λ b l. At l 0 b) (at_left (L p) (L n) 0 p (D.head p p_node)) (λ b node _ _. D.head b node);
    has = joined_has;
    of = λ b k x node at. by_p (λ b l. (k x : ℕ) → At l k x → (x < length s) × (after_leader x ≡ b)) joined_of (λ b node no_n _ k x at. let o = D.of b k x node at in (o.0, M.kept x (λ e. no_n (sym o.1 ∙ e)) ∙ o.1)) b node k x at;
    once = λ b j k x node. by_p (λ b l. (j k x : ℕ) → At l j x → At l k x → j ≡ k) joined_once (λ b node _ _ j k x. D.once b j k x node) b node j k x;
    fed = λ b k y node. by_p (λ b l. (k y : ℕ) → At l k y → 0 < k → (j : ℕ) × (x : ℕ) × (j < k) × At l j x × Edge s x y) joined_fed (λ b node _ _ k y. D.fed b k y node) b node k y;
    spans = λ b i j k z w x y node. by_p (λ b l. (i j k z w x y : ℕ) → At l i z → At l j w → At l k x → i < k → k ≤ j → Edge s w z → Edge s y x → (m : ℕ) × (i ≤ m) × At l m y) joined_spans (λ b node _ _ i j k z w x y. D.spans b i j k z w x y node) b node i j k z w x y;
  }

listed_T1 : (s : List (List ℕ)) (g : Graph) (leader : ℕ → ℕ) (L : ℕ → List ℕ) (n : ℕ) → Listed s g leader L → Listed s (after g (T1 n)) leader L
listed_T1 s g leader L n D = record { head = D.head; has = D.has; of = D.of; once = D.once; fed = D.fed; spans = D.spans }

-- groups with their lists
record Sorted (s : List (List ℕ)) (g : Graph) : Type 0 where
  leader : ℕ → ℕ
  L : ℕ → List ℕ
  grouped : Grouped s g leader
  listed : Listed s g leader L

join : (ℕ → List ℕ) → ℕ → ℕ → ℕ → List ℕ
join L n p a = cond (eqb a p) (L p ++ L n) (L a)

joined : (L : ℕ → List ℕ) (n p : ℕ) → Joined L (join L n p) n p
unfolding join
joined L n p = record {
  into = ap (λ b. cond b (L p ++ L n) (L p)) (eq-eqb p p refl);
  others = λ a ne. ap (λ b. cond b (L p ++ L n) (L a)) (ne_eqb a p ne);
}

sorted_step : (s : List (List ℕ)) → IsShape s → (g : Graph) (t : TStep) → Applies g t → Sorted s g → Sorted s (after g t)
sorted_step s S g (T1 n) a D = record { leader = D.leader; L = D.L; grouped = grouped_step s g D.leader (T1 n) D.grouped a; listed = listed_T1 s g D.leader D.L n D.listed }
sorted_step s S g (T2 n p) a D = record {
  leader = leaders_after D.leader (T2 n p);
  L = join D.L n p;
  grouped = grouped_step s g D.leader (T2 n p) D.grouped a;
  listed = listed_joined s S g D.leader (leaders_after D.leader (T2 n p)) D.L (join D.L n p) n p D.grouped D.listed (merged_by D.leader n p) (joined D.L n p) a;
}

sorted_all : (s : List (List ℕ)) → IsShape s → (g : Graph) (ts : List TStep) → AllApply g ts → Sorted s g → Sorted s (after_all g ts)
sorted_all s S g [] a D = D
sorted_all s S g (t ∷ ts) a D = sorted_all s S (after g t) ts a.1 (sorted_step s S g t a.0 D)

-- a list of the first n values
pub table : {X : Type 0} → (ℕ → X) → ℕ → List X
table f zero = []
table f (suc n) = table f n ++ f n ∷ []

pub length-table : {X : Type 0} (f : ℕ → X) (n : ℕ) → length (table f n) ≡ n
unfolding table
length-table f zero = refl
length-table f (suc n) = omega (arith, length-append (table f n) (f n ∷ []), length-table f n)

pub get_or-table : {X : Type 0} (f : ℕ → X) (n k : ℕ) (d : X) → k < n → get_or (table f n) k d ≡ f k
unfolding table
get_or-table f zero k d lt = absurd (omega arith)
get_or-table f (suc n) k d lt = ⊎_elim
    (λ (less : k < n). get_or_append_left (table f n) (f n ∷ []) d k (omega (arith, less, length-table f n)) ∙ get_or-table f n k d less)
    (λ (ge : n ≤ k). let e : k ≡ n = omega arith in get_or_push (table f n) (f n) d k (length-table f n ∙ sym e) ∙ ap f (sym e))
    (cases_lt k n)

-- where one node is left, its list is an order
module _ (s sources : List (List ℕ)) (S : IsShape s) (rev : IsReversed s sources) (g : Graph) (D : Sorted s g) (entry : g.Node 0) (only : (a : ℕ) → g.Node a → a ≡ 0) where
  order : List ℕ
  order = D.L 0

  find : (x : ℕ) → x < length s → (k : ℕ) × At order k x
  unfolding order
  find x lt = let h = D.listed.has x lt in (h.0, subst (λ v. At (D.L v) h.0 x) (only (D.leader x) (D.grouped.led x lt)) h.1)

  index : ℕ → ℕ
  index x = ⊎_elim (λ (lt : x < length s). (find x lt).0) (λ (ge : length s ≤ x). 0) (cases_lt x (length s))

  place : List ℕ
  place = table index (length s)

  at_index : (x : ℕ) → x < length s → At order (get_or place x 0) x
  unfolding place index
  at_index x lt = subst (λ v. At order v x) (sym (get_or-table index (length s) x 0 lt)) (go (cases_lt x (length s)))
    where
      go : (c : (x < length s) ⊎ (length s ≤ x)) → At order (⊎_elim (λ (lt : x < length s). (find x lt).0) (λ (ge : length s ≤ x). 0) c) x
      go (inl less) = (find x less).1
      go (inr ge) = absurd (omega arith)

  once : (j k x : ℕ) → At order j x → At order k x → j ≡ k
  unfolding order
  once j k x = D.listed.once 0 j k x entry

  is_node : (k x : ℕ) → At order k x → x < length s
  unfolding order
  is_node k x at = (D.listed.of 0 k x entry at).0

  index_of : (k x : ℕ) → At order k x → get_or place x 0 ≡ k
  index_of k x at = once (get_or place x 0) k x (at_index x (is_node k x at)) at

  head_at : At order 0 0
  unfolding order
  head_at = D.listed.head 0 entry

  is_order : IsOrder sources order place
  unfolding order place
  is_order = record {
    places = length-table index (length s) ∙ sym rev.size;
    first = index_of 0 0 head_at;
    place_in = λ x lt. (at_index x (omega (arith, lt, rev.size))).0;
    listed = λ x lt. (at_index x (omega (arith, lt, rev.size))).1;
    node_in = λ k lt. let b = is_node k (get_or order k 0) (lt, refl) in omega (arith, b, rev.size);
    placed = λ k lt. index_of k (get_or order k 0) (lt, refl);
    fed = λ y lt ne.
        let at = at_index y (omega (arith, lt, rev.size)) in
        let f = D.listed.fed 0 (get_or place y 0) y entry at (after_first y at ne) in
        (f.1, (rev.edges f.1 y).1 f.4, (let less = f.2 in let e = index_of f.0 f.1 f.3 in omega (arith, less, e)));
    spans = λ w z y x ewz eyx le lt up.
        let fz = (rev.edges w z).0 ewz in
        let fx = (rev.edges y x).0 eyx in
        let q = D.listed.spans 0 (get_or place z 0) (get_or place w 0) (get_or place x 0) z w x y entry (at_index z (S.within w z fz)) (at_index w (source_within s w z fz)) (at_index x (S.within y x fx)) lt up fz fx in
        let low = q.1 in let e = index_of q.0 y q.2 in omega (arith, low, e);
  }
    where
      after_first : (y : ℕ) → At order (get_or place y 0) y → y ≢ 0 → 0 < get_or place y 0
      after_first y at ne = ⊎_elim
          (λ (e : get_or place y 0 ≡ 0). absurd (ne (sym (same_at order 0 0 y head_at (subst (λ v. At order v y) e at)))))
          (λ (away : get_or place y 0 ≢ 0). omega arith)
          (cases_eq (get_or place y 0) 0)

abbrev pub HasOrder : List (List ℕ) → Type 0
HasOrder sources = (order : List ℕ) × (place : List ℕ) × IsOrder sources order place

pub one_has_order : (s sources : List (List ℕ)) → IsShape s → IsReversed s sources → (ts : List TStep) → ReduceToOne s ts → HasOrder sources
one_has_order s sources S rev ts one =
    let g = after_all (graph_of s) ts in
    let D : Sorted s g = sorted_all s S (graph_of s) ts one.0 (record { leader = λ x. x; L = λ a. a ∷ []; grouped = grouped_start s; listed = listed_start s }) in
    let entry = keeps_entry (graph_of s) ts S.entry one.0 in
    (order s sources S rev g D entry one.1, place s sources S rev g D entry one.1, is_order s sources S rev g D entry one.1)
