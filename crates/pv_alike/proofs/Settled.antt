-- Nodes that are put into an order from below, or wait for a kid: in the end none waits.
use Rattle.std.specs.Prelude.{◌≡◌, ◌≢◌, ◌⊎◌, ℕ, zero, suc, ◌+◌, ◌<◌, ◌≤◌, Bool, true, false, List, [], ◌∷◌, ◌++◌, length, take, replicate, Some, None, slice_get, slice_set, slice_index_or, refl}
use Rattle.std.specs.List.{Contains, range_with_len}
use Rattle.std.proofs.Common.{inl, inr, sym, ap, ◌∙◌, subst, arith, append-nil, append_assoc, take_all, length-append}
use Rattle.std.proofs.lemmas.Option.{slice_get_within}
use Rattle.std.proofs.lemmas.List.{take-append-le, get_or-set_same, get_or-set_other}
use Rattle.std.proofs.lemmas.List.Elements.{Contains-push, Contains-append_left}
use Rattle.pv_graph.specs.declared.node.Op.{Op}
use Rattle.pv_graph.specs.declared.node.Node.{Node}
use Rattle.pv_graph.specs.Ops.{shape}
use Rattle.pv_graph.specs.Walks.{In}
use Rattle.pv_graph.specs.Graphs.{Graph, form_at, IsGraph}
use Rattle.pv_graph.specs.Calls.{LeavesNoSortOpen}
use Rattle.pv_graph.proofs.Cited.{in_range, kid_within, in_front, in_last, in_cases, set_length, equal_or_not, IsFlat, none_left, flat_edge, flat_first, flat_unless}
use Rattle.pv_graph.specs.Walks.{Move, Edge, move_to}
use Rattle.pv_alike.specs.Visits.{Visited}
use Rattle.pv_alike.specs.Partition.{earlier_kids}
use Rattle.pv_alike.specs.BottomUp.{HasKids, Lacks, IsUpward, IsBottomUp, Waits, Awaits, Settles, IsSettling}
use Rattle.pv_alike.proofs.Refined.{theta_or_other, earlier_in, earlier_all, earlier_first}
use Rattle.pv_alike.proofs.Upward.{contains_or_not, front_contains, front_cases, upward_push}

-- ---- one node

abbrev pub Lists : Type 0
Lists = List (List ℕ)

one_in : (n m : ℕ) → In (n ∷ []) m → n ≡ m
one_in n m (inl e) = e
one_in n m (inr h) = absurd h

pub settles_none : (g : List Node) (order : List ℕ) (waiting : Lists) → IsUpward g order → Settles g order order waiting waiting []
settles_none g order waiting up = record { long = refl; grows = ([], sym (append-nil order)); up = up; keeps = λ k n h. h; only = λ k n h. inl h; settled = λ n h. absurd h }

-- it is in the order
pub settles_there : (g : List Node) (order new : List ℕ) (waiting : Lists) (n : ℕ) (is_new : Bool) (node : Node) → IsUpward g order → slice_get g n ≡ Some node → HasKids order node → Visited order new n is_new → Settles g order new waiting waiting (n ∷ [])
settles_there g order new waiting n true node up is kids visit = record {
  long = refl;
  grows = (n ∷ [], visit.1);
  up = subst (λ (xs : List ℕ). IsUpward g xs) (sym visit.1) (upward_push g order n node up visit.0 is kids);
  keeps = λ k m h. h;
  only = λ k m h. inl h;
  settled = λ m h. inl (subst (λ (xs : List ℕ). Contains xs m) (sym visit.1) (subst (λ (x : ℕ). Contains (order ++ n ∷ []) x) (one_in n m h) (Contains-push order n)));
}
settles_there g order new waiting n false node up is kids visit = record {
  long = refl;
  grows = ([], visit.1 ∙ sym (append-nil order));
  up = subst (λ (xs : List ℕ). IsUpward g xs) (sym visit.1) up;
  keeps = λ k m h. h;
  only = λ k m h. inl h;
  settled = λ m h. inl (subst (λ (xs : List ℕ). Contains xs m) (sym visit.1) (subst (λ (x : ℕ). Contains order x) (one_in n m h) visit.0));
}

-- it waits for a kid
module _ (g : List Node) (order : List ℕ) (waiting : Lists) (n k : ℕ) (node : Node) (up : IsUpward g order) (is : slice_get g n ≡ Some node) (lacks : Lacks order node k) (low : k < length waiting) where
  abbrev after : Lists
  after = slice_set waiting k (slice_index_or waiting k [] ++ n ∷ [])

  here : slice_index_or after k [] ≡ slice_index_or waiting k [] ++ n ∷ []
  here = get_or-set_same waiting k (slice_index_or waiting k [] ++ n ∷ []) [] low

  elsewhere : (j : ℕ) → j ≢ k → slice_index_or after j [] ≡ slice_index_or waiting j []
  elsewhere j ne = get_or-set_other waiting k j (slice_index_or waiting k [] ++ n ∷ []) [] ne

  put_keeps : (j m : ℕ) → Waits waiting j m → Waits after j m
  put_keeps j m h = elim (equal_or_not j k) [
    | inl e ↦
        let old : In (slice_index_or waiting k []) m = subst (λ (i : ℕ). In (slice_index_or waiting i []) m) e h in
        subst (λ (i : ℕ). In (slice_index_or after i []) m) (sym e) (subst (λ (xs : List ℕ). In xs m) (sym here) (in_front (slice_index_or waiting k []) n m old))
    | inr ne ↦ subst (λ (xs : List ℕ). In xs m) (sym (elsewhere j ne)) h
  ]

  put_only : (j m : ℕ) → Waits after j m → Waits waiting j m ⊎ In (n ∷ []) m
  put_only j m h = elim (equal_or_not j k) [
    | inl e ↦ elim (in_cases (slice_index_or waiting k []) n m (subst (λ (xs : List ℕ). In xs m) here (subst (λ (i : ℕ). In (slice_index_or after i []) m) e h))) [
      | inl old ↦ inl (subst (λ (i : ℕ). In (slice_index_or waiting i []) m) (sym e) old)
      | inr one ↦ inr (inl one)
    ]
    | inr ne ↦ inl (subst (λ (xs : List ℕ). In xs m) (elsewhere j ne) h)
  ]

  waits_now : Awaits g order after n
  waits_now = record { kid = k; node = node; is = is; lacks = lacks; waits = subst (λ (xs : List ℕ). In xs n) (sym here) (in_last (slice_index_or waiting k []) n) }

  pub settles_waits : Settles g order order waiting after (n ∷ [])
  settles_waits = record {
    long = set_length waiting k (slice_index_or waiting k [] ++ n ∷ []);
    grows = ([], sym (append-nil order));
    up = up;
    keeps = put_keeps;
    only = put_only;
    settled = λ m h. inr (subst (λ (x : ℕ). Awaits g order after x) (one_in n m h) waits_now);
  }

-- ---- nodes one after the other

awaits_kept : (g : List Node) (seen : List ℕ) (before now : Lists) (n : ℕ) → ((k m : ℕ) → Waits before k m → Waits now k m) → Awaits g seen before n → Awaits g seen now n
awaits_kept g seen before now n keeps a = record { kid = a.kid; node = a.node; is = a.is; lacks = a.lacks; waits = keeps a.kid n a.waits }

awaits_less : (g : List Node) (seen less : List ℕ) (waiting : Lists) (n : ℕ) → ((k : ℕ) → Contains less k → Contains seen k) → Awaits g seen waiting n → Awaits g less waiting n
awaits_less g seen less waiting n within a = record { kid = a.kid; node = a.node; is = a.is; lacks = (a.lacks.0, λ there. a.lacks.1 (within a.kid there)); waits = a.waits }

grown : (old new : List ℕ) → (rest : List ℕ) × (new ≡ old ++ rest) → (n : ℕ) → Contains old n → Contains new n
grown old new grows n there = subst (λ (xs : List ℕ). Contains xs n) (sym grows.1) (Contains-append_left old grows.0 n there)

in_parts : (ms ns : List ℕ) (x : ℕ) → In (ms ++ ns) x → In ms x ⊎ In ns x
in_parts [] ns x h = inr h
in_parts (m ∷ ms) ns x (inl e) = inl (inl e)
in_parts (m ∷ ms) ns x (inr h) = elim (in_parts ms ns x h) [ inl a ↦ inl (inr a) | inr b ↦ inr b ]

in_both : (ms ns : List ℕ) (x : ℕ) → In ms x ⊎ In ns x → In (ms ++ ns) x
in_both [] ns x (inl h) = absurd h
in_both [] ns x (inr h) = h
in_both (m ∷ ms) ns x (inl (inl e)) = inl e
in_both (m ∷ ms) ns x (inl (inr h)) = inr (in_both ms ns x (inl h))
in_both (m ∷ ms) ns x (inr h) = inr (in_both ms ns x (inr h))

pub settles_then : (g : List Node) (old mid new : List ℕ) (before between after : Lists) (ms ns : List ℕ) → Settles g old mid before between ms → Settles g mid new between after ns → Settles g old new before after (ms ++ ns)
settles_then g old mid new before between after ms ns a b = record {
  long = b.long ∙ a.long;
  grows = (a.grows.0 ++ b.grows.0, b.grows.1 ∙ ap (λ (xs : List ℕ). xs ++ b.grows.0) a.grows.1 ∙ append_assoc old a.grows.0 b.grows.0);
  up = b.up;
  keeps = λ k n h. b.keeps k n (a.keeps k n h);
  only = λ k n h. elim (b.only k n h) [
    | inl z ↦ elim (a.only k n z) [ inl y ↦ inl y | inr m ↦ inr (in_both ms ns n (inl m)) ]
    | inr m ↦ inr (in_both ms ns n (inr m))
  ];
  settled = λ n h. elim (in_parts ms ns n h) [
    | inl m ↦ elim (a.settled n m) [ inl there ↦ inl (grown mid new b.grows n there) | inr z ↦ inr (awaits_kept g old between after n b.keeps z) ]
    | inr m ↦ elim (b.settled n m) [ inl there ↦ inl there | inr z ↦ inr (awaits_less g mid old after n (λ k y. grown old mid a.grows k y) z) ]
  ];
}

-- ---- from the front of the order to its end

none_waits : (count k n : ℕ) → Waits (replicate count []) k n → ⊥
none_waits zero k n h = h
none_waits (suc count) zero n h = h
none_waits (suc count) (suc k) n h = none_waits count k n h

in_range_below : (a count n : ℕ) → In (range_with_len a count) n → n < a + count
in_range_below a zero n h = absurd h
in_range_below a (suc count) n (inl e) = omega arith
in_range_below a (suc count) n (inr h) = let z = in_range_below (a + 1) count n h in omega arith

pub settling_begin : (g : List Node) (order : List ℕ) (waiting : Lists) (count : ℕ) → count ≡ length g → length (replicate {A = List ℕ} count []) ≡ count → Settles g [] order (replicate count []) waiting (range_with_len 0 (length g)) → IsSettling g order waiting 0
settling_begin g order waiting count e long s = record {
  up = s.up;
  long = s.long ∙ long ∙ e;
  low = λ k n h. elim (s.only k n h) [ inl z ↦ absurd (none_waits count k n z) | inr m ↦ let z = in_range_below 0 (length g) n m in omega arith ];
  reached = omega arith;
  each = λ n lt. s.settled n (in_range 0 (length g) n (omega arith) (omega arith));
}

module _ (g : List Node) (order new : List ℕ) (waiting after : Lists) (done k : ℕ) (ns : List ℕ) (is : IsSettling g order waiting done) (at : slice_get order done ≡ Some k) (ns_are : ns ≡ slice_index_or waiting k []) (s : Settles g order new (slice_set waiting k []) after ns) where
  lt : done < length order
  lt = slice_get_within order done k at

  -- what waits for another node still does
  left : (j n : ℕ) → j ≢ k → Waits waiting j n → Waits (slice_set waiting k []) j n
  left j n ne h = subst (λ (xs : List ℕ). In xs n) (sym (get_or-set_other waiting k j [] [] ne)) h

  same_front : take (done + 1) new ≡ take (done + 1) order
  same_front = ap (λ (xs : List ℕ). take (done + 1) xs) s.grows.1 ∙ take-append-le (done + 1) order s.grows.0 (omega (arith, lt))

  front_in : (n : ℕ) → Contains (take (done + 1) new) n → Contains order n
  front_in n there = front_contains order (done + 1) n (subst (λ (xs : List ℕ). Contains xs n) same_front there)

  step_each : (n : ℕ) → n < length g → Contains new n ⊎ Awaits g (take (done + 1) new) after n
  step_each n low = elim (is.each n low) [
    | inl there ↦ inl (grown order new s.grows n there)
    | inr a ↦ elim (equal_or_not a.kid k) [
      | inl e ↦
          let mine : In ns n = subst (λ (xs : List ℕ). In xs n) (sym ns_are) (subst (λ (i : ℕ). In (slice_index_or waiting i []) n) e a.waits) in
          elim (s.settled n mine) [ inl there ↦ inl there | inr z ↦ inr (awaits_less g order (take (done + 1) new) after n front_in z) ]
      | inr ne ↦
          inr (record {
            kid = a.kid;
            node = a.node;
            is = a.is;
            lacks = (a.lacks.0, λ there. elim (front_cases order done k a.kid at (subst (λ (xs : List ℕ). Contains xs a.kid) same_front there)) [ inl old ↦ a.lacks.1 old | inr e ↦ ne (sym e) ]);
            waits = s.keeps a.kid n (left a.kid n ne a.waits);
          })
    ]
  ]

  step_low : (j n : ℕ) → Waits after j n → n < length g
  step_low j n h = elim (s.only j n h) [
    | inl z ↦ elim (equal_or_not j k) [
      | inl e ↦ absurd (subst (λ (xs : List ℕ). In xs n) (none_left_there j e) z)
      | inr ne ↦ is.low j n (subst (λ (xs : List ℕ). In xs n) (get_or-set_other waiting k j [] [] ne) z)
    ]
    | inr m ↦ is.low k n (subst (λ (xs : List ℕ). In xs n) ns_are m)
  ]
    where
      none_left_there : (j : ℕ) → j ≡ k → slice_index_or (slice_set waiting k []) j [] ≡ []
      none_left_there j e = ap (λ (i : ℕ). slice_index_or (slice_set waiting k []) i []) e ∙ get_or-set_same waiting k [] [] (let z = is.long in let y = is.up.after done k at in let x = slice_get_within g k y.0 y.1 in omega arith)

  pub settling_step : IsSettling g new after (done + 1)
  settling_step = record {
    up = s.up;
    long = s.long ∙ set_length waiting k [] ∙ is.long;
    low = step_low;
    reached = omega (arith, ap length s.grows.1, length-append order s.grows.0, lt);
    each = step_each;
  }

-- ---- the end

past_end : (xs : List ℕ) (n : ℕ) → slice_get xs n ≡ None → length xs ≤ n
past_end [] n e = omega arith
past_end (x ∷ xs) zero e = absurd (let z = e in cc)
past_end (x ∷ xs) (suc n) e = let z = past_end xs n e in omega arith

pub settling_all : (g : List Node) (order : List ℕ) (waiting : Lists) (done : ℕ) → IsSettling g order waiting done → slice_get order done ≡ None → IsSettling g order waiting (length order)
settling_all g order waiting done is none = let all : done ≡ length order = omega (arith, is.reached, past_end order done none) in subst (λ (i : ℕ). IsSettling g order waiting i) all is

pub place_in : (xs : List ℕ) (x : ℕ) → In xs x → (p : ℕ) × (slice_get xs p ≡ Some x)
place_in [] x h = absurd h
place_in (y ∷ xs) x (inl e) = (0, ap Some e)
place_in (y ∷ xs) x (inr h) = let p = place_in xs x h in (suc p.0, p.1)

-- an earlier kid stands at a place other than a theta's second
earlier_flat : (o : Op) (ks : List ℕ) (k : ℕ) → In (earlier_kids o ks) k → (p : ℕ) × (slice_get ks p ≡ Some k) × IsFlat (move_to (shape o) p)
earlier_flat o ks k h = elim (theta_or_other o) [
  | inl t ↦ (0, first_at ks (subst (λ (js : List ℕ). In js k) (earlier_first o ks t) h), flat_first (shape o))
  | inr t ↦ let p = place_in ks k (subst (λ (js : List ℕ). In js k) (earlier_all o ks t) h) in (p.0, p.1, flat_unless (shape o) p.0 t)
]
  where
    first_at : (js : List ℕ) → In (take 1 js) k → slice_get js 0 ≡ Some k
    first_at [] m = absurd m
    first_at (j ∷ js) (inl e) = ap Some e
    first_at (j ∷ js) (inr m) = absurd m

module _ (g : Graph) (is : IsGraph g) (cycles : LeavesNoSortOpen g.nodes) (order : List ℕ) (waiting : Lists) (s : IsSettling g.nodes order waiting (length order)) where
  -- a node that waits is not in the order
  abbrev Missing : ℕ → Type 0
  Missing n = (n < length g.nodes) × (Contains order n → ⊥)

  pub settling_end : IsBottomUp g.nodes order
  settling_end = record {
    up = s.up;
    all = λ n lt. elim (contains_or_not order n) [
      | inl there ↦ there
      | inr none ↦ absurd (none_left (form_at g.nodes) cycles (range_with_len 0 (length g.nodes)) Missing (λ m y. in_range 0 (length g.nodes) m (omega arith) (omega (arith, y.0))) goes n (lt, none))
    ];
  }
    where
      goes : (n : ℕ) → Missing n → (m : Move) × (k : ℕ) × Edge (form_at g.nodes) n m k × IsFlat m × Missing k
      goes n y = elim (s.each n y.0) [
        | inl there ↦ absurd (y.1 there)
        | inr a ↦
            let p = earlier_flat a.node.op a.node.kids a.kid a.lacks.0 in
            let whole : take (length order) order ≡ order = take_all (length order) order (omega arith) in
            let kid : In a.node.kids a.kid = earlier_in a.node.op a.node.kids a.kid a.lacks.0 in
            (move_to (shape a.node.op) p.0, a.kid, flat_edge g.nodes n a.kid p.0 a.node a.is p.1 p.2, p.2, (kid_within g is n a.kid a.node a.is kid, λ there. a.lacks.1 (subst (λ (xs : List ℕ). Contains xs a.kid) (sym whole) there)))
      ]
