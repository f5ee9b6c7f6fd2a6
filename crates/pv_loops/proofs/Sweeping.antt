-- The search for the one group with edges into a leader.
use Rattle.std.proofs.Common.{◌≡◌, ◌≢◌, ℕ, ◌<◌, ◌≤◌, ◌+◌, List, [], ◌∷◌, ◌++◌, length, get_or, sym, ◌∙◌, ap, subst, arith, ◌⊎◌, inl, inr, ⊎_elim, Option, Some, None}
use Rattle.pv_loops.proofs.Words.{cases_eq, Contains-get_or, All, Contains, Groups, Edge, targets, IsShape, IsReversed, leader_of, place_of, Leads, AreGroups, Merges, IsOnlySource, AreOthers, AreRest, NoneMerges, Reduces, Reduced, Tracks, Reduction, TStep, graph_of, AllApply, after_all}
use Rattle.pv_loops.proofs.Grouping.{source_within}
use Rattle.pv_loops.proofs.Merging.{stays}
use Rattle.pv_loops.proofs.Listing.{length_more, front_more, last_more, by_last}

-- sources are nodes
pub sources_nodes : (sources : List (List ℕ)) (n count : ℕ) (xs : List ℕ) → IsShape sources → length sources ≡ count → xs ≡ targets sources n → All (λ x. x < count) xs
sources_nodes sources n count xs S size is = λ k d h.
    let lt : get_or xs k d < length sources = S.within n (get_or xs k d) (subst (λ (l : List ℕ). Contains l (get_or xs k d)) is (Contains-get_or xs k d h)) in omega (arith, size, lt)

-- the group with edges into n has a leader
pub only_leads : (g : Groups) (sources : List (List ℕ)) (n p : ℕ) → AreGroups g → IsShape sources → length sources ≡ length g.leader.items → IsOnlySource g (targets sources n) n p → Leads g p
only_leads g sources n p A S size only = let q = only.source in let lt = S.within n q.0 q.1 in subst (λ v. Leads g v) q.2 (A.led q.0 (omega (arith, lt, size)))

-- the only group with one of the first i sources
abbrev pub FoundSoFar : Groups → List ℕ → ℕ → ℕ → Option ℕ → Type 0
FoundSoFar g src n i None = (k : ℕ) → k < i → leader_of g (get_or src k 0) ≡ n
FoundSoFar g src n i (Some p) = (p ≢ n) × ((k : ℕ) × (k < i) × (leader_of g (get_or src k 0) ≡ p)) × ((k : ℕ) → k < i → leader_of g (get_or src k 0) ≢ n → leader_of g (get_or src k 0) ≡ p)

-- no two of these are one, and none is the entry
abbrev pub AreApart : List ℕ → Type 0
AreApart rest = ((k : ℕ) → k < length rest → get_or rest k 0 ≢ 0) × ((j k : ℕ) → j < k → k < length rest → get_or rest j 0 ≢ get_or rest k 0)

-- the leaders while `rest` is gone through: those that are kept so far, and those from i on
pub record SweptTo (g : Groups) (sources : List (List ℕ)) (rest kept : List ℕ) (i : ℕ) : Type 0 where
  pub leads : (k : ℕ) → k < length kept → Leads g (get_or kept k 0)
  pub nonzero : (k : ℕ) → k < length kept → get_or kept k 0 ≢ 0
  pub distinct : (j k : ℕ) → j < k → k < length kept → get_or kept j 0 ≢ get_or kept k 0
  pub ahead : (k : ℕ) → i ≤ k → k < length rest → Leads g (get_or rest k 0)
  pub apart : (j k : ℕ) → j < length kept → i ≤ k → k < length rest → get_or kept j 0 ≢ get_or rest k 0
  pub all : (x : ℕ) → Leads g x → x ≢ 0 → ((k : ℕ) × (k < length kept) × (get_or kept k 0 ≡ x)) ⊎ ((k : ℕ) × (i ≤ k) × (k < length rest) × (get_or rest k 0 ≡ x))
  pub fewer : length kept ≤ i
  pub ends : length kept ≡ i → NoneMerges g sources kept

pub swept_none : (g : Groups) (sources : List (List ℕ)) (rest : List ℕ) → AreRest g rest → SweptTo g sources rest [] 0
swept_none g sources rest R = record {
  leads = λ k h. absurd (omega arith);
  nonzero = λ k h. absurd (omega arith);
  distinct = λ j k h h'. absurd (omega arith);
  ahead = λ k _ h. R.leads k h;
  apart = λ j k h h' h''. absurd (omega arith);
  all = λ x l nz. let a = R.all x l nz in inr (a.0, omega arith, a.1, a.2);
  fewer = omega arith;
  ends = λ _ k p h. absurd (omega arith);
}

pub swept_kept : (g : Groups) (sources : List (List ℕ)) (rest kept : List ℕ) (i : ℕ) → AreApart rest → i < length rest → ((p : ℕ) → IsOnlySource g (targets sources (get_or rest i 0)) (get_or rest i 0) p → ⊥)
    → SweptTo g sources rest kept i → SweptTo g sources rest (kept ++ get_or rest i 0 ∷ []) (i + 1)
swept_kept g sources rest kept i R h none S = record {
  leads = λ k lt. by_last kept (get_or rest i 0) (λ v. Leads g v) k lt (λ l. S.leads k l) (S.ahead i (omega arith) h);
  nonzero = λ k lt. by_last kept (get_or rest i 0) (λ v. v ≢ 0) k lt (λ l. S.nonzero k l) (R.0 i h);
  distinct = λ j k less lt. by_last kept (get_or rest i 0) (λ v. get_or more j 0 ≢ v) k lt
      (λ l e. S.distinct j k less l (sym (front_more kept (get_or rest i 0) j (omega arith)) ∙ e))
      (λ e. S.apart j i (omega (arith, len)) (omega arith) h (sym (front_more kept (get_or rest i 0) j (omega (arith, len))) ∙ e));
  ahead = λ k le lt. S.ahead k (omega arith) lt;
  apart = λ j k lt le lt'. by_last kept (get_or rest i 0) (λ v. v ≢ get_or rest k 0) j lt (λ l. S.apart j k l (omega arith) lt') (R.1 i k (omega arith) lt');
  all = λ x l nz. ⊎_elim
      (λ (a : (k : ℕ) × (k < length kept) × (get_or kept k 0 ≡ x)). let lt = a.1 in inl (a.0, omega (arith, len, lt), front_more kept (get_or rest i 0) a.0 a.1 ∙ a.2))
      (λ (a : (k : ℕ) × (i ≤ k) × (k < length rest) × (get_or rest k 0 ≡ x)). ⊎_elim
      (λ (e : a.0 ≡ i). inl (length kept, omega (arith, len), last_more kept (get_or rest i 0) ∙ ap (λ v. get_or rest v 0) (sym e) ∙ a.3))
      (λ (ne : a.0 ≢ i). let le = a.1 in inr (a.0, omega (arith, le), a.2, a.3))
      (cases_eq a.0 i))
      (S.all x l nz);
  fewer = omega (arith, len, S.fewer);
  ends = λ e k p lt. by_last kept (get_or rest i 0) (λ v. IsOnlySource g (targets sources v) v p → ⊥) k lt (λ l. S.ends (omega (arith, len)) k p l) (none p);
}
  where
    more : List ℕ
    more = kept ++ get_or rest i 0 ∷ []

    len : length more ≡ length kept + 1
    len = length_more kept (get_or rest i 0)

pub swept_merged : (g new : Groups) (sources : List (List ℕ)) (rest kept : List ℕ) (i p : ℕ) → AreApart rest → i < length rest → AreGroups g → Leads g p → get_or rest i 0 ≢ p → Merges g new (get_or rest i 0) p
    → SweptTo g sources rest kept i → SweptTo new sources rest kept (i + 1)
swept_merged g new sources rest kept i p R h A lp ne M S = record {
  leads = λ k lt. still (get_or kept k 0) (S.leads k lt) (S.apart k i lt (omega arith) h);
  nonzero = S.nonzero;
  distinct = S.distinct;
  ahead = λ k le lt. still (get_or rest k 0) (S.ahead k (omega arith) lt) (λ e. R.1 i k (omega arith) lt (sym e));
  apart = λ j k lt le lt'. S.apart j k lt (omega arith) lt';
  all = λ x l nz. let q = stays g new (get_or rest i 0) p x A lp ne M l in ⊎_elim
      (λ (a : (k : ℕ) × (k < length kept) × (get_or kept k 0 ≡ x)). inl a)
      (λ (a : (k : ℕ) × (i ≤ k) × (k < length rest) × (get_or rest k 0 ≡ x)). ⊎_elim
      (λ (e : a.0 ≡ i). absurd (q.0 (sym a.3 ∙ ap (λ v. get_or rest v 0) e)))
      (λ (away : a.0 ≢ i). let le = a.1 in inr (a.0, omega (arith, le), a.2, a.3))
      (cases_eq a.0 i))
      (S.all x (q.2, q.1) nz);
  fewer = omega (arith, S.fewer);
  ends = λ e. let f = S.fewer in absurd (omega arith);
}
  where
    still : (l : ℕ) → Leads g l → l ≢ get_or rest i 0 → Leads new l
    still l ll e = (omega (arith, M.leaders, ll.0), M.kept l (λ q. e (sym ll.1 ∙ q)) ∙ ll.1)

pub swept_all : (g : Groups) (sources : List (List ℕ)) (rest kept : List ℕ) (i : ℕ) → length rest ≤ i → SweptTo g sources rest kept i → AreRest g kept
swept_all g sources rest kept i past S = record {
  leads = S.leads;
  nonzero = S.nonzero;
  distinct = S.distinct;
  all = λ x l nz. ⊎_elim
      (λ (a : (k : ℕ) × (k < length kept) × (get_or kept k 0 ≡ x)). a)
      (λ (a : (k : ℕ) × (i ≤ k) × (k < length rest) × (get_or rest k 0 ≡ x)). let le = a.1 in let lt = a.2 in absurd (omega (arith, le, lt)))
      (S.all x l nz);
}

-- what a sweep keeps
pub record Sweeping (start now : Reduction) (sources : List (List ℕ)) (rest kept : List ℕ) (i : ℕ) : Type 0 where
  pub groups : AreGroups now.groups
  pub size : length now.groups.leader.items ≡ length start.groups.leader.items
  pub reduced : Reduces sources start → Reduces sources now
  pub swept : SweptTo now.groups sources rest kept i

pub sweeping_kept : (start now : Reduction) (sources : List (List ℕ)) (rest kept more : List ℕ) (i n : ℕ) → AreApart rest → i < length rest → n ≡ get_or rest i 0 → more ≡ kept ++ n ∷ []
    → ((p : ℕ) → IsOnlySource now.groups (targets sources n) n p → ⊥) → Sweeping start now sources rest kept i → Sweeping start now sources rest more (i + 1)
sweeping_kept start now sources rest kept more i n R h is at none S = record {
  groups = S.groups;
  size = S.size;
  reduced = S.reduced;
  swept = subst (λ (l : List ℕ). SweptTo now.groups sources rest l (i + 1)) (ap (λ v. kept ++ v ∷ []) (sym is) ∙ sym at)
      (swept_kept now.groups sources rest kept i R h (subst (λ v. (p : ℕ) → IsOnlySource now.groups (targets sources v) v p → ⊥) is none) S.swept);
}

pub sweeping_merged : (start now new : Reduction) (sources : List (List ℕ)) (rest kept : List ℕ) (i n p : ℕ) → AreApart rest → i < length rest → n ≡ get_or rest i 0 → Leads now.groups p → n ≢ p
    → Merges now.groups new.groups n p → AreGroups new.groups → (Reduces sources now → Reduces sources new) → Sweeping start now sources rest kept i → Sweeping start new sources rest kept (i + 1)
sweeping_merged start now new sources rest kept i n p R h is lp ne M A reduces S = record {
  groups = A;
  size = M.leaders ∙ S.size;
  reduced = λ r. reduces (S.reduced r);
  swept = swept_merged now.groups new.groups sources rest kept i p R h S.groups lp (λ e. ne (is ∙ e)) (subst (λ v. Merges now.groups new.groups v p) is M) S.swept;
}

-- while there are sweeps
pub record Collapsing (now : Reduction) (sources : List (List ℕ)) (rest : List ℕ) : Type 0 where
  pub groups : AreGroups now.groups
  pub size : length now.groups.leader.items ≡ length sources
  pub reduced : Reduces sources now
  pub leaders : AreRest now.groups rest

-- at first each node leads itself
pub first_rest : (g : Groups) (rest : List ℕ) → ((x : ℕ) → x < length g.leader.items → leader_of g x ≡ x) → AreOthers (length g.leader.items) rest → AreRest g rest
first_rest g rest own others = record {
  leads = λ k h. let lt = others.within k h in (lt, own (get_or rest k 0) lt);
  nonzero = others.nonzero;
  distinct = others.distinct;
  all = λ x l nz. others.all x l.0 nz;
}

-- no step is taken yet
pub reduced_start : (s sources : List (List ℕ)) (r : Reduction) → 0 < length sources → length r.groups.leader.items ≡ length sources → ((x : ℕ) → x < length r.groups.leader.items → leader_of r.groups x ≡ x) → ((x : ℕ) → x < length r.groups.leader.items → place_of r.groups x ≡ 0) → r.steps.items ≡ []
    → IsReversed s sources → IsShape sources → Reduced s r
reduced_start s sources r some size own first steps rev S = record {
  applies = subst (λ (ts : List TStep). AllApply (graph_of s) ts) (sym steps) tt;
  tracks = subst (λ (ts : List TStep). Tracks s (after_all (graph_of s) ts) (leader_of r.groups)) (sym steps) tracks;
  size = length_s;
  entry = own 0 (omega (arith, size));
  ordered = record {
    fed = λ y h ne. absurd (ne (own y (omega (arith, length_s))));
    spans = λ w z y x ewz eyx lw lx a b c. let e = first x (target y x eyx) in absurd (omega (arith, e, b));
  };
}
  where
    length_s : length r.groups.leader.items ≡ length s
    length_s = size ∙ rev.size

    target : (x y : ℕ) → Edge s x y → y < length r.groups.leader.items
    target x y e = let lt = source_within sources y x ((rev.edges x y).1 e) in omega (arith, lt, size)

    source : (x y : ℕ) → Edge s x y → leader_of r.groups x ≡ x
    source x y e = let lt = source_within s x y e in own x (omega (arith, lt, length_s))

    tracks : Tracks s (graph_of s) (leader_of r.groups)
    tracks = record {
      grouped = record {
        within = λ a h. h;
        own = λ a h. own a (omega (arith, length_s));
        led = λ x h. let e = own x (omega (arith, length_s)) in omega (arith, e);
        out = λ x y e _. (subst (λ v. Edge s v y) (sym (source x y e)) e, own y (target x y e));
        into = λ a b e. (own b (target a b e), (a, e, source a b e));
      };
      all = λ x y e _. subst (λ v. Edge s v y) (sym (source x y e)) e;
    }
