-- The last steps of a reduction that ends in two or more nodes: T1 for each leader.
use Rattle.std.proofs.Common.{◌≡◌, ◌≢◌, ℕ, ◌<◌, ◌+◌, List, [], ◌∷◌, ◌++◌, length, get_or, sym, ◌∙◌, ap, subst, arith, ⊎_elim}
use Rattle.pv_loops.proofs.Words.{cases_eq, Contains, TStep, T1, T2, Groups, Reduction, Edge, targets, IsReversed, IsShape, Graph, graph_of, Applies, AllApply, after_all, Stuck, leader_of, Leads, AreGroups, Grouped, Reduced, Reduces, IsOnlySource, AreRest, NoneMerges}
use Rattle.pv_loops.proofs.Grouping.{grouped_T1, source_within}
use Rattle.pv_loops.proofs.Reducing.{apply_append, after_append}
use Rattle.pv_loops.proofs.Listing.{length_more, front_more, last_more, by_last}

-- all leaders, each once
pub record AreLeaders (g : Groups) (leaders : List ℕ) : Type 0 where
  pub leads : (k : ℕ) → k < length leaders → Leads g (get_or leaders k 0)
  pub distinct : (j k : ℕ) → j < k → k < length leaders → get_or leaders j 0 ≢ get_or leaders k 0
  pub all : (x : ℕ) → Leads g x → (k : ℕ) × (k < length leaders) × (get_or leaders k 0 ≡ x)

pub leaders_from_rest : (g : Groups) (rest : List ℕ) → Leads g 0 → AreRest g rest → AreLeaders g (rest ++ 0 ∷ [])
leaders_from_rest g rest zero R = record {
  leads = λ k h. by_last rest 0 (λ v. Leads g v) k h (λ l. R.leads k l) zero;
  distinct = λ j k less h. by_last rest 0 (λ v. get_or more j 0 ≢ v) k h
      (λ l e. R.distinct j k less l (sym (front_more rest 0 j (omega arith)) ∙ e))
      (λ e. R.nonzero j (omega (arith, len)) (sym (front_more rest 0 j (omega (arith, len))) ∙ e));
  all = λ x l. ⊎_elim
      (λ (e : x ≡ 0). (length rest, omega (arith, len), last_more rest 0 ∙ sym e))
      (λ (ne : x ≢ 0). let a = R.all x l ne in let lt = a.1 in (a.0, omega (arith, len, lt), front_more rest 0 a.0 a.1 ∙ a.2))
      (cases_eq x 0);
}
  where
    more : List ℕ
    more = rest ++ 0 ∷ []

    len : length more ≡ length rest + 1
    len = length_more rest 0

-- the first i leaders have no edge to themselves any more
pub record DroppedTo (s : List (List ℕ)) (g : Groups) (steps : List TStep) (leaders : List ℕ) (i : ℕ) : Type 0 where
  pub applies : AllApply (graph_of s) steps
  pub grouped : Grouped s (after_all (graph_of s) steps) (leader_of g)
  pub none : (k : ℕ) → k < i → (after_all (graph_of s) steps).Arrow (get_or leaders k 0) (get_or leaders k 0) → ⊥
  pub still : (x y : ℕ) → Edge s x y → leader_of g x ≡ y → leader_of g y ≡ y → ((k : ℕ) → k < i → get_or leaders k 0 ≢ y) → (after_all (graph_of s) steps).Arrow y y

-- .. whatever the shape
abbrev pub Dropping : List (List ℕ) → Reduction → List TStep → List ℕ → ℕ → Type 0
Dropping sources start steps leaders i = (s : List (List ℕ)) → IsReversed s sources → Reduced s start → DroppedTo s start.groups steps leaders i

-- a leader with a source in its own group
pub dropped_more : (sources : List (List ℕ)) (start : Reduction) (steps : List TStep) (leaders : List ℕ) (i : ℕ) → (leader_of start.groups 0 ≡ 0 → AreLeaders start.groups leaders) → i < length leaders
    → ((x : ℕ) × Contains (targets sources (get_or leaders i 0)) x × (leader_of start.groups x ≡ get_or leaders i 0)) → Dropping sources start steps leaders i → Dropping sources start (steps ++ T1 (get_or leaders i 0) ∷ []) leaders (i + 1)
dropped_more sources start steps leaders i all h own D = λ s rev R.
    let L : AreLeaders start.groups leaders = all R.entry in
    let n : ℕ = get_or leaders i 0 in
    let S : DroppedTo s start.groups steps leaders i = D s rev R in
    let g : Graph = after_all (graph_of s) steps in
    let arrow : g.Arrow n n = S.still own.0 n ((rev.edges own.0 n).0 own.1) own.2 (L.leads i h).1 (λ k lt. L.distinct k i lt h) in
    record {
      applies = apply_append (graph_of s) steps (T1 n ∷ []) S.applies (arrow, tt);
      grouped = after_append (λ (g : Graph). Grouped s g (leader_of start.groups)) (graph_of s) steps (T1 n ∷ []) (grouped_T1 s g (leader_of start.groups) n S.grouped);
      none = λ k lt. after_append (λ (g : Graph). g.Arrow (get_or leaders k 0) (get_or leaders k 0) → ⊥) (graph_of s) steps (T1 n ∷ []) (λ a. ⊎_elim
          (λ (e : k ≡ i). a.1 (ap (λ v. get_or leaders v 0) e) (ap (λ v. get_or leaders v 0) e))
          (λ (ne : k ≢ i). S.none k (omega arith) a.0)
          (cases_eq k i));
      still = λ x y e lx ly not. after_append (λ (g : Graph). g.Arrow y y) (graph_of s) steps (T1 n ∷ []) (S.still x y e lx ly (λ k lt. not k (omega arith)), (λ q _. not i (omega arith) (sym q)));
    }

-- a leader without one
pub dropped_same : (sources : List (List ℕ)) (start : Reduction) (steps : List TStep) (leaders : List ℕ) (i : ℕ)
    → (((x : ℕ) × Contains (targets sources (get_or leaders i 0)) x × (leader_of start.groups x ≡ get_or leaders i 0)) → ⊥) → Dropping sources start steps leaders i → Dropping sources start steps leaders (i + 1)
dropped_same sources start steps leaders i alone D = λ s rev R.
    let S : DroppedTo s start.groups steps leaders i = D s rev R in
    record {
      applies = S.applies;
      grouped = S.grouped;
      none = λ k lt a. ⊎_elim
          (λ (e : k ≡ i). let at : get_or leaders k 0 ≡ get_or leaders i 0 = ap (λ v. get_or leaders v 0) e in let j = S.grouped.into (get_or leaders k 0) (get_or leaders k 0) a in
          alone (j.1.0, (rev.edges j.1.0 (get_or leaders i 0)).1 (subst (λ v. Edge s j.1.0 v) at j.1.1), j.1.2 ∙ at))
          (λ (ne : k ≢ i). S.none k (omega arith) a)
          (cases_eq k i);
      still = λ x y e lx ly not. S.still x y e lx ly (λ k lt. not k (omega arith));
    }

-- where a leader is left that can't be merged, the steps are stuck
pub dropped_all : (sources : List (List ℕ)) (start : Reduction) (steps : List TStep) (rest leaders : List ℕ) → IsShape sources → length sources ≡ length start.groups.leader.items → AreGroups start.groups → AreRest start.groups rest → 0 < length rest
    → NoneMerges start.groups sources rest → (leader_of start.groups 0 ≡ 0 → AreLeaders start.groups leaders) → Dropping sources start steps leaders (length leaders) → Reduces sources start → (s : List (List ℕ)) → IsReversed s sources → Stuck s steps
dropped_all sources start steps rest leaders S size A R some ends all D reduces s rev = (at.applies, record { nodes = nodes; ends = λ t. none t })
  where
    red : Reduced s start
    red = reduces s rev

    at : DroppedTo s start.groups steps leaders (length leaders)
    at = D s rev red

    nodes : (a : ℕ) × (b : ℕ) × (after_all (graph_of s) steps).Node a × (after_all (graph_of s) steps).Node b × (a ≢ b)
    nodes = let b : ℕ = get_or rest 0 0 in let l = R.leads 0 some in (
      0,
      b,
      subst (λ v. (after_all (graph_of s) steps).Node v) red.entry (at.grouped.led 0 (omega (arith, S.entry, size, red.size))),
      subst (λ v. (after_all (graph_of s) steps).Node v) l.1 (at.grouped.led b (omega (arith, l.0, red.size))),
      λ e. R.nonzero 0 some (sym e),
    )

    none : (t : TStep) → Applies (after_all (graph_of s) steps) t → ⊥
    none (T1 n) a =
        let j = at.grouped.into n n a in
        let x_in : j.1.0 < length start.groups.leader.items = (let lt = source_within s j.1.0 n j.1.1 in omega (arith, lt, red.size)) in
        let leads : Leads start.groups n = subst (λ v. Leads start.groups v) j.1.2 (A.led j.1.0 x_in) in
        let k = (all red.entry).all n leads in
        at.none k.0 k.1 (subst (λ v. (after_all (graph_of s) steps).Arrow v v) (sym k.2) a)
    none (T2 n p) (nonzero, other, arrow, only) =
        let j = at.grouped.into p n arrow in
        let n_in : n < length start.groups.leader.items = (let lt = source_within sources n j.1.0 ((rev.edges j.1.0 n).1 j.1.1) in omega (arith, lt, size)) in
        let k = R.all n (n_in, j.0) nonzero in
        ends k.0 p k.1 (subst (λ v. IsOnlySource start.groups (targets sources v) v p) (sym k.2) (record {
          other = other;
          source = (j.1.0, (rev.edges j.1.0 n).1 j.1.1, j.1.2);
          only = λ y c away. only (leader_of start.groups y) (at.grouped.out y n ((rev.edges y n).0 c) (λ q. away (q ∙ j.0))).0;
        }))
