-- One merge of a reduction: its steps apply, and the groups stay in order.
use Rattle.std.proofs.Common.{◌≡◌, ◌≢◌, ℕ, ◌<◌, ◌≤◌, List, [], ◌∷◌, ◌++◌, length, refl, sym, ◌∙◌, ap, subst, arith, inl, inr, ⊎_elim, ◌↔◌, Bool, true, false}
use Rattle.pv_loops.proofs.Words.{get_or_past, cases_eq, cases_lt, false≢true, Contains, TStep, T1, T2, Groups, Reduction, Edge, targets, IsReversed, Graph, graph_of, Applies, after, AllApply, after_all, merge_steps, leader_of, place_of, group_of, Leads, AreGroups, Merges, Grouped, Tracks, AreOrdered, Reduced, IsOnlySource}
use Rattle.pv_loops.proofs.Grouping.{MergedLeaders, grouped_T1, grouped_T2, source_within}

-- steps after steps
pub apply_append : (g : Graph) (ts us : List TStep) → AllApply g ts → AllApply (after_all g ts) us → AllApply g (ts ++ us)
apply_append g [] us a b = b
apply_append g (t ∷ ts) us a b = (a.0, apply_append (after g t) ts us a.1 b)

pub after_append : (P : Graph → Type 0) (g : Graph) (ts us : List TStep) → P (after_all (after_all g ts) us) → P (after_all g (ts ++ us))
after_append P g [] us h = h
after_append P g (t ∷ ts) us h = after_append P (after g t) ts us h

-- the leaders of merged groups
leaders_merge : (old new : Groups) (n p : ℕ) → n ≢ 0 → Merges old new n p → MergedLeaders (leader_of old) (leader_of new) n p
leaders_merge old new n p nz M = record { moved = moved; kept = M.kept }
  where
    moved : (x : ℕ) → leader_of old x ≡ n → leader_of new x ≡ p
    moved x e = ⊎_elim
        (λ (h : x < length old.leader.items). M.moved x h e)
        (λ (h : length old.leader.items ≤ x). absurd (nz (sym e ∙ get_or_past old.leader.items x 0 h)))
        (cases_lt x (length old.leader.items))

-- the steps of a merge, from the groups of the shape
record MergeFacts (s : List (List ℕ)) (old : Groups) (n p : ℕ) : Type 0 where
  own : leader_of old n ≡ n
  into : leader_of old p ≡ p
  nonzero : n ≢ 0
  other : p ≢ n
  source : (x : ℕ) × Edge s x n × (leader_of old x ≡ p)
  only : (x : ℕ) → Edge s x n → leader_of old x ≢ n → leader_of old x ≡ p

-- T2 applies once n has no edge to itself
second_applies : (s : List (List ℕ)) (g h : Graph) (old : Groups) (n p : ℕ) → MergeFacts s old n p → Grouped s h (leader_of old) → h.Arrow p n → (h.Arrow n n → ⊥) → Applies h (T2 n p)
second_applies s g h old n p F G arrow none = (F.nonzero, F.other, arrow, λ q a. sole q a)
  where
    sole : (q : ℕ) → h.Arrow q n → q ≡ p
    sole q a = let i = G.into q n a in
        let away : leader_of old i.1.0 ≢ n = λ e. none (subst (λ v. h.Arrow v n) (sym i.1.2 ∙ e) a) in
        sym i.1.2 ∙ F.only i.1.0 i.1.1 away

-- after T2 an edge into a leader is one of the graph
second_tracks : (s : List (List ℕ)) (h : Graph) (old new : Groups) (n p : ℕ) → MergeFacts s old n p → Merges old new n p → Grouped s h (leader_of old)
    → ((x y : ℕ) → Edge s x y → leader_of old y ≡ y → y ≢ n → h.Arrow (leader_of old x) y) → Applies h (T2 n p) → Tracks s (after h (T2 n p)) (leader_of new)
second_tracks s h old new n p F M G all a = record { grouped = grouped_T2 s h (leader_of old) (leader_of new) n p G L a; all = every }
  where
    L : MergedLeaders (leader_of old) (leader_of new) n p
    L = leaders_merge old new n p F.nonzero M

    every : (x y : ℕ) → Edge s x y → leader_of new y ≡ y → (after h (T2 n p)).Arrow (leader_of new x) y
    every x y e own =
        let y_not : y ≢ n = λ q. F.other (sym (L.moved y (ap (leader_of old) q ∙ F.own)) ∙ own ∙ q) in
        let old_own : leader_of old y ≡ y = ⊎_elim
        (λ (z : leader_of old y ≡ n). absurd (F.other (sym F.into ∙ ap (leader_of old) (sym (L.moved y z) ∙ own) ∙ z)))
        (λ (z : leader_of old y ≢ n). sym (L.kept y z) ∙ own)
        (cases_eq (leader_of old y) n) in
        let arrow : h.Arrow (leader_of old x) y = all x y e old_own y_not in ⊎_elim
        (λ (z : leader_of old x ≡ n). ((λ q. F.other (sym (L.moved x z) ∙ q)), y_not, inr (L.moved x z, subst (λ v. h.Arrow v y) z arrow)))
        (λ (z : leader_of old x ≢ n). ((λ q. z (sym (L.kept x z) ∙ q)), y_not, inl (subst (λ v. h.Arrow v y) (sym (L.kept x z)) arrow)))
        (cases_eq (leader_of old x) n)

-- the steps of a merge apply, and its groups are what they leave
merge_applies : (s : List (List ℕ)) (g : Graph) (old new : Groups) (own : Bool) (n p : ℕ) → MergeFacts s old n p → Merges old new n p → Tracks s g (leader_of old)
    → ((own ≡ true) ↔ ((x : ℕ) × Edge s x n × (leader_of old x ≡ n))) → AllApply g (merge_steps own n p) × Tracks s (after_all g (merge_steps own n p)) (leader_of new)
merge_applies s g old new true n p F M T is =
    let self = is.0 refl in
    let loop : g.Arrow n n = subst (λ v. g.Arrow v n) self.2 (T.all self.0 n self.1 F.own) in
    let h : Graph = after g (T1 n) in
    let G : Grouped s h (leader_of old) = grouped_T1 s g (leader_of old) n T.grouped in
    let arrow : h.Arrow p n = (subst (λ v. g.Arrow v n) F.source.2 (T.all F.source.0 n F.source.1 F.own), λ q. absurd (F.other q)) in
    let a : Applies h (T2 n p) = second_applies s g h old n p F G arrow (λ z. z.1 refl refl) in
    ((loop, (a, tt)), second_tracks s h old new n p F M G (λ x y e o y_not. (T.all x y e o, λ q r. y_not r)) a)
merge_applies s g old new false n p F M T is =
    let none : g.Arrow n n → ⊥ = λ z. let i = T.grouped.into n n z in false≢true (is.1 (i.1.0, i.1.1, i.1.2)) in
    let arrow : g.Arrow p n = subst (λ v. g.Arrow v n) F.source.2 (T.all F.source.0 n F.source.1 F.own) in
    let a : Applies g (T2 n p) = second_applies s g g old n p F T.grouped arrow none in
    ((a, tt), second_tracks s g old new n p F M T.grouped (λ x y e o y_not. T.all x y e o) a)

-- merged groups are in order
ordered_merge : (s : List (List ℕ)) (old new : Groups) (n p : ℕ) (g : Graph) → length old.leader.items ≡ length s → AreGroups old → MergeFacts s old n p → Merges old new n p → Grouped s g (leader_of old) → AreOrdered s old → AreOrdered s new
ordered_merge s old new n p g size A F M G O = record { fed = fed; spans = spans }
  where
    L : MergedLeaders (leader_of old) (leader_of new) n p
    L = leaders_merge old new n p F.nonzero M

    inside : (x y : ℕ) → Edge s x y → x < length old.leader.items
    inside x y e = let w = source_within s x y e in omega (arith, size)

    -- a node after another of its group is entered from the group alone
    entered : (x y z : ℕ) → Edge s y x → x < length old.leader.items → place_of old z < place_of old x → leader_of old y ≡ leader_of old x
    entered x y z e within less = ⊎_elim (λ (h : leader_of old y ≡ leader_of old x). h)
        (λ (h : leader_of old y ≢ leader_of old x). let o = G.out y x e h in let first = A.first x (within, o.1) in absurd (omega arith))
        (cases_eq (leader_of old y) (leader_of old x))

    fed : (y : ℕ) → y < length s → leader_of new y ≢ y → (x : ℕ) × Edge s x y × (leader_of new x ≡ leader_of new y) × (place_of new x < place_of new y)
    fed y h ne = ⊎_elim
        (λ (e : leader_of old y ≡ n). ⊎_elim
        (λ (at : y ≡ n).
        let x = F.source.0 in
        let away : leader_of old x ≢ n = λ q. F.other (sym F.source.2 ∙ q) in
        let in' = inside x n F.source.1 in
        let less : place_of old x < length (group_of old p) = subst (λ v. place_of old x < length (group_of old v)) F.source.2 (A.at x in') in
        let kx = M.kept_place x away in
        let ky = M.moved_place y (omega (arith, size)) e in
        (x, subst (λ v. Edge s x v) (sym at) F.source.1, M.kept x away ∙ F.source.2 ∙ sym (L.moved y e), omega (arith, kx, ky, less)))
        (λ (not : y ≢ n).
        let o = O.fed y h (λ q. not (sym q ∙ e)) in
        let ex : leader_of old o.0 ≡ n = o.2 ∙ e in
        let kx = M.moved_place o.0 (inside o.0 y o.1) ex in
        let ky = M.moved_place y (omega (arith, size)) e in
        (o.0, o.1, L.moved o.0 ex ∙ sym (L.moved y e), (let less = o.3 in omega (arith, kx, ky, less))))
        (cases_eq y n))
        (λ (e : leader_of old y ≢ n).
        let o = O.fed y h (λ q. ne (L.kept y e ∙ q)) in
        let ex : leader_of old o.0 ≢ n = λ q. e (sym o.2 ∙ q) in
        let kx = M.kept_place o.0 ex in
        let ky = M.kept_place y e in
        (o.0, o.1, L.kept o.0 ex ∙ o.2 ∙ sym (L.kept y e), (let less = o.3 in omega (arith, kx, ky, less))))
        (cases_eq (leader_of old y) n)

    spans : (w z y x : ℕ) → Edge s w z → Edge s y x → leader_of new w ≡ leader_of new z → leader_of new x ≡ leader_of new z
        → place_of new z ≤ place_of new w → place_of new z < place_of new x → place_of new x ≤ place_of new w → place_of new z ≤ place_of new y
    spans w z y x ewz eyx lw lx a b c = ⊎_elim
        (λ (zn : leader_of old z ≡ n). both_moved zn)
        (λ (zn : leader_of old z ≢ n). ⊎_elim
        (λ (wn : leader_of old w ≡ n). to_leader zn wn)
        (λ (wn : leader_of old w ≢ n). ⊎_elim
        (λ (xn : leader_of old x ≡ n).
        let zp : leader_of old z ≡ p = sym (L.kept z zn) ∙ sym lx ∙ L.moved x xn in
        let wp : leader_of old w ≡ p = sym (L.kept w wn) ∙ lw ∙ L.kept z zn ∙ zp in
        let less = below w wp in
        let kw = M.kept_place w wn in
        let kx = M.moved_place x (in_n x xn) xn in absurd (omega (arith, less, kw, kx)))
        (λ (xn : leader_of old x ≢ n).
        let kw = M.kept_place w wn in
        let kz = M.kept_place z zn in
        let kx = M.kept_place x xn in
        let lw' : leader_of old w ≡ leader_of old z = sym (L.kept w wn) ∙ lw ∙ L.kept z zn in
        let lx' : leader_of old x ≡ leader_of old z = sym (L.kept x xn) ∙ lx ∙ L.kept z zn in
        let less : place_of old z < place_of old x = omega (arith, kz, kx) in
        let ly : leader_of old y ≡ leader_of old x = entered x y z eyx (placed x (omega arith)) less in
        let ky = M.kept_place y (λ q. xn (sym ly ∙ q)) in
        let old_spans : place_of old z ≤ place_of old y = O.spans w z y x ewz eyx lw' lx' (omega (arith, kz, kw)) less (omega (arith, kx, kw)) in
        omega (arith, kz, ky, old_spans))
        (cases_eq (leader_of old x) n))
        (cases_eq (leader_of old w) n))
        (cases_eq (leader_of old z) n)
      where
        in_n : (v : ℕ) → leader_of old v ≡ n → v < length old.leader.items
        in_n v e = ⊎_elim (λ (h : v < length old.leader.items). h) (λ (h : length old.leader.items ≤ v). absurd (F.nonzero (sym e ∙ get_or_past old.leader.items v 0 h))) (cases_lt v (length old.leader.items))

        -- a node with a place above 0 is one of the shape
        placed : (v : ℕ) → 0 < place_of old v → v < length old.leader.items
        placed v above = ⊎_elim (λ (h : v < length old.leader.items). h) (λ (h : length old.leader.items ≤ v). let q : place_of old v ≡ 0 = get_or_past old.place.items v 0 (omega (arith, A.places)) in absurd (omega (arith, q))) (cases_lt v (length old.leader.items))

        p_leads : Leads old p
        p_leads = let x = F.source.0 in subst (λ v. Leads old v) F.source.2 (A.led x (inside x n F.source.1))

        below : (v : ℕ) → leader_of old v ≡ p → place_of old v < length (group_of old p)
        below v e = ⊎_elim
            (λ (h : v < length old.leader.items). subst (λ (u : ℕ). place_of old v < length (group_of old u)) e (A.at v h))
            (λ (h : length old.leader.items ≤ v).
            let q : place_of old v ≡ 0 = get_or_past old.place.items v 0 (omega (arith, A.places)) in
            let r : place_of old p < length (group_of old p) = subst (λ (u : ℕ). place_of old p < length (group_of old u)) p_leads.1 (A.at p p_leads.0) in omega (arith, q, r))
            (cases_lt v (length old.leader.items))

        both_moved : leader_of old z ≡ n → place_of new z ≤ place_of new y
        both_moved zn =
            let kz = M.moved_place z (in_n z zn) zn in
            let leader_z : leader_of new z ≡ p = L.moved z zn in
            let wn : leader_of old w ≡ n = ⊎_elim (λ (h : leader_of old w ≡ n). h)
            (λ (h : leader_of old w ≢ n). let less = below w (sym (L.kept w h) ∙ lw ∙ leader_z) in let kw = M.kept_place w h in absurd (omega (arith, less, kw, kz)))
            (cases_eq (leader_of old w) n) in
            let xn : leader_of old x ≡ n = ⊎_elim (λ (h : leader_of old x ≡ n). h)
            (λ (h : leader_of old x ≢ n). let less = below x (sym (L.kept x h) ∙ lx ∙ leader_z) in let kx = M.kept_place x h in absurd (omega (arith, less, kx, kz)))
            (cases_eq (leader_of old x) n) in
            let kw = M.moved_place w (in_n w wn) wn in
            let kx = M.moved_place x (in_n x xn) xn in
            let less : place_of old z < place_of old x = omega (arith, kz, kx) in
            let ly : leader_of old y ≡ leader_of old x = entered x y z eyx (in_n x xn) less in
            let yn : leader_of old y ≡ n = ly ∙ xn in
            let ky = M.moved_place y (in_n y yn) yn in
            let old_spans : place_of old z ≤ place_of old y = O.spans w z y x ewz eyx (wn ∙ sym zn) (xn ∙ sym zn) (omega (arith, kz, kw)) less (omega (arith, kx, kw)) in
            omega (arith, kz, ky, old_spans)

        to_leader : leader_of old z ≢ n → leader_of old w ≡ n → place_of new z ≤ place_of new y
        to_leader zn wn =
            let zp : leader_of old z ≡ p = sym (L.kept z zn) ∙ sym lw ∙ L.moved w wn in
            let own : leader_of old z ≡ z = (G.out w z ewz (λ q. zn (sym q ∙ wn))).1 in
            let first : place_of old z ≡ 0 = ap (place_of old) (sym own ∙ zp) ∙ A.first p p_leads in
            let kz = M.kept_place z zn in omega (arith, first, kz)

-- a merge of a reduction
pub reduced_merge : (s sources : List (List ℕ)) (old new : Reduction) (own : Bool) (n p : ℕ) → IsReversed s sources → AreGroups old.groups → Leads old.groups n → n ≢ 0 → IsOnlySource old.groups (targets sources n) n p
    → ((own ≡ true) ↔ ((x : ℕ) × Contains (targets sources n) x × (leader_of old.groups x ≡ n))) → new.steps.items ≡ old.steps.items ++ merge_steps own n p
    → Merges old.groups new.groups n p → Reduced s old → Reduced s new
reduced_merge s sources old new own n p rev A ln nz only is steps M R =
    record {
      applies = subst (λ (ts : List TStep). AllApply (graph_of s) ts) (sym steps) (apply_append (graph_of s) old.steps.items (merge_steps own n p) R.applies both.0);
      tracks = subst (λ (ts : List TStep). Tracks s (after_all (graph_of s) ts) (leader_of new.groups)) (sym steps) (after_append (λ (g : Graph). Tracks s g (leader_of new.groups)) (graph_of s) old.steps.items (merge_steps own n p) both.1);
      size = M.leaders ∙ R.size;
      entry = M.kept 0 (λ e. nz (sym e ∙ R.entry)) ∙ R.entry;
      ordered = ordered_merge s old.groups new.groups n p (after_all (graph_of s) old.steps.items) R.size A F M R.tracks.grouped R.ordered;
    }
  where
    F : MergeFacts s old.groups n p
    F = record {
      own = ln.1;
      into = let q = only.source in let within : q.0 < length old.groups.leader.items = (let w = source_within s q.0 n ((rev.edges q.0 n).0 q.1) in omega (arith, w, R.size)) in subst (λ v. leader_of old.groups v ≡ v) q.2 (A.led q.0 within).1;
      nonzero = nz;
      other = only.other;
      source = (only.source.0, (rev.edges only.source.0 n).0 only.source.1, only.source.2);
      only = λ x e. only.only x ((rev.edges x n).1 e);
    }

    both : AllApply (after_all (graph_of s) old.steps.items) (merge_steps own n p) × Tracks s (after_all (after_all (graph_of s) old.steps.items) (merge_steps own n p)) (leader_of new.groups)
    both = merge_applies s (after_all (graph_of s) old.steps.items) old.groups new.groups own n p F M R.tracks
        ((λ h. let q = is.0 h in (q.0, (rev.edges q.0 n).0 q.1, q.2)), (λ q. is.1 (q.0, (rev.edges q.0 n).1 q.1, q.2)))
