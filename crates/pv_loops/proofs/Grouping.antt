-- Confluence: a shape that some steps reduce to one node has no stuck steps.
use Rattle.std.proofs.Common.{◌≡◌, ◌≢◌, ℕ, ◌<◌, ◌≤◌, List, [], ◌∷◌, length, ◌⊎◌, inl, inr, ⊎_elim, refl, sym, ◌∙◌, ap, subst, eqb, cond, arith, get_or, eq-eqb, ne_eqb}
use Rattle.pv_loops.proofs.Words.{cases_eq, cases_lt, get_or_past, TStep, T1, T2, Edge, Graph, graph_of, Applies, after, AllApply, after_all, IsStuck, ReduceToOne, IsReducible, Grouped}

-- the source of an edge is a node
pub source_within : (s : List (List ℕ)) (x y : ℕ) → Edge s x y → x < length s
source_within s x y e = ⊎_elim (λ h. h) (λ (past : length s ≤ x). absurd (no_edge past)) (cases_lt x (length s))
  where
    no_edge : length s ≤ x → ⊥
    no_edge past = let k : e.0 < length (get_or s x []) = e.1 in let none : get_or s x [] ≡ [] = get_or_past s x [] past in let q : e.0 < 0 = subst (λ (l : List ℕ). e.0 < length l) none k in omega arith

-- the leaders after n is merged into p
pub record MergedLeaders (leader after : ℕ → ℕ) (n p : ℕ) : Type 0 where
  pub moved : (x : ℕ) → leader x ≡ n → after x ≡ p
  pub kept : (x : ℕ) → leader x ≢ n → after x ≡ leader x

pub grouped_start : (s : List (List ℕ)) → Grouped s (graph_of s) (λ x. x)
grouped_start s = record {
  within = λ a h. h;
  own = λ a _. refl;
  led = λ x h. h;
  out = λ x y e _. (e, refl);
  into = λ a b e. (refl, (a, e, refl));
}

pub grouped_T1 : (s : List (List ℕ)) (g : Graph) (leader : ℕ → ℕ) (n : ℕ) → Grouped s g leader → Grouped s (after g (T1 n)) leader
grouped_T1 s g leader n G = record {
  within = G.within;
  own = G.own;
  led = G.led;
  out = λ x y e ne. let o = G.out x y e ne in ((o.0, λ p q. ne (p ∙ sym q ∙ sym o.1)), o.1);
  into = λ a b e. G.into a b e.0;
}

pub grouped_T2 : (s : List (List ℕ)) (g : Graph) (leader leader' : ℕ → ℕ) (n p : ℕ) → Grouped s g leader → MergedLeaders leader leader' n p → Applies g (T2 n p) → Grouped s (after g (T2 n p)) leader'
grouped_T2 s g leader leader' n p G M (nonzero, other, arrow, only) = record {
  within = λ a h. G.within a h.0;
  own = λ a h. M.kept a (λ e. h.1 (sym (G.own a h.0) ∙ e)) ∙ G.own a h.0;
  led = λ x h. ⊎_elim
      (λ (e : leader x ≡ n). subst (λ (v : ℕ). g.Node v × (v ≢ n)) (sym (M.moved x e)) (pred_node, other))
      (λ (e : leader x ≢ n). subst (λ (v : ℕ). g.Node v × (v ≢ n)) (sym (M.kept x e)) (G.led x h, e))
      (cases_eq (leader x) n);
  out = λ x y e ne. ⊎_elim
      (λ (ly : leader y ≡ n). absurd (ne (moved_both x y e ly)))
      (λ (ly : leader y ≢ n). out_kept x y e ne ly (cases_eq (leader x) n))
      (cases_eq (leader y) n);
  into = λ a b h. ⊎_elim
      (λ (e : g.Arrow a b). let i = G.into a b e in (M.kept b (λ q. h.1 (sym i.0 ∙ q)) ∙ i.0, (i.1.0, i.1.1, M.kept i.1.0 (λ q. h.0 (sym i.1.2 ∙ q)) ∙ i.1.2)))
      (λ (e : (a ≡ p) × g.Arrow n b). let i = G.into n b e.1 in (M.kept b (λ q. h.1 (sym i.0 ∙ q)) ∙ i.0, (i.1.0, i.1.1, M.moved i.1.0 i.1.2 ∙ sym e.0)))
      h.2;
}
  where
    pred_node : g.Node p
    pred_node = let i = G.into p n arrow in subst (λ (v : ℕ). g.Node v) i.1.2 (G.led i.1.0 (source_within s i.1.0 n i.1.1))

    -- an edge into the group of n comes from it or from the group of p
    moved_both : (x y : ℕ) → Edge s x y → leader y ≡ n → leader' x ≡ leader' y
    moved_both x y e ly = ⊎_elim
        (λ (lx : leader x ≡ n). M.moved x lx ∙ sym (M.moved y ly))
        (λ (lx : leader x ≢ n). let o = G.out x y e (λ q. lx (q ∙ ly)) in
        let at_p : leader x ≡ p = only (leader x) (subst (λ (v : ℕ). g.Arrow (leader x) v) (sym o.1 ∙ ly) o.0) in M.kept x lx ∙ at_p ∙ sym (M.moved y ly))
        (cases_eq (leader x) n)

    out_kept : (x y : ℕ) → Edge s x y → leader' x ≢ leader' y → leader y ≢ n → (leader x ≡ n) ⊎ (leader x ≡ n → ⊥) → (after g (T2 n p)).Arrow (leader' x) y × (leader' y ≡ y)
    out_kept x y e ne ly (inl lx) =
        let o = G.out x y e (λ q. ly (sym q ∙ lx)) in
        let y_not : y ≢ n = λ q. ly (o.1 ∙ q) in
        (((λ q. other (sym (M.moved x lx) ∙ q)), y_not, inr (M.moved x lx, subst (λ (v : ℕ). g.Arrow v y) lx o.0)), M.kept y ly ∙ o.1)
    out_kept x y e ne ly (inr lx) =
        let o = G.out x y e (λ q. ne (M.kept x lx ∙ q ∙ sym (M.kept y ly))) in
        let y_not : y ≢ n = λ q. ly (o.1 ∙ q) in
        (((λ q. lx (sym (M.kept x lx) ∙ q)), y_not, inl (subst (λ (v : ℕ). g.Arrow v y) (sym (M.kept x lx)) o.0)), M.kept y ly ∙ o.1)

-- the leaders after steps
abbrev pub leaders_after : (ℕ → ℕ) → TStep → ℕ → ℕ
leaders_after leader (T1 n) = leader
leaders_after leader (T2 n p) = λ x. cond (eqb (leader x) n) p (leader x)

abbrev pub all_leaders : (ℕ → ℕ) → List TStep → ℕ → ℕ
all_leaders leader [] = leader
all_leaders leader (t ∷ ts) = all_leaders (leaders_after leader t) ts

pub merged_by : (leader : ℕ → ℕ) (n p : ℕ) → MergedLeaders leader (leaders_after leader (T2 n p)) n p
merged_by leader n p = record {
  moved = λ x e. ap (λ b. cond b p (leader x)) (eq-eqb (leader x) n e);
  kept = λ x e. ap (λ b. cond b p (leader x)) (ne_eqb (leader x) n e);
}

pub grouped_step : (s : List (List ℕ)) (g : Graph) (leader : ℕ → ℕ) (t : TStep) → Grouped s g leader → Applies g t → Grouped s (after g t) (leaders_after leader t)
grouped_step s g leader (T1 n) G a = grouped_T1 s g leader n G
grouped_step s g leader (T2 n p) G a = grouped_T2 s g leader _ n p G (merged_by leader n p) a

pub grouped_all : (s : List (List ℕ)) (g : Graph) (leader : ℕ → ℕ) (ts : List TStep) → Grouped s g leader → AllApply g ts → Grouped s (after_all g ts) (all_leaders leader ts)
grouped_all s g leader [] G a = G
grouped_all s g leader (t ∷ ts) G a = grouped_all s (after g t) (leaders_after leader t) ts (grouped_step s g leader t G a.0) a.1

-- where no step applies to u, a step from g merges only what is one group in u
stuck_has : (s : List (List ℕ)) (u g : Graph) (over leader : ℕ → ℕ) (n p : ℕ) → Grouped s u over → ((t : TStep) → Applies u t → ⊥) → Grouped s g leader → ((x : ℕ) → over (leader x) ≡ over x)
    → Applies g (T2 n p) → over p ≡ over n
stuck_has s u g over leader n p U ends G along (nonzero, other, arrow, only) = ⊎_elim (λ (h : over p ≡ over n). h) (λ (h : over p ≢ over n). absurd (apart h)) (cases_eq (over p) (over n))
  where
    apart : over p ≢ over n → ⊥
    apart ne =
        let i = G.into p n arrow in
        let x : ℕ = i.1.0 in
        let at_x : over x ≡ over p = sym (along x) ∙ ap over i.1.2 in
        let o = U.out x n i.1.1 (λ q. ne (sym at_x ∙ q)) in
        let arrow' : u.Arrow (over p) n = subst (λ (v : ℕ). u.Arrow v n) at_x o.0 in
        ends (T2 n (over p)) (nonzero, (λ q. ne (q ∙ sym o.1)), arrow', λ q a. sole o.1 q a)
      where
        sole : over n ≡ n → (q : ℕ) → u.Arrow q n → q ≡ over p
        sole own q a = let j = U.into q n a in ⊎_elim
            (λ (e : leader j.1.0 ≡ n).
            let at_n : q ≡ n = sym j.1.2 ∙ sym (along j.1.0) ∙ ap over e ∙ own in
            absurd (ends (T1 n) (subst (λ (v : ℕ). u.Arrow v n) at_n a)))
            (λ (e : leader j.1.0 ≢ n).
            let k = G.out j.1.0 n j.1.1 (λ r. e (r ∙ (G.into p n arrow).0)) in
            sym j.1.2 ∙ sym (along j.1.0) ∙ ap over (only (leader j.1.0) k.0))
            (cases_eq (leader j.1.0) n)

-- so steps from g that lead to one node would leave one group in u
one_group : (s : List (List ℕ)) (u g : Graph) (over leader : ℕ → ℕ) (ts : List TStep) → Grouped s u over → IsStuck u → Grouped s g leader → ((x : ℕ) → over (leader x) ≡ over x)
    → AllApply g ts → ((a : ℕ) → (after_all g ts).Node a → a ≡ 0) → ⊥
one_group s u g over leader [] U stuck G along a one =
    let at : (x : ℕ) → u.Node x → x ≡ over 0 = λ x h. sym (U.own x h) ∙ sym (along x) ∙ ap over (one (leader x) (G.led x (U.within x h))) in
    stuck.nodes.4 (at stuck.nodes.0 stuck.nodes.2 ∙ sym (at stuck.nodes.1 stuck.nodes.3))
one_group s u g over leader (T1 n ∷ ts) U stuck G along a one = one_group s u (after g (T1 n)) over leader ts U stuck (grouped_T1 s g leader n G) along a.1 one
one_group s u g over leader (T2 n p ∷ ts) U stuck G along a one =
    one_group s u (after g (T2 n p)) over (leaders_after leader (T2 n p)) ts U stuck (grouped_step s g leader (T2 n p) G a.0) along' a.1 one
  where
    along' : (x : ℕ) → over (leaders_after leader (T2 n p) x) ≡ over x
    along' x = let M = merged_by leader n p in ⊎_elim
        (λ (e : leader x ≡ n). ap over (M.moved x e) ∙ stuck_has s u g over leader n p U stuck.ends G along a.0 ∙ ap over (sym e) ∙ along x)
        (λ (e : leader x ≢ n). ap over (M.kept x e) ∙ along x)
        (cases_eq (leader x) n)

-- a shape that some steps reduce to one node is reducible
pub one_reducible : (s : List (List ℕ)) (ts : List TStep) → ReduceToOne s ts → IsReducible s
one_reducible s ts one us stuck =
    one_group s (after_all (graph_of s) us) (graph_of s) (all_leaders (λ x. x) us) (λ x. x) ts (grouped_all s (graph_of s) (λ x. x) us (grouped_start s) stuck.0) stuck.1 (grouped_start s) (λ x. refl) one.0 one.1
