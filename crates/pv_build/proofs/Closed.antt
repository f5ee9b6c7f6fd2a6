-- What is made of a method, where a loop is closed.
use Rattle.std.proofs.Common.{◌≡◌, ◌≢◌, ℕ, ◌<◌, ◌≤◌, false, List, [], ◌∷◌, length, Some, slice_get, ◌⊎◌, inl, inr, ⊎_elim, refl, sym, ap, ◌∙◌, subst, arith}
use Rattle.pv_build.proofs.Words.{Vec, Contains, Global, cases_lt, cases_eq, slice_get_within, same_Some, Loop, T, Node, node_of, In, Graph, IsOpenTheta, Values, AreEquations, never_exp, named, Reads, has_depth, IsOfSort, depths, IsUnfinishedName, IsTiedName, same_kids, names_stand, Given, Method, Made, Theta, Opened, Closed, Stage, number, IsMethod, flow_in, loops_at, loops_around, IsThetaOf, IsOpened, IsClosed, IsAt, IsStage, HasRun, IsGivenFor, closing_of, MayTieAll, AreTied, AllHaveRun, IsOpenAt}
use Rattle.pv_graph.specs.declared.node.Op.TheVariants as op
use Rattle.pv_decide.specs.declared.tree.Target.TheVariants as target
use Rattle.pv_build.specs.declared.method.Stage.TheVariants as stage
use Rattle.pv_build.proofs.Persisting.{Persists, sort_on, stands_on, tied_on, opened_on, closed_on, done_on}
use Rattle.pv_layout.proofs.Cited.{one_loop}
use Rattle.pv_build.proofs.Looped.{outer_other, outer_less}
use Rattle.pv_build.proofs.Around.{solution, loops_own}
use Rattle.pv_build.proofs.Ties.{base_tied}

module _ (m : Method) (is : IsMethod m) (old : Graph) (made : Made) (i : ℕ) (l : Loop) (there : slice_get m.forest.now.loops.items i ≡ Some l) (stage_is : IsStage m old made (loops_at m (Some i))) (o : Opened) (at : IsOpenAt made i o) where
  opened_is : IsOpened m old made.names l.header o
  opened_is = (stage_is.loops i l (stage.Open o) there at).1

  pub base_after : made.start ≤ o.base
  base_after = (stage_is.loops i l (stage.Open o) there at).2

  pub may_tie_all : (again : Given) (never : ℕ) → IsGivenFor m old made.names (Some i) target.Back again → Reads old.nodes made.names never never_exp → IsOfSort old never T → MayTieAll (closing_of m made i l o) old again never o.thetas.items
  may_tie_all again never given reads sorted = record {
    is = is;
    loop_ = l;
    there = there;
    header = refl;
    well = stage_is.well;
    open_ = stage_is.open_;
    names = stage_is.names;
    gives = given;
    never_reads = reads;
    never_sort = sorted;
    has_base = opened_is.has_base;
    each = opened_is.thetas;
    once = opened_is.once;
  }

  module _ (again : Given) (never : ℕ) (may : MayTieAll (closing_of m made i l o) old again never o.thetas.items) (g : Graph) (tied : AreTied (closing_of m made i l o) old o.thetas.items (length o.thetas.items) g) where
    p : Persists old g
    p = record { stand = tied.stand; sorts = tied.sorts }

    -- what was said of the token stays
    pub closed_enters : (v : Values) → AreEquations (flow_in m) v → Reads g.nodes made.names o.token (v.entering l.header 0)
    closed_enters v eqs = stands_on old g p made.names made.names (λ a s n i. i) m o.token (λ v. v.entering l.header 0) opened_is.enters v eqs

    pub closed_token : IsOfSort g o.token T
    closed_token = sort_on old g p o.token T opened_is.token

    -- ---- names of this loop, and of others

    tied_name : (s n : ℕ) → In made.names (named l.header s n) → (v : Values) → AreEquations (flow_in m) v → IsTiedName (flow_in m) v g.nodes made.names l.header s n
    tied_name s n in_ v eqs =
        let x = opened_is.all s n in_ in
        let t = tied.tied x.0 x.1 (slice_get_within o.thetas.items x.0 x.1 x.2) x.2 v eqs in
        subst (λ (k : ℕ). IsTiedName (flow_in m) v g.nodes made.names l.header s k) x.4 (subst (λ (r : ℕ). IsTiedName (flow_in m) v g.nodes made.names l.header r x.1.node) x.3 t)

    other_same : (k s n : ℕ) (x : Node) → k ≢ l.header → In made.names (named k s n) → slice_get old.nodes n ≡ Some x → slice_get g.nodes n ≡ Some x
    other_same k s n x ne in_ at_n = tied.same n x at_n (λ j y less at_j e.
        let own = (opened_is.thetas j y at_j).is in
        let same = stage_is.names.one_name l.header (number y.slot) k s n (subst (λ (r : ℕ). In made.names (named l.header (number y.slot) r)) e own) in_ in
        ne (sym same.0))

    rest : (k : ℕ) → In (loops_at m (Some i)) k → k ≢ l.header → In (loops_at m l.parent) k
    rest k in_ ne = ⊎_elim (λ e. absurd (ne (sym e))) (λ r. r) (subst (λ (A : List ℕ). In A k) (loops_own m is i l there) in_)

    all_ : (k : ℕ) → In (loops_at m l.parent) k → In (loops_at m (Some i)) k
    all_ k in_ = let r : In (l.header ∷ loops_at m l.parent) k = inr in_ in subst (λ (A : List ℕ). In A k) (sym (loops_own m is i l there)) r

    -- ---- open thetas

    no_kids : (s n e : ℕ) → In made.names (named l.header s n) → slice_get g.nodes n ≡ Some (node_of (op.Theta e) []) → ⊥
    no_kids s n e in_ at_n =
        let v = solution m is in
        let t = tied_name s n in_ v.0 v.1 in
        absurd (let z = same_kids g.nodes n (op.Theta (depths (flow_in m) l.header)) (op.Theta e) (t.first ∷ t.second ∷ []) [] t.theta_ at_n in cc)

    abbrev Left : ℕ → Type 0
    Left n = (n < made.start) ⊎ ((h : ℕ) × (s : ℕ) × In made.names (named h s n) × In (loops_at m l.parent) h)

    left_old : (n e : ℕ) → slice_get g.nodes n ≡ Some (node_of (op.Theta e) []) → (n < made.start) ⊎ ((h : ℕ) × (s : ℕ) × In made.names (named h s n) × In (loops_at m (Some i)) h) → Left n
    left_old n e at_n (inl low) = inl low
    left_old n e at_n (inr (h, s, in_, open_)) = elim (cases_eq h l.header) [
      | inl same ↦ absurd (no_kids s n e (subst (λ (k : ℕ). In made.names (named k s n)) same in_) at_n)
      | inr ne ↦ inr (h, s, in_, rest h open_ ne)
    ]

    left_now : (n : ℕ) → IsOpenTheta g n → Left n
    left_now n (e, at_n) = elim (tied.each n (node_of (op.Theta e) []) at_n) [
      | inl before ↦ left_old n e at_n (stage_is.left n (e, before))
      | inr q ↦ elim q [
        | inl flat ↦ absurd (let z : has_depth (op.Theta e) ≡ false = flat in cc)
        | inr t ↦ absurd (let z : [] ≡ t.0 ∷ t.1 ∷ [] = ap (λ (y : Node). y.kids) t.2 in cc)
      ]
    ]

    each_now : (k s n : ℕ) → In made.names (named k s n)
        → (In (loops_at m l.parent) k × IsUnfinishedName (flow_in m) g.nodes k n) ⊎ ((v : Values) → AreEquations (flow_in m) v → IsTiedName (flow_in m) v g.nodes made.names k s n)
    each_now k s n in_ = elim (cases_eq k l.header) [
      | inl same ↦ inr (λ v eqs. subst (λ (h : ℕ). IsTiedName (flow_in m) v g.nodes made.names h s n) (sym same) (tied_name s n (subst (λ (h : ℕ). In made.names (named h s n)) same in_) v eqs))
      | inr ne ↦ ⊎_elim
          (λ open_. inl (rest k open_.0 ne, other_same k s n _ ne in_ open_.1))
          (λ t. inr (λ v eqs. tied_on old g p made.names made.names (λ a s n i. i) (flow_in m) v k s n (λ x. other_same k s n x ne in_) (t v eqs)))
          (stage_is.each_name k s n in_)
    ]

    -- ---- other loops

    -- an outer loop was begun before this one
    base_le : (k : ℕ) (q : Opened) → In (loops_at m l.parent) k → IsOpened m old made.names k q → q.base ≤ o.base
    base_le k q in_ other = ⊎_elim
        (λ (low : x.node < o.base). let high = t.after in omega (arith, low, high))
        (λ (ge : o.base ≤ x.node).
        let inside = (opened_is.has_base.inside x.node _ t.untied ge (depths (flow_in m) k)).0 refl in
        let less = outer_less m is i l there k in_ in
        absurd (omega (arith, inside, less)))
        (cases_lt x.node o.base)
      where
        x : Theta
        x = other.some.1

        t : IsThetaOf m old made.names k q.base x
        t = other.thetas other.some.0 other.some.1 other.some.2

    opened_kept : (k : ℕ) (q : Opened) → k ≢ l.header → In (loops_at m l.parent) k → IsOpened m old made.names k q → IsOpened m g made.names k q
    opened_kept k q ne in_ other =
        opened_on old g p made.names made.names (λ a s n i. i) m k (λ s n x. other_same k s n x ne) (λ s n name. name) q
        (base_tied (closing_of m made i l o) old again never o.thetas.items may (length o.thetas.items) g tied q.base (depths (flow_in m) k) (base_le k q in_ other) (let less = outer_less m is i l there k in_ in omega (arith, less))) other

    at_kept : (k : ℕ) (st : Stage) → k ≢ l.header → IsAt m old made (loops_at m (Some i)) k st → IsAt m g made (loops_at m l.parent) k st
    at_kept k stage.Ahead ne a = a
    at_kept k (stage.Open q) ne a = let in_ = rest k a.0 ne in (in_, opened_kept k q ne in_ a.1, a.2)
    at_kept k (stage.Closed c) ne a = (closed_on old g p made.names made.names (λ a s n i. i) m k c a.0, a.1)

    -- ---- the loop is closed

    module _ (c : Closed) (closed : IsClosed m g made.names l.header c) (run : AllHaveRun m made i) (loops : Vec Stage Global) (here : slice_get loops.items i ≡ Some (stage.Closed c))
        (others : (j : ℕ) → j ≢ i → slice_get loops.items j ≡ slice_get made.loops.items j) (size : length loops.items ≡ length made.loops.items) where
      abbrev new : Made
      new = record { start = made.start; names = made.names; blocks = made.blocks; loops = loops }

      apart_of : (j : ℕ) (k : Loop) → slice_get m.forest.now.loops.items j ≡ Some k → j ≢ i → k.header ≢ l.header
      apart_of j k at_k ne e = ne (one_loop m.typed.now.program m.typed.now.frames m.flow.now.blocks m.forest.now is.routine j i k l at_k there e)

      loop_now : (j : ℕ) (k : Loop) (st : Stage) → slice_get m.forest.now.loops.items j ≡ Some k → slice_get loops.items j ≡ Some st → IsAt m g new (loops_at m l.parent) k.header st
      loop_now j k st at_k at_st = elim (cases_eq j i) [
        | inl same ↦
            let loop_same : l ≡ k = same_Some l k (sym there ∙ ap (slice_get m.forest.now.loops.items) (sym same) ∙ at_k) in
            let stage_same : stage.Closed c ≡ st = same_Some (stage.Closed c) st (sym here ∙ ap (slice_get loops.items) (sym same) ∙ at_st) in
            let is_closed : IsAt m g new (loops_at m l.parent) l.header (stage.Closed c) = (closed, λ b low around. run l b there low around) in
            subst (λ (z : Loop). IsAt m g new (loops_at m l.parent) z.header st) loop_same (subst (λ (z : Stage). IsAt m g new (loops_at m l.parent) l.header z) stage_same is_closed)
        | inr ne ↦ at_new k.header st (at_kept k.header st (apart_of j k at_k ne) (stage_is.loops j k st at_k (sym (others j ne) ∙ at_st)))
      ]
        where
          at_new : (h : ℕ) (st : Stage) → IsAt m g made (loops_at m l.parent) h st → IsAt m g new (loops_at m l.parent) h st
          at_new h stage.Ahead a = a
          at_new h (stage.Open q) a = a
          at_new h (stage.Closed q) a = a

      opens_now : (j : ℕ) (k : Loop) → slice_get m.forest.now.loops.items j ≡ Some k → In (loops_at m l.parent) k.header → (q : Opened) × (slice_get loops.items j ≡ Some (stage.Open q))
      opens_now j k at_k in_ =
          let was = stage_is.opens j k at_k (all_ k.header in_) in
          let ne : j ≢ i = (λ e. outer_other m is i l there k.header in_ (ap (λ (z : Loop). z.header) (same_Some k l (sym at_k ∙ ap (slice_get m.forest.now.loops.items) e ∙ there)))) in
          (was.0, others j ne ∙ was.1)

      passed_now : (b j : ℕ) (k : Loop) → HasRun new b → slice_get m.forest.now.loops.items j ≡ Some k → Contains (loops_around m b) k.header
          → In (loops_at m l.parent) k.header ⊎ ((q : Closed) × (slice_get loops.items j ≡ Some (stage.Closed q)))
      passed_now b j k run_b at_k among = elim (stage_is.passed b j k run_b at_k among) [
        | inl in_ ↦ elim (cases_eq k.header l.header) [
          | inl same ↦
              let e : j ≡ i = one_loop m.typed.now.program m.typed.now.frames m.flow.now.blocks m.forest.now is.routine j i k l at_k there same in
              inr (c, ap (slice_get loops.items) e ∙ here)
          | inr ne ↦ inl (rest k.header in_ ne)
        ]
        | inr was ↦
            let ne : j ≢ i = (λ e. absurd (let z : Some (stage.Closed was.0) ≡ Some (stage.Open o) = sym was.1 ∙ ap (slice_get made.loops.items) e ∙ at in cc)) in
            inr (was.0, others j ne ∙ was.1)
      ]

      -- WHAT IS MADE, WITHOUT THE LOOP AMONG THE OPEN ONES
      pub stage_closed : IsStage m g new (loops_at m l.parent)
      stage_closed = record {
        well = tied.well;
        open_ = tied.open_ ∙ stage_is.open_;
        low = let z = tied.long in let w = stage_is.low in omega (arith, z, w);
        left = left_now;
        names = names_stand (depths (flow_in m)) old.nodes g.nodes made.names tied.stand stage_is.names;
        later = stage_is.later;
        each_name = each_now;
        blocks_size = stage_is.blocks_size;
        blocks = λ b ran at_b. done_on old g p m made.names made.names (λ a s n i. i) b ran (stage_is.blocks b ran at_b);
        loops_size = size ∙ stage_is.loops_size;
        loops = loop_now;
        opens = opens_now;
        passed = passed_now;
      }
