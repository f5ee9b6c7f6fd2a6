-- The rounds that find the counted nodes.
use Rattle.std.specs.Prelude.{◌≡◌, ◌⊎◌, ◌<◌, ◌≤◌, ◌+◌, ℕ, zero, suc, Bool, true, false, ◌&&◌, cond, List, [], ◌∷◌, ◌++◌, length, map, Some, slice_get, slice_index_or, refl}
use Rattle.std.specs.List.{filter}
use Rattle.std.proofs.Common.{inl, inr, sym, ap, arith, ◌∙◌, subst}
use Rattle.std.proofs.lemmas.Option.{slice_get_within, slice_get-get_or}
use Rattle.pv_graph.specs.declared.node.Node.{Node}
use Rattle.pv_graph.specs.declared.node.Op.TheVariants as op
use Rattle.pv_graph.specs.Walks.{In, IsSettled}
use Rattle.pv_graph.specs.Graphs.{Graph, form_at}
use Rattle.pv_graph.specs.Calls.{AreSettledMarks}
use Rattle.pv_graph.proofs.Cited.{in_cases, in_front, in_last, node_at, push_cases}
use Rattle.pv_counted.specs.declared.loops.Loop.{Loop}
use Rattle.pv_counted.specs.Counted.{CountsUp, AreCounted, IsAscending}
use Rattle.pv_counted.specs.Laws.{IsNext}
use Rattle.pv_counted.specs.Rounds.{pass_of, loop_over, is_ready, AreLoops, IsRound, IsFound}
use Rattle.pv_counted.proofs.Ascending.{all_within, in_place, place_in}
use Rattle.pv_counted.proofs.Least.{counted_least, next_counted, settled_more}

-- ---- the list of loops

pub loops_none : (nodes : List Node) → AreLoops nodes 0 []
loops_none nodes = record { each = λ p s b. (λ m. absurd m, λ h. absurd (omega (arith, h.0))); within = λ l m. absurd m; ordered = λ i j l m lt e f. absurd (cc) }

less_or_here : (p n : ℕ) → p < n + 1 → (p < n) ⊎ (p ≡ n)
less_or_here p n lt = grind arith

-- node n is the pass of no such loop
pub loops_same : (nodes : List Node) (n : ℕ) (loops : List Loop) → ((s b : ℕ) → CountsUp (form_at nodes) n s b → ⊥) → AreLoops nodes n loops → AreLoops nodes (n + 1) loops
loops_same nodes n loops none is = record {
  each = λ p s b. (
    λ m. let h = (is.each p s b).0 m in (omega (arith, h.0), h.1),
    λ h. elim (less_or_here p n h.0) [ inl lt ↦ (is.each p s b).1 (lt, h.1) | inr e ↦ absurd (none s b (subst (λ (q : ℕ). CountsUp (form_at nodes) q s b) e h.1)) ],
  );
  within = is.within;
  ordered = is.ordered;
}

-- node n is the pass of one such loop alone
module _ (nodes : List Node) (n : ℕ) (loops : List Loop) (l : Loop) (at : l.pass ≡ n) (up : CountsUp (form_at nodes) n l.start l.bound) (once : (s b : ℕ) → CountsUp (form_at nodes) n s b → (l.start ≡ s) × (l.bound ≡ b)) (low : (l.start < length nodes) × (l.bound < length nodes)) (is : AreLoops nodes n loops) where
  here : (p s b : ℕ) → l ≡ loop_over p s b → (p < n + 1) × CountsUp (form_at nodes) p s b
  here p s b e =
      let pass : n ≡ p = sym at ∙ ap (λ (m : Loop). m.pass) e in
      let start : l.start ≡ s = ap (λ (m : Loop). m.start) e in
      let bound : l.bound ≡ b = ap (λ (m : Loop). m.bound) e in
      (omega (arith, pass), subst (λ (q : ℕ). CountsUp (form_at nodes) q s b) pass (subst (λ (q : ℕ). CountsUp (form_at nodes) n q b) start (subst (λ (q : ℕ). CountsUp (form_at nodes) n l.start q) bound up)))

  that : (p s b : ℕ) → p ≡ n → CountsUp (form_at nodes) p s b → l ≡ loop_over p s b
  that p s b e h =
      let same = once s b (subst (λ (q : ℕ). CountsUp (form_at nodes) q s b) e h) in
      let pass : l.pass ≡ p = at ∙ sym e in
      rw (sym pass, sym same.0, sym same.1) refl

  pub loops_more : AreLoops nodes (n + 1) (loops ++ l ∷ [])
  loops_more = record {
    each = λ p s b. (
      λ m. elim (in_cases loops l (loop_over p s b) m) [ inl old ↦ (let h = (is.each p s b).0 old in (omega (arith, h.0), h.1)) | inr new ↦ here p s b new ],
      λ h. elim (less_or_here p n h.0) [ inl lt ↦ in_front loops l (loop_over p s b) ((is.each p s b).1 (lt, h.1)) | inr e ↦ subst (λ (m : Loop). In (loops ++ l ∷ []) m) (that p s b e h.1) (in_last loops l) ],
    );
    within = λ k m. elim (in_cases loops l k m) [ inl old ↦ is.within k old | inr new ↦ subst (λ (q : Loop). (q.start < length nodes) × (q.bound < length nodes)) new low ];
    ordered = λ i j m k lt e f. by i j m k lt (push_cases loops l m i e) (push_cases loops l k j f);
  }
    where
      before : (i : ℕ) (m : Loop) → slice_get loops i ≡ Some m → m.pass < n
      before i m e = ((is.each m.pass m.start m.bound).0 (in_place loops m i e)).0

      by : (i j : ℕ) (m k : Loop) → i < j → (slice_get loops i ≡ Some m) ⊎ ((i ≡ length loops) × (l ≡ m)) → (slice_get loops j ≡ Some k) ⊎ ((j ≡ length loops) × (l ≡ k)) → m.pass < k.pass
      by i j m k lt (inl e) (inl f) = is.ordered i j m k lt e f
      by i j m k lt (inl e) (inr f) = let z = before i m e in let pass : n ≡ k.pass = sym at ∙ ap (λ (q : Loop). q.pass) f.1 in omega (arith, z, pass)
      by i j m k lt (inr e) (inl f) = absurd (let z = slice_get_within loops j k f in omega (arith, z, e.0, lt))
      by i j m k lt (inr e) (inr f) = absurd (omega (arith, e.0, f.0, lt))

-- ---- the loops that are ready

in_ready : (f : Loop → Bool) (loops : List Loop) (p : ℕ) → In (map pass_of (filter f loops)) p → (l : Loop) × In loops l × (f l ≡ true) × (l.pass ≡ p)
in_ready f [] p m = absurd m
in_ready f (l ∷ loops) p m = by (f l) refl m (in_ready f loops p)
  where
    by : (b : Bool) → f l ≡ b → In (map pass_of (cond b (l ∷ filter f loops) (filter f loops))) p → (In (map pass_of (filter f loops)) p → (k : Loop) × In loops k × (f k ≡ true) × (k.pass ≡ p)) → (k : Loop) × In (l ∷ loops) k × (f k ≡ true) × (k.pass ≡ p)
    by true e (inl here) later = (l, inl refl, e, here)
    by true e (inr m) later = let r = later m in (r.0, inr r.1, r.2, r.3)
    by false e m later = let r = later m in (r.0, inr r.1, r.2, r.3)

ready_in : (f : Loop → Bool) (loops : List Loop) (l : Loop) → In loops l → f l ≡ true → In (map pass_of (filter f loops)) l.pass
ready_in f [] l m so = absurd m
ready_in f (k ∷ loops) l m so = by (f k) refl m (ready_in f loops l)
  where
    by : (b : Bool) → f k ≡ b → (k ≡ l) ⊎ In loops l → (In loops l → f l ≡ true → In (map pass_of (filter f loops)) l.pass) → In (map pass_of (cond b (k ∷ filter f loops) (filter f loops))) l.pass
    by true e (inl same) later = inl (ap pass_of same)
    by true e (inr m) later = inr (later m so)
    by false e (inl same) later = absurd (let z = ap f same in cc (z, e, so))
    by false e (inr m) later = later m so

ready_few : (f : Loop → Bool) (loops : List Loop) → length (map pass_of (filter f loops)) ≤ length loops
ready_few f [] = omega arith
ready_few f (l ∷ loops) = by (f l) (ready_few f loops)
  where
    by : (b : Bool) → length (map pass_of (filter f loops)) ≤ length loops → length (map pass_of (cond b (l ∷ filter f loops) (filter f loops))) ≤ length (l ∷ loops)
    by true h = omega (arith, h)
    by false h = omega (arith, h)

pub round_few : (f : Loop → Bool) (loops : List Loop) (next : List ℕ) → next ≡ map pass_of (filter f loops) → length next ≤ length loops
round_few f loops next e = subst (λ (xs : List ℕ). length xs ≤ length loops) (sym e) (ready_few f loops)

abbrev AreOrdered : List Loop → Type 0
AreOrdered loops = (i j : ℕ) (l m : Loop) → i < j → slice_get loops i ≡ Some l → slice_get loops j ≡ Some m → l.pass < m.pass

-- the passes of ready loops ascend, since those of the loops do
ready_ordered : (f : Loop → Bool) (loops : List Loop) → AreOrdered loops → IsAscending (map pass_of (filter f loops))
ready_ordered f [] up = λ i j m n lt e g. absurd (cc)
ready_ordered f (l ∷ loops) up = by (f l) (ready_ordered f loops (λ i j k m lt e g. up (suc i) (suc j) k m (omega (arith, lt)) e g))
  where
    low : (p : ℕ) → In (map pass_of (filter f loops)) p → l.pass < p
    low p m =
        let r = in_ready f loops p m in
        let at = place_in loops r.0 r.1 in
        let z = up 0 (suc at.0) l r.0 (omega arith) refl at.1 in
        subst (λ (q : ℕ). l.pass < q) r.3 z

    put : (xs : List ℕ) → ((p : ℕ) → In xs p → l.pass < p) → IsAscending xs → IsAscending (l.pass ∷ xs)
    put xs less so zero zero m n lt e g = absurd (omega (arith, lt))
    put xs less so (suc i) zero m n lt e g = absurd (omega (arith, lt))
    put xs less so zero (suc j) m n lt e g = let z = less n (in_place xs n j g) in let first : l.pass ≡ m = cc (e) in omega (arith, z, first)
    put xs less so (suc i) (suc j) m n lt e g = so i j m n (omega (arith, lt)) e g

    by : (b : Bool) → IsAscending (map pass_of (filter f loops)) → IsAscending (map pass_of (cond b (l ∷ filter f loops) (filter f loops)))
    by true so = put (map pass_of (filter f loops)) low so
    by false so = so

-- ---- a round

and_true : (a b : Bool) → a && b ≡ true → (a ≡ true) × (b ≡ true)
and_true true true e = (refl, refl)
and_true a b e = absurd (cc)

read_true : (marks : List Bool) (n : ℕ) → slice_index_or marks n false ≡ true → slice_get marks n ≡ Some true
read_true [] n e = absurd (cc)
read_true (b ∷ marks) zero e = ap Some e
read_true (b ∷ marks) (suc n) e = read_true marks n e

module _ (g : Graph) (found : List ℕ) (loops : List Loop) (marks : List Bool) (is : AreLoops g.nodes (length g.nodes) loops) (are : AreSettledMarks g found marks) where
  marked_settled : (n : ℕ) → slice_index_or marks n false ≡ true → IsSettled (form_at g.nodes) found n
  marked_settled n e = (are.says n true (read_true marks n e)).0 refl

  settled_marked : (n : ℕ) → n < length g.nodes → IsSettled (form_at g.nodes) found n → slice_index_or marks n false ≡ true
  settled_marked n lt calm = (are.says n (slice_index_or marks n false) (slice_get-get_or marks n false (let long = are.long in omega (arith, long, lt)))).1 calm

  ready_next : (p : ℕ) → In (map pass_of (filter (is_ready marks) loops)) p → IsNext g.nodes found p
  ready_next p m =
      let r = in_ready (is_ready marks) loops p m in
      let up = ((is.each r.0.pass r.0.start r.0.bound).0 r.1).1 in
      let both = and_true (slice_index_or marks r.0.start false) (slice_index_or marks r.0.bound false) r.2 in
      (r.0.start, r.0.bound, subst (λ (q : ℕ). CountsUp (form_at g.nodes) q r.0.start r.0.bound) r.3 up, marked_settled r.0.start both.0, marked_settled r.0.bound both.1)

  next_ready : (p : ℕ) → IsNext g.nodes found p → In (map pass_of (filter (is_ready marks) loops)) p
  next_ready p (s, b, up, calm, calm') =
      let there = node_at g.nodes p (op.Pass up.depth) (up.test ∷ []) up.pass_ in
      let m = (is.each p s b).1 (slice_get_within g.nodes p there.0 there.1, up) in
      let low = is.within (loop_over p s b) m in
      ready_in (is_ready marks) loops (loop_over p s b) m (rw (settled_marked s low.0 calm, settled_marked b low.1 calm') refl)

  pub is_round : (next : List ℕ) → next ≡ map pass_of (filter (is_ready marks) loops) → IsRound g.nodes found next
  is_round next e = subst (λ (xs : List ℕ). IsRound g.nodes found xs) (sym e) (record { are = λ p. (ready_next p, next_ready p); ordered = ready_ordered (is_ready marks) loops is.ordered })

-- ---- all rounds

pub found_none : (nodes : List Node) → IsFound nodes []
found_none nodes = record { counted = λ p m. absurd m; again = λ p m. absurd m; ordered = λ i j m n lt e f. absurd (cc) }

pub found_more : (nodes : List Node) (found next : List ℕ) → IsFound nodes found → IsRound nodes found next → IsFound nodes next
found_more nodes found next is r =
    let within : (p : ℕ) → In found p → In next p = (λ p m. (r.are p).1 (is.again p m)) in
    record {
      counted = λ p m. next_counted nodes found is.counted p ((r.are p).0 m);
      again = λ p m. let n = (r.are p).0 m in (n.0, n.1, n.2, settled_more (form_at nodes) found next within n.0 n.3, settled_more (form_at nodes) found next within n.1 n.4);
      ordered = r.ordered;
    }

-- a round that finds no more nodes finds none that is new
pub found_all : (nodes : List Node) (found next : List ℕ) → IsFound nodes found → IsRound nodes found next → length next ≤ length found → AreCounted nodes found
found_all nodes found next is r few =
    let within : (p : ℕ) → In found p → In next p = (λ p m. (r.are p).1 (is.again p m)) in
    counted_least.all nodes found is.counted (λ p n. all_within next found is.ordered r.ordered within few p ((r.are p).1 n))
