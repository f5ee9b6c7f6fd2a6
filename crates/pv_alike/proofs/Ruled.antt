-- The least graph of a graph whose cycles keep the rule keeps it: a cycle of the least graph stands in the graph,
-- run through some times over.
use Rattle.std.specs.Prelude.{◌≡◌, ◌⊎◌, ℕ, zero, suc, ◌+◌, ◌-◌, ◌<◌, List, [], ◌∷◌, ◌++◌, length, Option, Some, slice_get}
use Rattle.std.proofs.Common.{inl, inr, sym, ap, ◌∙◌, subst, arith}
use Rattle.std.proofs.lemmas.Option.{slice_get_within}
use Rattle.pv_list.proofs.Cited.{partner}
use Rattle.pv_graph.specs.declared.node.Op.{Op}
use Rattle.pv_graph.specs.declared.node.Node.{Node}
use Rattle.pv_graph.specs.Ops.{shape}
use Rattle.pv_graph.specs.Forms.{Form}
use Rattle.pv_graph.specs.Walks.{In, Move, down, jump, move_to, Edge, Walk, stop, step, Falls, KeepsRule}
use Rattle.pv_graph.specs.Graphs.{form_at}
use Rattle.pv_graph.proofs.Cited.{node_at, form_there}
use Rattle.pv_alike.specs.Least.{UnfoldsAs, IsLeast}
use Rattle.pv_alike.proofs.LeastOnce.{parts}
use Rattle.pv_alike.proofs.Origins.{HasOrigin, there, least_origins}
use Rattle.pv_alike.proofs.Repeating.{comes_back}

-- ---- lists of moves

pub in_left : {A : Type 0} → (xs ys : List A) (x : A) → In xs x → In (xs ++ ys) x
in_left [] ys x h = absurd h
in_left (y ∷ xs) ys x (inl e) = inl e
in_left (y ∷ xs) ys x (inr h) = inr (in_left xs ys x h)

pub in_append : {A : Type 0} → (xs ys : List A) (x : A) → In (xs ++ ys) x → In xs x ⊎ In ys x
in_append [] ys x h = inr h
in_append (y ∷ xs) ys x (inl e) = inl (inl e)
in_append (y ∷ xs) ys x (inr h) = elim (in_append xs ys x h) [ inl a ↦ inl (inr a) | inr b ↦ inr b ]

-- the list k times over
abbrev pub times : {A : Type 0} → ℕ → List A → List A
times zero xs = []
times (suc k) xs = xs ++ times k xs

in_times : {A : Type 0} → (k : ℕ) (xs : List A) (x : A) → In (times k xs) x → In xs x
in_times zero xs x h = absurd h
in_times (suc k) xs x h = elim (in_append xs (times k xs) x h) [ inl a ↦ a | inr b ↦ in_times k xs x b ]

-- what the repeated moves keep, the moves keep
falls_once : (k : ℕ) (ms : List Move) → Falls (times (suc k) ms) → Falls ms
falls_once k ms f = record {
  d = f.d;
  takes = in_times (suc k) ms (down f.d) f.takes;
  least = λ e m. f.least e (in_left ms (times k ms) (down e) m);
  above = λ e m. f.above e (in_left ms (times k ms) (jump e) m);
}

walk_then : {N : Type 0} (view : N → Option (Form N)) (a b c : N) (ms ns : List Move) → Walk view a ms b → Walk view b ns c → Walk view a (ms ++ ns) c
walk_then view a b c ms ns (stop n) w = w
walk_then view a b c ms ns (step n k o m ps e v) w = step n k c m (ps ++ ns) e (walk_then view k o c ps ns v w)

-- ---- walks of one graph in another

module _ (h g : List Node) where
  -- a step from a node is one from each node that unfolds so
  edge_along : (p k n : ℕ) (m : Move) → UnfoldsAs h p g n → Edge (form_at h) p m k → (l : ℕ) × Edge (form_at g) n m l × UnfoldsAs h k g l
  edge_along p k n m same e =
      let x = node_at h p e.o e.ks e.is in
      let y = there h g p n x.0 x.1 same in
      let both = parts h g p n x.0 y.0 x.1 y.1 same in
      let at : slice_get x.0.kids e.place ≡ Some k = ap (λ (zs : List ℕ). slice_get zs e.place) x.3 ∙ e.there in
      let l = partner (λ (q r : ℕ). UnfoldsAs h q g r) x.0.kids y.0.kids e.place k both.1 at in
      let op : e.o ≡ y.0.op = sym x.2 ∙ both.0 in
      (l.0, record { o = y.0.op; ks = y.0.kids; place = e.place; is = form_there g n y.0 y.1; there = l.1; moves = e.moves ∙ ap (λ (z : Op). move_to (shape z) e.place) op }, l.2)

  walk_along : (p k n : ℕ) (ms : List Move) → Walk (form_at h) p ms k → UnfoldsAs h p g n → (l : ℕ) × Walk (form_at g) n ms l × UnfoldsAs h k g l
  walk_along p k n ms (stop q) same = (n, stop n, same)
  walk_along p k n ms (step q r o m ps e w) same =
      let a = edge_along q r n m same e in
      let b = walk_along r o a.0 ps w a.2 in
      (b.0, step n a.0 b.0 m ps a.1 b.1, b.2)

  module _ (p : ℕ) (ms : List Move) (w : Walk (form_at h) p ms p) where
    -- a cycle, run through again and again in the other graph
    round_ : ((n : ℕ) × UnfoldsAs h p g n) → ℕ → (n : ℕ) × UnfoldsAs h p g n
    round_ start zero = start
    round_ start (suc i) = let before = round_ start i in let l = walk_along p p before.0 ms w before.1 in (l.0, l.2)

    once_round : (start : (n : ℕ) × UnfoldsAs h p g n) (i : ℕ) → Walk (form_at g) (round_ start i).0 ms (round_ start (suc i)).0
    unfolding round_
    once_round start i = (walk_along p p (round_ start i).0 ms w (round_ start i).1).1

    rounds : (start : (n : ℕ) × UnfoldsAs h p g n) (i k : ℕ) → Walk (form_at g) (round_ start i).0 (times k ms) (round_ start (i + k)).0
    rounds start i zero = subst (λ (j : ℕ). Walk (form_at g) (round_ start i).0 [] (round_ start j).0) (let e : i ≡ i + 0 = omega arith in e) (stop (round_ start i).0)
    rounds start i (suc k) =
        let rest = rounds start (suc i) k in
        let moved = subst (λ (j : ℕ). Walk (form_at g) (round_ start (suc i)).0 (times k ms) (round_ start j).0) (let e : suc i + k ≡ i + suc k = omega arith in e) rest in
        walk_then (form_at g) (round_ start i).0 (round_ start (suc i)).0 (round_ start (i + suc k)).0 ms (times k ms) (once_round start i) moved

  -- a cycle of h keeps the rule, where it stands in g from some node on
  pub cycle_falls : KeepsRule (form_at g) → (p : ℕ) (m : Move) (ms : List Move) → Walk (form_at h) p (m ∷ ms) p → HasOrigin h g p → Falls (m ∷ ms)
  cycle_falls rule p m ms w origin =
      let start : (n : ℕ) × UnfoldsAs h p g n = (origin.0, origin.2) in
      let f : ℕ → ℕ = λ i. (round_ p (m ∷ ms) w start i).0 in
      let low : (i : ℕ) → f i < length g = λ i. let n = round_ p (m ∷ ms) w start i in let x = first_node w in let y = there h g p n.0 x.0 x.1 n.1 in slice_get_within g n.0 y.0 y.1 in
      let back = comes_back f (length g) (λ i l. low i) in
      let k : ℕ = back.1 - suc back.0 in
      let there_ : back.0 + suc k ≡ back.1 = omega (arith, back.2) in
      let walk = rounds p (m ∷ ms) w start back.0 (suc k) in
      let closed = subst (λ (n : ℕ). Walk (form_at g) (f back.0) (times (suc k) (m ∷ ms)) n) (ap f there_ ∙ sym back.4) walk in
      falls_once k (m ∷ ms) (rule (f back.0) m (ms ++ times k (m ∷ ms)) closed)
    where
      first_node : Walk (form_at h) p (m ∷ ms) p → (x : Node) × (slice_get h p ≡ Some x)
      first_node (step q r o m' ps e v) = let x = node_at h q e.o e.ks e.is in (x.0, x.1)

-- the least graph keeps the rule
pub least_keeps_rule : (g : List Node) (a b : ℕ) (h : List Node) (r s : ℕ) → IsLeast g a b h r s → KeepsRule (form_at g) → KeepsRule (form_at h)
least_keeps_rule g a b h r s least rule p m ms w = cycle_falls h g rule p m ms w (least_origins least p (inside w))
  where
    inside : Walk (form_at h) p (m ∷ ms) p → p < length h
    inside (step q k o m' ps e v) = let x = node_at h q e.o e.ks e.is in slice_get_within h q x.0 x.1
