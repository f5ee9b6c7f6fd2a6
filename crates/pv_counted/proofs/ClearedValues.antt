-- Units in place of settled tokens change no value.
use Rattle.std.specs.Prelude.{◌≡◌, ◌⊎◌, ◌↔◌, ℕ, zero, suc, ◌<◌, true, false, List, [], ◌∷◌, length, Option, Some, slice_get, refl}
use Rattle.std.specs.List.{AllZip}
use Rattle.std.proofs.Common.{inl, inr, sym, ap, ◌∙◌, subst, arith}
use Rattle.std.proofs.lemmas.Option.{slice_get_within}
use Rattle.pv_value.specs.Spelled.{bind}
use Rattle.pv_value.specs.Inputs.{IsInput}
use Rattle.pv_value.specs.Worlds.{IsWorld}
use Rattle.pv_value.specs.declared.world.World.{World}
use Rattle.pv_value.specs.declared.outcome.Input.{Input}
use Rattle.pv_value.specs.declared.outcome.Val.{Val}
use Rattle.pv_value.specs.declared.outcome.Val.TheVariants as val
use Rattle.pv_graph.specs.declared.node.Node.{Node}
use Rattle.pv_graph.specs.declared.node.Op.{Op}
use Rattle.pv_graph.specs.declared.node.Op.TheVariants as op
use Rattle.pv_graph.specs.declared.node.OpSort.{OpSort}
use Rattle.pv_graph.specs.declared.node.OpSort.TheVariants.{T}
use Rattle.pv_graph.specs.Nodes.{node_of}
use Rattle.pv_graph.specs.Ops.{Shape, theta, eval, pass, shift, shape, is_variable, HasSort}
use Rattle.pv_graph.specs.Forms.{form}
use Rattle.pv_graph.specs.Walks.{In, Move, Edge, Walk, stop, step, KeepsRule}
use Rattle.pv_graph.specs.Graphs.{Graph, form_of, form_at, IsUnfinished, IsGraph, IsRanged, IsWellMade}
use Rattle.pv_graph.proofs.Cited.{node_at}
use Rattle.pv_denote.specs.Denote.{Index, den, strict}
use Rattle.pv_denote.specs.Meaning.{Value}
use Rattle.pv_denote.specs.Typed.{IsOf}
use Rattle.pv_denote.proofs.Cited.{With, Moves, Stays, den_makes, den_says, means_map, settled_law, sort_law, value_once}
use Rattle.pv_alike.proofs.Cited.{first_means, second_means}
use Rattle.pv_counted.specs.Counted.{AreCounted}
use Rattle.pv_counted.specs.Cleared.{IsDead, IsClearing}
use Rattle.pv_counted.specs.Laws.{ClearedSame, ClearingKeeps, ClearedKeeps}
use Rattle.pv_counted.proofs.CountedValues.{counted_value}

is_unit : (v : Val) → IsOf T v → v ≡ val.Unit
is_unit val.Unit h = refl
is_unit v h = absurd h

anywhere : (s : Shape) → Moves (Stays (λ _. Unit {0})) s
anywhere (theta d) = λ i k h. tt
anywhere (eval d) = λ i k h. tt
anywhere (pass d) = λ i k h. tt
anywhere (shift d) = λ i k h. tt
anywhere s = tt

each_itself : (ks : List ℕ) → AllZip (λ (a b : ℕ). a ≡ b) ks ks
each_itself [] = tt
each_itself (k ∷ ks) = (refl, each_itself ks)

unit_has : (nodes : List Node) (w : World) (x : Input) (n : ℕ) (i : Index) → form_at nodes n ≡ Some (form op.Unit []) → (fuel : ℕ) × (den (form_at nodes) w x fuel n i ≡ Some val.Unit)
unfolding strict
unit_has nodes w x n i e = den_makes (form_at nodes) w x n i val.Unit op.Unit [] e ([], tt, refl)

module _ (g h : Graph) (counted : List ℕ) (made : IsWellMade g) (closed : g.is_open ≡ false) (are : AreCounted g.nodes counted) (c : IsClearing g counted h) where
  abbrev Gone : ℕ → Type 0
  Gone n = IsDead g counted n × (form_at h.nodes n ≡ Some (form op.Unit []))

  abbrev Stayed : ℕ → Type 0
  Stayed n = form_at h.nodes n ≡ form_at g.nodes n

  gone_or_stayed : (n : ℕ) → n < length g.nodes → Gone n ⊎ Stayed n
  gone_or_stayed n lt = elim (c.each n lt) [
    | inl y ↦ inl (y.0, ap (λ (o : Option Node). bind o (λ node. Some (form_of node))) y.1)
    | inr y ↦ inr (ap (λ (o : Option Node). bind o (λ node. Some (form_of node))) y.1)
  ]

  old_there : (n : ℕ) (o : Op) (ks : List ℕ) → form_at g.nodes n ≡ Some (form o ks) → n < length g.nodes
  old_there n o ks e = let node = node_at g.nodes n o ks e in slice_get_within g.nodes n node.0 node.1

  new_there : (n : ℕ) (o : Op) (ks : List ℕ) → form_at h.nodes n ≡ Some (form o ks) → n < length g.nodes
  new_there n o ks e = let node = node_at h.nodes n o ks e in let z = slice_get_within h.nodes n node.0 node.1 in let y = c.long in omega arith

  -- ---- values

  module _ (w : World) (x : Input) (world : IsWorld w) (input : IsInput x) where
    gone_has : (n : ℕ) (i : Index) → n < length g.nodes → IsDead g counted n → Value g w x n i val.Unit
    gone_has n i lt dead =
        let v = settled_law g w x counted n i made closed world input (λ e j m. counted_value g w x e j made closed world input ((are e).0 m)) lt dead.1 in
        subst (λ (u : Val). Value g w x n i u) (is_unit v.0 (sort_law g w x n T i v.0 made.graph closed world input dead.0 v.1)) v.1

    to_new : (fuel n : ℕ) (i : Index) (v : Val) → With (form_at g.nodes) w x fuel n i v → Value h w x n i v
    unfolding den
    to_new zero n i v y = absurd (cc)
    to_new (suc fuel) n i v y =
        let r = den_says (form_at g.nodes) w x fuel n i v y in
        let lt = old_there n r.0 r.1 r.2 in
        let more = means_map w x (λ _. Unit {0}) (With (form_at g.nodes) w x fuel) (Value h w x) (λ (a b : ℕ). a ≡ b) (λ a b j u t _ z. subst (λ (k : ℕ). Value h w x k j u) t (to_new fuel a j u z)) (shape r.0) r.0 r.1 r.1 i v (anywhere (shape r.0)) (each_itself r.1) tt r.3 in
        elim (gone_or_stayed n lt) [
          | inl a ↦ subst (λ (u : Val). Value h w x n i u) (value_once (form_at g.nodes) w x n i val.Unit v (gone_has n i lt a.0) (suc fuel, y)) (unit_has h.nodes w x n i a.1)
          | inr a ↦ den_makes (form_at h.nodes) w x n i v r.0 r.1 (a ∙ r.2) more
        ]

    to_old : (fuel n : ℕ) (i : Index) (v : Val) → With (form_at h.nodes) w x fuel n i v → Value g w x n i v
    unfolding den
    to_old zero n i v y = absurd (cc)
    to_old (suc fuel) n i v y =
        let r = den_says (form_at h.nodes) w x fuel n i v y in
        let lt = new_there n r.0 r.1 r.2 in
        let more = means_map w x (λ _. Unit {0}) (With (form_at h.nodes) w x fuel) (Value g w x) (λ (a b : ℕ). a ≡ b) (λ a b j u t _ z. subst (λ (k : ℕ). Value g w x k j u) t (to_old fuel a j u z)) (shape r.0) r.0 r.1 r.1 i v (anywhere (shape r.0)) (each_itself r.1) tt r.3 in
        elim (gone_or_stayed n lt) [
          | inl a ↦ subst (λ (u : Val). Value g w x n i u) (value_once (form_at h.nodes) w x n i val.Unit v (unit_has h.nodes w x n i a.1) (suc fuel, y)) (gone_has n i lt a.0)
          | inr a ↦ den_makes (form_at g.nodes) w x n i v r.0 r.1 (sym a ∙ r.2) more
        ]

  -- ---- cycles

  old_edge : (n k : ℕ) (m : Move) → Edge (form_at h.nodes) n m k → Edge (form_at g.nodes) n m k
  old_edge n k m e = elim (gone_or_stayed n (new_there n e.o e.ks e.is)) [
    | inl a ↦ absurd (let y = a.1 in let z = e.is in let none : e.ks ≡ [] = cc in none_there e.place (subst (λ (ks : List ℕ). slice_get ks e.place ≡ Some k) none e.there))
    | inr a ↦ record { o = e.o; ks = e.ks; place = e.place; is = sym a ∙ e.is; there = e.there; moves = e.moves }
  ]
    where
      the_none : List ℕ
      the_none = []

      none_there : (p : ℕ) → slice_get (the_none) p ≡ Some k → ⊥
      none_there p z = absurd (cc)

  old_walk : (n m : ℕ) (ms : List Move) → Walk (form_at h.nodes) n ms m → Walk (form_at g.nodes) n ms m
  old_walk n m ms (stop k) = stop k
  old_walk n m ms (step a k b move moves e rest) = step a k b move moves (old_edge a k move e) (old_walk k b moves rest)

  rule : KeepsRule (form_at h.nodes)
  rule n m ms y = made.rule n m ms (old_walk n n (m ∷ ms) y)

  -- ---- the graph

  -- a node of the new graph is a unit in place of a token, or an old node
  node_is : (n : ℕ) (node : Node) → slice_get h.nodes n ≡ Some node → ((slice_get g.sorts n ≡ Some T) × (node ≡ node_of op.Unit [])) ⊎ (slice_get g.nodes n ≡ Some node)
  node_is n node e =
      let lt : n < length g.nodes = (let z = slice_get_within h.nodes n node e in let y = c.long in omega arith) in
      elim (c.each n lt) [
        | inl y ↦ inl (y.0.0, let z = y.1 in cc)
        | inr y ↦ inr (sym y.1 ∙ e)
      ]

  sorted : (n : ℕ) (node : Node) (s : OpSort) → slice_get h.nodes n ≡ Some node → slice_get h.sorts n ≡ Some s → HasSort h.sorts node.op node.kids s ⊎ ((h.is_open ≡ true) × IsUnfinished node s)
  sorted n node s e t =
      let old : slice_get g.sorts n ≡ Some s = subst (λ (ss : List OpSort). slice_get ss n ≡ Some s) c.sorts t in
      elim (node_is n node e) [
        | inl y ↦ inl (subst (λ (z : Node). HasSort h.sorts z.op z.kids s) (sym y.1) (record { sorts = []; kids_have = tt; over = let a = y.0 in let same : T ≡ s = cc in ap Some same }))
        | inr y ↦ elim (made.graph.sorted n node s y old) [
          | inl z ↦ inl (subst (λ (ss : List OpSort). HasSort ss node.op node.kids s) (sym c.sorts) z)
          | inr z ↦ absurd (let a = z.0 in cc (a, closed))
        ]
      ]

  graph : IsGraph h
  graph =
      let is = made.graph in
      let long = c.long in
      record {
        long = ap length c.sorts ∙ is.long ∙ sym long;
        base = let z = is.base in let y = c.base in omega arith;
        open_ = λ e. let z = c.open_ in absurd (cc (z, e, closed));
        sorted = sorted;
        early = λ n k node e low m. let y = c.base in elim (node_is n node e) [
          | inl z ↦ absurd (subst (λ (a : Node). In a.kids k) z.1 m)
          | inr z ↦ let u = is.early n k node z (omega arith) m in omega arith
        ];
        late = λ n k node e high m. let y = c.base in elim (node_is n node e) [
          | inl z ↦ absurd (subst (λ (a : Node). In a.kids k) z.1 m)
          | inr z ↦ is.late n k node z (omega arith) m
        ];
        ranged = λ n node e. elim (node_is n node e) [
          | inl z ↦ subst (λ (a : Node). IsRanged a.op) (sym z.1) tt
          | inr z ↦ is.ranged n node z
        ];
        variables = λ n node e high. let y = c.base in elim (node_is n node e) [
          | inl z ↦ subst (λ (a : Node). is_variable a.op ≡ false) (sym z.1) refl
          | inr z ↦ is.variables n node z (omega arith)
        ];
      }

  cleared_same : ClearedSame g h
  cleared_same = record {
    made = record { graph = graph; rule = rule };
    sealed = c.open_ ∙ closed;
    values = λ w x n i v world input. (λ y. to_old w x world input y.0 n i v y.1, λ y. to_new w x world input y.0 n i v y.1);
  }

pub clearing_keeps : ClearingKeeps
clearing_keeps g h counted made closed are c = cleared_same g h counted made closed are c

pub cleared_keeps : ClearedKeeps
cleared_keeps l m made closed (counted, h, are, c, least) =
    let same = cleared_same l.graph h counted made closed are c in
    record {
      first = λ w x i v world input. both (first_means {g = h.nodes} {a = l.first} {b = l.second} {h = m.graph.nodes} {r = m.first} {s = m.second} least.least w x i v) (same.values w x l.first i v world input);
      second = λ w x i v world input. both (second_means {g = h.nodes} {a = l.first} {b = l.second} {h = m.graph.nodes} {r = m.first} {s = m.second} least.least w x i v) (same.values w x l.second i v world input);
    }
  where
    both : {A B C : Type 0} → A ↔ B → B ↔ C → A ↔ C
    both f g = (λ a. g.0 (f.0 a), λ c. f.1 (g.1 c))
