-- The node that is chosen for a variable.
use Rattle.std.specs.Prelude.{◌≡◌, ℕ, ◌<◌, false, List, [], length, Some, slice_get, refl}
use Rattle.std.proofs.Common.{inl, inr, sym, ap, ◌∙◌, subst, arith}
use Rattle.std.proofs.lemmas.Option.{slice_get_within, same_Some}
use Rattle.pv_value.specs.declared.number.Num.{Num}
use Rattle.pv_value.specs.declared.number.Num.TheVariants as num
use Rattle.pv_graph.specs.declared.node.Op.{Op}
use Rattle.pv_graph.specs.declared.node.OpSort.TheVariants.{I, L}
use Rattle.pv_graph.specs.declared.node.Node.{Node}
use Rattle.pv_graph.specs.Forms.{form}
use Rattle.pv_graph.specs.Nodes.{node_of}
use Rattle.pv_graph.specs.Walks.{In}
use Rattle.pv_graph.specs.Graphs.{Graph, IsGraph, form_at}
use Rattle.pv_graph.specs.Calls.{IsSame, Added, FitsOver}
use Rattle.pv_graph.proofs.Cited.{form_there, node_at, sort_there}
use Rattle.pv_pattern.specs.declared.names.NameId.TheVariants as name
use Rattle.pv_pattern.specs.Patterns.{settled, not_free}
use Rattle.pv_pattern.specs.Binding.{names}
use Rattle.pv_axioms.specs.Entries.{axioms}
use Rattle.pv_heights.specs.Filled.{number_op}
use Rattle.pv_heights.specs.Sides.{Match, ClassHas}
use Rattle.pv_heights.specs.Rounds.{ClassCopy}
use Rattle.pv_heights.specs.Rounds as copy
use Rattle.pv_heights.specs.Searches.{nodes, IsNode, OneClass}
use Rattle.pv_instances.specs.Classes.{JoinedHaveOneSort}
use Rattle.pv_instances.proofs.Cited.{form_kept, congruent}
use Rattle.pv_marks.specs.Classes.{class_of}
use Rattle.pv_witness.specs.Numbered.{AreNumbered, numbered}
use Rattle.pv_witness.specs.Witnesses.{IsWitness}
use Rattle.pv_witness.specs.Asked.{AsksOnce}
use Rattle.pv_witness.proofs.Cited.{all_once, numbered_long, numbered_extends, one_class, get_first}
use Rattle.pv_saturate.specs.declared.choice.Witnesses.{Witnesses}
use Rattle.pv_saturate.specs.Choice.{HasConstant, IsConstantNode, CanChoose, IsChosenFor}
use Rattle.pv_saturate.proofs.Lists.{get_in, in_get, all_in}

-- ---- constants

pub constant_fits : (g : Graph) (c : Num) (o : Op) → number_op c ≡ Some o → FitsOver g o []
constant_fits g (num.Int c) o e = subst (λ (x : Op). FitsOver g x []) (same_Some _ o e) (I, record { sorts = []; kids_have = tt; over = refl })
constant_fits g (num.Long c) o e = subst (λ (x : Op). FitsOver g x []) (same_Some _ o e) (L, record { sorts = []; kids_have = tt; over = refl })
constant_fits g (num.Ref r) o e = absurd (cc)

-- the call finds a constant that the graph has
pub constant_found : (g new : Graph) (c : Num) (o : Op) (w : ℕ) → HasConstant g c → number_op c ≡ Some o → Added g new o [] w → IsSame g new × IsConstantNode g c w
constant_found g new c o w (n, (p, is, at_)) e added = elim added.grows [
  | inl same ↦ (same, (o, e, form_there g.nodes w (node_of o []) (subst (λ (h : Graph). slice_get h.nodes w ≡ Some (node_of o [])) same added.first.there)))
  | inr grown ↦ absurd (grown.0 n there)
]
  where
    there : slice_get g.nodes n ≡ Some (node_of o [])
    there =
        let node = node_at g.nodes n p [] at_ in
        let ops : node.0.op ≡ o = node.2 ∙ same_Some p o (sym is ∙ e) in
        node.1 ∙ ap Some (same_node node.0 ops node.3)
      where
        same_node : (x : Node) → x.op ≡ o → x.kids ≡ [] → x ≡ node_of o []
        same_node x a b = subst (λ (q : Op). x ≡ node_of q []) a (subst (λ (ks : List ℕ). x ≡ node_of x.op ks) b refl)

-- ---- one variable

module _ (g : Graph) (numbers : List ℕ) (m : Match ℕ) (t : Witnesses) (is_graph : IsGraph g) (sealed : g.is_open ≡ false) (is : AreNumbered g numbers) (one : JoinedHaveOneSort (numbered g numbers) (OneClass numbers)) (can : CanChoose (numbered g numbers) g numbers m t)
    (j v : ℕ) (variable : slice_get m.vars j ≡ Some v) where
  abbrev h : Graph
  h = numbered g numbers

  pub low : v < length numbers
  low = can.vars v (get_in m.vars j v variable)

  node : v < length h.nodes
  node = (let z = numbered_long g numbers is in omega (arith, low, z))

  abbrev Chosen : ℕ → Type 0
  Chosen w = IsChosenFor h g numbers m t j v w

  -- a witness
  copied : (w : ℕ) → IsWitness h g numbers (class_of numbers v) w → ClassCopy (nodes g) (IsNode h) (OneClass numbers) (IsNode g) v w × (slice_get g.sorts w ≡ slice_get h.sorts v)
  copied w x =
      let z = numbered_long g numbers is in
      let y = x.is_node in
      let l : x.of_ < length numbers = omega (arith, y, z) in
      (record { thing = x.of_; is = x.is_node; joins = one_class numbers v x.of_ low l (sym x.class); copy = x.copy }, x.sort_ ∙ one x.of_ v (one_class numbers x.of_ v l low x.class))

  asks : AsksOnce m.entry
  asks = all_in AsksOnce axioms m.entry all_once can.entry

  not_both : In m.entry.sides (settled j) → In m.entry.sides (not_free j) → ⊥
  not_both a b =
      let p = in_get m.entry.sides (settled j) a in
      let q = in_get m.entry.sides (not_free j) b in
      let same = asks.once p.0 q.0 j (settled j) (not_free j) p.1 q.1 refl refl in
      let two : Some (settled j) ≡ Some (not_free j) = sym p.1 ∙ ap (slice_get m.entry.sides) same ∙ q.1 in
      absurd (cc)

  never_settled : In m.entry.sides (settled j) → In (names m.entry.left) (name.Constant j) → ⊥
  never_settled a i = let p = in_get m.entry.sides (settled j) a in asks.no_constant p.0 j (settled j) p.1 refl i

  never_free : In m.entry.sides (not_free j) → In (names m.entry.left) (name.Constant j) → ⊥
  never_free a i = let p = in_get m.entry.sides (not_free j) a in asks.no_constant p.0 j (not_free j) p.1 refl i

  pub settled_chosen : (w : ℕ) → In m.entry.sides (settled j) → slice_get t.settled.now (class_of numbers v) ≡ Some (Some w) → Chosen w
  settled_chosen w i e =
      let c = copied w (can.of_settled (class_of numbers v) w e) in
      record { copy = c.0; sort_ = c.1; settled_ = λ a. e; not_free_ = λ a. absurd (not_both i a); constant = λ a. absurd (never_settled i a) }

  pub free_chosen : (w : ℕ) → In m.entry.sides (not_free j) → slice_get t.not_free.now (class_of numbers v) ≡ Some (Some w) → Chosen w
  free_chosen w i e =
      let c = copied w (can.of_not_free (class_of numbers v) w e) in
      record { copy = c.0; sort_ = c.1; settled_ = λ a. absurd (not_both a i); not_free_ = λ a. e; constant = λ a. absurd (never_free i a) }

  -- a node of the first graph has the sort that it had
  kept_sort : (u : ℕ) → u < length h.nodes → slice_get g.sorts u ≡ slice_get h.sorts u
  kept_sort u lt =
      let z = numbered_long g numbers is in
      let y = is.few in
      let s = sort_there g is_graph u (omega (arith, lt, z, y)) in
      s.1 ∙ sym (first_sort u lt s.0 s.1)
    where
      first_sort : (u : ℕ) → u < length h.nodes → (s : _) → slice_get g.sorts u ≡ Some s → slice_get h.sorts u ≡ Some s
      first_sort u lt s e = get_first (length numbers) g.sorts u (let z = numbered_long g numbers is in omega (arith, lt, z)) ∙ e

  pub itself_chosen : (In m.entry.sides (settled j) → ⊥) → (In m.entry.sides (not_free j) → ⊥) → (In (names m.entry.left) (name.Constant j) → ⊥) → Chosen v
  itself_chosen a b c = record {
    copy = record { thing = v; is = node; joins = one_class numbers v v low low refl; copy = copy.itself v v node refl };
    sort_ = kept_sort v node;
    settled_ = λ i. absurd (a i);
    not_free_ = λ i. absurd (b i);
    constant = λ i. absurd (c i);
  }

  -- a constant of the class
  pub has_it : In (names m.entry.left) (name.Constant j) → HasConstant g (m.params.constants j)
  has_it i = let x = can.constants j v i variable in let u = x.2 in (u.thing, (x.0, x.1, form_kept h g (numbered_extends g numbers) u.thing (form x.0 []) u.has))

  pub constant_chosen : (w : ℕ) → In (names m.entry.left) (name.Constant j) → (In m.entry.sides (settled j) → ⊥) → (In m.entry.sides (not_free j) → ⊥) → IsConstantNode g (m.params.constants j) w → Chosen w
  constant_chosen w i a b (o, is_op, at_) = record {
    copy = record { thing = u.thing; is = u.is; joins = flipped; copy = copy.again w u.thing o [] [] [] within at_ u.is there refl (λ p k l x y. absurd (cc)) tt };
    sort_ = congruent g is_graph sealed w u.thing o [] [] within before at_ there refl (λ p k l x y. absurd (cc)) ∙ kept_sort u.thing u.is ∙ one u.thing v u.joins;
    settled_ = λ k. absurd (a k);
    not_free_ = λ k. absurd (b k);
    constant = λ k. (o, is_op, at_);
  }
    where
      x : (p : Op) × (number_op (m.params.constants j) ≡ Some p) × ClassHas (nodes h) (IsNode h) (OneClass numbers) v p []
      x = can.constants j v i variable

      u : ClassHas (nodes h) (IsNode h) (OneClass numbers) v o []
      u = subst (λ (p : Op). ClassHas (nodes h) (IsNode h) (OneClass numbers) v p []) (same_Some x.0 o (sym x.1 ∙ is_op)) x.2

      there : form_at g.nodes u.thing ≡ Some (form o [])
      there = form_kept h g (numbered_extends g numbers) u.thing (form o []) u.has

      before : IsNode g u.thing
      before = (let z = numbered_long g numbers is in let y = is.few in let l = u.is in omega (arith, l, z, y))

      within : IsNode g w
      within = (let q = node_at g.nodes w o [] at_ in slice_get_within g.nodes w q.0 q.1)

      flipped : OneClass numbers v u.thing
      flipped = (let q = u.joins in (q.0, q.2, q.1))
