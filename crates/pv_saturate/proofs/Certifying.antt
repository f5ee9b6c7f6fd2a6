-- The instance that is made for a match is one of its axiom as a certificate names it, over the chosen nodes. The graph has no node twice,
-- so the node of a constant in a side is the one that is chosen.
use Rattle.std.specs.Prelude.{◌≡◌, ℕ, ◌<◌, List, [], ◌∷◌, ◌++◌, length, Some, slice_get, refl}
use Rattle.std.specs.List.{AllByRecursion}
use Rattle.std.proofs.Common.{get_or, inl, inr, sym, ap, ◌∙◌, subst, arith}
use Rattle.std.proofs.lemmas.Option.{same_Some, slice_get_within, slice_get-get_or}
use Rattle.pv_graph.specs.declared.node.Op.{Op}
use Rattle.pv_graph.specs.declared.node.Node.{Node}
use Rattle.pv_graph.specs.Forms.{form}
use Rattle.pv_graph.specs.Nodes.{node_of}
use Rattle.pv_graph.specs.Calls.{IsDistinct}
use Rattle.pv_graph.specs.Graphs.{Graph, form_at}
use Rattle.pv_graph.specs.Walks.{In}
use Rattle.pv_graph.proofs.Cited.{node_at}
use Rattle.pv_pattern.specs.declared.names.NameId.{NameId}
use Rattle.pv_pattern.specs.declared.names.NameId.TheVariants as name
use Rattle.pv_pattern.specs.Patterns.{Pattern, Side, settled, not_free, symbols_differ, kinds_differ, not_byte, constants_differ}
use Rattle.pv_pattern.specs.Binding.{names}
use Rattle.pv_pattern.specs.Instances.{Names, constant_of, Stands, IsInstance}
use Rattle.pv_pattern.specs.Instances as instances
use Rattle.pv_steps.specs.Facts.{View}
use Rattle.pv_axioms.specs.Entries.{axioms, Instance}
use Rattle.pv_axioms.proofs.Cited.{binds_names}
use Rattle.pv_heights.specs.Conditions as classes
use Rattle.pv_heights.specs.Sides.{Match, IsSideOf}
use Rattle.pv_heights.specs.Searches.{nodes, IsNode, OneClass, IsMatchAt}
use Rattle.pv_heights.proofs.Cited.{right_named, side_stands}
use Rattle.pv_heights.proofs.Instances.{constant_op}
use Rattle.pv_marks.specs.Classes.{class_of}
use Rattle.pv_saturate.specs.declared.choice.Witnesses.{Witnesses}
use Rattle.pv_saturate.specs.Choice.{IsChosenFor}
use Rattle.pv_saturate.specs.Added.{over, AddedMatch}
use Rattle.pv_saturate.specs.Tables.{WitnessesHold}

-- where no two nodes are the same, a constant has one node
one_constant : (g : Graph) → IsDistinct g.nodes → (a b : ℕ) (o : Op) → form_at g.nodes a ≡ Some (form o []) → form_at g.nodes b ≡ Some (form o []) → a ≡ b
one_constant g distinct a b o e f =
    let x = node_at g.nodes a o [] e in
    let y = node_at g.nodes b o [] f in
    distinct a b (node_of o []) (x.1 ∙ ap Some (same_node x.0 x.2 x.3)) (y.1 ∙ ap Some (same_node y.0 y.2 y.3))
  where
    same_node : (x : Node) → x.op ≡ o → x.kids ≡ [] → x ≡ node_of o []
    same_node x c d = subst (λ (q : Op). x ≡ node_of q []) c (subst (λ (ks : List ℕ). x ≡ node_of x.op ks) d refl)

at_same_place : (vs ws : List ℕ) (j v : ℕ) → length ws ≡ length vs → slice_get vs j ≡ Some v → (w : ℕ) × (slice_get ws j ≡ Some w)
at_same_place vs ws j v e at_ = there ws j (let z = slice_get_within vs j v at_ in omega (arith, z, e))
  where
    there : (ws : List ℕ) (j : ℕ) → j < length ws → (w : ℕ) × (slice_get ws j ≡ Some w)
    there ws j lt = (get_or ws j 0, slice_get-get_or ws j 0 lt)

module _ (view : View) (known assumed : List ℕ) (h old new : Graph) (numbers : List ℕ) (m : Match ℕ) (t : Witnesses) (vars : List ℕ) (l r : ℕ) (apart : IsDistinct old.nodes) (is : IsMatchAt view known axioms h numbers m) (hold : WitnessesHold new assumed m t)
    (added : AddedMatch h old new numbers m t vars l r) where
  abbrev names_ : Names
  names_ = record { depth = m.params.depth; symbols = m.params.symbols; kinds = m.params.kinds; constants = m.params.constants; op_ = m.params.op_; kids = m.kids; vars = vars }

  -- what is chosen for a variable
  chosen : (j v : ℕ) → slice_get m.vars j ≡ Some v → (w : ℕ) × (slice_get vars j ≡ Some w) × IsChosenFor h new numbers m t j v w
  chosen j v e = let w = at_same_place m.vars vars j v added.chosen.long e in (w.0, w.1, added.chosen.each j v w.0 e w.1)

  fixed_ : (j n : ℕ) (o : Op) → In (names m.entry.left) (name.Constant j) → form_at new.nodes n ≡ Some (form o []) → constant_of o ≡ Some (m.params.constants j) → slice_get vars j ≡ Some n
  fixed_ j n o i at_ c =
      let x = is.constants j i in
      let w = chosen j x.0 x.2 in
      let k = w.2.constant i in
      let same : k.0 ≡ o = same_Some k.0 o (sym k.1 ∙ constant_op o (m.params.constants j) c) in
      w.1 ∙ ap Some (one_constant new (added.distinct apart) w.0 n o (k.2 ∙ ap (λ (p : Op). Some (form p [])) same) at_)

  side_here : (p : Pattern) → ((i : NameId) → In (names p) i → In (names m.entry.left) i) → (n : ℕ) → IsSideOf (nodes new) (IsNode new) (over m vars) p n → Stands (form_at new.nodes) names_ p n
  side_here p up n s = side_stands new m.entry names_ p (λ j k o i. fixed_ j k o (up (name.Constant j) i)) s.0 s.1 n s.2

  holds_here : (s : Side) → In m.entry.sides s → classes.Holds view known (nodes h) (IsNode h) (OneClass numbers) m s → instances.Holds new assumed names_ s
  holds_here (settled j) i c = let w = chosen j c.0 c.1 in (w.0, w.1, hold.settled_ j (class_of numbers c.0) w.0 i (w.2.settled_ i))
  holds_here (not_free j) i c = let w = chosen j c.0 c.1 in (w.0, w.1, hold.not_free_ j (class_of numbers c.0) w.0 i (w.2.not_free_ i))
  holds_here (symbols_differ a b) i c = c
  holds_here (kinds_differ a b) i c = c
  holds_here (not_byte a) i c = c
  holds_here (constants_differ a b) i c = c

  all_hold_here : (ss : List Side) → ((s : Side) → In ss s → In m.entry.sides s) → AllByRecursion (classes.Holds view known (nodes h) (IsNode h) (OneClass numbers) m) ss → AllByRecursion (instances.Holds new assumed names_) ss
  all_hold_here [] up c = tt
  all_hold_here (s ∷ ss) up c = (holds_here s (up s (inl refl)) c.0, all_hold_here ss (λ x i. up x (inr i)) c.1)

  pub certified : Instance new assumed m.entry.number (m.kids ++ vars) l r
  certified = (
    m.entry,
    record { entry = is.of_table; number = refl },
    record {
      names = names_;
      are = refl;
      long = added.chosen.long ∙ is.long;
      alone = is.alone;
      left = side_here m.entry.left (λ i k. k) l added.left;
      right = side_here m.entry.right (right_named m.entry (binds_names m.entry is.of_table)) r added.right;
      sides = all_hold_here m.entry.sides (λ s i. i) is.sides;
    },
  )
