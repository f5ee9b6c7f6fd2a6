-- The pairs of a set step of a lemma are the same in the outer graph.
use Rattle.std.specs.Prelude.{◌≡◌, ◌⊎◌, ℕ, ◌<◌, true, false, List, length, map, Some, refl}
use Rattle.std.proofs.Common.{inl, inr, sym, ap, ◌∙◌, subst, arith}
use Rattle.std.proofs.lemmas.Option.{slice_get_within}
use Rattle.pv_value.specs.declared.world.World.{World}
use Rattle.pv_value.specs.declared.outcome.Input.{Input}
use Rattle.pv_graph.specs.declared.node.Op.{Op}
use Rattle.pv_graph.specs.declared.node.Op.TheVariants as op
use Rattle.pv_graph.specs.declared.node.OpSort.{OpSort}
use Rattle.pv_graph.specs.Ops.{shape, is_variable}
use Rattle.pv_graph.specs.Forms.{form}
use Rattle.pv_graph.specs.Walks.{In}
use Rattle.pv_graph.specs.Graphs.{Graph, form_at}
use Rattle.pv_graph.proofs.Cited.{found, form_there, node_at, sort_there}
use Rattle.pv_denote.proofs.Cited.{Stays}
use Rattle.pv_denote.proofs.Mapped.{moves_all}
use Rattle.pv_steps.proofs.Pairs.{Alike, pairs_lead}
use Rattle.pv_lemmas.proofs.Lists.{bool_cases, zip_map, zip_flip, zip_self}
use Rattle.pv_lemmas.proofs.Expanding.{Expansion, node_for}
use Rattle.pv_lemmas.proofs.Same.{AreSame, same_self, same_flip, Always}

-- the variable that an operation is
variable_is : (o : Op) → is_variable o ≡ true → (j : ℕ) × (s : OpSort) × (o ≡ op.Var j s)
variable_is (op.Var j s) e = (j, s, refl)
variable_is o e = absurd (cc)

-- the pairs of a step
module _ (nodes : List ℕ) (g inner outer : Graph) (x : Expansion nodes g inner outer) (w : World) (input : Input) (ps : List (ℕ × ℕ)) where
  abbrev h : ℕ → ℕ
  h = node_for nodes (length g.nodes)

  -- the nodes of a pair in the outer graph
  abbrev Joins : ℕ → ℕ → Type 0
  Joins u v = (a : ℕ) × (b : ℕ) × In ps (a, b) × (h a ≡ u) × (h b ≡ v)

  -- two kids of a pair: their nodes are the same, or they are a pair
  abbrev pub KidsOf : ℕ → ℕ → Type 0
  KidsOf k l = AreSame (form_at outer.nodes) w input (h k) (h l) ⊎ In ps (k, l)

  -- .. as nodes of the outer graph
  abbrev Pairs : ℕ → ℕ → Type 0
  Pairs u v = AreSame (form_at outer.nodes) w input u v ⊎ Joins u v

  -- the node of one of the lemma is there
  pub node_low : (a : ℕ) → a < length inner.nodes → h a < length outer.nodes
  node_low a low =
      let s = sort_there inner x.inner_made.graph a low in
      let z = slice_get_within outer.sorts (h a) s.0 (x.expands.sorts a s.0 s.1) in
      let l = x.made.graph.long in
      omega (arith, z, l)

  -- a node is of one operation with itself
  alike_self : (u : ℕ) → u < length outer.nodes → Alike (form_at outer.nodes) Pairs (Stays Always) u u
  alike_self u low =
      let n = found outer.nodes u low in
      let f = form_there outer.nodes u n.0 n.1 in
      record {
        o = n.0.op;
        lefts = n.0.kids;
        rights = n.0.kids;
        left = f;
        right = f;
        moves = moves_all (Stays Always) (λ d i k y. tt) (shape n.0.op);
        kids = zip_self Pairs (λ k. inl (same_self (form_at outer.nodes) w input k)) n.0.kids;
      }

  -- each pair has one operation over such kids
  module _ (right : (a b : ℕ) → In ps (a, b) → Alike (form_at inner.nodes) KidsOf (λ d. Unit {0}) a b) where
    -- the left node of a pair is there
    alike_low : (a b : ℕ) → In ps (a, b) → a < length inner.nodes
    alike_low a b p = let q = right a b p in let n = node_at inner.nodes a q.o q.lefts q.left in slice_get_within inner.nodes a n.0 n.1

    -- two variables that are a pair are one
    alike_variable : (a b : ℕ) (p : In ps (a, b)) → is_variable (right a b p).o ≡ true → Alike (form_at outer.nodes) Pairs (Stays Always) (h a) (h b)
    alike_variable a b p v =
        let q = right a b p in
        let r = variable_is q.o v in
        let left : a ≡ r.0 = x.variables a r.0 r.1 q.lefts (q.left ∙ ap (λ (o : Op). Some (form o q.lefts)) r.2) in
        let right_ : b ≡ r.0 = x.variables b r.0 r.1 q.rights (q.right ∙ ap (λ (o : Op). Some (form o q.rights)) r.2) in
        subst (λ (c : ℕ). Alike (form_at outer.nodes) Pairs (Stays Always) (h a) (h c)) (left ∙ sym right_) (alike_self (h a) (node_low a (alike_low a b p)))

    -- a pair of other operations has one operation in the outer graph
    alike_plain : (a b : ℕ) (p : In ps (a, b)) → is_variable (right a b p).o ≡ false → Alike (form_at outer.nodes) Pairs (Stays Always) (h a) (h b)
    alike_plain a b p v =
        let q = right a b p in
        record {
          o = q.o;
          lefts = map h q.lefts;
          rights = map h q.rights;
          left = x.expands.there a q.o q.lefts q.left v;
          right = x.expands.there b q.o q.rights q.right v;
          moves = moves_all (Stays Always) (λ d i k y. tt) (shape q.o);
          kids = zip_map KidsOf Pairs h h (λ k l r. elim r [ inl same ↦ inl same | inr m ↦ inr (k, l, m, refl, refl) ]) q.lefts q.rights q.kids;
        }

    -- so has each pair
    alike_outer : (u v : ℕ) → Joins u v → Alike (form_at outer.nodes) Pairs (Stays Always) u v
    alike_outer u v j =
        subst (λ (c : ℕ). Alike (form_at outer.nodes) Pairs (Stays Always) c v) j.3
        (subst (λ (c : ℕ). Alike (form_at outer.nodes) Pairs (Stays Always) (h j.0) c) j.4
        (elim (bool_cases (is_variable (right j.0 j.1 j.2).o)) [ inl is ↦ alike_variable j.0 j.1 j.2 is | inr other ↦ alike_plain j.0 j.1 j.2 other ]))

    -- .. from right to left
    alike_back : (u v : ℕ) → Joins v u → Alike (form_at outer.nodes) (λ m n. AreSame (form_at outer.nodes) w input m n ⊎ Joins n m) (Stays Always) u v
    alike_back u v j =
        let q = alike_outer v u j in
        record {
          o = q.o;
          lefts = q.rights;
          rights = q.lefts;
          left = q.right;
          right = q.left;
          moves = q.moves;
          kids = zip_flip Pairs (λ m n. AreSame (form_at outer.nodes) w input m n ⊎ Joins n m) (λ m n r. elim r [ inl same ↦ inl (same_flip (form_at outer.nodes) w input m n same) | inr z ↦ inr z ]) q.lefts q.rights q.kids;
        }

    -- the pairs of a step are the same
    pub pairs_same : (a b : ℕ) → In ps (a, b) → AreSame (form_at outer.nodes) w input (h a) (h b)
    pairs_same a b p i v = (
      λ z. pairs_lead (form_at outer.nodes) w input Always (AreSame (form_at outer.nodes) w input) Joins (λ m n j u s y r. (s j u).0 r) alike_outer (h a) (h b) i v (a, b, p, refl, refl) tt z,
      λ z. pairs_lead (form_at outer.nodes) w input Always (AreSame (form_at outer.nodes) w input) (λ m n. Joins n m) (λ m n j u s y r. (s j u).0 r) alike_back (h b) (h a) i v (a, b, p, refl, refl) tt z,
    )
