-- Both sides of an instance are nodes: the left one has an operation, and so has the right one, or it is a variable of the left.
use Rattle.std.specs.Prelude.{◌≡◌, ◌⊎◌, ℕ, ◌<◌, Bool, true, false, ◌&&◌, ◌||◌, List, [], ◌∷◌, length, Some, slice_get, ◌==◌, refl}
use Rattle.std.proofs.Common.{inl, inr, sym, ap, ◌∙◌, subst, arith}
use Rattle.std.proofs.lemmas.Bool.Decides.{nat_tests}
use Rattle.std.proofs.lemmas.Option.{slice_get_within, same_Some}
use Rattle.pv_value.specs.declared.descriptor.JType.{JType}
use Rattle.pv_value.specs.declared.descriptor.JType.TheVariants as jtype
use Rattle.pv_graph.specs.declared.node.Op.{Op}
use Rattle.pv_graph.specs.Forms.{form}
use Rattle.pv_graph.specs.Walks.{In}
use Rattle.pv_graph.specs.Graphs.{Graph, form_at, IsGraph}
use Rattle.pv_graph.proofs.Cited.{kid_within, node_at}
use Rattle.pv_pattern.specs.Patterns.{Pattern, var, constant, fold, narrowed, over, over_each, Patterns, none, first, Axiom}
use Rattle.pv_pattern.specs.Instances.{Names, Narrows, Stands, StandAll, IsInstance}
use Rattle.pv_axioms.specs.Entries.{axioms}

-- ---- the test

abbrev mutual
  -- the variable stands in the pattern, under its operations
  has_var : ℕ → Pattern → Bool
  has_var j (var k) = j == k
  has_var j (over h ps) = has_var_in j ps
  has_var j p = false

  has_var_in : ℕ → Patterns → Bool
  has_var_in j none = false
  has_var_in j (first p ps) = has_var j p || has_var_in j ps

abbrev is_over : Pattern → Bool
is_over (over h ps) = true
is_over p = false

-- where the left side stands at a node, so does the right side
abbrev is_bound : Pattern → Pattern → Bool
is_bound left (var j) = has_var j left
is_bound left (narrowed t p) = is_bound left p
is_bound left p = true

abbrev has_nodes : Axiom → Bool
has_nodes a = is_over a.left && is_bound a.left a.right

abbrev all_have_nodes : List Axiom → Bool
all_have_nodes [] = true
all_have_nodes (a ∷ table) = has_nodes a && all_have_nodes table

and_parts : (t u : Bool) → (t && u) ≡ true → (t ≡ true) × (u ≡ true)
and_parts true u e = (refl, e)
and_parts false u e = absurd (cc)

or_parts : (t u : Bool) → (t || u) ≡ true → (t ≡ true) ⊎ (u ≡ true)
or_parts true u e = inl refl
or_parts false u e = inr e

equal_numbers : (j k : ℕ) → (j == k) ≡ true → j ≡ k
equal_numbers j k e = grind (arith, nat_tests)

-- ---- nodes

module _ (g : Graph) (is : IsGraph g) (m : Names) where
  IsNode : ℕ → Type 0
  IsNode n = n < length g.nodes

  node_there : (n : ℕ) (o : Op) (ks : List ℕ) → form_at g.nodes n ≡ Some (form o ks) → IsNode n
  unfolding IsNode
  node_there n o ks e = let x = node_at g.nodes n o ks e in slice_get_within g.nodes n x.0 x.1

  kids_there : (n : ℕ) (o : Op) (ks : List ℕ) → form_at g.nodes n ≡ Some (form o ks) → (k : ℕ) → In ks k → IsNode k
  unfolding IsNode
  kids_there n o ks e k i = let x = node_at g.nodes n o ks e in kid_within g is n k x.0 x.1 (subst (λ (zs : List ℕ). In zs k) (sym x.3) i)

  mutual
    -- a variable of a pattern that stands at a node stands at one
    var_there : (j v : ℕ) → slice_get m.vars j ≡ Some v → (p : Pattern) (n : ℕ) → has_var j p ≡ true → Stands (form_at g.nodes) m p n → IsNode n → IsNode v
    var_there j v e (var k) n b s low = subst IsNode (same_Some n v (sym s ∙ ap (slice_get m.vars) (sym (equal_numbers j k b)) ∙ e)) low
    var_there j v e (constant k) n b s low = absurd (cc)
    var_there j v e (fold o atoms) n b s low = absurd (cc)
    var_there j v e (narrowed t p) n b s low = absurd (cc)
    var_there j v e (over h ps) n b s low = vars_there j v e ps s.0 b s.2 (λ k i. kids_there n _ s.0 s.1 k i)
    var_there j v e (over_each which each) n b s low = absurd (cc)

    vars_there : (j v : ℕ) → slice_get m.vars j ≡ Some v → (ps : Patterns) (ks : List ℕ) → has_var_in j ps ≡ true → StandAll (form_at g.nodes) m ps ks → ((k : ℕ) → In ks k → IsNode k) → IsNode v
    vars_there j v e none ks b s low = absurd (cc)
    vars_there j v e (first p ps) [] b s low = absurd s
    vars_there j v e (first p ps) (k ∷ ks) b s low = elim (or_parts (has_var j p) (has_var_in j ps) b) [
      | inl here ↦ var_there j v e p k here s.0 (low k (inl refl))
      | inr later ↦ vars_there j v e ps ks later s.1 (λ l i. low l (inr i))
    ]

  narrowed_there : (y : JType) (Q : ℕ → Type 0) (n : ℕ) → (Q n → IsNode n) → Narrows (form_at g.nodes) y Q n → IsNode n
  narrowed_there jtype.Z Q n q h = node_there n _ _ h.2
  narrowed_there jtype.B Q n q h = node_there n _ _ h.1
  narrowed_there jtype.C Q n q h = node_there n _ _ h.1
  narrowed_there jtype.S Q n q h = node_there n _ _ h.1
  narrowed_there jtype.I Q n q h = q h
  narrowed_there jtype.J Q n q h = q h
  narrowed_there jtype.F Q n q h = q h
  narrowed_there jtype.D Q n q h = q h
  narrowed_there jtype.A Q n q h = q h

  right_there : (left : Pattern) (l : ℕ) → Stands (form_at g.nodes) m left l → IsNode l → (p : Pattern) (n : ℕ) → is_bound left p ≡ true → Stands (form_at g.nodes) m p n → IsNode n
  right_there left l at low (var j) n b s = var_there j n s left l b at low
  right_there left l at low (constant j) n b s = let c = s.1 in node_there n c.0 [] c.1
  right_there left l at low (fold o atoms) n b s = let c = s.2 in node_there n c.0 [] c.1
  right_there left l at low (narrowed t p) n b s = narrowed_there s.0 (Stands (form_at g.nodes) m p) n (λ q. right_there left l at low p n b q) s.2
  right_there left l at low (over h ps) n b s = node_there n _ s.0 s.1
  right_there left l at low (over_each which each) n b s = node_there n _ s.0 s.1

  left_there : (p : Pattern) (n : ℕ) → is_over p ≡ true → Stands (form_at g.nodes) m p n → IsNode n
  left_there (over h ps) n b s = node_there n _ s.0 s.1
  left_there (var j) n b s = absurd (cc)
  left_there (constant j) n b s = absurd (cc)
  left_there (fold o atoms) n b s = absurd (cc)
  left_there (narrowed t p) n b s = absurd (cc)
  left_there (over_each which each) n b s = absurd (cc)

both_there : (g : Graph) → IsGraph g → (assumed : List ℕ) (a : Axiom) (subst_ : List ℕ) (l r : ℕ) → has_nodes a ≡ true → IsInstance g assumed a subst_ l r → (l < length g.nodes) × (r < length g.nodes)
unfolding IsNode
both_there g is assumed a subst_ l r test i =
    let parts = and_parts (is_over a.left) (is_bound a.left a.right) test in
    let left = left_there g is i.names a.left l parts.0 i.left in
    (left, right_there g is i.names a.left l i.left left a.right r parts.1 i.right)

entry_has : (table : List Axiom) → all_have_nodes table ≡ true → (a : Axiom) → In table a → has_nodes a ≡ true
entry_has [] test a m = absurd m
entry_has (b ∷ table) test a (inl e) = ap has_nodes (sym e) ∙ (and_parts (has_nodes b) (all_have_nodes table) test).0
entry_has (b ∷ table) test a (inr m) = entry_has table (and_parts (has_nodes b) (all_have_nodes table) test).1 a m

-- both sides of an instance of an axiom are nodes
pub sides_there : (g : Graph) → IsGraph g → (assumed : List ℕ) (a : Axiom) (subst_ : List ℕ) (l r : ℕ) → In axioms a → IsInstance g assumed a subst_ l r → (l < length g.nodes) × (r < length g.nodes)
sides_there g is assumed a subst_ l r m i = both_there g is assumed a subst_ l r (entry_has axioms refl a m) i
