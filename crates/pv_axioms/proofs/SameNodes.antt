-- Graphs of the same nodes have the same instances.
use Rattle.std.specs.Prelude.{◌≡◌, ◌↔◌, ℕ, List, [], ◌∷◌}
use Rattle.std.specs.List.{AllByRecursion}
use Rattle.std.proofs.Common.{sym, subst}
use Rattle.pv_graph.specs.declared.node.Node.{Node}
use Rattle.pv_graph.specs.Walks.{Free, IsSettled}
use Rattle.pv_graph.specs.Graphs.{Graph, form_at}
use Rattle.pv_pattern.specs.Patterns.{Axiom, Side, settled, not_free, symbols_differ, kinds_differ, not_byte, constants_differ}
use Rattle.pv_pattern.specs.Instances.{Names, Stands, Holds, IsInstance}
use Rattle.pv_axioms.specs.Entries.{Instance}

module _ (g h : Graph) (same : g.nodes ≡ h.nodes) where
  holds : (assumed : List ℕ) (m : Names) (s : Side) → Holds g assumed m s → Holds h assumed m s
  holds assumed m (settled j) (n, at, is) = (n, at, subst (λ (ns : List Node). IsSettled (form_at ns) assumed n) same is)
  holds assumed m (not_free j) (n, at, is) = (n, at, subst (λ (ns : List Node). Free (form_at ns) m.depth n → ⊥) same is)
  holds assumed m (symbols_differ s t) is = is
  holds assumed m (kinds_differ k l) is = is
  holds assumed m (not_byte k) is = is
  holds assumed m (constants_differ j k) is = is

  all_hold : (assumed : List ℕ) (m : Names) (sides : List Side) → AllByRecursion (Holds g assumed m) sides → AllByRecursion (Holds h assumed m) sides
  all_hold assumed m [] all = tt
  all_hold assumed m (s ∷ sides) all = (holds assumed m s all.0, all_hold assumed m sides all.1)

  is_instance : (assumed : List ℕ) (a : Axiom) (subst_ : List ℕ) (l r : ℕ) → IsInstance g assumed a subst_ l r → IsInstance h assumed a subst_ l r
  is_instance assumed a subst_ l r i = record {
    names = i.names;
    are = i.are;
    long = i.long;
    alone = i.alone;
    left = subst (λ (ns : List Node). Stands (form_at ns) i.names a.left l) same i.left;
    right = subst (λ (ns : List Node). Stands (form_at ns) i.names a.right r) same i.right;
    sides = all_hold assumed i.names a.sides i.sides;
  }

pub same_instance : (g h : Graph) → g.nodes ≡ h.nodes → (assumed : List ℕ) (n : ℕ) (subst_ : List ℕ) (l r : ℕ) → Instance g assumed n subst_ l r ↔ Instance h assumed n subst_ l r
same_instance g h same assumed n subst_ l r =
    (λ i. (i.0, i.1, is_instance g h same assumed i.0 subst_ l r i.2), λ i. (i.0, i.1, is_instance h g (sym same) assumed i.0 subst_ l r i.2))
