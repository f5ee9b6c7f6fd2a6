-- The nodes of a graph as things.
use Rattle.std.proofs.Common.{◌≡◌, ℕ, ◌<◌, ◌≤◌, List, [], ◌∷◌, map, length, Option, Some, None, slice_get, get_or, ◌⊎◌, inl, inr, refl, sym, ap, ◌∙◌, subst, arith}
use Rattle.std.proofs.lemmas.Option.{slice_get_within, slice_get_cases}
use Rattle.pv_value.specs.Spelled.{bind}
use Rattle.pv_graph.specs.declared.node.Op.{Op}
use Rattle.pv_graph.specs.declared.node.Node.{Node}
use Rattle.pv_graph.specs.Forms.{form}
use Rattle.pv_graph.specs.Walks.{In}
use Rattle.pv_graph.specs.Graphs.{Graph, form_of, form_at, Extends, IsGraph}
use Rattle.pv_steps.specs.Facts.{View}
use Rattle.pv_heights.specs.Heights.{IsBase}
use Rattle.pv_heights.specs.Searches.{IsWhole, nodes, IsNode}
use Rattle.pv_heights.specs.SameClasses.{IsNew, IsSystem, AreClosed}
use Rattle.pv_heights.proofs.Terms.{form_once, node_or_not}

map_id : (ns : List ℕ) → map (λ n. n) ns ≡ ns
map_id [] = refl
map_id (n ∷ ns) = ap (λ ms. n ∷ ms) (map_id ns)

-- the nodes of one graph are in another, with their operations and kids
abbrev pub Keeps : View → View → Type 0
Keeps view next = (n : ℕ) (o : Op) (ks : List ℕ) → view n ≡ Some (form o ks) → next n ≡ Some (form o ks)

pub nodes_system : (view : View) (h : Graph) → Keeps view (form_at h.nodes) → IsSystem view (nodes h)
nodes_system view h kept = record {
  once = λ x o p ks ls d e. form_once (form_at h.nodes x) o p ks ls d e;
  node_once = λ m n e. e;
  has = λ n o ks e. subst (λ ms. form_at h.nodes n ≡ Some (form o ms)) (sym (map_id ks)) (kept n o ks e);
  sorted = sorted;
}
  where
    sorted : (x : ℕ) → IsNew view (nodes h) x ⊎ ((n : ℕ) × IsBase view n × (x ≡ n))
    sorted x = go (node_or_not view x)
      where
        go : IsBase view x ⊎ (IsBase view x → ⊥) → IsNew view (nodes h) x ⊎ ((n : ℕ) × IsBase view n × (x ≡ n))
        go (inl b) = inr (x, b, refl)
        go (inr f) = inl (λ n b e. f (subst (IsBase view) (sym e) b))

-- ---- a number is one of a node exactly where a form stands at it

pub form_some : (f : Option Node) (o : Op) (ks : List ℕ) → bind f (λ node. Some (form_of node)) ≡ Some (form o ks) → (node : Node) × (f ≡ Some node)
form_some None o ks e = absurd (cc)
form_some (Some node) o ks e = (node, refl)

pub base_is_node : (h : Graph) (n : ℕ) → IsBase (form_at h.nodes) n → IsNode h n
base_is_node h n b = let s = form_some (slice_get h.nodes n) b.0 b.1 b.2 in slice_get_within h.nodes n s.0 s.1

pub node_is_base : (h : Graph) (n : ℕ) → IsNode h n → IsBase (form_at h.nodes) n
node_is_base h n l = go (slice_get_cases h.nodes n).1
  where
    go : ((x : Node) × (n < length h.nodes) × (slice_get h.nodes n ≡ Some x) × (get_or h.nodes n x ≡ x)) ⊎ ((length h.nodes ≤ n) × (slice_get h.nodes n ≡ None)) → IsBase (form_at h.nodes) n
    go (inl c) = (c.0.op, c.0.kids, ap (λ f. bind f (λ node. Some (form_of node))) c.2)
    go (inr c) = absurd (omega (arith, l, c.0))

pub nodes_closed : (h : Graph) → IsWhole (form_at h.nodes) → AreClosed (nodes h) (IsNode h)
nodes_closed h whole n o ks k d q i = base_is_node h k (whole n k o ks q i)

-- ---- a graph that grew

pub extends_keeps : (old new : Graph) → Extends old new → Keeps (form_at old.nodes) (form_at new.nodes)
extends_keeps old new e n o ks k =
    let s = form_some (slice_get old.nodes n) o ks k in
    ap (λ f. bind f (λ node. Some (form_of node))) (e.nodes n s.0 s.1 ∙ sym s.1) ∙ k

-- the kids of each node of a graph are nodes
pub graph_whole : (h : Graph) → IsGraph h → IsWhole (form_at h.nodes)
graph_whole h g n k o ks e i = node_is_base h k (go (early_or_late n h.base))
  where
    early_or_late : (a b : ℕ) → (a < b) ⊎ (b ≤ a)
    early_or_late a b = grind arith

    s : (node : Node) × (slice_get h.nodes n ≡ Some node)
    s = form_some (slice_get h.nodes n) o ks e

    inside : In s.0.kids k
    inside = subst (λ ls. In ls k) (sym (form_once (form_at h.nodes n) s.0.op o s.0.kids ks (ap (λ f. bind f (λ node. Some (form_of node))) s.1) e).1) i

    go : (n < h.base) ⊎ (h.base ≤ n) → k < length h.nodes
    go (inl l) = let a = g.early n k s.0 s.1 l inside in let b = g.base in omega (arith, a, b)
    go (inr l) = let a = g.late n k s.0 s.1 l inside in let b = slice_get_within h.nodes n s.0 s.1 in omega (arith, a, b)
