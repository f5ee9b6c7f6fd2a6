-- Which nodes may be assumed to end, by the tests of single nodes.
use Rattle.std.specs.Prelude.{◌≡◌, ◌↔◌, ℕ, ◌≤◌, Bool, List, [], ◌∷◌, length, slice_get}
use Rattle.std.specs.List.{AllByRecursion}
use Rattle.std.proofs.Common.{sym, ap, ◌∙◌, subst, arith}
use Rattle.std.proofs.lemmas.Option.{slice_get_within}
use Rattle.pv_graph.specs.declared.node.Node.{Node}
use Rattle.pv_graph.specs.Nodes.{node_of}
use Rattle.pv_graph.specs.Walks.{IsClosed, Spine}
use Rattle.pv_graph.specs.Graphs.{Graph, IsGraph, form_at}
use Rattle.pv_graph.proofs.Marking.{free_depth}
use Rattle.pv_steps.specs.Right.{MayBeAssumed}
use Rattle.pv_endings.specs.Spine.{IsSpine}
use Rattle.pv_endings.specs.Waiting.{Waits, IsClosedBelow, MayBe}

-- no depth but those of loops is free in a node
closed_is : (g : Graph) → IsGraph g → (n : ℕ) → IsClosedBelow g n 17 ↔ IsClosed (form_at g.nodes) n
closed_is g graph n = (λ h d f. let b = free_depth g graph d n f in h d b.0 (let most = b.1 in omega (arith, most)) f, λ h d low high f. h d f)

pub may_be_is : (g : Graph) → IsGraph g → (t : ℕ) (marks : List Bool) → IsSpine g.nodes t marks → (n : ℕ) → MayBe g marks n ↔ MayBeAssumed g t n
may_be_is g graph t marks spine n = (
  λ h. record { o = h.0.0; kids = h.0.1; is = h.0.2; waits = h.0.3; closed = (closed_is g graph n).0 h.1.0; spine = (spine.says n).0 h.1.1 },
  λ m. ((m.o, m.kids, m.is, m.waits), ((closed_is g graph n).1 m.closed, (spine.says n).1 m.spine)),
)

pub all_may_be_is : (g : Graph) → IsGraph g → (t : ℕ) (marks : List Bool) → IsSpine g.nodes t marks → (nodes : List ℕ) → AllByRecursion (MayBe g marks) nodes ↔ AllByRecursion (MayBeAssumed g t) nodes
all_may_be_is g graph t marks spine [] = (λ h. h, λ h. h)
all_may_be_is g graph t marks spine (n ∷ nodes) =
    let here' = may_be_is g graph t marks spine n in
    let rest = all_may_be_is g graph t marks spine nodes in
    (λ h. (here'.0 h.0, rest.0 h.1), λ h. (here'.1 h.0, rest.1 h.1))

pub no_waits : (g : Graph) (n : ℕ) → length g.nodes ≤ n → Waits g n → ⊥
no_waits g n low w = let z = slice_get_within g.nodes n (node_of w.0 w.1) w.2 in omega (arith, z, low)

-- ---- over a graph of the same nodes

pub assumed_there : (g h : Graph) → g.nodes ≡ h.nodes → (t n : ℕ) → MayBeAssumed g t n → MayBeAssumed h t n
assumed_there g h e t n m = record {
  o = m.o;
  kids = m.kids;
  is = ap (λ (q : List Node). slice_get q n) (sym e) ∙ m.is;
  waits = m.waits;
  closed = subst (λ (q : List Node). IsClosed (form_at q) n) e m.closed;
  spine = subst (λ (q : List Node). Spine (form_at q) t n) e m.spine;
}

pub all_there : (g h : Graph) → g.nodes ≡ h.nodes → (t : ℕ) (nodes : List ℕ) → AllByRecursion (MayBeAssumed g t) nodes → AllByRecursion (MayBeAssumed h t) nodes
all_there g h e t [] all = all
all_there g h e t (n ∷ nodes) all = (assumed_there g h e t n all.0, all_there g h e t nodes all.1)
