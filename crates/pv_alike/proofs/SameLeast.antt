-- The same two roots have one least graph, whatever graph they stand in.
use Rattle.std.proofs.Common.{◌≡◌, ℕ, List, length, sym, ap, ◌∙◌, Bool}
use Rattle.pv_graph.specs.declared.node.OpSort.{OpSort}
use Rattle.pv_graph.specs.declared.node.Node.{Node}
use Rattle.pv_graph.specs.Unfold.{unfold_at}
use Rattle.pv_graph.specs.Graphs.{Graph, form_at}
use Rattle.pv_graph.specs.Calls.{IsSame}
use Rattle.pv_alike.specs.Least.{UnfoldsAs, IsLeast}
use Rattle.pv_alike.specs.Laws.{AreSameRoots, SameLeastNodes, SameLeast}
use Rattle.pv_alike.proofs.LeastOnce.{least_once}
use Rattle.pv_alike.proofs.Sorts.{one_sorts}

-- a least graph speaks of the graph only by how its two nodes unfold, so it is that of the same roots of another graph
pub least_moved : (g h : List Node) (a b c d : ℕ) (l : List Node) (r s : ℕ) → AreSameRoots g a b h c d → IsLeast g a b l r s → IsLeast h c d l r s
least_moved g h a b c d l r s same least = record {
  first_root = λ m. least.first_root m ∙ same.first m;
  second_root = λ m. least.second_root m ∙ same.second m;
  distinct = least.distinct;
  numbered = least.numbered;
}

-- one number of one list of nodes unfolds as itself
one_unfolds : (l m : List Node) (r t : ℕ) → l ≡ m → r ≡ t → UnfoldsAs l r m t
one_unfolds l m r t e f k = ap (λ (xs : List Node). unfold_at (form_at xs) k r) e ∙ ap (λ (n : ℕ). unfold_at (form_at m) k n) f

pub same_least_nodes : SameLeastNodes
same_least_nodes g h a b c d l m r s t u p q = (
  (λ one. record {
    first = λ k. sym (p.first_root k) ∙ one_unfolds l m r t one.0 one.1 k ∙ q.first_root k;
    second = λ k. sym (p.second_root k) ∙ one_unfolds l m s u one.0 one.2 k ∙ q.second_root k;
  }),
  (λ same. least_once (least_moved g h a b c d l r s same p) q),
)

-- graphs with the same nodes, sorts, seal and base
same_graph : (x y : Graph) → x.nodes ≡ y.nodes → x.sorts ≡ y.sorts → x.is_open ≡ y.is_open → x.base ≡ y.base → IsSame x y
same_graph x y e f o b =
    ap (λ (a : List Node). record { nodes = a; sorts = y.sorts; is_open = y.is_open; base = y.base; is_prepared = y.is_prepared }) (sym e)
    ∙ ap (λ (a : List OpSort). record { nodes = x.nodes; sorts = a; is_open = y.is_open; base = y.base; is_prepared = y.is_prepared }) (sym f)
    ∙ ap (λ (a : Bool). record { nodes = x.nodes; sorts = x.sorts; is_open = a; base = y.base; is_prepared = y.is_prepared }) (sym o)
    ∙ ap (λ (a : ℕ). record { nodes = x.nodes; sorts = x.sorts; is_open = x.is_open; base = a; is_prepared = y.is_prepared }) (sym b)

pub same_least : SameLeast
same_least g h a b c d l m p q =
    let both = same_least_nodes g.nodes h.nodes a b c d l.graph.nodes m.graph.nodes l.first l.second m.first m.second p.least q.least in (
      (λ one. both.0 (sym (ap (λ (x : Graph). x.nodes) one.graph), one.first, one.second)),
      (λ same.
          let one = both.1 same in
          record {
            graph = same_graph l.graph m.graph one.0
                (one_sorts l.graph m.graph one.0 p.made q.made p.sealed q.sealed)
                (p.sealed ∙ sym q.sealed)
                (p.base ∙ ap (λ (xs : List Node). length xs) one.0 ∙ sym q.base);
            first = one.1;
            second = one.2;
          }),
    )
