-- The counted nodes are the least set of their kind.
use Rattle.std.specs.Prelude.{ℕ, List, Option}
use Rattle.pv_graph.specs.declared.node.Node.{Node}
use Rattle.pv_graph.specs.Forms.{Form}
use Rattle.pv_graph.specs.Walks.{In, Reaches, itself, along, IsSettled}
use Rattle.pv_graph.specs.Graphs.{form_at}
use Rattle.pv_counted.specs.Counted.{IsCounted, counts, AreCounted}
use Rattle.pv_counted.specs.Laws.{IsNext, CountedLeast}

module _ (view : ℕ → Option (Form ℕ)) (few more : List ℕ) (within : (n : ℕ) → In few n → In more n) where
  fewer : (n m : ℕ) → Reaches view more n m → Reaches view few n m
  fewer n m (itself k) = itself k
  fewer n m (along a k b o ks free e there rest) = along a k b o ks (λ y. free (within a y)) e there (fewer k b rest)

  -- with more nodes assumed, more is settled
  pub settled_more : (n : ℕ) → IsSettled view few n → IsSettled view more n
  settled_more n calm m o ks reach free e = calm m o ks (fewer n m reach) (λ y. free (within m y)) e

-- a set that holds each loop whose start and bound are settled with it assumed has all counted nodes
has_counted : (nodes : List Node) (more : List ℕ) → ((p : ℕ) → IsNext nodes more p → In more p) → (p : ℕ) → IsCounted (form_at nodes) p → In more p
has_counted nodes more closed p (counts q start bound assumed l are a b) =
    let within : (e : ℕ) → In assumed e → In more e = (λ e m. has_counted nodes more closed e (are e m)) in
    closed q (start, bound, l, settled_more (form_at nodes) assumed more within start a, settled_more (form_at nodes) assumed more within bound b)

-- .. with counted nodes it holds counted nodes alone
pub next_counted : (nodes : List Node) (found : List ℕ) → ((p : ℕ) → In found p → IsCounted (form_at nodes) p) → (p : ℕ) → IsNext nodes found p → IsCounted (form_at nodes) p
next_counted nodes found are p (start, bound, l, a, b) = counts p start bound found l are a b

counted_next : (nodes : List Node) (counted : List ℕ) → AreCounted nodes counted → (p : ℕ) → IsCounted (form_at nodes) p → IsNext nodes counted p
counted_next nodes counted all p (counts q start bound assumed l are a b) =
    let within : (e : ℕ) → In assumed e → In counted e = (λ e m. (all e).1 (are e m)) in
    (start, bound, l, settled_more (form_at nodes) assumed counted within start a, settled_more (form_at nodes) assumed counted within bound b)

pub counted_least : CountedLeast
counted_least = record {
  all = λ nodes found are closed p. (are p, has_counted nodes found closed p);
  next = λ nodes counted p all. (λ m. counted_next nodes counted all p ((all p).0 m), λ n. (all p).1 (next_counted nodes counted (λ e y. (all e).0 y) p n));
  least = λ nodes counted more all closed p m. has_counted nodes more closed p ((all p).0 m);
}
