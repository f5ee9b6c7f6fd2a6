-- Copying nodes, one after the other.
use Rattle.std.specs.Prelude.{◌≡◌, ℕ, ◌<◌, Bool, true, List, length, Option, Some, slice_get}
use Rattle.pv_graph.specs.declared.node.OpSort.{OpSort}
use Rattle.pv_graph.specs.declared.node.Node.{Node}
use Rattle.pv_graph.specs.Graphs.{Graph}
use Rattle.pv_writer.specs.Written.{Written}
use Rattle.pv_explain.specs.Copies.{IsCopied, HasCopy, IsCopyOver, AreCopies}
use Rattle.pv_explain.specs.Marks.{IsMarked}

-- m is a copy of n, with n's sort
pub record IsCopyOf (w : Written) (g : Graph) (map : List (Option ℕ)) (n m : ℕ) : Type 0 where
  pub over : IsCopyOver g w.graph map n m
  pub sorts : (s : OpSort) → slice_get g.sorts n ≡ Some s → slice_get w.graph.sorts m ≡ Some s

-- each of the first nodes is its own copy, and no other node has one
pub record AreOwnCopies (base : ℕ) (map : List (Option ℕ)) : Type 0 where
  pub long : length map ≡ base
  pub own : (k : ℕ) → k < base → IsCopied map k k
  pub only : (k m : ℕ) → IsCopied map k m → (k < base) × (m ≡ k)

-- the nodes of the graph's base stand in the certificate's graph, with their sorts
pub record HasBase (w : Written) (g : Graph) : Type 0 where
  pub nodes : (n : ℕ) (node : Node) → n < g.base → slice_get g.nodes n ≡ Some node → slice_get w.graph.nodes n ≡ Some node
  pub sorts : (n : ℕ) (s : OpSort) → n < g.base → slice_get g.sorts n ≡ Some s → slice_get w.graph.sorts n ≡ Some s

-- the copy of n, if it is marked
pub record IsCopyIf (w : Written) (g : Graph) (map : List (Option ℕ)) (is_marked : Bool) (n : ℕ) (copy : Option ℕ) : Type 0 where
  pub is : (m : ℕ) → copy ≡ Some m → IsCopyOf w g map n m
  pub there : is_marked ≡ true → (m : ℕ) × (copy ≡ Some m)

-- the marked ones of the first n nodes have copies
pub record AreFirstCopies (w : Written) (g : Graph) (marks : List Bool) (n : ℕ) (map : List (Option ℕ)) : Type 0 where
  pub copies : AreCopies g w.graph map
  pub long : length map ≡ n
  pub all : (k : ℕ) → k < n → IsMarked marks k → HasCopy map k
