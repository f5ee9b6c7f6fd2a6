-- What is known of least graphs, of searches and of the table of scalar axioms.
use Rattle.std.specs.Prelude.{◌≡◌, ℕ, zero, suc, List, [], ◌∷◌, ◌++◌, Some, slice_get, refl}
use Rattle.pv_graph.specs.Graphs.{Graph}
use Rattle.pv_graph.proofs.Cited.{bases_are_made}
use Rattle.pv_alike.specs.Least.{Rooted, IsLeastOf}
use Rattle.pv_pattern.specs.Patterns.{Axiom}
use Rattle.pv_scalar.specs.Table.{scalar_axioms}
use Rattle.pv_loopax.specs.Table.{loop_axioms}
use Rattle.pv_heapax.specs.Table.{heap_axioms}
use Rattle.pv_axioms.specs.Entries.{NumbersOnce, core_axioms}
use Rattle.pv_axioms.proofs.Cited.{core_are}
use Rattle.pv_match.specs.Reading.{AreReadable}
use Rattle.pv_match.proofs.Cited.{tested}
use Rattle.pv_rounds.specs.declared.search.Search.{Search}
use Rattle.pv_rounds.specs.Searching.{IsLeastGraph, IsBegun, Begins, GoesOn}

-- a least graph is one as a search takes it
pub least_graph : (g : Graph) (a b : ℕ) (l : Rooted) → IsLeastOf g a b l → IsLeastGraph l.graph
least_graph g a b l is = record {
  made = is.made;
  distinct = bases_are_made.distinct l.graph.nodes is.least.distinct;
  sealed = is.sealed;
  base = is.base;
}

-- ---- searches

pub begun : (g : Graph) (table : List Axiom) (ends : List ℕ) (most : ℕ) (s : Search) → Begins g table ends most s → IsBegun s
begun g table ends most s b = (g, zero, b.is)

pub gone_on : (old new : Search) → IsBegun old → GoesOn old new → IsBegun new
gone_on old new (g, k, is) on = (g, suc k, on.next g k is)

-- ---- the tables

pub core_readable : AreReadable core_axioms
core_readable = tested core_axioms refl

pub scalar_readable : AreReadable scalar_axioms
scalar_readable = tested scalar_axioms refl

front_of : {A : Type 0} (xs ys : List A) (i : ℕ) (x : A) → slice_get xs i ≡ Some x → slice_get (xs ++ ys) i ≡ Some x
front_of [] ys i x at = absurd (cc at)
front_of (z ∷ xs) ys zero x at = at
front_of (z ∷ xs) ys (suc i) x at = front_of xs ys i x at

pub scalar_once : NumbersOnce scalar_axioms
scalar_once i j a b at at' e =
    let rest : List Axiom = loop_axioms ++ heap_axioms in
    core_are.once i j a b (front_of scalar_axioms rest i a at) (front_of scalar_axioms rest j b at') e
