-- Which nodes are kept. Nodes have one form where they have one operation over kids in the same classes. They match the same patterns, so
-- the search looks at the nodes that are kept alone, and one of each form is enough.
use Rattle.std.specs.Prelude.{ℕ, Bool, false, List, slice_index_or, IsTrue}
use Rattle.pv_graph.specs.declared.node.Op.{Op}
use Rattle.pv_graph.specs.Walks.{In}
use Rattle.pv_graph.specs.Graphs.{Graph}
use Rattle.pv_marks.specs.Classes.{HasForm}

-- node n is kept
abbrev pub IsKept : List Bool → ℕ → Type 0
IsKept kept n = IsTrue (slice_index_or kept n false)

-- where a class holds an operation over kids of these classes, it does so at a node that is kept
abbrev pub KeepsForms : Graph → List ℕ → List Bool → Type 0
KeepsForms g numbers kept = (c : ℕ) (o : Op) (over : List ℕ) → HasForm g numbers c o over → (f : HasForm g numbers c o over) × IsKept kept f.node

-- a list gains at least those nodes of another that are kept
pub record AddsKept (kept : List Bool) (nodes old new : List ℕ) : Type 0 where
  pub stay : (n : ℕ) → In old n → In new n
  pub added : (n : ℕ) → In nodes n → IsKept kept n → In new n
