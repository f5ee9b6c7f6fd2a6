-- What the nodes of a graph mean.
use Rattle.std.specs.Prelude.{ℕ, zero, suc, ◌<◌, ◌^◌, List, slice_index}
use Rattle.std.specs.List.{AllByRecursion}
use Rattle.pv_value.specs.Worlds.{IsWorld}
use Rattle.pv_value.specs.Inputs.{IsInput}
use Rattle.pv_value.specs.declared.world.World.{World}
use Rattle.pv_value.specs.declared.outcome.Input.{Input}
use Rattle.pv_value.specs.declared.outcome.Val.{Val}
use Rattle.pv_graph.specs.Graphs.{Graph, form_at}
use Rattle.pv_denote.specs.Denote as denote
use Rattle.pv_denote.specs.Denote.{Index}

-- the value of a node of a graph
abbrev pub Value : Graph → World → Input → ℕ → Index → Val → Type 0
Value g w x n i v = denote.Value (form_at g.nodes) w x n i v

-- two nodes have one and the same value, or neither has one, in every well-formed world, for every input and at every index
abbrev pub Same : Graph → ℕ → ℕ → Type 0
Same g a b = (w : World) (x : Input) → IsWorld w → IsInput x → (i : Index) → denote.SameAt (form_at g.nodes) w x i a b

-- the iteration of depth 1 first, then that of depth 2 and so on; a missing one is 0
abbrev pub index_of : List ℕ → Index
index_of iterations zero = 0
index_of iterations (suc d) = slice_index iterations d

abbrev pub AreSmall : List ℕ → Type 0
AreSmall iterations = AllByRecursion (λ k. k < 2 ^ 62) iterations
