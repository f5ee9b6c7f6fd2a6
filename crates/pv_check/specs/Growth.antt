-- What is asked of a node step.
use Rattle.std.specs.Prelude.{◌≡◌, ℕ, ◌<◌, ◌-◌, ◌^◌, List, length}
use Rattle.std.specs.List.{AllByRecursion}
use Rattle.pv_graph.specs.declared.node.Op.{Op}
use Rattle.pv_graph.specs.Graphs.{Graph}
use Rattle.pv_graph.specs.Calls.{IsSame}
use Rattle.pv_steps.specs.declared.step.Step.{Step}
use Rattle.pv_steps.specs.Right.{AddsNode, Grows}

-- n is the number of nodes, a graph may have one more, and the kids are nodes
abbrev pub MayBeNext : Graph → ℕ → List ℕ → Type 0
MayBeNext g n kids = (n ≡ length g.nodes) × ((n < 2 ^ 32 - 1) × AllByRecursion (λ k. k < n) kids)

-- the new graph is the one that a right node step makes, but for being prepared
abbrev pub NodeAdded : Graph → Graph → ℕ → Op → List ℕ → Type 0
NodeAdded old new n o kids = (g : Graph) × AddsNode old n o kids g × IsSame g new

-- the new graph is the one that the step makes, but for being prepared
abbrev pub GrowsTo : Step → Graph → Graph → Type 0
GrowsTo s old new = (g : Graph) × Grows s old g × IsSame g new
