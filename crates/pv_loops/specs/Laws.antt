-- Laws of the definitions.
use Rattle.std.specs.Prelude.{◌≡◌, ◌≢◌, ℕ, ◌≤◌, List, [], ◌∷◌, slice_index}
use Rattle.pv_loops.specs.declared.fault.TStep.{TStep}
use Rattle.pv_loops.specs.Shapes.{IsShape, IsReversed}
use Rattle.pv_loops.specs.Steps.{ReduceToOne, IsReducible}
use Rattle.pv_loops.specs.Loops.{IsLoop}
use Rattle.pv_loops.specs.Bodies.{IsOrder, IsHead, InBody, AreBody}
use Rattle.pv_loops.specs.declared.forest.Forest.{Forest}
use Rattle.pv_loops.specs.declared.forest.TheConstants.{MAX_DEPTH}
use Rattle.pv_loops.specs.Forests.{IsForest, NestsUpTo, IsSameForest}
use Rattle.pv_loops.specs.Ranks.{HasRanking}

-- where some steps reduce a shape to one node, no steps are stuck
abbrev pub Confluence : Type 0
Confluence = (s : List (List ℕ)) (ts : List TStep) → ReduceToOne s ts → IsReducible s

-- and a reducible shape is reduced to one node by some steps
abbrev pub ReducesToOne : Type 0
ReducesToOne = (s : List (List ℕ)) → IsShape s → IsReducible s → (ts : List TStep) × ReduceToOne s ts

-- the body of a header that no other header has in its body is an outermost loop
abbrev pub OutermostBodies : Type 0
OutermostBodies = (s sources : List (List ℕ)) (order place : List ℕ) → IsReversed s sources → IsShape sources → IsOrder sources order place
    → (h : ℕ) (members : List ℕ) → IsHead sources place h → AreBody sources place h members → ((z : ℕ) → IsHead sources place z → InBody sources place z h → z ≡ h)
    → IsLoop s (h ∷ []) members

-- the body of a header is an inner loop of the loop of the latest other header that has it in its body
abbrev pub InnerBodies : Type 0
InnerBodies = (s sources : List (List ℕ)) (order place : List ℕ) → IsReversed s sources → IsShape sources → IsOrder sources order place
    → (h outer : ℕ) (around members set : List ℕ) → IsHead sources place h → IsHead sources place outer → AreBody sources place h members → AreBody sources place outer set
    → InBody sources place outer h → outer ≢ h → ((z : ℕ) → IsHead sources place z → InBody sources place z h → z ≢ h → slice_index place z ≤ slice_index place outer)
    → IsLoop s (outer ∷ around) set → IsLoop s (h ∷ outer ∷ around) members

-- a shape has one forest at most
abbrev pub OneForest : Type 0
OneForest = (s : List (List ℕ)) (f g : Forest) → IsForest s f → IsForest s g → IsSameForest f g

-- the nodes of a reducible shape whose loops nest at most 16 deep can be ranked
abbrev pub Ranking : Type 0
Ranking = (s : List (List ℕ)) (f : Forest) → IsShape s → IsReducible s → NestsUpTo s MAX_DEPTH → IsForest s f → HasRanking s f
