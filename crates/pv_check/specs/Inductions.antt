-- What is asked of the step that ends a block.
use Rattle.std.specs.Prelude.{◌≡◌, ℕ, List, [], ◌∷◌, Option, Some, None, ◌==◌, if◌then◌else◌}
use Rattle.pv_graph.specs.declared.node.Op.TheVariants as op
use Rattle.pv_graph.specs.Graphs.{Graph}
use Rattle.pv_steps.specs.declared.step.Fact.{Fact}
use Rattle.pv_steps.specs.declared.step.Step.{Step}
use Rattle.pv_steps.specs.declared.step.Step.TheVariants.{Open, Assume}
use Rattle.pv_steps.specs.Steps.{Block, Loop, Ending, OpenBlock, Shows}
use Rattle.pv_steps.specs.Right.{Is}

-- the block that a step opens
abbrev pub block_of : Step → Option Block
block_of (Open d pairs) = Some (Loop d pairs)
block_of (Assume p nodes) = Some (Ending p nodes)
block_of s = None

-- the step opened the innermost of these blocks
pub record Opens (inside : List OpenBlock) (s : Step) : Type 0 where
  pub opened : ℕ
  pub block : Block
  pub outer : List OpenBlock
  pub is : inside ≡ record { opened = opened; block = block } ∷ outer
  pub by : block_of s ≡ Some block

-- the pairs of the induction of this depth that a step opens
abbrev pub loop_pairs : ℕ → Step → Option (List (ℕ × ℕ))
loop_pairs d (Open e pairs) = if e == d then Some pairs else None
loop_pairs d s = None

-- two nodes are the pair at iteration 0
pub record IsStart (g : Graph) (d : ℕ) (p : ℕ × ℕ) (left right : ℕ) : Type 0 where
  pub zero_ : ℕ
  pub is_left : Is g left (op.Eval d) (p.0 ∷ zero_ ∷ [])
  pub is_zero : Is g zero_ op.Zero []
  pub is_right : Is g right (op.Eval d) (p.1 ∷ zero_ ∷ [])

-- the fact, which is visible there, states that the pair is equal at iteration 0
abbrev pub HasStart : Graph → List Step → ℕ → List OpenBlock → ℕ × ℕ → Fact → Type 0
HasStart g before d there p f = (a b : ℕ) × Shows before there f a b × IsStart g d p a b

-- .. and one iteration later
abbrev pub HasNext : Graph → List Step → ℕ → List OpenBlock → ℕ × ℕ → Fact → Type 0
HasNext g before d there p f = (a b : ℕ) × Shows before there f a b × (Is g a (op.Shift d) (p.0 ∷ []) × Is g b (op.Shift d) (p.1 ∷ []))

-- the nodes that a step assumes to end, where it opens an ending block
abbrev pub ending_nodes : Step → Option (List ℕ)
ending_nodes (Assume p nodes) = Some nodes
ending_nodes s = None
