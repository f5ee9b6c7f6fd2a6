-- Edges between blocks: for each block the blocks that its exits go to.
use Rattle.std.specs.Prelude.{ℕ, List, map, Option, Some, None, Contains, slice_index_or, []}
use Rattle.std.specs.List.{filter_map}
use Rattle.pv_flow.specs.declared.block.Exit.{Exit}
use Rattle.pv_flow.specs.declared.block.Exit.TheVariants as exit
use Rattle.pv_flow.specs.declared.block.Block.{Block}

-- the block that an exit goes to
abbrev pub target_of : Exit → Option ℕ
target_of (exit.To n) = Some n
target_of exit.Return = None
target_of exit.Throw = None

-- the blocks that some exits go to, in their order
abbrev pub targets_of : List Exit → List ℕ
targets_of exits = filter_map target_of exits

-- for each block, in order
abbrev pub edges_of : List Block → List (List ℕ)
edges_of blocks = map (λ b. targets_of b.exits) blocks

-- an edge from m to n
abbrev pub Edge : List (List ℕ) → ℕ → ℕ → Type 0
Edge edges m n = Contains (slice_index_or edges m []) n

-- blocks that are reached along edges from block 0
pub data FromEntry (edges : List (List ℕ)) : ℕ → Type 0 where
  entry : FromEntry edges 0
  along : (m n : ℕ) → FromEntry edges m → Edge edges m n → FromEntry edges n
