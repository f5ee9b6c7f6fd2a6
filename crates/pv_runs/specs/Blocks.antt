-- The chain of each block of a program with typed frames: what the block computes, with its tests and exits.
use Rattle.std.specs.Prelude.{ℕ, zero, suc, ◌-◌, if◌then◌else◌, ◌==◌, List, [], ◌∷◌, Option, Some, slice_get, unwrap_or, option_map}
use Rattle.pv_pool.specs.Readers.{◌>>=◌}
use Rattle.pv_frame.specs.declared.program.Program.{Program}
use Rattle.pv_frame.specs.declared.frame.Frame.{Frame}
use Rattle.pv_flow.specs.declared.block.Block.{Block}
use Rattle.pv_equations.specs.Flow as flow
use Rattle.pv_equations.specs.Flow.{Slot, Dest, To, End, Return, Exit, Chain, Leave}
use Rattle.pv_runs.specs.Held.{Held, clear_part, unit_part, held_at, acted}
use Rattle.pv_runs.specs.Chains.{end_slots, chain_of}

-- ---- the chain of a block

-- after the n actions from place k on, each of which goes on to the next place
abbrev pub acted_along : Program → ℕ → ℕ → Held → Option Held
acted_along p zero k h = Some h
acted_along p (suc n) k h = slice_get p.actions k >>= λ a. acted a h >>= λ g. acted_along p n (suc k) g

-- what is held where a block begins, in a typed frame
abbrev pub held_first : List (Option Frame) → Block → Option Held
held_first frames b = slice_get frames b.first >>= option_map held_at

-- the tests and exits of a block, whose exits go to places: those of its last action, after the others
abbrev pub place_chain : Program → List (Option Frame) → Block → Option Chain
place_chain p frames b =
    held_first frames b >>= λ h. acted_along p (b.last - b.first) b.first h >>= λ g. slice_get p.actions b.last >>= λ a. chain_of p.desc.result b.last a g

-- the number of the block that begins at a place
abbrev pub number_at : List Block → ℕ → ℕ
number_at [] place = 0
number_at (b ∷ blocks) place = if b.first == place then 0 else suc (number_at blocks place)

-- with the numbers of blocks in place of the places where they begin
abbrev pub numbered_dest : List Block → Dest → Dest
numbered_dest blocks (To place) = To (number_at blocks place)
numbered_dest blocks (End k) = End k

abbrev pub numbered_exit : List Block → Exit → Exit
numbered_exit blocks e = record e { dest = numbered_dest blocks e.dest }

abbrev pub numbered : List Block → Chain → Chain
numbered blocks (Leave e) = Leave (numbered_exit blocks e)
numbered blocks (flow.Test t yes' rest) = flow.Test t (numbered_exit blocks yes') (numbered blocks rest)

-- where there is no block; no run comes there
abbrev pub no_chain : Chain
no_chain = Leave (record { dest = End Return; slots = end_slots (Slot 0) clear_part unit_part (Slot 3) })

abbrev pub block_chain : Program → List (Option Frame) → List Block → ℕ → Chain
block_chain p frames blocks n = unwrap_or (option_map (numbered blocks) (slice_get blocks n >>= place_chain p frames)) no_chain
