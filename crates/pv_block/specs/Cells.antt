-- Cells of the operand stack and of locals, with nodes as their values.
use Rattle.std.specs.Prelude.{ℕ, zero, suc, List, Option, Some, None, if◌then◌else◌, slice_get, slice_index_or, slice_set}
use Rattle.pv_pool.specs.Readers.{◌>>=◌}
use Rattle.pv_frame.specs.declared.sort.Sort.{Sort}
use Rattle.pv_frame.specs.declared.sort.Sort.TheVariants as sort
use Rattle.pv_frame.specs.Stacks.{fits, is_wide, Taken, none, one, two}
use Rattle.pv_block.specs.declared.held.Cell.{Cell}
use Rattle.pv_block.specs.declared.stack.Part.{Part}
use Rattle.pv_block.specs.declared.stack.Part.TheVariants as part

abbrev pub sort_in : Cell → Sort
sort_in c = c.sort

-- a cell that holds no value, with unit for its node
abbrev pub empty : ℕ → Cell
empty unit = record { sort = sort.Unknown; node = unit }

-- the cell, where it has this sort
abbrev pub cell_of : Sort → Cell → Option Cell
cell_of s c = if fits c.sort s then Some c else None

-- the local of this sort
abbrev pub local_of : Sort → ℕ → List Cell → Option Cell
local_of s k locals = slice_get locals k >>= cell_of s

-- what a move takes from a stack
abbrev pub taken_by : Part → List Cell → Taken Cell
taken_by part.Nothing stack = none sort_in stack
taken_by part.One stack = one sort_in stack
taken_by part.Two stack = two sort_in stack

-- the locals without a long in the one before this
abbrev pub lost_before : Cell → ℕ → List Cell → List Cell
lost_before unset zero locals = locals
lost_before unset (suc k) locals = if is_wide (slice_index_or locals k unset).sort then slice_set locals k unset else locals

-- and with a value stored into this one
abbrev pub stored : Cell → ℕ → Cell → List Cell → List Cell
stored unset k c locals = if is_wide c.sort then slice_set (slice_set locals k c) (suc k) unset else slice_set locals k c
