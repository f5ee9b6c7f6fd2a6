-- The numbers of slots in the equations; private to this crate.
use Rattle.std.specs.Prelude.{ℕ, ◌-◌}
use Rattle.pv_runs.specs.Held.{local_slot, stack_slot}
use Rattle.pv_build.specs.declared.slot.Slot.{Slot}
use Rattle.pv_build.specs.declared.slot.Slot.TheVariants as slot
use Rattle.pv_build.specs.declared.slot.Part.{Part}
use Rattle.pv_build.specs.declared.slot.Part.TheVariants as part

abbrev pub number : Slot → ℕ
number slot.Token = 0
number slot.Fault = 1
number slot.Result = 2
number slot.Heap = 3
number (slot.Local k) = local_slot k
number (slot.Place j) = stack_slot j

-- the slot of the cell i, of this many: the operand stack is listed with its top first
abbrev pub number_in : Part → ℕ → ℕ → ℕ
number_in part.Locals count i = local_slot i
number_in part.Stack count i = stack_slot (count - 1 - i)
