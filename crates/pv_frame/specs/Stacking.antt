-- What moves take from a stack, and the steps of a store into a local.
use Rattle.std.specs.Prelude.{ℕ, zero, suc, List, if◌then◌else◌, slice_index_or, slice_set}
use Rattle.pv_frame.specs.declared.sort.Sort.{Sort}
use Rattle.pv_frame.specs.declared.stack.Part.{Part}
use Rattle.pv_frame.specs.declared.stack.Part.TheVariants as part
use Rattle.pv_frame.specs.Stacks.{is_wide, Taken, none, one, two}

abbrev pub taken_by : {A : Type 0} → (A → Sort) → Part → List A → Taken A
taken_by sort part.Nothing stack = none sort stack
taken_by sort part.One stack = one sort stack
taken_by sort part.Two stack = two sort stack

-- the locals without a long in the one before this
abbrev pub lost_before : {A : Type 0} → (A → Sort) → A → ℕ → List A → List A
lost_before sort unset zero locals = locals
lost_before sort unset (suc k) locals = if is_wide (sort (slice_index_or locals k unset)) then slice_set locals k unset else locals

-- and with a value stored into this one
abbrev pub stored : {A : Type 0} → (A → Sort) → A → ℕ → A → List A → List A
stored sort unset k x locals = if is_wide (sort x) then slice_set (slice_set locals k x) (suc k) unset else slice_set locals k x
