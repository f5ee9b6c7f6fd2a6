-- What moves take from a stack, and what they leave; private to this crate.
use Rattle.std.specs.Prelude.{◌≡◌, ◌<◌, ◌≤◌, ℕ, Bool, true, false, List, [], ◌∷◌, drop, length, Option, Some, None}
use Rattle.pv_value.specs.declared.number.Num.{Num}
use Rattle.pv_frame.specs.Stacks.{Taken}
use Rattle.pv_machine.specs.declared.moves.Block.{Block}
use Rattle.pv_machine.specs.declared.moves.Block.TheVariants as block
use Rattle.pv_machine.specs.InMemory.{StackInMemory}

-- the numbers of a block, with the topmost first
abbrev pub values : Block → List Num
values block.Nothing = []
values (block.One n) = n ∷ []
values (block.Two below top) = top ∷ below ∷ []

abbrev pub size : Block → ℕ
size block.Nothing = 0
size (block.One n) = 1
size (block.Two below top) = 2

-- this block is taken from the top of a stack
abbrev pub IsTaken : Taken Num → List Num → Option Block → Type 0
IsTaken taken stack None = taken ≡ None
IsTaken taken stack (Some b) = (taken ≡ Some (values b, drop (size b) stack)) × (size b ≤ length stack)

-- a stack is moved to the next, or stays where it can't be
abbrev pub IsMoved : Option (List Num) → StackInMemory → Bool → StackInMemory → Type 0
IsMoved moved old true new = moved ≡ Some new.nums
IsMoved moved old false new = (moved ≡ None) × (new.nums ≡ old.nums)

-- there is no room for the stack that is moved
abbrev pub IsOverfull : Option (List Num) → ℕ → Type 0
IsOverfull moved room = (stack : List Num) × (moved ≡ Some stack) × (room < length stack)
