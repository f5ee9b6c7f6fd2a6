-- The tries: one world for all of them, and an input for each number from 1 on.
use Rattle.std.specs.Prelude.{ℕ, suc, ◌-◌, ◌/◌, ◌%◌, ◌^◌, ℤ, pos, neg_ℤ, List, [], ◌∷◌, slice_index_or, unwrap_or}
use Rattle.std.specs.FinMap.{empty, from_entries}
use Rattle.pv_value.specs.declared.descriptor.JType.{JType}
use Rattle.pv_value.specs.declared.descriptor.JType.TheVariants.{J, A}
use Rattle.pv_value.specs.declared.descriptor.Descriptor.{Descriptor}
use Rattle.pv_value.specs.declared.number.Num.{Num}
use Rattle.pv_value.specs.declared.number.Num.TheVariants.{Int, Long, Ref}
use Rattle.pv_value.specs.declared.outcome.Input.{Input}
use Rattle.pv_value.specs.declared.world.World.{World}
use Rattle.pv_value.specs.Narrowing.{narrowed}
use Rattle.pv_value.specs.Worlds.{empty_world}

-- ---- the world

-- arrays 1 to 4 have the lengths 0 to 3, and nothing else is known
abbrev pub try_world : World
try_world = record empty_world { lengths = from_entries ((1, pos 0) ∷ (2, pos 1) ∷ (3, pos 2) ∷ (4, pos 3) ∷ []) }

-- ---- the inputs

-- digit j of a number in base 8, where digit 0 is the lowest; after the last digit come zeros
abbrev pub digit : ℕ → ℕ → ℕ
digit n j = n / 8 ^ j % 8

-- what the digits 0 to 7 choose, in their order: 0, 1, -1, 2, 7, -8, the greatest value of a type and its least
abbrev pub choices : ℤ → ℤ → List ℤ
choices greatest least = pos 0 ∷ pos 1 ∷ neg_ℤ (pos 1) ∷ pos 2 ∷ pos 7 ∷ neg_ℤ (pos 8) ∷ greatest ∷ least ∷ []

abbrev pub int_of : ℕ → ℤ
int_of d = slice_index_or (choices (pos 2147483647) (neg_ℤ (pos 2147483648))) d (pos 0)

abbrev pub long_of : ℕ → ℤ
long_of d = slice_index_or (choices (pos 9223372036854775807) (neg_ℤ (pos 9223372036854775808))) d (pos 0)

-- the argument for a parameter of this type: a long, a reference from 0 to 4, or an int that is narrowed to the type. No parameter is a float or a double
abbrev pub argument : JType → ℕ → Num
argument J d = Long (long_of d)
argument A d = Ref (d % 5)
argument t d = Int (unwrap_or (narrowed t (int_of d)) (pos 0))

-- the arguments from argument j on, for parameters of these types: digit j of the number chooses argument j
abbrev pub arguments : ℕ → ℕ → List JType → List Num
arguments n j [] = []
arguments n j (t ∷ types) = argument t (digit n j) ∷ arguments n (suc j) types

-- the input of try t, which is 1 or more: the digits of t - 1 choose the arguments, and the heap is empty
abbrev pub try_input : Descriptor → ℕ → Input
try_input d t = record { this = 1; args = arguments (t - 1) 0 d.params; heap = empty }
