-- The numbers of slots.
use Rattle.std.proofs.Common.{◌≡◌, ℕ, zero, suc, ◌+◌, ◌-◌, ◌*◌, ◌<◌, ◌≤◌, refl, arith}
use Rattle.pv_build.proofs.Words.{local_place, stack_place, local_slot, stack_slot, Part, number_in}
use Rattle.pv_build.specs.declared.slot.Part.TheVariants as part

local_twice : (k : ℕ) → local_place k ≡ k + k
local_twice zero = refl
local_twice (suc k) = let z = local_twice k in omega (arith, z)

stack_twice : (j : ℕ) → stack_place j ≡ suc (j + j)
stack_twice zero = refl
stack_twice (suc j) = let z = stack_twice j in omega (arith, z)

pub local_number : (k n : ℕ) → n ≡ 4 + (k + k) → n ≡ local_slot k
local_number k n e = let z = local_twice k in omega (arith, z, e)

pub stack_number : (j n : ℕ) → n ≡ 5 + (j + j) → n ≡ stack_slot j
stack_number j n e = let z = stack_twice j in omega (arith, z, e)

-- the number of each of so many cells
pub number_below : (which : Part) (count i most : ℕ) → i < count → count ≤ most → number_in which count i < 4 + 2 * most
number_below part.Locals count i most p q = let x = local_twice i in omega (arith, x, p, q)
number_below part.Stack count i most p q = let x = stack_twice (count - 1 - i) in omega (arith, x, p, q)
