-- The bytes of instructions (JVMS 6.5), where the index of their entry and the addresses of labels are known.
use Rattle.std.specs.Prelude.{ℕ, ◌==◌, ℤ, pos, negsuc, ◌+ℤ◌, ◌-ℤ◌, int_le, nat_le, Bool, ◌&&◌, List, [], ◌∷◌, ◌++◌, length, replicate, Option, Some, None, if◌then◌else◌}
use Rattle.std.specs.List.{flat_map}
use Rattle.std.specs.Int.{w8, w16, w32, to_be_bytes, cast_unsigned}
use Rattle.pv_format.specs.Reading.{read_each}
use Rattle.pv_pool.specs.Readers.{◌>>=◌}
use Rattle.pv_insn.specs.Pieces.{signed}
use Rattle.pv_listing.specs.declared.line.Operands.{Operands}
use Rattle.pv_listing.specs.declared.line.Operands.TheVariants as operands
use Rattle.pv_asm.specs.Labels.{Labels, address_of, padding}

-- ---- offsets

-- from an instruction to a label: it counts from the address of the opcode
abbrev pub offset : Labels → ℕ → List ℕ → Option ℤ
offset labels at l = do
  address ← address_of l labels
  Some (pos address -ℤ pos at)

abbrev pub is_byte : ℤ → Bool
is_byte z = int_le (negsuc 127) z && int_le z (pos 127)

abbrev pub is_short : ℤ → Bool
is_short z = int_le (negsuc 32767) z && int_le z (pos 32767)

-- goto_w (200) has four bytes for an offset, each other branch two
abbrev pub branch_bytes : ℕ → ℤ → Option (List ℕ)
branch_bytes op z = if op == 200 then Some (signed w32 z) else if is_short z then Some (signed w16 z) else None

-- ---- indices and numbers

-- ldc (18) has one byte for an index, each other instruction two
abbrev pub index_bytes : ℕ → ℕ → Option (List ℕ)
index_bytes op i = if op == 18 then if nat_le i 255 then Some (i ∷ []) else None else Some (to_be_bytes w16 i)

-- bipush (16) has one byte for the number that it pushes, sipush two
abbrev pub number_bytes : ℕ → ℤ → Option (List ℕ)
number_bytes op z = if op == 16 then if is_byte z then Some (cast_unsigned w8 z ∷ []) else None else Some (signed w16 z)

-- ---- switches

-- the padding, and numbers of four bytes
abbrev pub switch_bytes : ℕ → List ℤ → List ℕ
switch_bytes at numbers = replicate (padding at) 0 ++ flat_map (signed w32) numbers

-- the default, the lowest and the highest number, and the offset for each number
abbrev pub table_numbers : ℤ → ℤ → List ℤ → List ℤ
table_numbers default low offsets = default ∷ low ∷ ((low +ℤ pos (length offsets)) -ℤ pos 1) ∷ offsets

abbrev pub table_bytes : Labels → ℕ → ℤ → List ℕ → List (List ℕ) → Option (List ℕ)
table_bytes labels at low default targets = do
  first ← offset labels at default
  offsets ← read_each (offset labels at) targets
  Some (switch_bytes at (table_numbers first low offsets))

-- a key with the offset to its label
abbrev pub case_of : Labels → ℕ → ℤ × List ℕ → Option (ℤ × ℤ)
case_of labels at p = do
  z ← offset labels at p.1
  Some (p.0, z)

-- the default, how many keys there are, and each key with its offset
abbrev pub lookup_numbers : ℤ → List (ℤ × ℤ) → List ℤ
lookup_numbers default cases = default ∷ pos (length cases) ∷ flat_map (λ c. c.0 ∷ c.1 ∷ []) cases

abbrev pub lookup_bytes : Labels → ℕ → List ℕ → List (ℤ × List ℕ) → Option (List ℕ)
lookup_bytes labels at default pairs = do
  first ← offset labels at default
  cases ← read_each (case_of labels at) pairs
  Some (switch_bytes at (lookup_numbers first cases))

-- ---- instructions

-- what stands after the opcode at an address; None where a label is missing, or where an offset or an index doesn't fit
abbrev pub operand_bytes : Labels → ℕ → ℕ → ℕ → Operands → Option (List ℕ)
operand_bytes labels at index op operands.Nothing = Some []
operand_bytes labels at index op (operands.Number n) = number_bytes op n
operand_bytes labels at index op (operands.Local n) = Some (n ∷ [])
operand_bytes labels at index op (operands.Increment n k) = Some (n ∷ cast_unsigned w8 k ∷ [])
operand_bytes labels at index op (operands.Int n) = index_bytes op index
operand_bytes labels at index op (operands.Long n) = index_bytes op index
operand_bytes labels at index op (operands.Label l) = offset labels at l >>= branch_bytes op
operand_bytes labels at index op (operands.Table low default targets) = table_bytes labels at low default targets
operand_bytes labels at index op (operands.Lookup default pairs) = lookup_bytes labels at default pairs
operand_bytes labels at index op (operands.Member s) = index_bytes op index

abbrev pub insn_bytes : Labels → ℕ → ℕ → ℕ → Operands → Option (List ℕ)
insn_bytes labels at index op o = do
  bytes ← operand_bytes labels at index op o
  Some (op ∷ bytes)
