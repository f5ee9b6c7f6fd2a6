-- Where the labels of a method stand: the bytes of each instruction before them count, and no other line does.
use Rattle.std.specs.Prelude.{ℕ, ◌+◌, ◌-◌, ◌*◌, ◌%◌, ◌==◌, List, [], ◌∷◌, ◌++◌, length, Option, Some, is_some, if◌then◌else◌}
use Rattle.std.specs.Map.{lookup}
use Rattle.std.specs.Str.{bytes_eq}
use Rattle.pv_listing.specs.declared.line.Line.{Line}
use Rattle.pv_listing.specs.declared.line.Line.TheVariants as lines
use Rattle.pv_listing.specs.declared.line.Operands.{Operands}
use Rattle.pv_listing.specs.declared.line.Operands.TheVariants as operands

-- ---- how many bytes an instruction has (JVMS 6.5)

-- the bytes between the opcode of a switch at an address and its numbers, which begin at a multiple of 4
abbrev pub padding : ℕ → ℕ
padding at = 3 - at % 4

-- a switch at an address, with n numbers of four bytes
abbrev pub switch_size : ℕ → ℕ → ℕ
switch_size at n = 1 + padding at + 4 * n

-- bipush (16) and ldc (18) have an operand of one byte, goto_w (200) has one of four
abbrev pub size_at : ℕ → ℕ → Operands → ℕ
size_at at op operands.Nothing = 1
size_at at op (operands.Number n) = if op == 16 then 2 else 3
size_at at op (operands.Local n) = 2
size_at at op (operands.Increment n k) = 3
size_at at op (operands.Int n) = if op == 18 then 2 else 3
size_at at op (operands.Long n) = 3
size_at at op (operands.Label l) = if op == 200 then 5 else 3
size_at at op (operands.Table low default labels) = switch_size at (3 + length labels)
size_at at op (operands.Lookup default pairs) = switch_size at (2 + 2 * length pairs)
size_at at op (operands.Member s) = 3

-- ---- labels with their addresses

abbrev pub Labels : Type 0
Labels = List (List ℕ × ℕ)

-- the address of a label
abbrev pub address_of : List ℕ → Labels → Option ℕ
address_of l labels = lookup (bytes_eq l) labels

-- a label at an address; one that is there already keeps its own
abbrev pub put : Labels → List ℕ → ℕ → Labels
put labels l at = if is_some (address_of l labels) then labels else labels ++ (l, at) ∷ []

-- the labels so far, and those up to the next `end`, where the lines begin at an address
abbrev pub labels_from : Labels → ℕ → List (Option Line) → Labels
labels_from labels at [] = labels
labels_from labels at (Some lines.End ∷ after) = labels
labels_from labels at (Some (lines.Label l) ∷ after) = labels_from (put labels l at) at after
labels_from labels at (Some (lines.Instruction op o) ∷ after) = labels_from labels (at + size_at at op o) after
labels_from labels at (line ∷ after) = labels_from labels at after
