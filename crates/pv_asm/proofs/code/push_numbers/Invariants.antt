use Rattle.std.proofs.Common.{◌≡◌, ◌++◌, drop}
use Rattle.std.specs.Int.{w32}
use Rattle.std.specs.List.{flat_map}
use Rattle.pv_insn.specs.Pieces.{signed}
use Rattle.pv_asm.proofs.code.push_numbers.Given as goal

abbrev pub invariant-loop-number : goal.invariant-loop-number
invariant-loop-number l = l.out.items ++ flat_map (signed w32) (drop l.number-index l.numbers) ≡ l.initial.out.items ++ flat_map (signed w32) l.numbers
