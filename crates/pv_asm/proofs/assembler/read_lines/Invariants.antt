use Rattle.std.proofs.Common.{◌≡◌, ◌+◌, drop}
use Rattle.pv_asm.specs.declared.draft.Place.TheVariants.{Start}
use Rattle.pv_asm.specs.Listings.{read_lines}
use Rattle.pv_asm.proofs.assembler.read_lines.Given as goal

abbrev pub invariant-loop-i : goal.invariant-loop-i
invariant-loop-i l = read_lines (l.i + 1) l.place (drop l.i l.lines) ≡ read_lines 1 Start l.lines
