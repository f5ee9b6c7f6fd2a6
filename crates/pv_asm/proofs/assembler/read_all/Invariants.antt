use Rattle.std.proofs.Common.{◌≡◌, ◌++◌, drop, map}
use Rattle.pv_format.specs.Seen.{texts}
use Rattle.pv_listing.specs.Lines.{line_text}
use Rattle.pv_asm.proofs.assembler.read_all.Given as goal

abbrev pub invariant-loop-body : goal.invariant-loop-body
invariant-loop-body l = l.lines.items ++ map line_text.reads (texts (drop l.body-index l.bodies)) ≡ map line_text.reads (texts l.bodies)
