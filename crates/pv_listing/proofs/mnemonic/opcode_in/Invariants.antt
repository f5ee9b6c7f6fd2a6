use Rattle.std.proofs.Common.{◌≡◌, drop, map}
use Rattle.pv_listing.specs.Mnemonics.{opcode_in}
use Rattle.pv_listing.proofs.mnemonic.opcode_in.Given as goal

abbrev pub invariant-loop-row : goal.invariant-loop-row
invariant-loop-row l = opcode_in (map (λ row. (row.0, row.1.now)) (drop l.row-index l.rows)) l.word ≡ opcode_in (map (λ row. (row.0, row.1.now)) l.rows) l.word
