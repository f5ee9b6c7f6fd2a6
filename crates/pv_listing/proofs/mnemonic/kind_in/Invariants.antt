use Rattle.std.proofs.Common.{◌≡◌, drop}
use Rattle.pv_listing.specs.Mnemonics.{kind_in}
use Rattle.pv_listing.proofs.mnemonic.kind_in.Given as goal

abbrev pub invariant-loop-row : goal.invariant-loop-row
invariant-loop-row l = kind_in (drop l.row-index l.rows) l.op ≡ kind_in l.rows l.op
