use Rattle.pv_listing.proofs.mnemonic.opcode_of.Goals as goal

-- the rows are those of the table of mnemonics
pub returns : goal.returns
returns c = c.opcode_in.ensures
