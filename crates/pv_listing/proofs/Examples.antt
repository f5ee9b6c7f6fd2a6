-- Worked examples, whose answers are computed: which opcodes have a mnemonic; lines that read, and lines that don't.
use Rattle.std.specs.Prelude.{◌≡◌, ℕ, Bool, not, ◌&&◌, map, [], ◌∷◌, Some, None, codes, refl}
use Rattle.std.specs.List.{range_with_len}
use Rattle.pv_insn.specs.Opcodes.{is_among, is_opcode, is_refused}
use Rattle.pv_listing.specs.declared.line.Line.TheVariants as lines
use Rattle.pv_listing.specs.declared.line.Operands.TheVariants as operands
use Rattle.pv_listing.specs.Mnemonics.{has_name}
use Rattle.pv_listing.specs.Lines.{line_text}

-- accepted, and neither a store of a reference into an array, a call on a receiver, a cast or a type test, nor wide
abbrev is_written : ℕ → Bool
is_written op = is_opcode op && not (is_refused op) && not (is_among op ((83, 83) ∷ (182, 183) ∷ (185, 185) ∷ (192, 193) ∷ (196, 196) ∷ []))

mnemonics : map has_name (range_with_len 0 256) ≡ map is_written (range_with_len 0 256)
mnemonics = refl

plain : line_text.reads (codes "iconst_1") ≡ Some (lines.Instruction 4 operands.Nothing)
plain = refl

no_such_constant : line_text.reads (codes "iconst_9") ≡ None
no_such_constant = refl

two_blanks : line_text.reads (codes "goto  H") ≡ None
two_blanks = refl

end : line_text.reads (codes "end") ≡ Some lines.End
end = refl

label : line_text.reads (codes "H:") ≡ Some (lines.Label (codes "H"))
label = refl

no_colon : line_text.reads (codes "H") ≡ None
no_colon = refl

branch : line_text.reads (codes "if_icmpge E") ≡ Some (lines.Instruction 162 (operands.Label (codes "E")))
branch = refl

cases_alone : line_text.reads (codes "lookupswitch D") ≡ Some (lines.Instruction 171 (operands.Lookup (codes "D") []))
cases_alone = refl
