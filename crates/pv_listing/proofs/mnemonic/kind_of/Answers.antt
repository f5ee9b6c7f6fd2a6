use Rattle.std.proofs.Common.{◌≡◌, ℕ, ◌<◌, List, map, get_or, refl, ap, sym, ◌∙◌, arith}
use Rattle.std.specs.List.{range_with_len}
use Rattle.std.proofs.lemmas.List.FromFn.{get_or-map-range_with_len}
use Rattle.pv_listing.specs.declared.mnemonic.Kind.{Kind}
use Rattle.pv_listing.specs.declared.mnemonic.Kind.TheVariants as kind
use Rattle.pv_listing.specs.declared.mnemonic.TheConstants.{KINDS}
use Rattle.pv_listing.specs.Mnemonics.{kind_in, kind_of}
use Rattle.pv_listing.proofs.mnemonic.kind_of.Goals as goal

agrees_at : (f g : ℕ → Kind) (n op : ℕ) → map f (range_with_len 0 n) ≡ map g (range_with_len 0 n) → op < n → f op ≡ g op
agrees_at f g n op same lt = sym (get_or-map-range_with_len f 0 n op op kind.Nothing lt (omega arith)) ∙ ap (λ (ks : List Kind). get_or ks op kind.Nothing) same ∙ get_or-map-range_with_len g 0 n op op kind.Nothing lt (omega arith)

-- the rows give each of the 256 bytes its kind by the table of opcodes, by computing both
pub returns : goal.returns
returns c = c.kind_in.ensures ∙ agrees_at (kind_in KINDS) kind_of 256 c.args.op refl c.ranges.op.fits
