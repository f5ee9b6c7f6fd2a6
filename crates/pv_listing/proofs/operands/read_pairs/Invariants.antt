use Rattle.std.proofs.Common.{◌≡◌, ◌++◌, length}
use Rattle.std.specs.Option.{option_map}
use Rattle.pv_format.specs.Seen.{texts}
use Rattle.pv_token.specs.Tokens.{int_token}
use Rattle.pv_listing.specs.Cases.{read_twos}
use Rattle.pv_listing.specs.WordReading.{read_label}
use Rattle.pv_listing.proofs.operands.read_pairs.Given as goal

abbrev pub invariant-loop-rest : goal.invariant-loop-rest
invariant-loop-rest l = option_map (λ more. l.list.items ++ more) (read_twos int_token.reads read_label (texts l.rest)) ≡ read_twos int_token.reads read_label (texts l.words)

abbrev pub decreases-loop-rest : goal.decreases-loop-rest
decreases-loop-rest l = length l.rest
