use Rattle.std.proofs.Common.{◌≡◌, ◌++◌, length}
use Rattle.std.specs.Option.{option_map}
use Rattle.pv_format.specs.Reading.{read_pairs}
use Rattle.pv_format.specs.Seen.{texts}
use Rattle.pv_token.proofs.phrase.read_pairs.Given as goal

abbrev pub invariant-loop-rest : goal.invariant-loop-rest
invariant-loop-rest g l = option_map (λ more. l.list.items ++ more) (read_pairs g.T.Token.token.reads (texts l.rest)) ≡ read_pairs g.T.Token.token.reads (texts l.words)

abbrev pub decreases-loop-rest : goal.decreases-loop-rest
decreases-loop-rest g l = length l.rest
