use Rattle.std.proofs.Common.{◌≡◌, ◌++◌, drop}
use Rattle.std.specs.Option.{option_map}
use Rattle.pv_format.specs.Reading.{read_each}
use Rattle.pv_format.specs.Seen.{texts}
use Rattle.pv_token.proofs.phrase.read_each.Given as goal

abbrev pub invariant-loop-word : goal.invariant-loop-word
invariant-loop-word g l = option_map (λ more. l.list.items ++ more) (read_each g.T.Token.token.reads (texts (drop l.word-index l.words))) ≡ read_each g.T.Token.token.reads (texts l.words)
