use Rattle.std.proofs.Common.{◌≡◌, ◌++◌, drop}
use Rattle.std.specs.Prelude.{map}
use Rattle.pv_token.specs.Words.{spaced}
use Rattle.pv_differences.specs.Lines.{argument_word}
use Rattle.pv_differences.proofs.line.push_arguments.Given as goal

abbrev pub invariant-loop-n : goal.invariant-loop-n
invariant-loop-n l = l.out.items ++ spaced (map argument_word (drop l.n-index l.args)) ≡ l.initial.out.items ++ spaced (map argument_word l.args)
