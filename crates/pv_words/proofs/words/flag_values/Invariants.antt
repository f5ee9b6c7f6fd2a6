use Rattle.std.proofs.Common.{◌≡◌, take}
use Rattle.clap.specs.Words.{found_of}
use Rattle.pv_words.specs.Answers.{texts}
use Rattle.pv_words.specs.Matches.{flag_values}
use Rattle.pv_words.proofs.words.flag_values.Given as goal

abbrev pub invariant-loop-name : goal.invariant-loop-name
invariant-loop-name l = l.values.items ≡ flag_values (texts (take l.name-index l.flags)) (found_of l.matches)
