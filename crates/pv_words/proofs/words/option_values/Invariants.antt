use Rattle.std.proofs.Common.{◌≡◌, map, option_map, take}
use Rattle.clap.specs.Words.{found_of}
use Rattle.pv_words.specs.Answers.{texts}
use Rattle.pv_words.specs.Matches.{option_values}
use Rattle.pv_words.proofs.words.option_values.Given as goal

abbrev pub invariant-loop-name : goal.invariant-loop-name
invariant-loop-name l = map (option_map (λ s. s.now)) l.values.items ≡ option_values (texts (take l.name-index l.options)) (found_of l.matches)
