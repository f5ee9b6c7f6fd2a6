use Rattle.std.proofs.Common.{map, option_map, take}
use Rattle.pv_words.specs.Matches.{AreValues}
use Rattle.pv_words.proofs.texts.are_values.Given as goal

abbrev pub invariant-loop-option : goal.invariant-loop-option
invariant-loop-option l = AreValues (map (option_map (λ s. s.now)) (take l.option-index l.options))
