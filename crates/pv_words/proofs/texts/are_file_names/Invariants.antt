use Rattle.std.proofs.Common.{take}
use Rattle.pv_words.specs.Answers.{texts}
use Rattle.pv_words.specs.Matches.{AreFileNames}
use Rattle.pv_words.proofs.texts.are_file_names.Given as goal

abbrev pub invariant-loop-argument : goal.invariant-loop-argument
invariant-loop-argument l = AreFileNames (texts (take l.argument-index l.arguments))
