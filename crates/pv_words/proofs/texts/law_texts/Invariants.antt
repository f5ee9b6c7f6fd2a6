use Rattle.std.proofs.Common.{take}
use Rattle.pv_words.specs.Answers.{texts}
use Rattle.pv_words.specs.Matches.{AreUtf8}
use Rattle.pv_words.proofs.texts.law_texts.Given as goal

abbrev pub invariant-loop-word : goal.invariant-loop-word
invariant-loop-word l = AreUtf8 (texts (take l.word-index l.words))
