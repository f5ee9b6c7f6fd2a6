use Rattle.std.proofs.Common.{take, ◌≡◌}
use Rattle.pv_words.specs.Answers.{texts}
use Rattle.pv_words.specs.CommandLine.{bytes_of}
use Rattle.pv_words.proofs.line.strs.Given as goal

-- the words so far
abbrev pub invariant-loop-word : goal.invariant-loop-word
invariant-loop-word l = texts l.strs.items ≡ bytes_of (take l.word-index l.words)
