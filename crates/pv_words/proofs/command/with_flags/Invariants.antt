use Rattle.std.proofs.Common.{◌≡◌, [], take}
use Rattle.clap.specs.Words.{app_of}
use Rattle.pv_words.specs.Answers.{texts}
use Rattle.pv_words.specs.Matches.{app_with}
use Rattle.pv_words.proofs.command.with_flags.Given as goal

abbrev pub invariant-loop-name : goal.invariant-loop-name
invariant-loop-name l = app_of l.command ≡ app_with (texts (take l.name-index l.flags)) []
