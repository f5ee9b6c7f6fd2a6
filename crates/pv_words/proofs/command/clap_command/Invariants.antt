use Rattle.std.proofs.Common.{◌≡◌, take}
use Rattle.clap.specs.Words.{app_of}
use Rattle.pv_words.specs.Answers.{texts}
use Rattle.pv_words.specs.Matches.{app_with}
use Rattle.pv_words.proofs.command.clap_command.Given as goal

abbrev pub invariant-loop-name : goal.invariant-loop-name
invariant-loop-name l = app_of l.command ≡ app_with (texts l.flags) (texts (take l.name-index l.options))
