use Rattle.std.proofs.Common.{List, ℕ, refl, subst, sym}
use Rattle.pv_words.specs.Answers.{texts}
use Rattle.pv_top.specs.Words.{IsCommand, first_of, second_of}
use Rattle.pv_top.proofs.Cited.{nothing_asked, nothing_left, silent}
use Rattle.punthizha.proofs.run_words.Goals as goal

pub returns-in_default-clause-equivalent : goal.returns-in_default-clause-equivalent
returns-in_default-clause-equivalent g c command is = silent (g.F.Files.held c.args.files.now) (first_of command) (second_of command) (g.K.Sink.sent c.args.out.now) (g.K.Sink.sent c.args.out.now) refl

pub returns-in_default-clause-asked : goal.returns-in_default-clause-asked
returns-in_default-clause-asked g c command is = nothing_asked (g.F.Files.held c.args.files.now) command (g.F.Files.asked c.args.files.now) _

pub returns-in_default-clause-held : goal.returns-in_default-clause-held
returns-in_default-clause-held g c command is = nothing_left command (g.F.Files.held c.args.files.now) _ _
