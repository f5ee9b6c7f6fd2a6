use Rattle.std.proofs.Common.{true≢false, sym}
use Rattle.pv_words.specs.Words.{IsFileName}
use Rattle.pv_words.proofs.Lists.{each_at}
use Rattle.pv_words.proofs.texts.are_file_names.Goals as goal

pub returns-then-not-is_file_name : goal.returns-then-not-is_file_name
returns-then-not-is_file_name c = (
  (λ e. absurd (true≢false (sym e))),
  λ are. c.if-not-is_file_name.ensures.1 (each_at IsFileName (λ s. s.now) c.args.arguments.now c.loop-argument.argument-index _ c.loop-argument-test.true are),
)
