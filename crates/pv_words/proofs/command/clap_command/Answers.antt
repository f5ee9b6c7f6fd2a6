use Rattle.std.proofs.Common.{◌∙◌}
use Rattle.pv_words.specs.Answers.{texts}
use Rattle.pv_words.proofs.Building.{option_more}
use Rattle.pv_words.proofs.command.clap_command.Goals as goal

pub loop-name-preserved : goal.loop-name-preserved
loop-name-preserved c =
    c.in_ok-command-2.ensures.shape c.option.ensures.local
    ∙ option_more _ _ (texts c.args.flags.now) c.args.options.now c.loop-name.name-index _ c.loop-name-test.true c.loop-name.invariant c.option.ensures.rule
