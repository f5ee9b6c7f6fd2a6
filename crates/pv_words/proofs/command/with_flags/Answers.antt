use Rattle.std.proofs.Common.{◌∙◌}
use Rattle.pv_words.proofs.Building.{flag_more}
use Rattle.pv_words.proofs.command.with_flags.Goals as goal

pub loop-name-preserved : goal.loop-name-preserved
loop-name-preserved c =
    c.in_ok-command-2.ensures.shape c.flag.ensures.local
    ∙ flag_more _ _ c.args.flags.now c.loop-name.name-index _ c.loop-name-test.true c.loop-name.invariant c.flag.ensures.rule
