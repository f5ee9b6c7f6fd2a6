use Rattle.std.proofs.Common.{◌∙◌}
use Rattle.pv_steps.specs.Steps.{assumed_in}
use Rattle.pv_writer.specs.Written.{inside}
use Rattle.pv_explain.proofs.Concluding.{first_place, grounds_at, has_all, outside_at}
use Rattle.pv_explain.proofs.conclude.state_all.Goals as goal

pub state_joins-requires : goal.state_joins-requires
state_joins-requires c =
    first_place c.args.writer.now c.args.source.now c.in_ok-level.level c.args.search.now.blocks.now c.args.search.now.joins.now c.requires.source (outside_at c.args.writer.now c.args.source.now c.args.search.now c.requires.graph c.requires.outside)
    (c.in_ok-level.ensures.nodes ∙ c.len.ensures.len) c.in_ok-level.ensures.ends c.in_ok-level.ensures.lines c.in_ok-level.ensures.known (grounds_at c.args.source.now c.args.search.now (assumed_in (inside c.args.writer.now)) c.requires.graph c.requires.grounds) c.requires.named

pub returns-clause-lines : goal.returns-clause-lines
returns-clause-lines c = has_all c.state_joins.new.writer c.args.source.now c.in_ok-level.level c.state_joins.new.level c.args.search.now.joins.now c.in_ok-level.ensures.lines c.in_ok-state_joins.ensures.level
