use Rattle.pv_writer.proofs.Pushing.{later_push}
use Rattle.pv_explain.proofs.EndingBlocks.{assume_right}
use Rattle.pv_explain.proofs.ending.open_block.Goals as goal

pub push-requires-clause-right : goal.push-requires-clause-right
push-requires-clause-right c = assume_right c.args.writer.now c.args.p c.args.ends.now c.in_ok-nodes.nodes c.requires.outside c.requires.waits c.in_ok-nodes.ensures

pub returns-clause-later : goal.returns-clause-later
returns-clause-later c = later_push c.args.writer.now c.push.new.self _ c.in_ok-push.field-0 c.in_ok-push.ensures.ok
