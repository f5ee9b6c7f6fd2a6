use Rattle.pv_chain.proofs.Parted.{class_unread}
use Rattle.pv_chain.proofs.parts.class_in.Goals as goal

pub returns-in_default : goal.returns-in_default
returns-in_default c = class_unread c.args.bytes.now c.in-Err.fault c.in_default.not-Memory c.in-Err.ensures.only
