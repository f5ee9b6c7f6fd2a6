use Rattle.pv_chain.proofs.Parted.{class_there}
use Rattle.pv_chain.proofs.parts.is_class.Goals as goal

pub returns : goal.returns
returns c = class_there c.args.bytes.now c.in_ok-read.read c.is_some.result c.in_ok-read.ensures c.is_some.ensures
