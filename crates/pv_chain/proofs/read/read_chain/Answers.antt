use Rattle.pv_chain.proofs.Once.{only_of}
use Rattle.pv_chain.proofs.read.read_chain.Goals as goal

pub returns-in-Ok-clause-only : goal.returns-in-Ok-clause-only
returns-in-Ok-clause-only c = only_of c.args.bytes.now c.in-Ok.answer c.in-Ok.ensures
