use Rattle.pv_denote.proofs.Depths.{first_of}
use Rattle.pv_denote.proofs.iterations.Iterations.new.Goals as goal

pub returns : goal.returns
returns c = first_of c.args.index.now c.copy_from_slice.new.self c.min-known.result c.copy_from_slice.ensures.after c.min-known.ensures
