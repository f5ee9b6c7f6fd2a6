use Rattle.pv_refute.proofs.Inputs.{inputs_fit}
use Rattle.pv_refute.proofs.tries.try_input.Goals as goal

pub returns-clause-fits : goal.returns-clause-fits
returns-clause-fits c = rw (c.from.ensures, c.in_ok-args.ensures, c.as_slice.ensures, c.new.ensures) (inputs_fit c.law_narrowing.ensures c.args.desc.now c.args.t c.requires.floatless)
