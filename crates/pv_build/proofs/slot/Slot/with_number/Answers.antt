use Rattle.std.proofs.Common.{◌-◌, ◌/◌, sym, arith}
use Rattle.pv_build.proofs.Numbers.{local_number, stack_number}
use Rattle.pv_build.proofs.slot.Slot.with_number.Goals as goal

pub returns-then-n-eq0 : goal.returns-then-n-eq0
returns-then-n-eq0 c = sym (local_number ((c.args.n - 4) / 2) c.args.n (omega (arith, c.if-n-eq0.true, c.in_default)))

pub returns-else-n-eq0 : goal.returns-else-n-eq0
returns-else-n-eq0 c = sym (stack_number ((c.args.n - 4) / 2) c.args.n (omega (arith, c.if-n-eq0.false, c.in_default)))
