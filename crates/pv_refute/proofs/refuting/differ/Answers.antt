use Rattle.pv_refute.proofs.Runs.{both_end}
use Rattle.pv_refute.proofs.refuting.differ.Goals as goal

pub returns-in-Some-2 : goal.returns-in-Some-2
returns-in-Some-2 c =
    both_end c.args.steps c.args.first.now c.args.second.now c.args.world.now c.args.input.now c.in-Some.one c.in-Some-2.two c.is_same.result (rw c.in-Some.is at c.in_ok-one.ensures) (rw c.in-Some-2.is at c.in_ok-two.ensures)
    c.is_same.ensures
