use Rattle.pv_chain.proofs.Once.{good}
use Rattle.pv_chain.proofs.read.chain_in.Goals as goal

pub returns : goal.returns
returns c =
    good c.args.text.now c.in-Some.parts c.in-Some-2.first c.in-Some-3.second c.from.result (rw c.in-Some.is at c.in_ok-parts.ensures) c.from.ensures (rw c.in-Some-2.is at c.in_ok-first.ensures) (rw c.in-Some-3.is at c.in_ok-second.ensures)
