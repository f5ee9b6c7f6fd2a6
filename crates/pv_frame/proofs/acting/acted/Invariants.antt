use Rattle.pv_frame.proofs.Acted.{ActingSoFar}
use Rattle.pv_frame.proofs.acting.acted.Given as goal

abbrev pub invariant-loop-placed : goal.invariant-loop-placed
invariant-loop-placed l = ActingSoFar l.pool l.code l.placed-index l.uses.items l.actions.items
