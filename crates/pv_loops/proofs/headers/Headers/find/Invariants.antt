use Rattle.pv_loops.proofs.Heading.{Heading}
use Rattle.pv_loops.proofs.headers.Headers.find.Given as goal

abbrev pub invariant-loop-n : goal.invariant-loop-n
invariant-loop-n l = Heading l.sources l.place l.headers.nodes.items l.headers.at.items l.n
