use Rattle.pv_loops.proofs.Words.{IsNested, MAX_DEPTH}
use Rattle.pv_loops.proofs.nest.Nest.fill.Given as goal

abbrev pub invariant-loop-h : goal.invariant-loop-h
invariant-loop-h l = IsNested l.sources l.order.place.items l.headers.nodes.items MAX_DEPTH l.h-index l.self
