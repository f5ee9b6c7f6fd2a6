use Rattle.std.proofs.Common.{take}
use Rattle.pv_graph.specs.Reach.{Spreads}
use Rattle.pv_graph.proofs.reach.spread.Given as goal

abbrev pub invariant-loop-u : goal.invariant-loop-u
invariant-loop-u l = Spreads l.nodes l.look (take l.u-index l.uses) l.initial.marks.items l.marks.items l.initial.work.items l.work.items
