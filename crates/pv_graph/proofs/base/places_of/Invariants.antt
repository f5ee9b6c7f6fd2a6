use Rattle.std.proofs.Common.{take}
use Rattle.pv_graph.specs.Base.{AreOfSort}
use Rattle.pv_graph.proofs.base.places_of.Given as goal

abbrev pub invariant-loop-own : goal.invariant-loop-own
invariant-loop-own l = AreOfSort (take l.own-index l.owns) l.sort l.starts.items
