use Rattle.pv_graph.specs.Known.{Shortens}
use Rattle.pv_graph.proofs.known.shorten.Given as goal

abbrev pub invariant-loop-d : goal.invariant-loop-d
invariant-loop-d l = Shortens l.most l.initial.marks.items l.marks.items l.d
