use Rattle.pv_paths.specs.Trees.{AreTopsAt}
use Rattle.pv_paths.proofs.forest.tops_before.Given as goal

abbrev pub invariant-loop-n : goal.invariant-loop-n
invariant-loop-n l = AreTopsAt l.links l.before l.n l.tops.items
