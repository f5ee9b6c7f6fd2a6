use Rattle.std.proofs.Common.{◌≡◌, map, take}
use Rattle.pv_marks.specs.Classes.{class_of}
use Rattle.pv_match.proofs.renumbered.classes_now.Given as goal

abbrev pub invariant-loop-n : goal.invariant-loop-n
invariant-loop-n l = l.classes.items ≡ map (class_of l.numbers) (take l.n-index l.nodes)
