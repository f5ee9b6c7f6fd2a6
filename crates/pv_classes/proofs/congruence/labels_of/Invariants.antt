use Rattle.std.proofs.Common.{◌≡◌, take}
use Rattle.pv_classes.specs.Index.{labels_of}
use Rattle.pv_classes.proofs.congruence.labels_of.Given as goal

abbrev pub invariant-loop-n : goal.invariant-loop-n
invariant-loop-n l = l.labels.items ≡ labels_of l.parts.labels (take l.n-index l.nodes)
