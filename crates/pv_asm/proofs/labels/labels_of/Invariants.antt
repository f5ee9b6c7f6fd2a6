use Rattle.std.proofs.Common.{◌≡◌, [], drop}
use Rattle.pv_asm.specs.Labels.{labels_from}
use Rattle.pv_asm.proofs.labels.labels_of.Given as goal

abbrev pub invariant-loop-line : goal.invariant-loop-line
invariant-loop-line l = labels_from l.labels l.at (drop l.line-index l.lines) ≡ labels_from [] 0 l.lines
