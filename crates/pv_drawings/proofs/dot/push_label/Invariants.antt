use Rattle.std.proofs.Common.{◌≡◌, ◌++◌, take}
use Rattle.pv_drawings.specs.Dots.{label_of}
use Rattle.pv_drawings.proofs.dot.push_label.Given as goal

abbrev pub invariant-loop-byte : goal.invariant-loop-byte
invariant-loop-byte l = l.out.items ≡ l.fn.out.items ++ label_of (take l.byte-index l.text)
