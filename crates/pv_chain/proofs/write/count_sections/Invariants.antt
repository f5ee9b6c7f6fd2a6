use Rattle.std.proofs.Common.{◌≡◌, take}
use Rattle.std.specs.List.{sum_by}
use Rattle.pv_chain.proofs.Written.{section_size}
use Rattle.pv_chain.proofs.write.count_sections.Given as goal

abbrev pub invariant-loop-section : goal.invariant-loop-section
invariant-loop-section l = l.count ≡ sum_by section_size (take l.section-index l.sections)
