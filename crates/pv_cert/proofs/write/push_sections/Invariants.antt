use Rattle.std.proofs.Common.{◌≡◌, ◌++◌, take}
use Rattle.std.specs.List.{flat_map}
use Rattle.pv_cert.specs.Reading.{section_lines}
use Rattle.pv_format.specs.Splits.{text_of}
use Rattle.pv_cert.proofs.write.push_sections.Given as goal

abbrev pub invariant-loop-s : goal.invariant-loop-s
invariant-loop-s l = l.out.items ≡ l.fn.out.items ++ flat_map (λ s. text_of (section_lines s)) (take l.s-index l.list)
