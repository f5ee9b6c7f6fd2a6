use Rattle.std.proofs.Common.{◌≡◌, ◌++◌, drop}
use Rattle.std.specs.Option.{option_map}
use Rattle.pv_format.specs.Reading.{read_each}
use Rattle.pv_asm.specs.Codes.{offset}
use Rattle.pv_asm.proofs.code.offsets.Given as goal

abbrev pub invariant-loop-target : goal.invariant-loop-target
invariant-loop-target l = option_map (λ more. l.list.items ++ more) (read_each (offset l.site.labels.now l.site.at) (drop l.target-index l.targets)) ≡ read_each (offset l.site.labels.now l.site.at) l.targets
