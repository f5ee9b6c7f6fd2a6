use Rattle.std.proofs.Common.{◌≡◌, ◌++◌, drop}
use Rattle.std.specs.Option.{option_map}
use Rattle.pv_format.specs.Reading.{read_each}
use Rattle.pv_asm.specs.Codes.{case_of}
use Rattle.pv_asm.proofs.code.cases.Given as goal

abbrev pub invariant-loop-pair : goal.invariant-loop-pair
invariant-loop-pair l = option_map (λ more. l.list.items ++ more) (read_each (case_of l.site.labels.now l.site.at) (drop l.pair-index l.pairs)) ≡ read_each (case_of l.site.labels.now l.site.at) l.pairs
