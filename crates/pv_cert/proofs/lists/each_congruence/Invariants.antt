use Rattle.std.proofs.Common.{◌≡◌, ◌++◌, map, drop}
use Rattle.std.specs.Option.{option_map}
use Rattle.pv_format.specs.Reading.{read_each}
use Rattle.pv_format.specs.Seen.{texts}
use Rattle.pv_cert.specs.Sets.{congruence}
use Rattle.pv_cert.proofs.lists.each_congruence.Given as goal

abbrev pub invariant-loop-part : goal.invariant-loop-part
invariant-loop-part l =
    option_map (λ more. l.list.items ++ more) (read_each congruence.reads (map (λ part. texts part.now) (drop l.part-index l.parts))) ≡ read_each congruence.reads (map (λ part. texts part.now) l.parts)
