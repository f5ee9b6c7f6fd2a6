use Rattle.std.proofs.Common.{◌≡◌, false, map, take}
use Rattle.pv_match.specs.Parameters.{is_among}
use Rattle.pv_match.proofs.binding.Binding.place.Given as goal

abbrev pub invariant-loop-named : goal.invariant-loop-named
invariant-loop-named l = is_among (map (λ x. x.name) (take l.named-index l.self.names.items)) l.name ≡ false
