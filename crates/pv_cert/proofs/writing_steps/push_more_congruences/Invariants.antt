use Rattle.std.proofs.Common.{◌≡◌, ◌++◌, ◌∷◌, codes, take}
use Rattle.std.specs.List.{flat_map}
use Rattle.pv_cert.specs.Sets.{congruence}
use Rattle.pv_token.specs.Words.{spaced}
use Rattle.pv_cert.proofs.writing_steps.push_more_congruences.Given as goal

abbrev pub invariant-loop-c : goal.invariant-loop-c
invariant-loop-c l = l.out.items ≡ l.fn.out.items ++ flat_map (λ c. spaced (codes ";" ∷ congruence.spells c)) (take l.c-index l.list)
