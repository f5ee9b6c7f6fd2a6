use Rattle.std.proofs.Common.{◌≡◌, ◌∷◌, [], ◌++◌, drop}
use Rattle.std.specs.List.{flat_map}
use Rattle.pv_asm.proofs.code.case_numbers.Given as goal

abbrev pub invariant-loop-case : goal.invariant-loop-case
invariant-loop-case l = l.list.items ++ flat_map (λ c. c.0 ∷ c.1 ∷ []) (drop l.case-index l.cases) ≡ flat_map (λ c. c.0 ∷ c.1 ∷ []) l.cases
