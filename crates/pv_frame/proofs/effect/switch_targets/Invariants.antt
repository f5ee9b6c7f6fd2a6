use Rattle.std.proofs.Common.{◌≡◌, ◌∷◌, map, take}
use Rattle.pv_frame.proofs.effect.switch_targets.Given as goal

abbrev pub invariant-loop-case : goal.invariant-loop-case
invariant-loop-case l = l.targets.items ≡ l.default ∷ map (λ c. c.target) (take l.case-index l.case-items)
