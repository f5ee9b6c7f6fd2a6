use Rattle.std.proofs.Common.{◌≡◌, map, take}
use Rattle.pv_flow.specs.Finding.{marked}
use Rattle.pv_flow.proofs.begin.mark_cases.Given as goal

abbrev pub invariant-loop-case : goal.invariant-loop-case
invariant-loop-case l = l.begins ≡ marked (map (λ c. c.target) (take l.case-index l.cases)) l.fn.begins
