use Rattle.std.proofs.Common.{◌≡◌, map, take}
use Rattle.pv_flow.specs.Exits.{Goes}
use Rattle.pv_flow.specs.Finding.{exit_by}
use Rattle.pv_flow.proofs.exit.switch_exits.Given as goal

abbrev pub invariant-loop-case : goal.invariant-loop-case
invariant-loop-case l = l.exits.items ≡ map (exit_by l.numbers) (map (λ c. Goes c.target) (take l.case-index l.cases))
