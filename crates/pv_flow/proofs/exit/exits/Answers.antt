use Rattle.std.proofs.Common.{List, ◌<◌, length, sym, subst}
use Rattle.std.specs.List.{All, AllByRecursion}
use Rattle.pv_insn.specs.declared.insn.Case.{Case}
use Rattle.pv_frame.specs.declared.action.Action.{Action}
use Rattle.pv_flow.specs.Exits.{departures}
use Rattle.pv_flow.specs.Finding.{GoesBelow}
use Rattle.pv_flow.proofs.Departing.{switch_below}
use Rattle.pv_flow.proofs.exit.exits.Goals as goal

pub switch_exits-requires-clause-cases : goal.switch_exits-requires-clause-cases
switch_exits-requires-clause-cases c =
    let n = length c.args.numbers.now in
    let within = subst (λ (a : Action). AllByRecursion (GoesBelow n) (departures c.args.place a)) c.in-Switch.is c.requires.within in
    subst (λ (cases : List Case). All (λ c. c.target < n) cases) (sym c.as_slice.ensures) (switch_below n c.in-Switch.default c.in-Switch.cases within).0
