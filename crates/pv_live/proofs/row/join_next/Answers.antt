use Rattle.std.proofs.Common.{List, sym, subst}
use Rattle.std.specs.Prelude.{map}
use Rattle.pv_insn.specs.declared.insn.Case.{Case}
use Rattle.pv_frame.specs.declared.action.Action.{Action}
use Rattle.pv_frame.specs.Effects.{successors}
use Rattle.pv_live.specs.Marks.{Marks, MarkedAtOne}
use Rattle.pv_live.proofs.Rows.{marks_then}
use Rattle.pv_live.proofs.row.join_next.Goals as goal

pub returns-in-Switch : goal.returns-in-Switch
returns-in-Switch c =
    let cases = subst (λ (l : List Case). Marks (MarkedAtOne c.args.rows.now (map (λ a. a.target) l)) c.join_at-in-Switch.new.row c.join_cases.new.row) c.as_slice.ensures c.join_cases.ensures in
    subst (λ (a : Action). Marks (MarkedAtOne c.args.rows.now (successors c.args.place a)) c.args.row.now c.join_cases.new.row) (sym c.in-Switch.is)
    (marks_then c.args.rows.now c.in-Switch.default (map (λ a. a.target) c.in-Switch.cases) c.args.row.now c.join_at-in-Switch.new.row c.join_cases.new.row c.join_at-in-Switch.ensures cases)
