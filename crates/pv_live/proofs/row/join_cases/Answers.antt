use Rattle.std.proofs.Common.{arith}
use Rattle.std.specs.Prelude.{map}
use Rattle.std.proofs.lemmas.List.{length-map}
use Rattle.pv_insn.specs.declared.insn.Case.{Case}
use Rattle.pv_live.proofs.Rows.{so_far_more, so_far_all, target_at}
use Rattle.pv_live.proofs.row.join_cases.Goals as goal

pub loop-case-preserved : goal.loop-case-preserved
loop-case-preserved c =
    so_far_more c.args.rows.now (map (λ a. a.target) c.args.cases.now) c.loop-case.case-index _ c.args.row.now c.loop-case.row c.join_at.new.row
    (target_at c.args.cases.now c.loop-case.case-index _ c.loop-case-test.true) c.loop-case.invariant c.join_at.ensures

pub returns : goal.returns
returns c =
    let long = length-map c.args.cases.now (λ (a : Case). a.target) in
    so_far_all c.args.rows.now (map (λ a. a.target) c.args.cases.now) c.loop-case.case-index c.args.row.now c.loop-case.row (omega (arith, long, c.loop-case-test.false)) c.loop-case.invariant
