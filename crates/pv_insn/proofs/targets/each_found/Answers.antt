use Rattle.std.proofs.Common.{sym, ap, ◌∙◌}
use Rattle.std.specs.Result.{result_ok}
use Rattle.pv_insn.proofs.Each.{each_on, each_ends, each_done}
use Rattle.pv_insn.proofs.targets.each_found.Goals as goal

pub returns-in_default : goal.returns-in_default
returns-in_default g c =
    let f = g.L.Lead.found c.args.places.now c.args.at in
    ap result_ok (sym (each_ends f c.args.leads.now c.loop-lead.lead-index _ _ c.loop-lead-test.true (ap f (sym c.lead-item.is) ∙ sym c.in_default.ensures) c.loop-lead.invariant))

pub loop-lead-preserved : goal.loop-lead-preserved
loop-lead-preserved g c =
    let f = g.L.Lead.found c.args.places.now c.args.at in
    rw c.in_ok-push.ensures.items (each_on f c.args.leads.now c.loop-lead.lead-index _ _ c.in-Some.item c.loop-lead-test.true (ap f (sym c.lead-item.is) ∙ sym c.in-Some.ensures) c.loop-lead.invariant)

pub returns : goal.returns
returns g c = ap result_ok (sym (each_done _ c.args.leads.now _ _ c.loop-lead-test.false c.loop-lead.invariant))
