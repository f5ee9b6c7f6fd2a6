use Rattle.std.proofs.Common.{map, not, sym, ap, ◌∙◌, subst, IfOk}
use Rattle.pv_graph.specs.Calls.{AreMarksOf, IsFree}
use Rattle.pv_witness.specs.declared.condition.Condition.{Condition}
use Rattle.pv_witness.specs.Conditions.{HoldsOfNode}
use Rattle.pv_witness.proofs.Starting.{negated_marks}
use Rattle.pv_witness.proofs.marking.all_marks.Goals as goal

pub returns-in-Settled : goal.returns-in-Settled
returns-in-Settled c =
    subst (λ (k : Condition). IfOk c.settled_marks.result (λ marks. AreMarksOf c.args.graph.now (HoldsOfNode c.args.graph.now c.args.assumed.now k) marks.items)) (sym c.in-Settled.is) c.settled_marks.ensures

pub returns-in_ok-negated-in-NotFree : goal.returns-in_ok-negated-in-NotFree
returns-in_ok-negated-in-NotFree c =
    subst (λ (k : Condition). AreMarksOf c.args.graph.now (HoldsOfNode c.args.graph.now c.args.assumed.now k) c.in_ok-negated-in-NotFree.field-0.items) (sym c.in-NotFree.is)
    (negated_marks c.args.graph.now (IsFree c.args.graph.now c.in-NotFree.depth) c.in_ok-free-in-NotFree.free.items c.in_ok-negated-in-NotFree.field-0.items
    (c.in_ok-negated-in-NotFree.ensures ∙ ap (map not) c.deref.ensures.value) c.in_ok-free-in-NotFree.ensures)
