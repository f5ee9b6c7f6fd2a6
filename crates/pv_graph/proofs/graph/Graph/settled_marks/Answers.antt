use Rattle.std.proofs.Common.{◌∙◌, ap, map, not}
use Rattle.pv_graph.proofs.Marking.{settled_marks}
use Rattle.pv_graph.proofs.graph.Graph.settled_marks.Goals as goal

pub returns : goal.returns
returns c = settled_marks c.args.self.now c.args.assumed.now c.in_ok-unsettled.unsettled.items c.in_ok-negated.field-0.items c.in_ok-unsettled.ensures (c.in_ok-negated.ensures ∙ ap (map not) c.deref.ensures.value)
