use Rattle.std.proofs.lemmas.Result.{IfOk-weaker}
use Rattle.pv_graph.proofs.Marking.{free_marks}
use Rattle.pv_graph.proofs.graph.Graph.free_marks.Goals as goal

pub returns : goal.returns
returns c = IfOk-weaker c.marks.result _ _ (λ marks is. free_marks c.args.self.now c.args.d marks.items is) c.marks.ensures
