use Rattle.std.proofs.Common.{◌<◌, length, sym, subst, refl, ℕ}
use Rattle.std.proofs.lemmas.Option.{slice_get_read}
use Rattle.pv_graph.proofs.Marking.{variable_says}
use Rattle.pv_graph.proofs.graph.Graph.meets_variable.Goals as goal

pub returns : goal.returns
returns c =
    let marks = c.in_ok-meets.meets.items in
    let low : c.args.n < length marks = subst (λ (k : ℕ). c.args.n < k) (sym c.in_ok-meets.ensures.marked.long) c.requires in
    variable_says c.args.self.now c.args.d c.args.n marks c.index.result.now c.in_ok-meets.ensures (slice_get_read marks (length marks) c.args.n c.index.result.now refl low c.index.ensures)
