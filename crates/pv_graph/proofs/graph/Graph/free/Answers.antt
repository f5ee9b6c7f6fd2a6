use Rattle.std.proofs.Common.{◌<◌, length, sym, subst, refl, ℕ}
use Rattle.std.proofs.lemmas.Option.{slice_get_read}
use Rattle.pv_graph.proofs.graph.Graph.free.Goals as goal

pub returns : goal.returns
returns c =
    let low : c.args.n < length c.in_ok-free.free.items = subst (λ (k : ℕ). c.args.n < k) (sym c.in_ok-free.ensures.long) c.requires in
    c.in_ok-free.ensures.says c.args.n c.index.result.now (slice_get_read c.in_ok-free.free.items (length c.in_ok-free.free.items) c.args.n c.index.result.now refl low c.index.ensures)
