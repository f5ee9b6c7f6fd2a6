use Rattle.std.proofs.lemmas.Option.{slice_get-get_or}
use Rattle.pv_drawings.specs.Dots.{edge_line}
use Rattle.pv_drawings.proofs.Texts.{line_more}
use Rattle.pv_drawings.proofs.dot.push_edges.Goals as goal

pub loop-place-preserved : goal.loop-place-preserved
loop-place-preserved c = line_more (edge_line c.args.n) c.args.kids.now c.loop-place.place _ _ _ _ (slice_get-get_or c.args.kids.now c.loop-place.place 0 c.loop-place-test.true) c.loop-place.invariant c.in_ok-push_edge.ensures
