use Rattle.std.proofs.Common.{◌≡◌, ◌<◌, ℕ, length, vec_len, refl, subst, arith}
use Rattle.std.proofs.lemmas.Option.{slice_get_read}
use Rattle.pv_graph.specs.Known.{Shortens}
use Rattle.pv_graph.proofs.Knowing.{shortens_none, shortens_more}
use Rattle.pv_graph.proofs.known.shorten.Goals as goal

pub loop-d-init : goal.loop-d-init
loop-d-init c = shortens_none c.args.most c.args.marks.now.items

pub loop-d-preserved : goal.loop-d-preserved
loop-d-preserved c =
    let lt : c.loop-d.d < length c.loop-d.marks.items = omega (arith, c.loop-d-test.true, c.len-d-end.ensures, c.args.marks.now.ok.0, c.loop-d.invariant.long) in
    shortens_more c.args.most c.args.marks.now.items c.loop-d.marks.items c.loop-d.d c.index_mut.result.now c.truncate.new.self c.loop-d.invariant
    (slice_get_read c.loop-d.marks.items (length c.loop-d.marks.items) c.loop-d.d c.index_mut.result.now refl lt c.index_mut.ensures.value) c.truncate.ensures.items

pub returns : goal.returns
returns c =
    let all : c.loop-d.d ≡ vec_len c.loop-d.marks = omega (arith, c.loop-d-test.false, c.loop-d.auto.d-end, c.len-d-end.ensures, c.args.marks.now.ok.0, c.loop-d.invariant.long, c.loop-d.marks.ok.0) in
    subst (λ (d : ℕ). Shortens c.args.most c.args.marks.now.items c.loop-d.marks.items d) all c.loop-d.invariant
