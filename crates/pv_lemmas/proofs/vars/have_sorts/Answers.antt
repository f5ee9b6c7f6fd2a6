use Rattle.std.proofs.Common.{◌<◌, false, length, refl, sym, ◌∙◌, arith, true≢false}
use Rattle.std.proofs.lemmas.Option.{slice_get-get_or}
use Rattle.pv_graph.specs.declared.node.OpSort.TheVariants.{I}
use Rattle.pv_lemmas.proofs.Starting.{have_all, have_long, have_at, have_more}
use Rattle.pv_lemmas.proofs.vars.have_sorts.Goals as goal

pub returns-then-nodes-vars : goal.returns-then-nodes-vars
returns-then-nodes-vars c = (λ e. absurd (true≢false (sym e)), λ all. absurd (c.if-nodes-vars.true (have_long c.args.graph.now.sorts c.args.nodes.now c.args.vars.now all)))

pub returns-then-not-has_sort : goal.returns-then-not-has_sort
returns-then-not-has_sort c =
    let low : c.loop-k.k < length c.args.vars.now = omega (arith, c.loop-k-test.true) in
    let at = slice_get-get_or c.args.nodes.now c.loop-k.k 0 (omega (arith, low, c.if-nodes-vars.false)) in
    let here = slice_get-get_or c.args.vars.now c.loop-k.k (record { sort = I; settled = false }) low in
    (λ e. absurd (true≢false (sym e)), λ all. absurd (true≢false (sym (c.has_sort.ensures.1 (have_at c.args.graph.now.sorts c.args.nodes.now c.args.vars.now c.loop-k.k _ _ all at here)) ∙ c.if-not-has_sort.true)))

pub loop-k-preserved : goal.loop-k-preserved
loop-k-preserved c =
    let low : c.loop-k.k < length c.args.vars.now = omega (arith, c.loop-k-test.true) in
    let at = slice_get-get_or c.args.nodes.now c.loop-k.k 0 (omega (arith, low, c.if-nodes-vars.false)) in
    let here = slice_get-get_or c.args.vars.now c.loop-k.k (record { sort = I; settled = false }) low in
    have_more c.args.graph.now.sorts c.args.nodes.now c.args.vars.now c.loop-k.k _ _ c.loop-k.invariant at here (c.has_sort.ensures.0 c.if-not-has_sort.false)

pub returns : goal.returns
returns c = (
  λ e. have_all c.args.graph.now.sorts c.args.nodes.now c.args.vars.now c.loop-k.k c.if-nodes-vars.false (omega (arith, c.loop-k-test.false)) c.loop-k.invariant,
  λ all. refl,
)
