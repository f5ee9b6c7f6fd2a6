use Rattle.std.proofs.Common.{◌++◌, ◌∷◌, [], refl, sym, ap, ◌∙◌, List}
use Rattle.pv_graph.specs.declared.node.OpSort.{OpSort}
use Rattle.pv_graph.proofs.SortSteps.{type_sorts_more, type_sorts_none}
use Rattle.pv_graph.proofs.sort.sorts_of_call.Goals as goal

pub loop-t-init : goal.loop-t-init
loop-t-init c = ([], refl, c.in_ok-kids.ensures.items)

pub loop-t-preserved : goal.loop-t-preserved
loop-t-preserved c =
    let before = c.loop-t.invariant in (
      before.0 ++ c.in-Some.sort ∷ [],
      type_sorts_more _ c.args.params.now c.loop-t.t-index before.0 c.in-Some.sort c.loop-t-test.true before.1 (sym c.in-Some.ensures),
      c.in_ok-push.ensures.items ∙ ap (λ (kids : List OpSort). kids ++ c.in-Some.sort ∷ []) before.2,
    )

pub returns-in_default : goal.returns-in_default
returns-in_default c = type_sorts_none _ c.args.params.now c.loop-t.t-index c.loop-t-test.true (sym c.in_default.ensures)
