use Rattle.std.proofs.Common.{sym, ◌∙◌}
use Rattle.pv_steps.specs.Right.{AreOfOneSort}
use Rattle.pv_check.proofs.SetParts.{all_get}
use Rattle.pv_check.proofs.sorts.all_of_one_sort.Goals as goal

pub returns-then-not-are_of_one_sort : goal.returns-then-not-are_of_one_sort
returns-then-not-are_of_one_sort c = (
  λ e. absurd (cc),
  λ h. sym c.if-not-are_of_one_sort.true ∙ c.are_of_one_sort.ensures.1 (all_get (AreOfOneSort c.args.graph.now) c.args.pairs.now c.loop-pair.pair-index (0, 0) h c.loop-pair-test.true),
)
