use Rattle.std.proofs.Common.{◌++◌, ◌∷◌, [], ℕ, List, map, get_or, take, sym, ◌∙◌, ap}
use Rattle.std.proofs.lemmas.List.{map-append, take_all, take_more}
use Rattle.pv_classes.specs.Partition.{at}
use Rattle.pv_classes.proofs.partition.numbers_of.Goals as goal

pub loop-label-preserved : goal.loop-label-preserved
loop-label-preserved c =
    c.in_ok-push.ensures.items ∙ ap (λ (xs : List ℕ). xs ++ at c.args.least.now (get_or c.args.labels.now c.loop-label.label-index 0) ∷ []) c.loop-label.invariant
    ∙ sym (map-append (at c.args.least.now) (take c.loop-label.label-index c.args.labels.now) (get_or c.args.labels.now c.loop-label.label-index 0 ∷ []))
    ∙ ap (map (at c.args.least.now)) (sym (take_more c.args.labels.now c.loop-label.label-index 0 c.loop-label-test.true))

pub returns : goal.returns
returns c = c.loop-label.invariant ∙ ap (map (at c.args.least.now)) (take_all c.loop-label.label-index c.args.labels.now c.loop-label-test.false)
