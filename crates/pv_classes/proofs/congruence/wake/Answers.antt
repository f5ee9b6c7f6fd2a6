use Rattle.std.proofs.Common.{ℕ, List, ◌++◌, ◌∙◌, ap}
use Rattle.pv_classes.proofs.Waking.{woken_none, woken_more, woken_all}
use Rattle.pv_classes.proofs.congruence.wake.Goals as goal

pub loop-k-init : goal.loop-k-init
loop-k-init c = woken_none c.args.parents.now c.args.moved.now c.args.waiting.now.items

pub loop-k-preserved : goal.loop-k-preserved
loop-k-preserved c =
    woken_more c.args.parents.now c.args.moved.now c.args.waiting.now.items c.loop-k.waiting.items c.extend_from_slice.new.self.items c.loop-k.k-index c.loop-k-test.true
    (c.in_ok-extend_from_slice.ensures.items ∙ ap (λ (xs : List ℕ). c.loop-k.waiting.items ++ xs) c.get.ensures) c.loop-k.invariant

pub returns : goal.returns
returns c = woken_all c.args.parents.now c.args.moved.now c.args.waiting.now.items c.loop-k.waiting.items c.loop-k.k-index c.loop-k-test.false c.loop-k.invariant
