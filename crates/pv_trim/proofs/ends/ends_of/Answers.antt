use Rattle.std.proofs.Common.{List, ℕ, Option, ◌+◌, arith, subst, sym}
use Rattle.pv_trim.specs.Stacks.{AreEndsTo}
use Rattle.pv_trim.proofs.Loops.{ends_next, ends_all, read_at}
use Rattle.pv_trim.proofs.ends.ends_of.Goals as goal

pub loop-k-preserved : goal.loop-k-preserved
loop-k-preserved c =
    subst (λ (q : List (Option ℕ)). AreEndsTo c.args.steps.now (c.loop-k.k + 1) q c.follow.new.stack.items) (sym c.in_ok-push.ensures.items)
    (ends_next c.args.steps.now c.loop-k.k c.index-steps-k.result c.loop-k.ends.items c.loop-k.stack.items c.follow.new.stack.items c.in_ok-end.end
    (read_at c.args.steps.now c.loop-k.k c.index-steps-k.result c.loop-k-test.true c.index-steps-k.is) c.loop-k.invariant c.in_ok-end.ensures.ended c.in_ok-end.ensures.blocks)

pub returns : goal.returns
returns c = ends_all c.args.steps.now c.loop-k.k c.loop-k.ends.items c.loop-k.stack.items (omega arith) c.loop-k.invariant
