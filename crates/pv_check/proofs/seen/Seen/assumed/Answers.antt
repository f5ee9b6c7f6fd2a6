use Rattle.std.proofs.Common.{sym, subst, ap, ◌∙◌}
use Rattle.pv_steps.specs.Steps.{assumed_in}
use Rattle.pv_check.proofs.Fresh.{IsBlock, now_block, now_around, next_smaller, next_block}
use Rattle.pv_check.proofs.Assumed.{assumed_next}
use Rattle.pv_check.proofs.seen.Seen.assumed.Goals as goal

pub loop-around-init : goal.loop-around-init
loop-around-init c = record {
  block = subst (IsBlock c.args.self.now.steps.now) (sym c.inside-around.ensures.number) (now_block c.args.self.now.steps.now);
  same = ap assumed_in (sym (now_around c.args.self.now.steps.now c.inside-around.result c.inside-around.ensures.number));
}

pub loop-around-smaller : goal.loop-around-smaller
loop-around-smaller c =
    next_smaller c.args.self.now.steps.now c.args.self.now.innermost.now c.args.self.now.opened.now c.args.self.now.kept c.loop-around.around c.loop-around.invariant.block c.loop-around-test.true

pub loop-around-preserved : goal.loop-around-preserved
loop-around-preserved c = record {
  block = next_block c.args.self.now.steps.now c.args.self.now.innermost.now c.args.self.now.opened.now c.args.self.now.kept c.loop-around.around c.loop-around.invariant.block c.loop-around-test.true;
  same = c.loop-around.invariant.same ∙ assumed_next c.args.self.now.steps.now c.args.self.now.innermost.now c.args.self.now.opened.now c.args.self.now.kept c.loop-around.around c.index-self-around.result c.loop-around.invariant.block c.loop-around-test.true c.in_default.ensures;
}
