use Rattle.pv_check.proofs.Fresh.{next_smaller, next_block, next_fresh}
use Rattle.pv_check.proofs.seen.Seen.is_fresh.Goals as goal

pub loop-around-smaller : goal.loop-around-smaller
loop-around-smaller c =
    next_smaller c.args.self.now.steps.now c.args.self.now.innermost.now c.args.self.now.opened.now c.args.self.now.kept c.loop-around.around c.loop-around.invariant.block c.loop-around-test.true

pub loop-around-preserved : goal.loop-around-preserved
loop-around-preserved c =
    let same = next_fresh c.args.self.now.steps.now c.args.self.now.innermost.now c.args.self.now.opened.now c.args.self.now.kept c.loop-around.around c.args.depth c.index-self-around.result c.loop-around.invariant.block c.loop-around-test.true
    (λ deep. let z = c.opens_loop.ensures.1 deep in let y = c.if-opens_loop.false in absurd (cc)) in
    let so_far = c.loop-around.invariant.same in
    record {
      block = next_block c.args.self.now.steps.now c.args.self.now.innermost.now c.args.self.now.opened.now c.args.self.now.kept c.loop-around.around c.loop-around.invariant.block c.loop-around-test.true;
      same = (λ h. same.0 (so_far.0 h), λ h. so_far.1 (same.1 h));
    }
