use Rattle.std.proofs.Common.{◌<◌, ℕ, arith}
use Rattle.pv_steps.specs.declared.step.Reason.TheVariants.{Same}
use Rattle.pv_explain.specs.Endings.{other_kids}
use Rattle.pv_explain.proofs.Pairing.{given_at}
use Rattle.pv_explain.proofs.EndingBlocks.{finish_last, finish_right}
use Rattle.pv_explain.proofs.ending.end_block.Goals as goal

pub bounds-others-1 : goal.bounds-others-1
bounds-others-1 c = (given_at c.args.writer.now c.args.others.now (other_kids c.args.roots.now) 1 Same (0, 0) c.requires.others (omega arith)).0

pub bounds-others-2 : goal.bounds-others-2
bounds-others-2 c = (given_at c.args.writer.now c.args.others.now (other_kids c.args.roots.now) 2 Same (0, 0) c.requires.others (omega arith)).0

pub push-requires-clause-right : goal.push-requires-clause-right
push-requires-clause-right c =
    let w = c.args.writer.now in
    let r = c.args.roots.now in
    let others = c.args.others.now in
    let at = λ (i : ℕ) (low : i < 3). (given_at w others (other_kids r) i Same (0, 0) c.requires.others low).1 in
    finish_right w r.first r.second r.left r.right c.requires.block.0 _ _ _ _ c.requires.block.1 c.requires.first c.requires.second c.requires.token (at 0 (omega arith)) (at 1 (omega arith)) (at 2 (omega arith))

pub returns-clause-last : goal.returns-clause-last
returns-clause-last c = finish_last c.args.writer.now c.push.new.self c.args.roots.now.first c.args.roots.now.second c.in_ok-push.field-0 _ _ _ _ c.in_ok-push.ensures.ok
