use Rattle.std.proofs.Common.{get_or, subst, take_all}
use Rattle.pv_writer.proofs.Pushing.{goes_trans}
use Rattle.pv_explain.specs.Pairs.{GiveEach, LinksPair}
use Rattle.pv_explain.proofs.Copying.{source_later}
use Rattle.pv_explain.proofs.Congruent.{level_goes}
use Rattle.pv_explain.proofs.Pairing.{all_at, each_next}
use Rattle.pv_explain.proofs.conclude.pair_reasons.Goals as goal

pub kid_reason-requires-clause-source : goal.kid_reason-requires-clause-source
kid_reason-requires-clause-source c = source_later c.args.writer.now c.loop-pair.writer c.args.source.now c.loop-pair.invariant.goes.later c.requires.source

pub kid_reason-requires-clause-level : goal.kid_reason-requires-clause-level
kid_reason-requires-clause-level c = level_goes c.args.writer.now c.loop-pair.writer c.args.source.now c.args.level.now c.loop-pair.invariant.goes c.requires.level

pub kid_reason-requires-clause-linked : goal.kid_reason-requires-clause-linked
kid_reason-requires-clause-linked c = (all_at (LinksPair c.args.source.now c.args.level.now) c.args.pairs.now c.loop-pair.pair-index (0, 0) c.requires.linked c.loop-pair-test.true).linked

pub loop-pair-preserved : goal.loop-pair-preserved
loop-pair-preserved c =
    let p = get_or c.args.pairs.now c.loop-pair.pair-index (0, 0) in
    let links = all_at (LinksPair c.args.source.now c.args.level.now) c.args.pairs.now c.loop-pair.pair-index (0, 0) c.requires.linked c.loop-pair-test.true in
    let own = c.requires.source.copies.base_ in
    record {
      reasons =
          each_next c.loop-pair.writer c.kid_reason.new.writer c.loop-pair.reasons.items c.push.new.self.items c.args.pairs.now c.loop-pair.pair-index c.in_ok-why.why c.loop-pair-test.true c.in_ok-why.ensures.goes c.in_ok-push.ensures.items
          c.loop-pair.invariant.reasons (c.in_ok-why.ensures.reason p.0 p.1 (own p.0 links.first) (own p.1 links.second));
      goes = goes_trans c.args.writer.now c.loop-pair.writer c.kid_reason.new.writer c.loop-pair.invariant.goes c.in_ok-why.ensures.goes;
    }

pub returns-clause-reasons : goal.returns-clause-reasons
returns-clause-reasons c = subst (GiveEach c.loop-pair.writer c.loop-pair.reasons.items) (take_all c.loop-pair.pair-index c.args.pairs.now c.loop-pair-test.false) c.loop-pair.invariant.reasons

pub kid_reason-requires-clause-copy : goal.kid_reason-requires-clause-copy
kid_reason-requires-clause-copy c =
    let links = all_at (LinksPair c.args.source.now c.args.level.now) c.args.pairs.now c.loop-pair.pair-index (0, 0) c.requires.linked c.loop-pair-test.true in
    let p = get_or c.args.pairs.now c.loop-pair.pair-index (0, 0) in
    (p.0, c.requires.source.copies.base_ p.0 links.first)
