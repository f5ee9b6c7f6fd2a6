use Rattle.std.proofs.Common.{length}
use Rattle.pv_writer.proofs.Pushing.{goes_trans}
use Rattle.pv_explain.specs.Lines.{LinkedBy}
use Rattle.pv_explain.proofs.Copying.{copy_in, source_later}
use Rattle.pv_explain.proofs.Congruent.{level_goes, all_copies_next, all_copies_whole, zip_get}
use Rattle.pv_explain.proofs.kids.kid_reasons.Goals as goal

pub kid_reason-requires-clause-source : goal.kid_reason-requires-clause-source
kid_reason-requires-clause-source c = source_later c.args.writer.now c.loop-i.writer c.args.source.now c.loop-i.invariant.goes.later c.requires.source

pub kid_reason-requires-clause-level : goal.kid_reason-requires-clause-level
kid_reason-requires-clause-level c = level_goes c.args.writer.now c.loop-i.writer c.args.source.now c.args.level.now c.loop-i.invariant.goes c.requires.level

pub kid_reason-requires-clause-linked : goal.kid_reason-requires-clause-linked
kid_reason-requires-clause-linked c = (zip_get (LinkedBy (length c.args.source.now.graph.now.nodes) c.args.level.now) c.args.lefts.now c.args.rights.now c.loop-i.i c.requires.linked c.loop-i-test.true).1

pub loop-i-preserved : goal.loop-i-preserved
loop-i-preserved c = record {
  reasons =
      all_copies_next c.loop-i.writer c.kid_reason.new.writer c.args.source.now.map.now c.loop-i.reasons.items c.push.new.self.items c.args.lefts.now c.args.rights.now c.loop-i.i c.in_ok-why.why c.loop-i-test.true
      (zip_get (LinkedBy (length c.args.source.now.graph.now.nodes) c.args.level.now) c.args.lefts.now c.args.rights.now c.loop-i.i c.requires.linked c.loop-i-test.true).0 c.in_ok-why.ensures.goes c.in_ok-push.ensures.items c.loop-i.invariant.reasons
      c.in_ok-why.ensures.reason;
  goes = goes_trans c.args.writer.now c.loop-i.writer c.kid_reason.new.writer c.loop-i.invariant.goes c.in_ok-why.ensures.goes;
}

pub returns-clause-reasons : goal.returns-clause-reasons
returns-clause-reasons c =
    all_copies_whole c.loop-i.writer c.args.source.now.map.now c.loop-i.reasons.items c.args.lefts.now c.args.rights.now c.loop-i.i (LinkedBy (length c.args.source.now.graph.now.nodes) c.args.level.now) c.requires.linked c.loop-i-test.false c.loop-i.invariant.reasons

pub kid_reason-requires-clause-copy : goal.kid_reason-requires-clause-copy
kid_reason-requires-clause-copy c = copy_in c.args.source.now.map.now c.args.lefts.now c.loop-i.i c.requires.copies c.loop-i-test.true
