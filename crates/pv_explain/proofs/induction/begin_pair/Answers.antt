use Rattle.pv_writer.proofs.Pushing.{goes_trans}
use Rattle.pv_explain.proofs.Copying.{source_later}
use Rattle.pv_explain.proofs.Congruent.{level_goes}
use Rattle.pv_explain.proofs.Iterating.{unrolled_goes, zero_later}
use Rattle.pv_explain.proofs.Beginning.{begin_linked, begin_theta, congruent_starts, fresh_goes}
use Rattle.pv_explain.proofs.induction.begin_pair.Goals as goal

pub unroll-requires-clause-theta : goal.unroll-requires-clause-theta
unroll-requires-clause-theta c = (begin_theta c.args.source.now c.args.level.now c.args.depth c.args.pair c.requires.pair).0

pub unroll-requires-2-clause-source : goal.unroll-requires-2-clause-source
unroll-requires-2-clause-source c = source_later c.args.writer.now c.unroll.new.writer c.args.source.now c.in_ok-left.ensures.goes.later c.requires.source

pub unroll-requires-2-clause-theta : goal.unroll-requires-2-clause-theta
unroll-requires-2-clause-theta c = (begin_theta c.args.source.now c.args.level.now c.args.depth c.args.pair c.requires.pair).1

pub unroll-requires-2-clause-zero : goal.unroll-requires-2-clause-zero
unroll-requires-2-clause-zero c = zero_later c.args.writer.now c.unroll.new.writer c.args.zero c.in_ok-left.ensures.goes.later c.requires.zero

pub kid_reason-requires-clause-source : goal.kid_reason-requires-clause-source
kid_reason-requires-clause-source c =
    source_later c.unroll.new.writer c.unroll-2.new.writer c.args.source.now c.in_ok-right.ensures.goes.later (source_later c.args.writer.now c.unroll.new.writer c.args.source.now c.in_ok-left.ensures.goes.later c.requires.source)

pub kid_reason-requires-clause-level : goal.kid_reason-requires-clause-level
kid_reason-requires-clause-level c =
    level_goes c.unroll.new.writer c.unroll-2.new.writer c.args.source.now c.args.level.now c.in_ok-right.ensures.goes (level_goes c.args.writer.now c.unroll.new.writer c.args.source.now c.args.level.now c.in_ok-left.ensures.goes c.requires.level)

pub kid_reason-requires-clause-linked : goal.kid_reason-requires-clause-linked
kid_reason-requires-clause-linked c =
    begin_linked c.unroll.new.writer c.unroll-2.new.writer c.args.source.now c.args.level.now c.args.depth c.args.zero c.args.zero c.args.pair c.in_ok-left.left c.in_ok-right.right c.requires.pair c.in_ok-left.ensures.unrolled c.in_ok-right.ensures.unrolled

pub equal_at_zero-requires : goal.equal_at_zero-requires
equal_at_zero-requires c =
    let first = goes_trans c.args.writer.now c.unroll.new.writer c.unroll-2.new.writer c.in_ok-left.ensures.goes c.in_ok-right.ensures.goes in
    let goes = goes_trans c.args.writer.now c.unroll-2.new.writer c.kid_reason.new.writer first c.in_ok-why.ensures.goes in
    let later = goes_trans c.unroll.new.writer c.unroll-2.new.writer c.kid_reason.new.writer c.in_ok-right.ensures.goes c.in_ok-why.ensures.goes in
    congruent_starts c.kid_reason.new.writer c.args.source.now c.args.depth c.args.zero c.args.pair.0 c.args.pair.1 c.in_ok-left.left c.in_ok-right.right c.in_ok-why.why
    (unrolled_goes c.unroll.new.writer c.kid_reason.new.writer c.args.source.now c.args.depth c.args.zero c.args.pair.0 c.in_ok-left.left later c.in_ok-left.ensures.unrolled)
    (unrolled_goes c.unroll-2.new.writer c.kid_reason.new.writer c.args.source.now c.args.depth c.args.zero c.args.pair.1 c.in_ok-right.right c.in_ok-why.ensures.goes c.in_ok-right.ensures.unrolled) c.in_ok-why.ensures.reason
    (fresh_goes c.args.writer.now c.kid_reason.new.writer c.args.depth goes c.requires.fresh)

pub meet-requires-clause-left : goal.meet-requires-clause-left
meet-requires-clause-left c =
    let later = goes_trans c.unroll-2.new.writer c.kid_reason.new.writer c.equal_at_zero.new.writer c.in_ok-why.ensures.goes c.in_ok-fact.ensures.goes in
    let goes = goes_trans c.unroll.new.writer c.unroll-2.new.writer c.equal_at_zero.new.writer c.in_ok-right.ensures.goes later in
    (unrolled_goes c.unroll.new.writer c.equal_at_zero.new.writer c.args.source.now c.args.depth c.args.zero c.args.pair.0 c.in_ok-left.left goes c.in_ok-left.ensures.unrolled).start_.known

pub meet-requires-clause-right : goal.meet-requires-clause-right
meet-requires-clause-right c =
    let later = goes_trans c.unroll-2.new.writer c.kid_reason.new.writer c.equal_at_zero.new.writer c.in_ok-why.ensures.goes c.in_ok-fact.ensures.goes in
    (unrolled_goes c.unroll-2.new.writer c.equal_at_zero.new.writer c.args.source.now c.args.depth c.args.zero c.args.pair.1 c.in_ok-right.right later c.in_ok-right.ensures.unrolled).start_.known

pub meet-requires-clause-why : goal.meet-requires-clause-why
meet-requires-clause-why c = c.in_ok-fact.ensures.shows

pub returns-clause-begun : goal.returns-clause-begun
returns-clause-begun c =
    let shown = goes_trans c.kid_reason.new.writer c.equal_at_zero.new.writer c.meet.new.writer c.in_ok-fact.ensures.goes c.in_ok-start.ensures.goes in
    let later = goes_trans c.unroll-2.new.writer c.kid_reason.new.writer c.meet.new.writer c.in_ok-why.ensures.goes shown in
    let goes = goes_trans c.unroll.new.writer c.unroll-2.new.writer c.meet.new.writer c.in_ok-right.ensures.goes later in
    record {
      left = unrolled_goes c.unroll.new.writer c.meet.new.writer c.args.source.now c.args.depth c.args.zero c.args.pair.0 c.in_ok-left.left goes c.in_ok-left.ensures.unrolled;
      right = unrolled_goes c.unroll-2.new.writer c.meet.new.writer c.args.source.now c.args.depth c.args.zero c.args.pair.1 c.in_ok-right.right later c.in_ok-right.ensures.unrolled;
      start_ = c.in_ok-start.ensures.fact;
    }

pub returns-clause-goes : goal.returns-clause-goes
returns-clause-goes c =
    let shown = goes_trans c.kid_reason.new.writer c.equal_at_zero.new.writer c.meet.new.writer c.in_ok-fact.ensures.goes c.in_ok-start.ensures.goes in
    let later = goes_trans c.unroll-2.new.writer c.kid_reason.new.writer c.meet.new.writer c.in_ok-why.ensures.goes shown in
    goes_trans c.args.writer.now c.unroll.new.writer c.meet.new.writer c.in_ok-left.ensures.goes (goes_trans c.unroll.new.writer c.unroll-2.new.writer c.meet.new.writer c.in_ok-right.ensures.goes later)

pub unroll-requires-clause-copy : goal.unroll-requires-clause-copy
unroll-requires-clause-copy c = c.requires.pair.left_copy

pub unroll-requires-2-clause-copy : goal.unroll-requires-2-clause-copy
unroll-requires-2-clause-copy c = c.requires.pair.right_copy

pub kid_reason-requires-clause-copy : goal.kid_reason-requires-clause-copy
kid_reason-requires-clause-copy c = (c.in_ok-left.ensures.unrolled.a, c.in_ok-left.ensures.unrolled.first)
