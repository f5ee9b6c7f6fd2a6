use Rattle.pv_writer.proofs.Pushing.{goes_trans}
use Rattle.std.proofs.Common.{refl}
use Rattle.pv_explain.proofs.Iterating.{start_goes, theta_copies, theta_at, theta_is, theta_later}
use Rattle.pv_explain.proofs.iteration.unroll.Goals as goal

pub theta_kids-first-requires : goal.theta_kids-first-requires
theta_kids-first-requires c = (c.args.depth, c.requires.theta)

pub copy_of-copy-requires : goal.copy_of-copy-requires
copy_of-copy-requires c = c.requires.copy

pub copy_of-a-requires : goal.copy_of-a-requires
copy_of-a-requires c =
    let k = c.theta_kids-first.result in
    let is = theta_is c.args.source.now.graph.now.nodes c.args.theta c.args.depth k.0 k.1 c.requires.theta c.theta_kids-first.ensures in
    (theta_copies c.args.writer.now c.args.source.now c.args.theta c.args.depth k.0 k.1 c.requires.source is c.requires.copy).0

pub copy_of-b-requires : goal.copy_of-b-requires
copy_of-b-requires c =
    let k = c.theta_kids-first.result in
    let is = theta_is c.args.source.now.graph.now.nodes c.args.theta c.args.depth k.0 k.1 c.requires.theta c.theta_kids-first.ensures in
    (theta_copies c.args.writer.now c.args.source.now c.args.theta c.args.depth k.0 k.1 c.requires.source is c.requires.copy).1

pub start_of-requires-clause-theta : goal.start_of-requires-clause-theta
start_of-requires-clause-theta c =
    let k = c.theta_kids-first.result in
    let is = theta_is c.args.source.now.graph.now.nodes c.args.theta c.args.depth k.0 k.1 c.requires.theta c.theta_kids-first.ensures in
    theta_at c.args.writer.now c.args.source.now c.args.depth c.args.theta k.0 k.1 c.copy_of-copy.result c.copy_of-a.result c.copy_of-b.result c.requires.source is c.copy_of-copy.ensures c.copy_of-a.ensures c.copy_of-b.ensures

pub next_of-requires : goal.next_of-requires
next_of-requires c =
    let k = c.theta_kids-first.result in
    let is = theta_is c.args.source.now.graph.now.nodes c.args.theta c.args.depth k.0 k.1 c.requires.theta c.theta_kids-first.ensures in
    theta_later c.args.writer.now c.start_of.new.writer c.args.depth c.copy_of-copy.result c.copy_of-a.result c.copy_of-b.result c.in_ok-start.ensures.goes.later
    (theta_at c.args.writer.now c.args.source.now c.args.depth c.args.theta k.0 k.1 c.copy_of-copy.result c.copy_of-a.result c.copy_of-b.result c.requires.source is c.copy_of-copy.ensures c.copy_of-a.ensures c.copy_of-b.ensures)

pub returns-clause-unrolled : goal.returns-clause-unrolled
returns-clause-unrolled c =
    let k = c.theta_kids-first.result in
    record {
      theta_ = refl;
      is = theta_is c.args.source.now.graph.now.nodes c.args.theta c.args.depth k.0 k.1 c.requires.theta c.theta_kids-first.ensures;
      copy_ = c.copy_of-copy.ensures;
      a = c.copy_of-a.result;
      b = c.copy_of-b.result;
      first = c.copy_of-a.ensures;
      second = c.copy_of-b.ensures;
      start_ = start_goes c.start_of.new.writer c.next_of.new.writer c.args.depth c.args.zero c.copy_of-copy.result c.copy_of-a.result c.in_ok-start.start c.in_ok-next.ensures.goes c.in_ok-start.ensures.start;
      next_ = c.in_ok-next.ensures.next;
    }

pub returns-clause-goes : goal.returns-clause-goes
returns-clause-goes c = goes_trans c.args.writer.now c.start_of.new.writer c.next_of.new.writer c.in_ok-start.ensures.goes c.in_ok-next.ensures.goes
