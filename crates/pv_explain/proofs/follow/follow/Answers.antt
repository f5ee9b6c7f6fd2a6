use Rattle.std.proofs.Common.{ℕ, ◌+◌, take, drop, sym, ◌∙◌, subst}
use Rattle.std.proofs.Math.ListN.{get_or}
use Rattle.pv_paths.specs.declared.forest.Way.TheVariants.{Forth}
use Rattle.pv_writer.proofs.Pushing.{goes_trans}
use Rattle.pv_explain.specs.Lines.{ReachBy}
use Rattle.pv_explain.proofs.Following.{facts_goes, line_once, next_line, next_reached}
use Rattle.pv_explain.proofs.follow.follow.Goals as goal

pub crossed-requires-clause-known : goal.crossed-requires-clause-known
crossed-requires-clause-known c = facts_goes c.args.writer.now c.loop-way.writer c.args.lines.now c.loop-way.invariant.goes c.requires.known

pub crossed-requires-clause-line : goal.crossed-requires-clause-line
crossed-requires-clause-line c =
    let n = next_line c.args.lines.now c.args.path.now c.loop-way.way-index c.loop-way.reached.node c.loop-way-test.true c.loop-way.invariant.rest in
    (c.loop-way.reached.node, n.0, n.1)

pub gone_on-requires-clause-next : goal.gone_on-requires-clause-next
gone_on-requires-clause-next c =
    let n = next_line c.args.lines.now c.args.path.now c.loop-way.way-index c.loop-way.reached.node c.loop-way-test.true c.loop-way.invariant.rest in
    (line_once c.args.lines.now (get_or c.args.path.now c.loop-way.way-index (Forth 0)) c.loop-way.reached.node n.0 c.in_ok-next.next.left c.in_ok-next.next.right n.1 c.in_ok-next.ensures.line).0

pub loop-way-preserved : goal.loop-way-preserved
loop-way-preserved c =
    let n = next_line c.args.lines.now c.args.path.now c.loop-way.way-index c.loop-way.reached.node c.loop-way-test.true c.loop-way.invariant.rest in
    let e = line_once c.args.lines.now (get_or c.args.path.now c.loop-way.way-index (Forth 0)) c.loop-way.reached.node n.0 c.in_ok-next.next.left c.in_ok-next.next.right n.1 c.in_ok-next.ensures.line in
    let there = e.1 ∙ sym c.in_ok-reached.ensures.node in
    record {
      reached = c.in_ok-reached.ensures.reached;
      path = subst (λ (m : ℕ). ReachBy c.args.lines.now (take (c.loop-way.way-index + 1) c.args.path.now) c.args.first m) there
          (next_reached c.args.lines.now c.args.path.now c.loop-way.way-index c.args.first c.loop-way.reached.node n.0 c.loop-way-test.true c.loop-way.invariant.path n.1);
      rest = (n.2.0, subst (λ (m : ℕ). ReachBy c.args.lines.now (drop (c.loop-way.way-index + 1) c.args.path.now) m n.2.0) there n.2.1);
      goes = goes_trans c.args.writer.now c.crossed.new.writer c.gone_on.new.writer (goes_trans c.args.writer.now c.loop-way.writer c.crossed.new.writer c.loop-way.invariant.goes c.in_ok-next.ensures.goes) c.in_ok-reached.ensures.goes;
    }
