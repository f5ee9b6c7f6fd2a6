use Rattle.std.proofs.Common.{ℕ, sym, subst, arith}
use Rattle.pv_classes.specs.Partition.{Parts}
use Rattle.pv_classes.specs.Index.{AreJoined}
use Rattle.pv_classes.specs.Learning.{HasMore}
use Rattle.pv_classes.proofs.Growing.{more_none, more_step, joined_wider}
use Rattle.pv_classes.proofs.known.add_parts.Goals as goal

pub loop-init : goal.loop-init
loop-init c = record { joined = c.requires.joined; more = subst (λ (m : ℕ). HasMore c.args.parts.now c.args.parts.now m) (sym c.len-counter.ensures.len) (more_none c.args.parts.now c.requires.joined.parts) }

pub loop-preserved : goal.loop-preserved
loop-preserved c = record {
  joined = joined_wider c.loop.parts c.add_node.new.self c.args.joins.now c.loop.invariant.joined c.in_ok-add_node.ensures.ok;
  more = more_step c.args.parts.now c.loop.parts c.add_node.new.self c.loop.counter c.requires.joined.parts c.loop.invariant.joined.parts c.loop.invariant.more c.in_ok-add_node.ensures.ok;
}

pub returns-in_err-add_node-clause-joined : goal.returns-in_err-add_node-clause-joined
returns-in_err-add_node-clause-joined c = subst (λ (p : Parts). AreJoined p c.args.joins.now) (sym c.in_err-add_node.ensures.err) c.loop.invariant.joined

pub returns-clause-more : goal.returns-clause-more
returns-clause-more c = subst (λ (m : ℕ). HasMore c.args.parts.now c.loop.parts m) (omega (arith, c.loop-test.false, c.loop.auto.counter-end, c.requires.few, c.len-counter.ensures.len)) c.loop.invariant.more
