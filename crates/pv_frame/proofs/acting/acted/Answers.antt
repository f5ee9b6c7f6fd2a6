use Rattle.std.proofs.Common.{sym, subst}
use Rattle.pv_frame.proofs.Words.{HasItsText, IsFirstOf, OnCause}
use Rattle.pv_frame.proofs.Texts.{has_texts, use_text}
use Rattle.pv_frame.proofs.Acted.{acting_on, acting_stops}
use Rattle.pv_frame.proofs.acting.acted.Goals as goal

pub action_of-requires-clause-text : goal.action_of-requires-clause-text
action_of-requires-clause-text c =
    subst (HasItsText c.args.pool.now) (sym c.in_ok-used.ensures) (use_text c.args.pool.now (has_texts c.args.pool.now c.requires.references) c.placed-item.result.insn)

pub returns-in-Err : goal.returns-in-Err
returns-in-Err c =
    subst (λ r. OnCause r (IsFirstOf c.args.pool.now c.args.code.now)) (sym c.at.ensures)
    (acting_stops c.args.pool.now c.args.code.now c.loop-placed.placed-index c.loop-placed.uses.items c.loop-placed.actions.items c.placed-item.result c.in_ok-used.used c.in-Err.stop c.loop-placed-test.true c.placed-item.is c.in-Err.ensures c.loop-placed.invariant)

pub loop-placed-preserved : goal.loop-placed-preserved
loop-placed-preserved c =
    rw (c.in_ok-push.ensures.items, c.in_ok-push-in-Ok.ensures.items)
    (acting_on c.args.pool.now c.args.code.now c.loop-placed.placed-index c.loop-placed.uses.items c.loop-placed.actions.items c.placed-item.result c.in_ok-used.used c.in-Ok.action c.loop-placed-test.true c.placed-item.is c.in_ok-used.ensures c.in-Ok.ensures c.loop-placed.invariant)
