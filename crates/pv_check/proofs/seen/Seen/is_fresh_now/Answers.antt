use Rattle.std.proofs.Common.{List, sym, subst}
use Rattle.pv_steps.specs.Right.{IsFresh}
use Rattle.pv_steps.specs.Steps.{OpenBlock, blocks}
use Rattle.pv_check.proofs.Fresh.{IsBlock, now_block, now_around}
use Rattle.pv_check.proofs.seen.Seen.is_fresh_now.Goals as goal

pub is_fresh-requires : goal.is_fresh-requires
is_fresh-requires c =
    let block = subst (IsBlock c.args.self.now.steps.now) (sym c.inside.ensures.number) (now_block c.args.self.now.steps.now) in
    record { known = block.known; block = block.number }

pub returns : goal.returns
returns c =
    let same = now_around c.args.self.now.steps.now c.inside.result c.inside.ensures.number in
    (λ e. subst (λ (ps : List OpenBlock). IsFresh c.args.depth (blocks ps)) same (c.is_fresh.ensures.0 e), λ h. c.is_fresh.ensures.1 (subst (λ (ps : List OpenBlock). IsFresh c.args.depth (blocks ps)) (sym same) h))
