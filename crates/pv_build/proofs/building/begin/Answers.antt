use Rattle.std.proofs.Common.{length}
use Rattle.pv_build.proofs.Words.{IfOk-weaker, IsBeyond, loops_at}
use Rattle.pv_build.proofs.Staged.{first_kept, first_then}
use Rattle.pv_build.proofs.Turns.{block_low}
use Rattle.pv_build.proofs.Blocks.{begun_plain, can_open}
use Rattle.pv_build.proofs.building.begin.Goals as goal

pub outer_loop-at-requires-clause-block : goal.outer_loop-at-requires-clause-block
outer_loop-at-requires-clause-block c = block_low c.args.method.now c.requires.method c.requires.next.place c.args.b c.requires.next.at

pub state_at-requires-clause-stage : goal.state_at-requires-clause-stage
state_at-requires-clause-stage c = c.requires.stage c.outer_loop-at.result c.outer_loop-at.ensures.outer

pub own_loop-requires-clause-block : goal.own_loop-requires-clause-block
own_loop-requires-clause-block c = block_low c.args.method.now c.requires.method c.requires.next.place c.args.b c.requires.next.at

pub open-requires-clause-can : goal.open-requires-clause-can
open-requires-clause-can c =
    can_open c.args.method.now c.requires.method c.args.made.now c.args.b c.outer_loop-at.result c.outer_loop-at.ensures.region c.outer_loop-at.ensures.outer c.args.g.now c.state_at.new.g c.requires.stage c.state_at.ensures.grows
    c.in-Some.i c.in-Some.ensures c.requires.next c.in_ok-state.state c.in_ok-state.ensures.reads c.in_ok-state.ensures.sorts

pub returns-in_err-state-clause-keeps : goal.returns-in_err-state-clause-keeps
returns-in_err-state-clause-keeps c = first_kept (IsBeyond (length (loops_at c.args.method.now c.outer_loop-at.result))) c.args.made.now.start c.args.g.now c.state_at.new.g c.state_at.ensures.grows

pub returns-in-Some-clause-begun : goal.returns-in-Some-clause-begun
returns-in-Some-clause-begun c = IfOk-weaker c.open.result _ _ (λ s begun. begun c.args.b c.in-Some.ensures) c.open.ensures.begun

pub returns-in-Some-clause-keeps : goal.returns-in-Some-clause-keeps
returns-in-Some-clause-keeps c =
    first_then c.args.made.now.start c.args.g.now c.state_at.new.g c.open.new.g (first_kept (IsBeyond (length (loops_at c.args.method.now c.outer_loop-at.result))) c.args.made.now.start c.args.g.now c.state_at.new.g c.state_at.ensures.grows) c.open.ensures.keeps

pub returns-in-None-clause-begun : goal.returns-in-None-clause-begun
returns-in-None-clause-begun c =
    begun_plain c.args.method.now c.requires.method c.args.made.now c.args.b c.outer_loop-at.result c.outer_loop-at.ensures.region c.outer_loop-at.ensures.outer c.args.g.now c.state_at.new.g c.requires.stage c.state_at.ensures.grows
    c.in_ok-state.state c.in-None.ensures c.in_ok-state.ensures.reads c.in_ok-state.ensures.sorts

pub returns-in-None-clause-keeps : goal.returns-in-None-clause-keeps
returns-in-None-clause-keeps c = first_kept (IsBeyond (length (loops_at c.args.method.now c.outer_loop-at.result))) c.args.made.now.start c.args.g.now c.state_at.new.g c.state_at.ensures.grows
