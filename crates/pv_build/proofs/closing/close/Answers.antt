use Rattle.std.proofs.Common.{◌≡◌, length, Some, ap, ◌∙◌}
use Rattle.pv_build.proofs.Words.{get_or_from_slice_get, Loop, found, loops_at, IsBeyond}
use Rattle.pv_build.proofs.Looped.{deep}
use Rattle.pv_build.proofs.Staged.{first_kept, first_then, stage_grown}
use Rattle.pv_build.proofs.Shut.{stage_shut}
use Rattle.pv_build.proofs.closing.close.Goals as goal

pub tie_loop-requires-clause-stage : goal.tie_loop-requires-clause-stage
tie_loop-requires-clause-stage c =
    let m = c.args.method.now in
    let l = found m.forest.now.loops.items c.args.i c.requires.loop_ in
    let R = loops_at m (Some c.args.i) in
    stage_grown m c.args.g.now c.ending.new.g c.args.made.now R (length R) (deep m c.requires.method c.args.i l.0 l.1) c.ending.ensures.grows c.requires.stage

pub returns-in_err-token-clause-keeps : goal.returns-in_err-token-clause-keeps
returns-in_err-token-clause-keeps c =
    let start = c.args.made.now.start in
    first_then start c.args.g.now c.ending.new.g c.tie_loop.new.g (first_kept (IsBeyond (length (loops_at c.args.method.now (Some c.args.i)))) start c.args.g.now c.ending.new.g c.ending.ensures.grows) c.tie_loop.ensures.keeps

pub returns-clause-keeps : goal.returns-clause-keeps
returns-clause-keeps c =
    let start = c.args.made.now.start in
    first_then start c.args.g.now c.ending.new.g c.tie_loop.new.g (first_kept (IsBeyond (length (loops_at c.args.method.now (Some c.args.i)))) start c.args.g.now c.ending.new.g c.ending.ensures.grows) c.tie_loop.ensures.keeps

pub returns-clause-stage : goal.returns-clause-stage
returns-clause-stage c l there =
    let m = c.args.method.now in
    let R = loops_at m (Some c.args.i) in
    let stage = stage_grown m c.args.g.now c.ending.new.g c.args.made.now R (length R) (deep m c.requires.method c.args.i l there) c.ending.ensures.grows c.requires.stage in
    let read : c.index.result.now ≡ l = c.index.ensures ∙ get_or_from_slice_get m.forest.now.loops.items c.args.i l c.index.result.now there in
    stage_shut m c.requires.method c.ending.new.g c.args.made.now c.args.i stage c.requires.done c.tie_loop.new.g c.in_ok-token.token c.in_ok-token.ensures.ties l there c.in_ok-ending.ending c.index.result.now.depth
    (c.in_ok-ending.ensures.reads l there) c.in_ok-ending.ensures.sort (ap (λ (k : Loop). k.depth) read)
