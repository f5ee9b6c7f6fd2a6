use Rattle.std.proofs.Common.{length, Some, refl}
use Rattle.pv_build.proofs.Words.{found, T, loops_at, IsBeyond}
use Rattle.pv_graph.specs.declared.node.Op.TheVariants as op
use Rattle.pv_decide.specs.declared.tree.Target.TheVariants as target
use Rattle.pv_build.proofs.Kept.{has_no_kids}
use Rattle.pv_build.proofs.Looped.{asked_back, all_ready}
use Rattle.pv_build.proofs.Staged.{first_kept}
use Rattle.pv_build.proofs.Loops.{grows_here, opened_there, can_tie, kept_here, ties_here, kept_tied}
use Rattle.pv_build.proofs.closing.tie_loop.Goals as goal

pub tree_for-requires-clause-target : goal.tree_for-requires-clause-target
tree_for-requires-clause-target c =
    let l = found c.args.method.now.forest.now.loops.items c.args.i c.requires.loop_ in
    asked_back c.args.method.now c.requires.method c.args.i l.0 l.1

pub tree_for-requires-clause-ready : goal.tree_for-requires-clause-ready
tree_for-requires-clause-ready c =
    let l = found c.args.method.now.forest.now.loops.items c.args.i c.requires.loop_ in
    all_ready c.args.method.now c.requires.method c.args.i l.0 l.1 c.args.made.now target.Back c.requires.done

pub over-requires-clause-fits : goal.over-requires-clause-fits
over-requires-clause-fits c = (T, has_no_kids c.tree_for.new.g op.Never T refl)

pub returns-in_err-never-clause-keeps : goal.returns-in_err-never-clause-keeps
returns-in_err-never-clause-keeps c =
    first_kept (IsBeyond (length (loops_at c.args.method.now (Some c.args.i)))) c.args.made.now.start c.args.g.now c.over.new.g
    (grows_here c.args.method.now c.requires.method c.args.g.now c.tree_for.new.g c.over.new.g c.args.made.now c.args.i c.requires.loop_ c.requires.stage c.tree_for.ensures.grows c.over.ensures.grows)

pub opened_at-opened-requires : goal.opened_at-opened-requires
opened_at-opened-requires c =
    opened_there c.args.method.now c.requires.method c.args.g.now c.over.new.g c.args.made.now c.args.i c.requires.loop_ c.requires.stage
    (grows_here c.args.method.now c.requires.method c.args.g.now c.tree_for.new.g c.over.new.g c.args.made.now c.args.i c.requires.loop_ c.requires.stage c.tree_for.ensures.grows c.over.ensures.grows)

pub tie_all-requires : goal.tie_all-requires
tie_all-requires c = record {
  loop_ = can_tie c.args.method.now c.requires.method c.args.g.now c.tree_for.new.g c.over.new.g c.args.made.now c.args.i c.requires.loop_ c.requires.stage c.tree_for.ensures.grows c.over.ensures.grows
      c.opened_at-opened.result.now c.opened_at-opened.ensures c.in_ok-again.again c.in_ok-never.never c.in_ok-again.ensures.given c.in_ok-never.ensures.reads c.in_ok-never.ensures.sort c.deref.result.now c.deref.ensures.value;
}

pub returns-in_err-tie_all-clause-keeps : goal.returns-in_err-tie_all-clause-keeps
returns-in_err-tie_all-clause-keeps c =
    kept_here c.args.method.now c.requires.method c.args.g.now c.tree_for.new.g c.over.new.g c.args.made.now c.args.i c.requires.loop_ c.requires.stage c.tree_for.ensures.grows c.over.ensures.grows
    c.opened_at-opened.result.now c.opened_at-opened.ensures c.in_ok-again.again c.in_ok-never.never c.in_ok-again.ensures.given c.in_ok-never.ensures.reads c.in_ok-never.ensures.sort c.deref.result.now c.deref.ensures.value c.tie_all.new.g c.in_err-tie_all.ensures.keeps

pub returns-clause-ties : goal.returns-clause-ties
returns-clause-ties c =
    ties_here c.args.method.now c.requires.method c.args.g.now c.tree_for.new.g c.over.new.g c.args.made.now c.args.i c.requires.loop_ c.requires.stage c.tree_for.ensures.grows c.over.ensures.grows
    c.opened_at-opened.result.now c.opened_at-opened.ensures c.in_ok-again.again c.in_ok-never.never c.in_ok-again.ensures.given c.in_ok-never.ensures.reads c.in_ok-never.ensures.sort c.deref.result.now c.deref.ensures.value c.tie_all.new.g c.in_ok-tie_all.ensures.tied

pub returns-clause-keeps : goal.returns-clause-keeps
returns-clause-keeps c =
    kept_tied c.args.method.now c.requires.method c.args.g.now c.tree_for.new.g c.over.new.g c.args.made.now c.args.i c.requires.loop_ c.requires.stage c.tree_for.ensures.grows c.over.ensures.grows
    c.opened_at-opened.result.now c.opened_at-opened.ensures c.in_ok-again.again c.in_ok-never.never c.in_ok-again.ensures.given c.in_ok-never.ensures.reads c.in_ok-never.ensures.sort c.deref.result.now c.deref.ensures.value c.tie_all.new.g c.in_ok-tie_all.ensures.tied
