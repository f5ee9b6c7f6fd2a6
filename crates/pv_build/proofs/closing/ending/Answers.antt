use Rattle.std.proofs.Common.{ℕ, length, Some}
use Rattle.pv_build.proofs.Words.{IfOk-weaker, found, I, grows_by_then, loops_at, IsBeyond}
use Rattle.pv_decide.specs.declared.tree.Target.TheVariants as target
use Rattle.pv_build.proofs.GivenFor.{gives_left}
use Rattle.pv_build.proofs.Leaving.{ending_folds, ending_some, names_grown}
use Rattle.pv_build.proofs.Looped.{asked_leave, all_ready}
use Rattle.pv_build.proofs.Staged.{flat_beyond}
use Rattle.pv_build.proofs.closing.ending.Goals as goal

pub tree_for-requires-clause-target : goal.tree_for-requires-clause-target
tree_for-requires-clause-target c =
    let l = found c.args.method.now.forest.now.loops.items c.args.i c.requires.loop_ in
    asked_leave c.args.method.now c.requires.method c.args.i l.0 l.1

pub tree_for-requires-clause-ready : goal.tree_for-requires-clause-ready
tree_for-requires-clause-ready c =
    let l = found c.args.method.now.forest.now.loops.items c.args.i c.requires.loop_ in
    all_ready c.args.method.now c.requires.method c.args.i l.0 l.1 c.args.made.now target.Leave c.requires.done

pub node_of-requires-clause-gives : goal.node_of-requires-clause-gives
node_of-requires-clause-gives c = (I, gives_left c.args.method.now c.tree_for.new.g c.args.made.now.names (Some c.args.i) c.in_ok-left.left c.in_ok-left.ensures.given)

pub node_of-requires-clause-some : goal.node_of-requires-clause-some
node_of-requires-clause-some c =
    let m = c.args.method.now in
    let l = found m.forest.now.loops.items c.args.i c.requires.loop_ in
    let are = names_grown m (loops_at m (Some c.args.i)) c.args.made.now (length (loops_at m (Some c.args.i))) c.args.g.now c.tree_for.new.g c.requires.stage c.tree_for.ensures.grows in
    ending_some m c.requires.method c.args.i l.0 l.1 c.tree_for.new.g c.args.made.now.names are c.in_ok-left.left c.in_ok-left.ensures.given

pub returns-clause-reads : goal.returns-clause-reads
returns-clause-reads c =
    let m = c.args.method.now in
    let are = names_grown m (loops_at m (Some c.args.i)) c.args.made.now (length (loops_at m (Some c.args.i))) c.args.g.now c.tree_for.new.g c.requires.stage c.tree_for.ensures.grows in
    IfOk-weaker c.node_of.result _ _ (λ n reads l there v eqs. reads c.args.made.now.names (v.ending l.header)
    (ending_folds m c.requires.method c.args.i l there c.tree_for.new.g c.args.made.now.names are c.in_ok-left.left c.in_ok-left.ensures.given v eqs)) c.node_of.ensures.reads

pub returns-clause-sort : goal.returns-clause-sort
returns-clause-sort c =
    IfOk-weaker c.node_of.result _ _ (λ n sorted. sorted I (gives_left c.args.method.now c.tree_for.new.g c.args.made.now.names (Some c.args.i) c.in_ok-left.left c.in_ok-left.ensures.given)) c.node_of.ensures.sort

pub returns-clause-grows : goal.returns-clause-grows
returns-clause-grows c =
    let d : ℕ = length (loops_at c.args.method.now (Some c.args.i)) in
    grows_by_then (IsBeyond d) c.args.g.now c.tree_for.new.g c.node_of.new.g c.tree_for.ensures.grows (flat_beyond d c.tree_for.new.g c.node_of.new.g c.node_of.ensures.grows)
