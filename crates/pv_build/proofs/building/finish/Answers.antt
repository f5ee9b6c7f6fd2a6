use Rattle.std.proofs.Common.{None, refl}
use Rattle.pv_build.proofs.Words.{IfOk-weaker, T, IsFlat, grows_by_then, grows_then, IsBeyond}
use Rattle.pv_graph.specs.declared.node.Op.TheVariants as op
use Rattle.pv_decide.specs.declared.tree.Target.TheVariants as target
use Rattle.pv_build.proofs.Kept.{has_no_kids, read_no_kids}
use Rattle.pv_build.proofs.Staged.{flat_beyond}
use Rattle.pv_build.proofs.Around.{asked_exit, asked_return}
use Rattle.pv_build.proofs.Turns.{all_ready}
use Rattle.pv_build.proofs.Entered.{given_later}
use Rattle.pv_build.proofs.Finished.{whole_grows, whole_stage, stage_later, finished_gives, is_built}
use Rattle.pv_build.proofs.building.finish.Goals as goal

pub tree_for-requires-clause-stage : goal.tree_for-requires-clause-stage
tree_for-requires-clause-stage c = whole_stage c.args.method.now c.requires.method c.args.g.now c.args.made.now c.requires.stage

pub tree_for-requires-clause-target : goal.tree_for-requires-clause-target
tree_for-requires-clause-target c = asked_exit c.args.method.now c.requires.method

pub tree_for-requires-clause-ready : goal.tree_for-requires-clause-ready
tree_for-requires-clause-ready c = all_ready c.args.method.now c.requires.method c.args.made.now c.requires.done None target.Exit

pub returns-in_err-ends-clause-grows : goal.returns-in_err-ends-clause-grows
returns-in_err-ends-clause-grows c = whole_grows c.args.method.now c.requires.method c.args.g.now c.tree_for.new.g c.tree_for.ensures.grows

pub tree_for-requires-2-clause-stage : goal.tree_for-requires-2-clause-stage
tree_for-requires-2-clause-stage c =
    let m = c.args.method.now in
    whole_stage m c.requires.method c.tree_for.new.g c.args.made.now (stage_later m c.args.g.now c.tree_for.new.g c.args.made.now (whole_grows m c.requires.method c.args.g.now c.tree_for.new.g c.tree_for.ensures.grows) c.requires.stage)

pub tree_for-requires-2-clause-target : goal.tree_for-requires-2-clause-target
tree_for-requires-2-clause-target c = asked_return c.args.method.now c.requires.method

pub tree_for-requires-2-clause-ready : goal.tree_for-requires-2-clause-ready
tree_for-requires-2-clause-ready c = all_ready c.args.method.now c.requires.method c.args.made.now c.requires.done None target.Return

pub returns-in_err-returns-clause-grows : goal.returns-in_err-returns-clause-grows
returns-in_err-returns-clause-grows c =
    let m = c.args.method.now in
    grows_by_then (IsBeyond 0) c.args.g.now c.tree_for.new.g c.tree_for-2.new.g (whole_grows m c.requires.method c.args.g.now c.tree_for.new.g c.tree_for.ensures.grows) (whole_grows m c.requires.method c.tree_for.new.g c.tree_for-2.new.g c.tree_for-2.ensures.grows)

pub over-requires-clause-fits : goal.over-requires-clause-fits
over-requires-clause-fits c = (T, has_no_kids c.tree_for-2.new.g op.Never T refl)

pub returns-in_err-never-clause-grows : goal.returns-in_err-never-clause-grows
returns-in_err-never-clause-grows c =
    let m = c.args.method.now in
    let both = grows_by_then (IsBeyond 0) c.args.g.now c.tree_for.new.g c.tree_for-2.new.g (whole_grows m c.requires.method c.args.g.now c.tree_for.new.g c.tree_for.ensures.grows) (whole_grows m c.requires.method c.tree_for.new.g c.tree_for-2.new.g c.tree_for-2.ensures.grows) in
    grows_by_then (IsBeyond 0) c.args.g.now c.tree_for-2.new.g c.over.new.g both (flat_beyond 0 c.tree_for-2.new.g c.over.new.g c.over.ensures.grows)

pub root-requires-clause-ends : goal.root-requires-clause-ends
root-requires-clause-ends c = c.in_ok-ends.ensures.given.tree

pub root-requires-clause-returns : goal.root-requires-clause-returns
root-requires-clause-returns c = c.in_ok-returns.ensures.given.tree

pub root-requires-clause-gives : goal.root-requires-clause-gives
root-requires-clause-gives c =
    let m = c.args.method.now in
    let names = c.args.made.now.names in
    let second = whole_grows m c.requires.method c.tree_for.new.g c.tree_for-2.new.g c.tree_for-2.ensures.grows in
    let both = grows_by_then (IsBeyond 0) c.args.g.now c.tree_for.new.g c.tree_for-2.new.g (whole_grows m c.requires.method c.args.g.now c.tree_for.new.g c.tree_for.ensures.grows) second in
    let all = grows_by_then (IsBeyond 0) c.args.g.now c.tree_for-2.new.g c.over.new.g both (flat_beyond 0 c.tree_for-2.new.g c.over.new.g c.over.ensures.grows) in
    let at_stage = stage_later m c.args.g.now c.over.new.g c.args.made.now all c.requires.stage in
    let ends = given_later m IsFlat c.tree_for-2.new.g c.over.new.g c.over.ensures.grows names None target.Exit c.in_ok-ends.ends (given_later m (IsBeyond 0) c.tree_for.new.g c.tree_for-2.new.g second names None target.Exit c.in_ok-ends.ends c.in_ok-ends.ensures.given) in
    let returns = given_later m IsFlat c.tree_for-2.new.g c.over.new.g c.over.ensures.grows names None target.Return c.in_ok-returns.returns c.in_ok-returns.ensures.given in
    finished_gives m c.requires.method c.over.new.g c.args.made.now at_stage c.in_ok-ends.ends c.in_ok-returns.returns ends returns c.in_ok-never.never
    (c.in_ok-never.ensures.sort T (has_no_kids c.tree_for-2.new.g op.Never T refl))

pub returns-clause-root : goal.returns-clause-root
returns-clause-root c =
    let m = c.args.method.now in
    let names = c.args.made.now.names in
    let second = whole_grows m c.requires.method c.tree_for.new.g c.tree_for-2.new.g c.tree_for-2.ensures.grows in
    let both = grows_by_then (IsBeyond 0) c.args.g.now c.tree_for.new.g c.tree_for-2.new.g (whole_grows m c.requires.method c.args.g.now c.tree_for.new.g c.tree_for.ensures.grows) second in
    let all = grows_by_then (IsBeyond 0) c.args.g.now c.tree_for-2.new.g c.over.new.g both (flat_beyond 0 c.tree_for-2.new.g c.over.new.g c.over.ensures.grows) in
    let at_stage = stage_later m c.args.g.now c.over.new.g c.args.made.now all c.requires.stage in
    let after = stage_later m c.over.new.g c.root.new.g c.args.made.now (flat_beyond 0 c.over.new.g c.root.new.g c.root.ensures.grows) at_stage in
    let ends = given_later m IsFlat c.tree_for-2.new.g c.over.new.g c.over.ensures.grows names None target.Exit c.in_ok-ends.ends (given_later m (IsBeyond 0) c.tree_for.new.g c.tree_for-2.new.g second names None target.Exit c.in_ok-ends.ends c.in_ok-ends.ensures.given) in
    let returns = given_later m IsFlat c.tree_for-2.new.g c.over.new.g c.over.ensures.grows names None target.Return c.in_ok-returns.returns c.in_ok-returns.ensures.given in
    let never = read_no_kids c.tree_for-2.new.g c.over.new.g names op.Never c.in_ok-never.never c.in_ok-never.ensures.reads in
    IfOk-weaker c.root.result _ _ (λ r reads. is_built m c.requires.method c.over.new.g c.args.made.now at_stage c.in_ok-ends.ends c.in_ok-returns.returns ends returns c.in_ok-never.never never c.root.new.g r reads after) c.root.ensures.reads

pub returns-clause-grows : goal.returns-clause-grows
returns-clause-grows c =
    let m = c.args.method.now in
    let both = grows_by_then (IsBeyond 0) c.args.g.now c.tree_for.new.g c.tree_for-2.new.g (whole_grows m c.requires.method c.args.g.now c.tree_for.new.g c.tree_for.ensures.grows) (whole_grows m c.requires.method c.tree_for.new.g c.tree_for-2.new.g c.tree_for-2.ensures.grows) in
    grows_by_then (IsBeyond 0) c.args.g.now c.tree_for-2.new.g c.root.new.g both (flat_beyond 0 c.tree_for-2.new.g c.root.new.g (grows_then c.tree_for-2.new.g c.over.new.g c.root.new.g c.over.ensures.grows c.root.ensures.grows))
