use Rattle.std.proofs.Common.{◌≡◌, ℕ, length, slice_get, refl, sym, ap, ◌∙◌, subst}
use Rattle.pv_build.proofs.Words.{IfOk-weaker, IsFrameAt, T, IsFlat, grows_by_then, grows_then, IsBeyond, loops_at, IsEnteredBy}
use Rattle.pv_graph.specs.declared.node.Op.TheVariants as op
use Rattle.pv_decide.specs.declared.tree.Target.TheVariants as target
use Rattle.pv_build.proofs.Kept.{has_no_kids, read_no_kids}
use Rattle.pv_build.proofs.Staged.{flat_beyond}
use Rattle.pv_build.proofs.Beginning.{first_stack, first_ops, first_block, block_frame, begins_block}
use Rattle.pv_build.proofs.Around.{asked_node}
use Rattle.pv_build.proofs.Turns.{next_block, next_ready}
use Rattle.pv_build.proofs.Entered.{given_later, names_later, enters_first, entered_gives, entered_folds, enters_block}
use Rattle.pv_build.proofs.building.state_at.Goals as goal

pub first_frame-frame-requires : goal.first_frame-frame-requires
first_frame-frame-requires c =
    let at = next_block c.args.method.now c.requires.method c.args.made.now c.args.b c.requires.next c.as_slice.result.now c.index-as_slice-b.result c.as_slice.ensures c.index-as_slice-b.is in
    block_frame c.args.method.now c.requires.method c.args.b c.index-as_slice-b.result at

pub start-requires-clause-ops : goal.start-requires-clause-ops
start-requires-clause-ops c =
    let m = c.args.method.now in
    let block = c.index-as_slice-b.result in
    let at = next_block m c.requires.method c.args.made.now c.args.b c.requires.next c.as_slice.result.now block c.as_slice.ensures c.index-as_slice-b.is in
    let zero : block.first ≡ 0 = first_block m c.requires.method block (ap (slice_get m.flow.now.blocks) (sym c.if-b-eq0.true) ∙ at) in
    first_ops m c.requires.method c.first_frame-frame.result.now (subst (λ (k : ℕ). IsFrameAt m.typed.now.frames k c.first_frame-frame.result.now) zero c.first_frame-frame.ensures)

pub start-requires-clause-stack : goal.start-requires-clause-stack
start-requires-clause-stack c =
    let m = c.args.method.now in
    let block = c.index-as_slice-b.result in
    let at = next_block m c.requires.method c.args.made.now c.args.b c.requires.next c.as_slice.result.now block c.as_slice.ensures c.index-as_slice-b.is in
    let zero : block.first ≡ 0 = first_block m c.requires.method block (ap (slice_get m.flow.now.blocks) (sym c.if-b-eq0.true) ∙ at) in
    first_stack m c.requires.method c.first_frame-frame.result.now (subst (λ (k : ℕ). IsFrameAt m.typed.now.frames k c.first_frame-frame.result.now) zero c.first_frame-frame.ensures)

pub returns-then-b-eq0-clause-reads : goal.returns-then-b-eq0-clause-reads
returns-then-b-eq0-clause-reads c =
    let m = c.args.method.now in
    let names = c.args.made.now.names in
    IfOk-weaker c.start.result _ _ (λ s reads. subst (λ (b : ℕ). IsEnteredBy m c.start.new.g names b s) (sym c.if-b-eq0.true) (enters_first m c.start.new.g names s reads)) c.start.ensures.reads

pub returns-then-b-eq0-clause-sorts : goal.returns-then-b-eq0-clause-sorts
returns-then-b-eq0-clause-sorts c =
    let at = next_block c.args.method.now c.requires.method c.args.made.now c.args.b c.requires.next c.as_slice.result.now c.index-as_slice-b.result c.as_slice.ensures c.index-as_slice-b.is in
    IfOk-weaker c.start.result _ _ (λ s sorted. begins_block c.args.method.now c.start.new.g c.args.b c.index-as_slice-b.result c.first_frame-frame.result.now s at c.first_frame-frame.ensures sorted) c.start.ensures.sorts

pub returns-then-b-eq0-clause-grows : goal.returns-then-b-eq0-clause-grows
returns-then-b-eq0-clause-grows c = flat_beyond (length (loops_at c.args.method.now c.args.at)) c.args.g.now c.start.new.g c.start.ensures.grows

pub tree_for-requires-clause-target : goal.tree_for-requires-clause-target
tree_for-requires-clause-target c = asked_node c.args.method.now c.requires.method c.args.at c.requires.region c.args.b c.requires.outer

pub tree_for-requires-clause-ready : goal.tree_for-requires-clause-ready
tree_for-requires-clause-ready c = next_ready c.args.method.now c.requires.method c.args.made.now c.args.b c.requires.next c.args.at

pub over-requires-clause-fits : goal.over-requires-clause-fits
over-requires-clause-fits c = (T, has_no_kids c.tree_for.new.g op.Never T refl)

pub returns-in_err-never-clause-grows : goal.returns-in_err-never-clause-grows
returns-in_err-never-clause-grows c =
    let d = length (loops_at c.args.method.now c.args.at) in
    grows_by_then (IsBeyond d) c.args.g.now c.tree_for.new.g c.over.new.g c.tree_for.ensures.grows (flat_beyond d c.tree_for.new.g c.over.new.g c.over.ensures.grows)

pub enter-requires-clause-tree : goal.enter-requires-clause-tree
enter-requires-clause-tree c = c.in_ok-given.ensures.given.tree

pub enter-requires-clause-gives : goal.enter-requires-clause-gives
enter-requires-clause-gives c =
    let m = c.args.method.now in
    let names = c.args.made.now.names in
    let at = next_block m c.requires.method c.args.made.now c.args.b c.requires.next c.as_slice.result.now c.index-as_slice-b.result c.as_slice.ensures c.index-as_slice-b.is in
    let given = given_later m IsFlat c.tree_for.new.g c.over.new.g c.over.ensures.grows names c.args.at (target.Node c.args.b) c.in_ok-given.given c.in_ok-given.ensures.given in
    entered_gives m c.requires.method c.args.b c.index-as_slice-b.result at c.if-b-eq0.false c.args.at c.requires.region c.requires.outer c.first_frame-frame.result.now c.first_frame-frame.ensures c.over.new.g names c.in_ok-given.given given c.in_ok-never.never
    (c.in_ok-never.ensures.sort T (has_no_kids c.tree_for.new.g op.Never T refl))

pub enter-requires-clause-some : goal.enter-requires-clause-some
enter-requires-clause-some c =
    let m = c.args.method.now in
    let names = c.args.made.now.names in
    let d = length (loops_at m c.args.at) in
    let at = next_block m c.requires.method c.args.made.now c.args.b c.requires.next c.as_slice.result.now c.index-as_slice-b.result c.as_slice.ensures c.index-as_slice-b.is in
    let given = given_later m IsFlat c.tree_for.new.g c.over.new.g c.over.ensures.grows names c.args.at (target.Node c.args.b) c.in_ok-given.given c.in_ok-given.ensures.given in
    let are = names_later m IsFlat c.tree_for.new.g c.over.new.g c.over.ensures.grows names (names_later m (IsBeyond d) c.args.g.now c.tree_for.new.g c.tree_for.ensures.grows names c.requires.stage.names) in
    entered_folds m c.requires.method c.args.b c.index-as_slice-b.result at c.if-b-eq0.false c.args.at c.requires.region c.requires.outer c.first_frame-frame.result.now c.first_frame-frame.ensures c.over.new.g names c.in_ok-given.given given c.in_ok-never.never are
    (read_no_kids c.tree_for.new.g c.over.new.g names op.Never c.in_ok-never.never c.in_ok-never.ensures.reads)

pub returns-clause-reads : goal.returns-clause-reads
returns-clause-reads c =
    let m = c.args.method.now in
    let names = c.args.made.now.names in
    let d = length (loops_at m c.args.at) in
    let at = next_block m c.requires.method c.args.made.now c.args.b c.requires.next c.as_slice.result.now c.index-as_slice-b.result c.as_slice.ensures c.index-as_slice-b.is in
    let given = given_later m IsFlat c.tree_for.new.g c.over.new.g c.over.ensures.grows names c.args.at (target.Node c.args.b) c.in_ok-given.given c.in_ok-given.ensures.given in
    let are = names_later m IsFlat c.tree_for.new.g c.over.new.g c.over.ensures.grows names (names_later m (IsBeyond d) c.args.g.now c.tree_for.new.g c.tree_for.ensures.grows names c.requires.stage.names) in
    IfOk-weaker c.enter.result _ _ (λ s reads. enters_block m c.requires.method c.args.b c.index-as_slice-b.result at c.if-b-eq0.false c.args.at c.requires.region c.requires.outer c.first_frame-frame.result.now c.first_frame-frame.ensures c.over.new.g names c.in_ok-given.given given c.in_ok-never.never are
    (read_no_kids c.tree_for.new.g c.over.new.g names op.Never c.in_ok-never.never c.in_ok-never.ensures.reads) c.enter.new.g s reads) c.enter.ensures.reads

pub returns-clause-sorts : goal.returns-clause-sorts
returns-clause-sorts c =
    let at = next_block c.args.method.now c.requires.method c.args.made.now c.args.b c.requires.next c.as_slice.result.now c.index-as_slice-b.result c.as_slice.ensures c.index-as_slice-b.is in
    IfOk-weaker c.enter.result _ _ (λ s sorted. begins_block c.args.method.now c.enter.new.g c.args.b c.index-as_slice-b.result c.first_frame-frame.result.now s at c.first_frame-frame.ensures sorted) c.enter.ensures.sorts

pub returns-clause-grows : goal.returns-clause-grows
returns-clause-grows c =
    let d = length (loops_at c.args.method.now c.args.at) in
    grows_by_then (IsBeyond d) c.args.g.now c.tree_for.new.g c.enter.new.g c.tree_for.ensures.grows (flat_beyond d c.tree_for.new.g c.enter.new.g (grows_then c.tree_for.new.g c.over.new.g c.enter.new.g c.over.ensures.grows c.enter.ensures.grows))
