use Rattle.std.proofs.Common.{◌≡◌, ℕ, ◌+◌, drop, List, sym, ap, subst, ◌∙◌}
use Rattle.pv_block.proofs.Words.{drop_all, FitsOver, HasItsSort, StandsOver, grows_then, Line, nodes_for}
use Rattle.pv_block.proofs.Lines.{SoFar, so_far_none, so_far_all, line_fits, so_far_next, next_left}
use Rattle.pv_block.proofs.line.emit.Goals as goal

pub loop-line-init : goal.loop-line-init
loop-line-init c = subst (SoFar c.args.g.now c.args.given.now c.args.lines.now c.args.lines.now c.args.g.now) (sym c.new-nodes.ensures.items) (so_far_none c.args.g.now c.args.given.now c.args.lines.now c.requires.graph)

pub operation-requires-clause-flat : goal.operation-requires-clause-flat
operation-requires-clause-flat c =
    let l = c.line-item.result in
    let left = subst (λ (ls : List Line). SoFar c.args.g.now c.args.given.now c.args.lines.now ls c.loop-line.g c.loop-line.nodes.items) (next_left c.args.lines.now c.loop-line.line-index l c.loop-line-test.true c.line-item.is) c.loop-line.invariant in
    let fits = line_fits c.args.g.now c.args.given.now c.args.lines.now c.loop-line.g c.loop-line.nodes.items l (drop (c.loop-line.line-index + 1) c.args.lines.now) left c.requires.fit in
    fits.0

pub operation-requires-clause-fits : goal.operation-requires-clause-fits
operation-requires-clause-fits c =
    let l = c.line-item.result in
    let left = subst (λ (ls : List Line). SoFar c.args.g.now c.args.given.now c.args.lines.now ls c.loop-line.g c.loop-line.nodes.items) (next_left c.args.lines.now c.loop-line.line-index l c.loop-line-test.true c.line-item.is) c.loop-line.invariant in
    let fits = line_fits c.args.g.now c.args.given.now c.args.lines.now c.loop-line.g c.loop-line.nodes.items l (drop (c.loop-line.line-index + 1) c.args.lines.now) left c.requires.fit in
    let kids : c.deref-in-loop-line.result.now ≡ nodes_for c.args.given.now c.loop-line.nodes.items l.kids = c.deref-in-loop-line.ensures.value ∙ c.in_ok-kids.ensures ∙ ap (λ (made : List ℕ). nodes_for c.args.given.now made l.kids) c.deref.ensures.value in
    subst (FitsOver c.loop-line.g l.op) (sym kids) fits.1

pub returns-in_err-node-clause-grows : goal.returns-in_err-node-clause-grows
returns-in_err-node-clause-grows c = grows_then c.args.g.now c.loop-line.g c.operation.new.g c.loop-line.invariant.grows c.operation.ensures.grows

pub returns-in_err-push-clause-grows : goal.returns-in_err-push-clause-grows
returns-in_err-push-clause-grows c = grows_then c.args.g.now c.loop-line.g c.operation.new.g c.loop-line.invariant.grows c.in_ok-node.ensures.grows

pub loop-line-preserved : goal.loop-line-preserved
loop-line-preserved c =
    let now = c.loop-line.g in
    let new = c.operation.new.g in
    let made = c.loop-line.nodes.items in
    let n = c.in_ok-node.node in
    let l = c.line-item.result in
    let rest = drop (c.loop-line.line-index + 1) c.args.lines.now in
    let left = subst (λ (ls : List Line). SoFar c.args.g.now c.args.given.now c.args.lines.now ls now made) (next_left c.args.lines.now c.loop-line.line-index l c.loop-line-test.true c.line-item.is) c.loop-line.invariant in
    let kids : c.deref-in-loop-line.result.now ≡ nodes_for c.args.given.now made l.kids = c.deref-in-loop-line.ensures.value ∙ c.in_ok-kids.ensures ∙ ap (λ (made : List ℕ). nodes_for c.args.given.now made l.kids) c.deref.ensures.value in
    let over = subst (λ (ks : List ℕ). StandsOver now.nodes l.op ks new.nodes n) kids c.in_ok-node.ensures.stands in
    let its = subst (λ (ks : List ℕ). HasItsSort now l.op ks new n) kids c.in_ok-node.ensures.sort in
    subst (SoFar c.args.g.now c.args.given.now c.args.lines.now rest new) (sym c.in_ok-push.ensures.items) (so_far_next c.args.g.now c.args.given.now c.args.lines.now now made l rest left new n c.in_ok-node.ensures.grows over its)

pub returns-clause-made : goal.returns-clause-made
returns-clause-made c =
    let past = c.loop-line-test.false in
    so_far_all c.args.g.now c.args.given.now c.args.lines.now c.loop-line.g c.loop-line.nodes.items
    (subst (λ (ls : List Line). SoFar c.args.g.now c.args.given.now c.args.lines.now ls c.loop-line.g c.loop-line.nodes.items) (drop_all c.loop-line.line-index c.args.lines.now past) c.loop-line.invariant)
