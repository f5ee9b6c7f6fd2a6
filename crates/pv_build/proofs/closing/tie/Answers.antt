use Rattle.std.proofs.Common.{ℕ, Option, Err, sym, ap, ◌∙◌, subst}
use Rattle.pv_build.proofs.Words.{GraphFault, IsFlat, IsOfSort, on_err, grows_unchanged, sorted_within, number, Gives}
use Rattle.pv_build.proofs.Staged.{first_kept, first_then}
use Rattle.pv_build.proofs.closing.tie.Goals as goal

pub returns-in_err-second-clause-keeps : goal.returns-in_err-second-clause-keeps
returns-in_err-second-clause-keeps c = on_err c.from_residual.result _ (λ start. first_kept IsFlat start c.args.g.now c.node_of.new.g c.node_of.ensures.grows)

pub tie-requires-clause-open : goal.tie-requires-clause-open
tie-requires-clause-open c = (c.requires.theta.open_.0, c.node_of.ensures.grows.extends.nodes c.args.x.node _ c.requires.theta.open_.1)

pub tie-requires-clause-kids : goal.tie-requires-clause-kids
tie-requires-clause-kids c =
    let graph = c.node_of.ensures.grows.graph in
    let first : IsOfSort c.node_of.new.g c.args.x.first c.requires.theta.sort_ = c.node_of.ensures.grows.extends.sorts c.args.x.first _ c.requires.theta.first in
    let gives = subst (λ (o : Option ℕ). Gives c.args.g.now c.args.again.now (number c.args.x.slot) o c.requires.theta.sort_) (sym c.dead_for.ensures) c.requires.theta.gives in
    let second : IsOfSort c.node_of.new.g c.in_ok-second.second c.requires.theta.sort_ = c.in_ok-second.ensures.sort c.requires.theta.sort_ gives in
    (sorted_within c.node_of.new.g c.args.x.first _ graph first, (sorted_within c.node_of.new.g c.in_ok-second.second _ graph second, tt))

pub unreachable-requires : goal.unreachable-requires
unreachable-requires c =
    let grows = c.node_of.ensures.grows in
    let node = grows.extends.sorts c.args.x.node _ c.requires.theta.node in
    let first : IsOfSort c.node_of.new.g c.args.x.first c.requires.theta.sort_ = grows.extends.sorts c.args.x.first _ c.requires.theta.first in
    let gives = subst (λ (o : Option ℕ). Gives c.args.g.now c.args.again.now (number c.args.x.slot) o c.requires.theta.sort_) (sym c.dead_for.ensures) c.requires.theta.gives in
    let second : IsOfSort c.node_of.new.g c.in_ok-second.second c.requires.theta.sort_ = c.in_ok-second.ensures.sort c.requires.theta.sort_ gives in
    c.tie.ensures.sort (c.in-Err-Sort.is ∙ ap (λ (x : GraphFault). Err x) c.in-Err-Sort.field-0-is) (first ∙ sym node, second ∙ sym node)

pub returns-in-Err-Memory-clause-keeps : goal.returns-in-Err-Memory-clause-keeps
returns-in-Err-Memory-clause-keeps c start =
    let grows = c.node_of.ensures.grows in
    first_then start c.args.g.now c.node_of.new.g c.tie.new.self (first_kept IsFlat start c.args.g.now c.node_of.new.g grows)
    (first_kept IsFlat start c.node_of.new.g c.tie.new.self (grows_unchanged c.node_of.new.g c.tie.new.self grows.graph c.in-Err-Memory.ensures.err))
