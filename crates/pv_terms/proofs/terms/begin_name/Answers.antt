use Rattle.std.proofs.Common.{List, subst, sym}
use Rattle.pv_terms.proofs.Words.{In, Named, named, StayNames}
use Rattle.pv_terms.proofs.Growing.{opens_begun, keeps_begun, on_err}
use Rattle.pv_terms.proofs.Naming.{begun_theta, begun_sort, stay_names, name_last}
use Rattle.pv_terms.proofs.terms.begin_name.Goals as goal

pub returns-in_err-push-clause-keeps : goal.returns-in_err-push-clause-keeps
returns-in_err-push-clause-keeps c = on_err c.from_residual-in_err-push.result _ (keeps_begun c.args.g.now c.theta.new.self c.args.depth c.args.sort c.in_ok-node.node c.requires.graph c.in_ok-node.ensures.ok)

pub returns-clause-reads : goal.returns-clause-reads
returns-clause-reads c =
    let one : Named = named c.args.header c.args.slot c.in_ok-node.node in
    subst (λ (names : List Named). In names one) (sym c.in_ok-push.ensures.ok) (name_last c.args.names.now one)

pub returns-clause-theta : goal.returns-clause-theta
returns-clause-theta c = begun_theta c.args.g.now c.theta.new.self c.args.depth c.args.sort c.in_ok-node.node c.in_ok-node.ensures.ok

pub returns-clause-sort : goal.returns-clause-sort
returns-clause-sort c = begun_sort c.args.g.now c.theta.new.self c.args.depth c.args.sort c.in_ok-node.node c.requires.graph c.in_ok-node.ensures.ok

pub returns-clause-names : goal.returns-clause-names
returns-clause-names c =
    subst (StayNames c.args.g.now c.args.names.now c.args.header c.args.depth c.theta.new.self) (sym c.in_ok-push.ensures.ok)
    (stay_names c.args.g.now c.theta.new.self c.args.names.now c.args.header c.args.slot c.args.depth c.args.sort c.in_ok-node.node c.requires.graph c.in_ok-node.ensures.ok c.requires.fresh)

pub returns-clause-opens : goal.returns-clause-opens
returns-clause-opens c = opens_begun c.args.g.now c.theta.new.self c.args.depth c.args.sort c.in_ok-node.node c.requires.graph c.in_ok-node.ensures.ok
