use Rattle.std.proofs.Common.{◌≡◌, ℕ, ◌<◌, List, length, get_or, Some, slice_get, subst, arith}
use Rattle.pv_build.proofs.Words.{slice_get-get_or, on_err, Theta, AreTied}
use Rattle.pv_build.specs.declared.slot.Slot.TheVariants as slot
use Rattle.pv_build.proofs.Staged.{first_then}
use Rattle.pv_build.proofs.Ties.{none_tied, may_tie, folds_one, one_more, tied_first}
use Rattle.pv_build.proofs.closing.tie_all.Goals as goal

there : (thetas : List Theta) (i : ℕ) → i < length thetas → slice_get thetas i ≡ Some (get_or thetas i (record { slot = slot.Token; node = 0; first = 0 }))
there thetas i low = slice_get-get_or thetas i (record { slot = slot.Token; node = 0; first = 0 }) low

pub loop-x-init : goal.loop-x-init
loop-x-init c = record { tied = λ k may. none_tied k c.args.g.now c.args.again.now c.args.never c.args.thetas.now may }

pub tie-requires-clause-graph : goal.tie-requires-clause-graph
tie-requires-clause-graph c = (c.loop-x.invariant.tied c.requires.loop_.0 c.requires.loop_.1).well.graph

pub tie-requires-clause-tree : goal.tie-requires-clause-tree
tie-requires-clause-tree c = c.requires.loop_.1.gives.tree

pub tie-requires-clause-theta : goal.tie-requires-clause-theta
tie-requires-clause-theta c =
    let k = c.requires.loop_.0 in
    let may = c.requires.loop_.1 in
    may_tie k c.args.g.now c.args.again.now c.args.never c.args.thetas.now may c.loop-x.x-index c.loop-x.g (c.loop-x.invariant.tied k may) (get_or c.args.thetas.now c.loop-x.x-index (record { slot = slot.Token; node = 0; first = 0 }))
    (there c.args.thetas.now c.loop-x.x-index c.loop-x-test.true)

pub tie-requires-clause-some : goal.tie-requires-clause-some
tie-requires-clause-some c =
    let k = c.requires.loop_.0 in
    let may = c.requires.loop_.1 in
    folds_one k c.args.g.now c.args.again.now c.args.never c.args.thetas.now may c.loop-x.x-index c.loop-x.g (c.loop-x.invariant.tied k may) (get_or c.args.thetas.now c.loop-x.x-index (record { slot = slot.Token; node = 0; first = 0 }))
    (there c.args.thetas.now c.loop-x.x-index c.loop-x-test.true)

pub returns-in_err-tie-clause-keeps : goal.returns-in_err-tie-clause-keeps
returns-in_err-tie-clause-keeps c =
    on_err c.from_residual.result _ (λ k may. first_then k.base c.args.g.now c.loop-x.g c.tie.new.g
    (tied_first k c.args.g.now c.args.again.now c.args.never c.args.thetas.now may c.loop-x.x-index c.loop-x.g (c.loop-x.invariant.tied k may)) (c.in_err-tie.ensures.keeps k.base))

pub loop-x-preserved : goal.loop-x-preserved
loop-x-preserved c = record {
  tied = λ k may. one_more k c.args.g.now c.args.again.now c.args.never c.args.thetas.now may c.loop-x.x-index c.loop-x.g (c.loop-x.invariant.tied k may)
      (get_or c.args.thetas.now c.loop-x.x-index (record { slot = slot.Token; node = 0; first = 0 })) (there c.args.thetas.now c.loop-x.x-index c.loop-x-test.true) c.tie.new.g c.in_ok-tie.ensures.tied;
}

pub returns-clause-tied : goal.returns-clause-tied
returns-clause-tied c k may =
    let all : c.loop-x.x-index ≡ length c.args.thetas.now = omega (arith, c.loop-x-test.false, c.loop-x.auto.x-index-end) in
    subst (λ (n : ℕ). AreTied k c.args.g.now c.args.thetas.now n c.loop-x.g) all (c.loop-x.invariant.tied k may)
