use Rattle.std.proofs.Common.{◌≡◌, ℕ, ◌-◌, List, get_or, length, sym, ap, ◌∙◌, subst}
use Rattle.pv_build.proofs.Words.{TreeNode, Source, HaveOneSort, ReadsFold, FoldKeepsSort, number, given_nodes, MaybeReads, MaybeSorted}
use Rattle.pv_fold.specs.Fold.{IsOrdered}
use Rattle.pv_build.proofs.Folding.{given_length, have_one, root_reads, root_sorted}
use Rattle.pv_build.proofs.entering.fold_slot.Goals as goal

pub fold-requires-clause-ordered : goal.fold-requires-clause-ordered
fold-requires-clause-ordered c = subst IsOrdered (sym c.deref-2.ensures.value) c.requires.tree.ordered

pub fold-requires-clause-given : goal.fold-requires-clause-given
fold-requires-clause-given c =
    given_length c.args.given.now (number c.args.slot) c.args.dead c.deref-3.result.now (c.deref-3.ensures.value ∙ c.in_ok-nodes.ensures ∙ ap (λ (xs : List Source). given_nodes xs (number c.args.slot)) c.deref.ensures.value) c.requires.gives.1.size
    ∙ sym (ap (λ (xs : List TreeNode). length xs) c.deref-2.ensures.value)

pub fold-requires-clause-sorts : goal.fold-requires-clause-sorts
fold-requires-clause-sorts c =
    subst (λ (xs : List TreeNode). HaveOneSort c.args.g.now xs c.deref-3.result.now c.args.dead) (sym c.deref-2.ensures.value)
    (have_one c.args.given.now (number c.args.slot) c.args.dead c.deref-3.result.now (c.deref-3.ensures.value ∙ c.in_ok-nodes.ensures ∙ ap (λ (xs : List Source). given_nodes xs (number c.args.slot)) c.deref.ensures.value) c.args.g.now c.requires.gives)

pub returns-clause-reads : goal.returns-clause-reads
returns-clause-reads c =
    let same : c.deref-2.result.now ≡ c.args.given.now.nodes.items = c.deref-2.ensures.value in
    subst (MaybeReads c.args.g.now c.args.given.now (number c.args.slot) c.args.dead c.fold.new.g) (sym c.index.ensures)
    (subst (λ (n : ℕ). MaybeReads c.args.g.now c.args.given.now (number c.args.slot) c.args.dead c.fold.new.g (get_or c.in_ok-made.made.items (n - 1) c.index.result.now)) (sym (c.len.ensures ∙ c.args.given.now.nodes.ok.0))
    (root_reads c.args.given.now (number c.args.slot) c.args.dead c.deref-3.result.now (c.deref-3.ensures.value ∙ c.in_ok-nodes.ensures ∙ ap (λ (xs : List Source). given_nodes xs (number c.args.slot)) c.deref.ensures.value) c.args.g.now c.fold.new.g c.in_ok-made.made.items
    (c.in_ok-made.ensures.count ∙ ap (λ (xs : List TreeNode). length xs) same) c.requires.tree
    (subst (λ (xs : List TreeNode). ReadsFold c.args.g.now xs c.deref-3.result.now c.args.dead c.fold.new.g c.in_ok-made.made.items) same c.in_ok-made.ensures.reads) c.index.result.now))

pub returns-clause-sort : goal.returns-clause-sort
returns-clause-sort c =
    let same : c.deref-2.result.now ≡ c.args.given.now.nodes.items = c.deref-2.ensures.value in
    subst (MaybeSorted c.args.g.now c.args.given.now (number c.args.slot) c.args.dead c.fold.new.g) (sym c.index.ensures)
    (subst (λ (n : ℕ). MaybeSorted c.args.g.now c.args.given.now (number c.args.slot) c.args.dead c.fold.new.g (get_or c.in_ok-made.made.items (n - 1) c.index.result.now)) (sym (c.len.ensures ∙ c.args.given.now.nodes.ok.0))
    (root_sorted c.args.given.now (number c.args.slot) c.args.dead c.deref-3.result.now (c.deref-3.ensures.value ∙ c.in_ok-nodes.ensures ∙ ap (λ (xs : List Source). given_nodes xs (number c.args.slot)) c.deref.ensures.value) c.args.g.now c.fold.new.g c.in_ok-made.made.items
    (c.in_ok-made.ensures.count ∙ ap (λ (xs : List TreeNode). length xs) same) c.requires.tree
    (subst (λ (xs : List TreeNode). FoldKeepsSort c.args.g.now xs c.deref-3.result.now c.args.dead c.fold.new.g c.in_ok-made.made.items) same c.in_ok-made.ensures.sort) c.index.result.now))
