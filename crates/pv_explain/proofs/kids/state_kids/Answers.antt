use Rattle.std.specs.List.{AllZip}
use Rattle.std.proofs.Common.{ℕ, List, length, refl, sym, subst}
use Rattle.pv_writer.proofs.Pushing.{goes_trans}
use Rattle.pv_explain.specs.Lines.{GiveAllCopies, HaveCopies, LinkedBy}
use Rattle.pv_explain.proofs.Copying.{kids_copied}
use Rattle.pv_explain.proofs.Congruent.{congruent_copies, kids_are}
use Rattle.pv_explain.proofs.kids.state_kids.Goals as goal

pub kid_reasons-requires-clause-linked : goal.kid_reasons-requires-clause-linked
kid_reasons-requires-clause-linked c =
    let k = c.requires.kids in
    let nodes = c.args.source.now.graph.now.nodes in
    subst (λ (ls : List ℕ). AllZip (LinkedBy (length nodes) c.args.level.now) ls c.as_slice-rights.result.now) (sym (kids_are nodes c.args.first c.node.result.now k.o k.lefts c.as_slice-lefts.result.now c.node.ensures k.left_is c.as_slice-lefts.ensures))
    (subst (λ (ls : List ℕ). AllZip (LinkedBy (length nodes) c.args.level.now) k.lefts ls) (sym (kids_are nodes c.args.second c.node-2.result.now k.o k.rights c.as_slice-rights.result.now c.node-2.ensures k.right_is c.as_slice-rights.ensures)) k.linked)

pub congruence-requires : goal.congruence-requires
congruence-requires c =
    let k = c.requires.kids in
    let nodes = c.args.source.now.graph.now.nodes in
    congruent_copies c.args.writer.now c.kid_reasons.new.writer c.args.source.now c.args.level.now c.args.first c.args.second c.copy_of-left.result c.copy_of-right.result c.in_ok-reasons.reasons.items c.requires.source c.in_ok-reasons.ensures.goes k c.copy_of-left.ensures
    c.copy_of-right.ensures
    (subst (λ (ls : List ℕ). GiveAllCopies c.kid_reasons.new.writer c.args.source.now.map.now c.in_ok-reasons.reasons.items ls k.rights)
    (kids_are nodes c.args.first c.node.result.now k.o k.lefts c.as_slice-lefts.result.now c.node.ensures k.left_is c.as_slice-lefts.ensures)
    (subst (λ (ls : List ℕ). GiveAllCopies c.kid_reasons.new.writer c.args.source.now.map.now c.in_ok-reasons.reasons.items c.as_slice-lefts.result.now ls)
    (kids_are nodes c.args.second c.node-2.result.now k.o k.rights c.as_slice-rights.result.now c.node-2.ensures k.right_is c.as_slice-rights.ensures) c.in_ok-reasons.ensures.reasons))

pub returns-clause-line : goal.returns-clause-line
returns-clause-line c = record { first = refl; second = refl; stated = record { left = c.copy_of-left.ensures; right = c.copy_of-right.ensures; known = c.in_ok-fact.ensures.shows } }

pub returns-clause-goes : goal.returns-clause-goes
returns-clause-goes c = goes_trans c.args.writer.now c.kid_reasons.new.writer c.congruence.new.self c.in_ok-reasons.ensures.goes c.in_ok-fact.ensures.goes

pub kid_reasons-requires-clause-copies : goal.kid_reasons-requires-clause-copies
kid_reasons-requires-clause-copies c =
    let s = c.args.source.now in
    subst (HaveCopies s.map.now) (sym c.as_slice-lefts.ensures) (kids_copied s.graph.now c.args.writer.now.graph s.map.now c.requires.source.copies c.args.first c.node.result.now c.node.ensures c.requires.kids.first)
