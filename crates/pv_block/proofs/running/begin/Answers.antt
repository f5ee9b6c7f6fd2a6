use Rattle.std.proofs.Common.{refl}
use Rattle.pv_block.proofs.Words.{T, F, grows_same, grows_then, unit_part, entry_of}
use Rattle.pv_graph.specs.declared.node.Op.TheVariants as op
use Rattle.pv_block.proofs.Standing.{grown, stands_on, over_none, makes}
use Rattle.pv_block.proofs.Exits.{sort_on, cells_on}
use Rattle.pv_block.proofs.Whole.{holds_first}
use Rattle.pv_block.proofs.running.begin.Goals as goal

pub over-requires-clause-fits : goal.over-requires-clause-fits
over-requires-clause-fits c = (T, over_none c.args.g.now op.Unit T refl)

pub over-requires-2-clause-fits : goal.over-requires-2-clause-fits
over-requires-2-clause-fits c = (F, over_none c.over.new.g op.Clear F refl)

pub returns-clause-holds : goal.returns-clause-holds
returns-clause-holds c = λ f x.
    let at = entry_of c.args.g.now c.args.state in
    let g = grows_then c.args.g.now c.over.new.g c.over-2.new.g c.in_ok-unit.ensures.grows c.in_ok-clear.ensures.grows in
    holds_first c.args.g.now c.args.state c.over-2.new.g.nodes (grown c.args.g.now c.over-2.new.g g) f c.in_ok-unit.unit c.in_ok-clear.clear x
    (stands_on at c.over.new.g.nodes c.over-2.new.g.nodes c.in_ok-unit.unit unit_part (grown c.over.new.g c.over-2.new.g c.in_ok-clear.ensures.grows) (makes c.args.g.now c.over.new.g op.Unit c.in_ok-unit.unit refl (λ e. absurd (let y = e in cc)) c.in_ok-unit.ensures.reads at (grown c.args.g.now c.args.g.now (grows_same c.args.g.now c.requires.graph))))
    (makes c.over.new.g c.over-2.new.g op.Clear c.in_ok-clear.clear refl (λ e. absurd (let y = e in cc)) c.in_ok-clear.ensures.reads at (grown c.args.g.now c.over.new.g c.in_ok-unit.ensures.grows))

pub returns-clause-sorted : goal.returns-clause-sorted
returns-clause-sorted c =
    let old = c.args.g.now in
    let new = c.over-2.new.g in
    let g = grows_then old c.over.new.g new c.in_ok-unit.ensures.grows c.in_ok-clear.ensures.grows in
    record {
      graph = g.graph;
      stack = cells_on old new c.args.state.stack g c.requires.sorted.stack;
      locals = cells_on old new c.args.state.locals g c.requires.sorted.locals;
      heap = g.extends.sorts _ _ c.requires.sorted.heap;
      token = g.extends.sorts _ _ c.requires.sorted.token;
      unit = sort_on c.over.new.g new c.in_ok-unit.unit T c.in_ok-clear.ensures.grows (c.in_ok-unit.ensures.sort T (over_none old op.Unit T refl));
      clear = c.in_ok-clear.ensures.sort F (over_none c.over.new.g op.Clear F refl);
      start = g.extends.sorts _ _ c.requires.sorted.token;
    }

pub returns-clause-grows : goal.returns-clause-grows
returns-clause-grows c = grows_then c.args.g.now c.over.new.g c.over-2.new.g c.in_ok-unit.ensures.grows c.in_ok-clear.ensures.grows

pub returns-in_err-clear-clause-grows : goal.returns-in_err-clear-clause-grows
returns-in_err-clear-clause-grows c = grows_then c.args.g.now c.over.new.g c.over-2.new.g c.in_ok-unit.ensures.grows c.over-2.ensures.grows
