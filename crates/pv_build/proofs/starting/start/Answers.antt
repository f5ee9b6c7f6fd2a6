use Rattle.std.proofs.Common.{List, [], refl, sym, ◌∙◌, subst}
use Rattle.pv_build.proofs.Words.{Sort, Op, T, H, Over, NoExp, Grows, grows_then, passed_ops, Cell, AreCellsOf, AreOpsOf, StartCellsRead}
use Rattle.pv_graph.specs.declared.node.Op.TheVariants as op
use Rattle.pv_build.proofs.Kept.{has_no_kids, read_no_kids, sort_kept, reads_kept}
use Rattle.pv_build.proofs.Beginning.{start_reads}
use Rattle.pv_build.proofs.starting.start.Goals as goal

pub over-requires-clause-fits : goal.over-requires-clause-fits
over-requires-clause-fits c = (T, has_no_kids c.args.g.now op.Unit T refl)

pub over-requires-2-clause-fits : goal.over-requires-2-clause-fits
over-requires-2-clause-fits c = (H, has_no_kids c.over.new.g op.Heap0 H refl)

pub returns-in_err-heap-clause-grows : goal.returns-in_err-heap-clause-grows
returns-in_err-heap-clause-grows c = grows_then c.args.g.now c.over.new.g c.over-2.new.g c.over.ensures.grows c.over-2.ensures.grows

pub first_cells-requires-clause-ops : goal.first_cells-requires-clause-ops
first_cells-requires-clause-ops c =
    subst (AreOpsOf c.deref.result.now) (sym c.as_slice.ensures) (subst (λ (ops : List Op). AreOpsOf ops c.args.frame.now.locals) (sym (c.deref.ensures.value ∙ c.in_ok-ops.ensures)) c.requires.ops)

pub returns-in_err-locals-clause-grows : goal.returns-in_err-locals-clause-grows
returns-in_err-locals-clause-grows c = grows_then c.args.g.now c.over-2.new.g c.first_cells.new.g (grows_then c.args.g.now c.over.new.g c.over-2.new.g c.over.ensures.grows c.over-2.ensures.grows) c.first_cells.ensures.grows

pub returns-clause-reads : goal.returns-clause-reads
returns-clause-reads c =
    let from_one : Grows c.over.new.g c.first_cells.new.g = grows_then c.over.new.g c.over-2.new.g c.first_cells.new.g c.over-2.ensures.grows c.first_cells.ensures.grows in
    let ops : List Op = passed_ops c.args.program.now.instance c.args.program.now.desc.params in
    let locals : StartCellsRead c.first_cells.new.g.nodes c.in_ok-locals.locals.items ops = subst (StartCellsRead c.first_cells.new.g.nodes c.in_ok-locals.locals.items) (c.deref.ensures.value ∙ c.in_ok-ops.ensures) c.in_ok-locals.ensures.reads in
    start_reads c.first_cells.new.g.nodes (record { stack = c.into.result; locals = c.into-2.result; heap = c.in_ok-heap.heap; token = c.in_ok-token.token }) c.args.program.now (c.into.ensures ∙ c.new.ensures.items)
    (λ names. reads_kept c.over.new.g c.first_cells.new.g from_one names c.in_ok-token.token (Over op.Unit NoExp) (read_no_kids c.args.g.now c.over.new.g names op.Unit c.in_ok-token.token c.in_ok-token.ensures.reads))
    (λ names. reads_kept c.over-2.new.g c.first_cells.new.g c.first_cells.ensures.grows names c.in_ok-heap.heap (Over op.Heap0 NoExp) (read_no_kids c.over.new.g c.over-2.new.g names op.Heap0 c.in_ok-heap.heap c.in_ok-heap.ensures.reads))
    (subst (λ (cells : List Cell). StartCellsRead c.first_cells.new.g.nodes cells ops) (sym c.into-2.ensures) locals)

pub returns-clause-sorts : goal.returns-clause-sorts
returns-clause-sorts c =
    let from_one : Grows c.over.new.g c.first_cells.new.g = grows_then c.over.new.g c.over-2.new.g c.first_cells.new.g c.over-2.ensures.grows c.first_cells.ensures.grows in
    let g = c.first_cells.new.g in
    let nil : List Sort = [] in
    let none : List Cell = [] in
    let empty : AreCellsOf g none nil = tt in
    record {
      stack = subst (λ (cells : List Cell). AreCellsOf g cells c.args.frame.now.stack) (sym (c.into.ensures ∙ c.new.ensures.items)) (subst (AreCellsOf g none) (sym c.requires.stack) empty);
      locals = subst (λ (cells : List Cell). AreCellsOf g cells c.args.frame.now.locals) (sym c.into-2.ensures) (subst (AreCellsOf g c.in_ok-locals.locals.items) c.as_slice.ensures c.in_ok-locals.ensures.sorts);
      heap = sort_kept c.over-2.new.g g c.first_cells.ensures.grows c.in_ok-heap.heap H (c.in_ok-heap.ensures.sort H (has_no_kids c.over.new.g op.Heap0 H refl));
      token = sort_kept c.over.new.g g from_one c.in_ok-token.token T (c.in_ok-token.ensures.sort T (has_no_kids c.args.g.now op.Unit T refl));
    }

pub returns-clause-grows : goal.returns-clause-grows
returns-clause-grows c = grows_then c.args.g.now c.over-2.new.g c.first_cells.new.g (grows_then c.args.g.now c.over.new.g c.over-2.new.g c.over.ensures.grows c.over-2.ensures.grows) c.first_cells.ensures.grows
