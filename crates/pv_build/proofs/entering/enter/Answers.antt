use Rattle.std.proofs.Common.{◌≡◌, ℕ, List, length, Some, None, sym, subst}
use Rattle.pv_build.proofs.Words.{Sort, T, H, Grows, grows_then, Cell, IsCellOf, CellsGive, CellsFold, CellsFoldToSome, CellsRead, AreCellsOf}
use Rattle.pv_build.specs.declared.slot.Part.TheVariants as part
use Rattle.pv_build.proofs.Kept.{sort_kept, reads_kept, cells_kept, gives_kept, folds_kept, cells_give_kept, cells_fold_kept}
use Rattle.pv_layout.proofs.Cited.{zip_long}
use Rattle.pv_build.proofs.Stating.{state_reads, cells_read_kept}
use Rattle.pv_build.proofs.entering.enter.Goals as goal

pub node_of-requires-clause-gives : goal.node_of-requires-clause-gives
node_of-requires-clause-gives c = (T, c.requires.gives.token)

pub node_of-requires-clause-some : goal.node_of-requires-clause-some
node_of-requires-clause-some c = (c.requires.some.0, c.requires.some.1 0, c.requires.some.2.token)

pub node_of-requires-2-clause-gives : goal.node_of-requires-2-clause-gives
node_of-requires-2-clause-gives c = (H, gives_kept c.args.g.now c.node_of.new.g c.node_of.ensures.grows c.args.given.now 3 None H c.requires.gives.heap)

pub node_of-requires-2-clause-some : goal.node_of-requires-2-clause-some
node_of-requires-2-clause-some c =
    (c.requires.some.0, c.requires.some.1 3, folds_kept c.args.g.now c.node_of.new.g c.node_of.ensures.grows c.requires.some.0 c.args.given.now 3 None (Some (c.requires.some.1 3)) c.requires.some.2.heap)

pub returns-in_err-heap-clause-grows : goal.returns-in_err-heap-clause-grows
returns-in_err-heap-clause-grows c = grows_then c.args.g.now c.node_of.new.g c.node_of-2.new.g c.node_of.ensures.grows c.node_of-2.ensures.grows

pub cells-requires-clause-gives : goal.cells-requires-clause-gives
cells-requires-clause-gives c =
    let grown : Grows c.args.g.now c.node_of-2.new.g = grows_then c.args.g.now c.node_of.new.g c.node_of-2.new.g c.node_of.ensures.grows c.node_of-2.ensures.grows in
    subst (CellsGive c.node_of-2.new.g c.args.given.now part.Locals) (sym c.as_slice.ensures)
    (cells_give_kept c.args.g.now c.node_of-2.new.g grown c.args.given.now part.Locals c.args.frame.now.locals c.requires.gives.locals)

pub cells-requires-clause-some : goal.cells-requires-clause-some
cells-requires-clause-some c =
    let grown : Grows c.args.g.now c.node_of-2.new.g = grows_then c.args.g.now c.node_of.new.g c.node_of-2.new.g c.node_of.ensures.grows c.node_of-2.ensures.grows in
    subst (CellsFoldToSome c.node_of-2.new.g.nodes c.args.given.now part.Locals) (sym c.as_slice.ensures)
    (c.requires.some.0, c.requires.some.1, cells_fold_kept c.args.g.now c.node_of-2.new.g grown c.requires.some.0 c.args.given.now part.Locals c.args.frame.now.locals c.requires.some.1 c.requires.some.2.locals)

pub returns-in_err-locals-clause-grows : goal.returns-in_err-locals-clause-grows
returns-in_err-locals-clause-grows c =
    grows_then c.args.g.now c.node_of-2.new.g c.cells.new.g (grows_then c.args.g.now c.node_of.new.g c.node_of-2.new.g c.node_of.ensures.grows c.node_of-2.ensures.grows) c.cells.ensures.grows

pub cells-requires-2-clause-gives : goal.cells-requires-2-clause-gives
cells-requires-2-clause-gives c =
    let grown : Grows c.args.g.now c.cells.new.g = grows_then c.args.g.now c.node_of-2.new.g c.cells.new.g (grows_then c.args.g.now c.node_of.new.g c.node_of-2.new.g c.node_of.ensures.grows c.node_of-2.ensures.grows) c.cells.ensures.grows in
    subst (CellsGive c.cells.new.g c.args.given.now part.Stack) (sym c.as_slice-2.ensures)
    (cells_give_kept c.args.g.now c.cells.new.g grown c.args.given.now part.Stack c.args.frame.now.stack c.requires.gives.stack)

pub cells-requires-2-clause-some : goal.cells-requires-2-clause-some
cells-requires-2-clause-some c =
    let grown : Grows c.args.g.now c.cells.new.g = grows_then c.args.g.now c.node_of-2.new.g c.cells.new.g (grows_then c.args.g.now c.node_of.new.g c.node_of-2.new.g c.node_of.ensures.grows c.node_of-2.ensures.grows) c.cells.ensures.grows in
    subst (CellsFoldToSome c.cells.new.g.nodes c.args.given.now part.Stack) (sym c.as_slice-2.ensures)
    (c.requires.some.0, c.requires.some.1, cells_fold_kept c.args.g.now c.cells.new.g grown c.requires.some.0 c.args.given.now part.Stack c.args.frame.now.stack c.requires.some.1 c.requires.some.2.stack)

pub returns-in_err-stack-clause-grows : goal.returns-in_err-stack-clause-grows
returns-in_err-stack-clause-grows c =
    grows_then c.args.g.now c.cells.new.g c.cells-2.new.g
    (grows_then c.args.g.now c.node_of-2.new.g c.cells.new.g (grows_then c.args.g.now c.node_of.new.g c.node_of-2.new.g c.node_of.ensures.grows c.node_of-2.ensures.grows) c.cells.ensures.grows) c.cells-2.ensures.grows

pub returns-clause-reads : goal.returns-clause-reads
returns-clause-reads c names base f =
    let one : Grows c.args.g.now c.node_of.new.g = c.node_of.ensures.grows in
    let two : Grows c.args.g.now c.node_of-2.new.g = grows_then c.args.g.now c.node_of.new.g c.node_of-2.new.g one c.node_of-2.ensures.grows in
    let three : Grows c.args.g.now c.cells.new.g = grows_then c.args.g.now c.node_of-2.new.g c.cells.new.g two c.cells.ensures.grows in
    let from_two : Grows c.node_of-2.new.g c.cells-2.new.g = grows_then c.node_of-2.new.g c.cells.new.g c.cells-2.new.g c.cells.ensures.grows c.cells-2.ensures.grows in
    let from_one : Grows c.node_of.new.g c.cells-2.new.g = grows_then c.node_of.new.g c.node_of-2.new.g c.cells-2.new.g c.node_of-2.ensures.grows from_two in
    let locals : CellsRead c.cells.new.g.nodes names c.in_ok-locals.locals.items part.Locals (length c.as_slice.result.now) base =
    c.in_ok-locals.ensures.reads names base (subst (λ (sorts : List Sort). CellsFold c.node_of-2.new.g.nodes names c.args.given.now part.Locals sorts base) (sym c.as_slice.ensures)
    (cells_fold_kept c.args.g.now c.node_of-2.new.g two names c.args.given.now part.Locals c.args.frame.now.locals base f.locals)) in
    let stack : CellsRead c.cells-2.new.g.nodes names c.in_ok-stack.stack.items part.Stack (length c.as_slice-2.result.now) base =
    c.in_ok-stack.ensures.reads names base (subst (λ (sorts : List Sort). CellsFold c.cells.new.g.nodes names c.args.given.now part.Stack sorts base) (sym c.as_slice-2.ensures)
    (cells_fold_kept c.args.g.now c.cells.new.g three names c.args.given.now part.Stack c.args.frame.now.stack base f.stack)) in
    let long : length c.as_slice-2.result.now ≡ length c.in_ok-stack.stack.items = sym (zip_long (IsCellOf c.cells-2.new.g) c.in_ok-stack.stack.items c.as_slice-2.result.now c.in_ok-stack.ensures.sorts) in
    state_reads c.cells-2.new.g.nodes names (record { stack = c.into.result; locals = c.into-2.result; heap = c.in_ok-heap.heap; token = c.in_ok-token.token }) base
    (reads_kept c.node_of.new.g c.cells-2.new.g from_one names c.in_ok-token.token (base 0) (c.in_ok-token.ensures.reads names (base 0) f.token))
    (reads_kept c.node_of-2.new.g c.cells-2.new.g from_two names c.in_ok-heap.heap (base 3)
    (c.in_ok-heap.ensures.reads names (base 3) (folds_kept c.args.g.now c.node_of.new.g one names c.args.given.now 3 None (Some (base 3)) f.heap)))
    (subst (λ (cells : List Cell). CellsRead c.cells-2.new.g.nodes names cells part.Locals (length cells) base) (sym c.into-2.ensures)
    (cells_read_kept c.cells.new.g c.cells-2.new.g c.cells-2.ensures.grows names c.in_ok-locals.locals.items part.Locals (length c.as_slice.result.now) base locals))
    (subst (λ (cells : List Cell). CellsRead c.cells-2.new.g.nodes names cells part.Stack (length cells) base) (sym c.into.ensures)
    (subst (λ (n : ℕ). CellsRead c.cells-2.new.g.nodes names c.in_ok-stack.stack.items part.Stack n base) long stack))

pub returns-clause-sorts : goal.returns-clause-sorts
returns-clause-sorts c =
    let from_two : Grows c.node_of-2.new.g c.cells-2.new.g = grows_then c.node_of-2.new.g c.cells.new.g c.cells-2.new.g c.cells.ensures.grows c.cells-2.ensures.grows in
    let from_one : Grows c.node_of.new.g c.cells-2.new.g = grows_then c.node_of.new.g c.node_of-2.new.g c.cells-2.new.g c.node_of-2.ensures.grows from_two in
    let one : Grows c.args.g.now c.node_of.new.g = c.node_of.ensures.grows in
    record {
      stack = subst (λ (cells : List Cell). AreCellsOf c.cells-2.new.g cells c.args.frame.now.stack) (sym c.into.ensures) (subst (AreCellsOf c.cells-2.new.g c.in_ok-stack.stack.items) c.as_slice-2.ensures c.in_ok-stack.ensures.sorts);
      locals = subst (λ (cells : List Cell). AreCellsOf c.cells-2.new.g cells c.args.frame.now.locals) (sym c.into-2.ensures)
          (subst (AreCellsOf c.cells-2.new.g c.in_ok-locals.locals.items) c.as_slice.ensures (cells_kept c.cells.new.g c.cells-2.new.g c.cells-2.ensures.grows c.in_ok-locals.locals.items c.as_slice.result.now c.in_ok-locals.ensures.sorts));
      heap = sort_kept c.node_of-2.new.g c.cells-2.new.g from_two c.in_ok-heap.heap H
          (c.in_ok-heap.ensures.sort H (gives_kept c.args.g.now c.node_of.new.g one c.args.given.now 3 None H c.requires.gives.heap));
      token = sort_kept c.node_of.new.g c.cells-2.new.g from_one c.in_ok-token.token T (c.in_ok-token.ensures.sort T c.requires.gives.token);
    }

pub returns-clause-grows : goal.returns-clause-grows
returns-clause-grows c =
    grows_then c.args.g.now c.cells.new.g c.cells-2.new.g
    (grows_then c.args.g.now c.node_of-2.new.g c.cells.new.g (grows_then c.args.g.now c.node_of.new.g c.node_of-2.new.g c.node_of.ensures.grows c.node_of-2.ensures.grows) c.cells.ensures.grows) c.cells-2.ensures.grows
