use Rattle.std.proofs.Common.{◌≡◌, ℕ, ◌+◌, List, [], ◌∷◌, length, length-append, get_or, Some, slice_get, sym, ap, ◌∙◌, subst, arith}
use Rattle.pv_build.proofs.Words.{slice_get-get_or, IsFlatOrOut, grows_by_then, Cell, IsSortedCell, IsCellOut}
use Rattle.pv_frame.specs.declared.sort.Sort.TheVariants as sort
use Rattle.pv_build.proofs.Outgoing.{zip_pairs, all_get, sorted_grown, cells_push}
use Rattle.pv_build.proofs.taking.cells_out.Goals as goal

abbrev zero_cell : Cell
zero_cell = record { sort = sort.Int; node = 0 }

pub cell_out-requires-clause-sorted : goal.cell_out-requires-clause-sorted
cell_out-requires-clause-sorted c =
    all_get (IsSortedCell c.loop-cell.g) c.args.cells.now c.loop-cell.cell-index (get_or c.args.cells.now c.loop-cell.cell-index zero_cell)
    (sorted_grown (IsFlatOrOut c.args.c.depth) c.args.g.now c.loop-cell.g c.loop-cell.invariant.grows c.args.cells.now c.requires.sorted)
    (slice_get-get_or c.args.cells.now c.loop-cell.cell-index zero_cell c.loop-cell-test.true)

pub returns-in_err-cell_out-clause-grows : goal.returns-in_err-cell_out-clause-grows
returns-in_err-cell_out-clause-grows c = grows_by_then (IsFlatOrOut c.args.c.depth) c.args.g.now c.loop-cell.g c.cell_out.new.g c.loop-cell.invariant.grows c.cell_out.ensures.grows

pub returns-in_err-push-clause-grows : goal.returns-in_err-push-clause-grows
returns-in_err-push-clause-grows c = grows_by_then (IsFlatOrOut c.args.c.depth) c.args.g.now c.loop-cell.g c.cell_out.new.g c.loop-cell.invariant.grows c.cell_out.ensures.grows

pub loop-cell-preserved : goal.loop-cell-preserved
loop-cell-preserved c =
    let old : List Cell = c.loop-cell.outs.items in
    let y : Cell = c.in_ok-cell_out.field-0 in
    record {
      grows = grows_by_then (IsFlatOrOut c.args.c.depth) c.args.g.now c.loop-cell.g c.cell_out.new.g c.loop-cell.invariant.grows c.cell_out.ensures.grows;
      count = ap length c.in_ok-push.ensures.items ∙ length-append old (y ∷ []) ∙ ap (λ (n : ℕ). n + 1) c.loop-cell.invariant.count;
      each = subst (λ (ys : List Cell). (i : ℕ) (x z : Cell) → slice_get c.args.cells.now i ≡ Some x → slice_get ys i ≡ Some z → IsCellOut c.args.g.now c.args.c c.cell_out.new.g x z) (sym c.in_ok-push.ensures.items)
          (cells_push c.args.g.now c.loop-cell.g c.cell_out.new.g c.args.c c.args.cells.now old c.loop-cell.cell-index zero_cell y c.loop-cell.invariant.grows c.cell_out.ensures.grows c.loop-cell.invariant.count
          c.loop-cell-test.true c.in_ok-cell_out.ensures.out c.loop-cell.invariant.each);
    }

pub returns-clause-out : goal.returns-clause-out
returns-clause-out c =
    let all : c.loop-cell.cell-index ≡ length c.args.cells.now = omega (arith, c.loop-cell-test.false, c.loop-cell.auto.cell-index-end) in
    zip_pairs (IsCellOut c.args.g.now c.args.c c.loop-cell.g) c.args.cells.now c.loop-cell.outs.items (c.loop-cell.invariant.count ∙ all) c.loop-cell.invariant.each
