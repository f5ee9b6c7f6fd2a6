use Rattle.std.proofs.Common.{◌≡◌, ℕ, ◌+◌, List, [], ◌∷◌, length, length-append, get_or, Some, None, slice_get, sym, ap, ◌∙◌, subst, arith}
use Rattle.pv_build.proofs.Words.{slice_get-get_or, Sort, grows_same, grows_then, Cell, op_sort, IsCellOf, number, number_in, CellGives, CellFoldsToOne}
use Rattle.pv_frame.specs.declared.sort.Sort.TheVariants as sort
use Rattle.pv_layout.proofs.Cited.{each_push, zip_each}
use Rattle.pv_build.proofs.Kept.{gives_kept, folds_kept}
use Rattle.pv_build.proofs.Stating.{EnterCell, enter_cell, enter_cell_kept}
use Rattle.pv_build.proofs.entering.cells.Goals as goal

pub loop-i-init : goal.loop-i-init
loop-i-init c = record {
  grows = grows_same c.args.g.now c.requires.graph;
  count = ap length c.in_ok-cells.ensures.items;
  each = λ i x at. absurd (let nil : List Cell = [] in let z : slice_get nil i ≡ Some x = subst (λ (xs : List Cell). slice_get xs i ≡ Some x) c.in_ok-cells.ensures.items at in cc);
}

pub cell-requires-clause-graph : goal.cell-requires-clause-graph
cell-requires-clause-graph c = c.loop-i.invariant.grows.graph

pub cell-requires-clause-gives : goal.cell-requires-clause-gives
cell-requires-clause-gives c =
    subst (λ (n : ℕ). CellGives c.loop-i.g c.args.given.now n (get_or c.args.sorts.now c.loop-i.i sort.Int)) (sym c.slot-slot.ensures)
    (λ known. gives_kept c.args.g.now c.loop-i.g c.loop-i.invariant.grows c.args.given.now (number_in c.args.part (length c.args.sorts.now) c.loop-i.i) None (op_sort (get_or c.args.sorts.now c.loop-i.i sort.Int))
    (c.requires.gives c.loop-i.i (get_or c.args.sorts.now c.loop-i.i sort.Int) (slice_get-get_or c.args.sorts.now c.loop-i.i sort.Int c.loop-i-test.true) known))

pub cell-requires-clause-some : goal.cell-requires-clause-some
cell-requires-clause-some c =
    let n : ℕ = number_in c.args.part (length c.args.sorts.now) c.loop-i.i in
    subst (λ (n : ℕ). CellFoldsToOne c.loop-i.g.nodes c.args.given.now n (get_or c.args.sorts.now c.loop-i.i sort.Int)) (sym c.slot-slot.ensures)
    (λ known. (
      c.requires.some.0,
      c.requires.some.1 n,
      folds_kept c.args.g.now c.loop-i.g c.loop-i.invariant.grows c.requires.some.0 c.args.given.now n None (Some (c.requires.some.1 n))
          (c.requires.some.2 c.loop-i.i (get_or c.args.sorts.now c.loop-i.i sort.Int) (slice_get-get_or c.args.sorts.now c.loop-i.i sort.Int c.loop-i-test.true) known),
    ))

pub returns-in_err-next-clause-grows : goal.returns-in_err-next-clause-grows
returns-in_err-next-clause-grows c = grows_then c.args.g.now c.loop-i.g c.cell.new.g c.loop-i.invariant.grows c.cell.ensures.grows

pub returns-in_err-push-clause-grows : goal.returns-in_err-push-clause-grows
returns-in_err-push-clause-grows c = grows_then c.args.g.now c.loop-i.g c.cell.new.g c.loop-i.invariant.grows c.cell.ensures.grows

pub loop-i-preserved : goal.loop-i-preserved
loop-i-preserved c =
    let old : List Cell = c.loop-i.cells.items in
    let t : Sort = get_or c.args.sorts.now c.loop-i.i sort.Int in
    let x : Cell = c.in_ok-next.next in
    let at : slice_get c.args.sorts.now c.loop-i.i ≡ Some t = slice_get-get_or c.args.sorts.now c.loop-i.i sort.Int c.loop-i-test.true in
    record {
      grows = grows_then c.args.g.now c.loop-i.g c.cell.new.g c.loop-i.invariant.grows c.cell.ensures.grows;
      count = ap length c.in_ok-push.ensures.items ∙ length-append old (x ∷ []) ∙ ap (λ (n : ℕ). n + 1) c.loop-i.invariant.count;
      each = subst (λ (xs : List Cell). (i : ℕ) (y : Cell) → slice_get xs i ≡ Some y → EnterCell c.args.g.now c.args.given.now c.args.part c.args.sorts.now c.cell.new.g i y) (sym c.in_ok-push.ensures.items)
          (each_push (EnterCell c.args.g.now c.args.given.now c.args.part c.args.sorts.now c.loop-i.g) (EnterCell c.args.g.now c.args.given.now c.args.part c.args.sorts.now c.cell.new.g) old x c.loop-i.i c.loop-i.invariant.count
          (enter_cell_kept c.args.g.now c.args.given.now c.args.part c.args.sorts.now c.loop-i.g c.cell.new.g c.cell.ensures.grows) c.loop-i.invariant.each
          (enter_cell c.args.g.now c.args.given.now c.args.part c.args.sorts.now c.loop-i.g c.cell.new.g c.loop-i.invariant.grows c.loop-i.i t (number c.slot-slot.result) x at c.slot-slot.ensures c.in_ok-next.ensures.sort c.in_ok-next.ensures.reads));
    }

pub returns-clause-reads : goal.returns-clause-reads
returns-clause-reads c names base folds i x at known = (c.loop-i.invariant.each i x at).reads names base folds known

pub returns-clause-sorts : goal.returns-clause-sorts
returns-clause-sorts c =
    let all : c.loop-i.i ≡ length c.args.sorts.now = omega (arith, c.loop-i-test.false, c.loop-i.auto.i-end) in
    zip_each (IsCellOf c.loop-i.g) c.loop-i.cells.items c.args.sorts.now (c.loop-i.invariant.count ∙ all) (λ i x at. let s = c.loop-i.invariant.each i x at in (s.of, s.at, s.is))

pub returns-clause-grows : goal.returns-clause-grows
returns-clause-grows c = c.loop-i.invariant.grows
