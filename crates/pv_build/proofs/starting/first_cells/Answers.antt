use Rattle.std.proofs.Common.{◌≡◌, ℕ, ◌+◌, List, [], ◌∷◌, length, length-append, get_or, Some, slice_get, sym, ap, ◌∙◌, subst, arith}
use Rattle.pv_build.proofs.Words.{slice_get-get_or, Sort, grows_same, grows_then, Cell, op_sort, IsCellOf}
use Rattle.pv_frame.specs.declared.sort.Sort.TheVariants as sort
use Rattle.pv_layout.proofs.Cited.{each_push, zip_each}
use Rattle.pv_build.proofs.Kept.{has_no_kids, no_depth}
use Rattle.pv_build.proofs.Started.{StartCell, first_sort, start_cell, start_cell_kept}
use Rattle.pv_build.proofs.starting.first_cells.Goals as goal

pub loop-k-init : goal.loop-k-init
loop-k-init c = record {
  grows = grows_same c.args.g.now c.requires.graph;
  count = ap length c.in_ok-cells.ensures.items;
  each = λ i x at. absurd (let nil : List Cell = [] in let z : slice_get nil i ≡ Some x = subst (λ (xs : List Cell). slice_get xs i ≡ Some x) c.in_ok-cells.ensures.items at in cc);
}

pub returns-in_err-op-clause-grows : goal.returns-in_err-op-clause-grows
returns-in_err-op-clause-grows c = c.loop-k.invariant.grows

pub over-requires-clause-graph : goal.over-requires-clause-graph
over-requires-clause-graph c = c.loop-k.invariant.grows.graph

pub over-requires-clause-flat : goal.over-requires-clause-flat
over-requires-clause-flat c =
    let t : Sort = get_or c.args.sorts.now c.loop-k.k sort.Int in
    no_depth c.in_ok-op.op (op_sort t) (first_sort c.args.ops.now c.args.sorts.now c.loop-k.k t c.in_ok-op.op c.requires.ops (slice_get-get_or c.args.sorts.now c.loop-k.k sort.Int c.loop-k-test.true) c.in_ok-op.ensures)

pub over-requires-clause-fits : goal.over-requires-clause-fits
over-requires-clause-fits c =
    let t : Sort = get_or c.args.sorts.now c.loop-k.k sort.Int in (
      op_sort t,
      has_no_kids c.loop-k.g c.in_ok-op.op (op_sort t) (first_sort c.args.ops.now c.args.sorts.now c.loop-k.k t c.in_ok-op.op c.requires.ops (slice_get-get_or c.args.sorts.now c.loop-k.k sort.Int c.loop-k-test.true) c.in_ok-op.ensures),
    )

pub returns-in_err-node-clause-grows : goal.returns-in_err-node-clause-grows
returns-in_err-node-clause-grows c = grows_then c.args.g.now c.loop-k.g c.over.new.g c.loop-k.invariant.grows c.over.ensures.grows

pub returns-in_err-push-clause-grows : goal.returns-in_err-push-clause-grows
returns-in_err-push-clause-grows c = grows_then c.args.g.now c.loop-k.g c.over.new.g c.loop-k.invariant.grows c.over.ensures.grows

pub loop-k-preserved : goal.loop-k-preserved
loop-k-preserved c =
    let old : List Cell = c.loop-k.cells.items in
    let t : Sort = get_or c.args.sorts.now c.loop-k.k sort.Int in
    let x : Cell = record { sort = t; node = c.in_ok-node.node } in
    let at : slice_get c.args.sorts.now c.loop-k.k ≡ Some t = slice_get-get_or c.args.sorts.now c.loop-k.k sort.Int c.loop-k-test.true in
    record {
      grows = grows_then c.args.g.now c.loop-k.g c.over.new.g c.loop-k.invariant.grows c.over.ensures.grows;
      count = ap length c.in_ok-push.ensures.items ∙ length-append old (x ∷ []) ∙ ap (λ (n : ℕ). n + 1) c.loop-k.invariant.count;
      each = subst (λ (xs : List Cell). (i : ℕ) (y : Cell) → slice_get xs i ≡ Some y → StartCell c.over.new.g c.args.ops.now c.args.sorts.now i y) (sym c.in_ok-push.ensures.items)
          (each_push (StartCell c.loop-k.g c.args.ops.now c.args.sorts.now) (StartCell c.over.new.g c.args.ops.now c.args.sorts.now) old x c.loop-k.k c.loop-k.invariant.count
          (start_cell_kept c.loop-k.g c.over.new.g c.over.ensures.grows c.args.ops.now c.args.sorts.now) c.loop-k.invariant.each
          (start_cell c.loop-k.g c.over.new.g c.args.ops.now c.args.sorts.now c.loop-k.k t c.in_ok-op.op c.in_ok-node.node c.requires.ops at c.in_ok-op.ensures c.in_ok-node.ensures.reads c.in_ok-node.ensures.sort));
    }

pub returns-clause-reads : goal.returns-clause-reads
returns-clause-reads c names i x at known = (c.loop-k.invariant.each i x at).reads names known

pub returns-clause-sorts : goal.returns-clause-sorts
returns-clause-sorts c =
    let all : c.loop-k.k ≡ length c.args.sorts.now = omega (arith, c.loop-k-test.false, c.loop-k.auto.k-end) in
    zip_each (IsCellOf c.loop-k.g) c.loop-k.cells.items c.args.sorts.now (c.loop-k.invariant.count ∙ all) (λ i x at. let s = c.loop-k.invariant.each i x at in (s.of, s.at, s.is))

pub returns-clause-grows : goal.returns-clause-grows
returns-clause-grows c = c.loop-k.invariant.grows
