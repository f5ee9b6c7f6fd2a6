use Rattle.std.proofs.Common.{Bool, true, List, set, sym, ◌∙◌, subst}
use Rattle.pv_live.specs.Marks.{IsTable, Visited}
use Rattle.pv_live.proofs.Tables.{known, visited_same, visited_new, still_table}
use Rattle.pv_live.proofs.table.mark_at.Goals as goal

pub returns-then-same_marks-clause-visited : goal.returns-then-same_marks-clause-visited
returns-then-same_marks-clause-visited c =
    visited_same c.args.program.now c.args.rows.now.items c.requires.table c.args.place c.index-as_slice-place.result c.as_slice-before.result.now c.in_ok-after.after.items c.live_before-row.result.items
    (known c.args.program.now c.args.rows.now.items c.args.place c.as_slice.result.now c.index-as_slice-place.result c.deref.result.now c.index.result.now c.as_slice-before.result.now c.in_ok-after.after.items c.live_before-row.result.items
    c.requires.table c.requires.place c.as_slice.ensures c.index-as_slice-place.is c.deref.ensures.value c.index.ensures c.as_slice-before.ensures c.in_ok-after.ensures c.live_before-row.ensures)
    (sym c.deref-2.ensures.value ∙ c.same_marks.ensures.0 c.if-same_marks.true)

pub returns-clause-table : goal.returns-clause-table
returns-clause-table c =
    subst (λ (r : List Bool). IsTable c.args.program.now (set c.args.rows.now.items c.args.place r)) (sym c.from.ensures)
    (still_table c.args.program.now c.args.rows.now.items c.requires.table c.args.place c.index-as_slice-place.result c.as_slice-before.result.now c.in_ok-after.after.items c.live_before-row.result.items
    (known c.args.program.now c.args.rows.now.items c.args.place c.as_slice.result.now c.index-as_slice-place.result c.deref.result.now c.index.result.now c.as_slice-before.result.now c.in_ok-after.after.items c.live_before-row.result.items
    c.requires.table c.requires.place c.as_slice.ensures c.index-as_slice-place.is c.deref.ensures.value c.index.ensures c.as_slice-before.ensures c.in_ok-after.ensures c.live_before-row.ensures))

pub returns-clause-visited : goal.returns-clause-visited
returns-clause-visited c =
    subst (λ (r : List Bool). Visited c.args.program.now c.args.place c.args.rows.now.items (set c.args.rows.now.items c.args.place r) true) (sym c.from.ensures)
    (visited_new c.args.program.now c.args.rows.now.items c.requires.table c.args.place c.index-as_slice-place.result c.as_slice-before.result.now c.in_ok-after.after.items c.live_before-row.result.items
    (known c.args.program.now c.args.rows.now.items c.args.place c.as_slice.result.now c.index-as_slice-place.result c.deref.result.now c.index.result.now c.as_slice-before.result.now c.in_ok-after.after.items c.live_before-row.result.items
    c.requires.table c.requires.place c.as_slice.ensures c.index-as_slice-place.is c.deref.ensures.value c.index.ensures c.as_slice-before.ensures c.in_ok-after.ensures c.live_before-row.ensures)
    (λ e. absurd (let y = c.same_marks.ensures.1 (c.deref-2.ensures.value ∙ e) in let n = c.if-same_marks.false in cc)))
