use Rattle.std.proofs.Common.{◌<◌, ◌+◌, ℕ, Bool, List, Vec, true, length, sym, ap, ◌∙◌, subst, arith}
use Rattle.std.specs.declared.alloc.Global.{Global}
use Rattle.pv_graph.proofs.Cited.{set_length}
use Rattle.pv_marks.specs.Classes.{class_of}
use Rattle.pv_touched.specs.Far.{AllClear, SpreadsBelow}
use Rattle.pv_touched.proofs.Clear.{spreads_set, spreads_kept, kids_clear, on_true}
use Rattle.pv_touched.proofs.near.spread.Goals.{then-not-all_clear, else-not-all_clear}
use Rattle.pv_touched.proofs.near.spread.Goals as goal

pub loop-n-preserved : goal.loop-n-preserved
loop-n-preserved c =
    let g = c.args.graph.now in
    let numbers = c.args.numbers.now in
    let near = c.args.near.now in
    let n = c.loop-n.n in
    let low : class_of numbers n < length c.loop-n.next.items = (let w = c.requires.classes.within n (omega (arith, c.loop-n-test.true, c.len-n-end.ensures.len)) in omega (arith, w, c.loop-n.invariant.long)) in
    elim c.if-not-all_clear.branch [
      | then-not-all_clear w ↦ record {
        long = ap (λ (v : Vec Bool Global). length v.items) w.next-is ∙ (set_length c.loop-n.next.items (class_of numbers n) true ∙ c.loop-n.invariant.long);
        spreads = subst (SpreadsBelow (n + 1) g numbers near) (sym (ap (λ (v : Vec Bool Global). v.items) w.next-is)) (spreads_set g numbers n near c.loop-n.next.items c.loop-n.invariant.spreads low);
      }
      | else-not-all_clear w ↦ record {
        long = ap (λ (v : Vec Bool Global). length v.items) w.next-is ∙ c.loop-n.invariant.long;
        spreads = subst (SpreadsBelow (n + 1) g numbers near) (sym (ap (λ (v : Vec Bool Global). v.items) w.next-is))
            (spreads_kept g numbers n near c.loop-n.next.items c.loop-n.invariant.spreads
            (kids_clear g numbers near n c.node.result.now c.node.ensures
            (subst (λ (ks : List ℕ). AllClear numbers near ks) c.as_slice.ensures (on_true c.all_clear.result (AllClear numbers near c.as_slice.result.now) w.if-not-all_clear.false c.all_clear.ensures))));
      }
    ]
