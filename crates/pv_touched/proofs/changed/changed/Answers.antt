use Rattle.std.proofs.Common.{◌<◌, ◌+◌, Bool, Vec, true, length, sym, ap, ◌∙◌, subst, arith}
use Rattle.std.specs.declared.alloc.Global.{Global}
use Rattle.pv_graph.proofs.Cited.{set_length}
use Rattle.pv_marks.specs.Classes.{class_of}
use Rattle.pv_touched.specs.Far.{StayedBelow}
use Rattle.pv_touched.proofs.Clear.{stayed_set, stayed_kept}
use Rattle.pv_touched.proofs.changed.changed.Goals.{then-not-was_in, else-not-was_in}
use Rattle.pv_touched.proofs.changed.changed.Goals as goal

pub loop-n-preserved : goal.loop-n-preserved
loop-n-preserved c =
    let s = c.args.since.now in
    let n = c.loop-n.n in
    let low : class_of s.numbers.now n < length c.loop-n.changed.items = (let w = c.requires n c.loop-n-test.true in omega (arith, w, c.loop-n.invariant.long)) in
    elim c.if-not-was_in.branch [
      | then-not-was_in w ↦ record {
        long = ap (λ (v : Vec Bool Global). length v.items) w.changed-is ∙ (set_length c.loop-n.changed.items (class_of s.numbers.now n) true ∙ c.loop-n.invariant.long);
        stayed = subst (StayedBelow (n + 1) s) (sym (ap (λ (v : Vec Bool Global). v.items) w.changed-is)) (stayed_set s n c.loop-n.changed.items c.loop-n.invariant.stayed low);
      }
      | else-not-was_in w ↦ record {
        long = ap (λ (v : Vec Bool Global). length v.items) w.changed-is ∙ c.loop-n.invariant.long;
        stayed = subst (StayedBelow (n + 1) s) (sym (ap (λ (v : Vec Bool Global). v.items) w.changed-is)) (stayed_kept s n c.loop-n.changed.items c.loop-n.invariant.stayed (c.was_in.ensures.0 w.if-not-was_in.false));
      }
    ]

pub returns-clause-stayed : goal.returns-clause-stayed
returns-clause-stayed c k e = record { members = λ n lt is_in. c.loop-n.invariant.stayed.members k n e (omega (arith, lt, c.loop-n-test.false)) is_in; mark = c.loop-n.invariant.stayed.mark k e }
