use Rattle.std.proofs.Common.{◌≡◌, ◌<◌, ℕ, Bool, false, List, Some, length, slice_get, get_or, sym, ap, ◌∙◌, subst, arith}
use Rattle.std.proofs.lemmas.Option.{slice_get-get_or}
use Rattle.pv_marks.specs.Sweep.{IsMarkBelow}
use Rattle.pv_marks.proofs.Basing.{marks_push}
use Rattle.pv_marks.proofs.nodes.settled_bits.Goals as goal

pub loop-yes-preserved : goal.loop-yes-preserved
loop-yes-preserved c =
    let i : ℕ = c.loop-yes.yes-index in
    let answers : List Bool = c.deref-yes-items.result.now in
    let there : slice_get c.in_ok-settled.settled.items i ≡ Some (get_or answers i false) = ap (λ (xs : List Bool). slice_get xs i) (sym c.deref-yes-items.ensures.value) ∙ slice_get-get_or answers i false c.loop-yes-test.true in
    record {
      long = omega (arith, c.in_ok-push.ensures.len, c.loop-yes.marks.ok.0, c.push.new.self.ok.0, c.loop-yes.invariant.long);
      each = marks_push (IsMarkBelow c.args.graph.now c.args.assumed.now 1) c.loop-yes.marks.items c.push.new.self.items c.first_mark.result i c.in_ok-push.ensures.items c.loop-yes.invariant.long c.loop-yes.invariant.each
          (c.first_mark.ensures c.args.graph.now c.args.assumed.now i (c.in_ok-settled.ensures.says i (get_or answers i false) there));
    }

pub returns : goal.returns
returns c =
    let end : c.loop-yes.yes-index ≡ length c.args.graph.now.nodes = omega (arith, c.loop-yes-test.false, c.loop-yes.auto.yes-index-end, ap (λ (xs : List Bool). length xs) c.deref-yes-items.ensures.value, c.in_ok-settled.ensures.long) in
    record { long = c.loop-yes.invariant.long ∙ end; each = λ n lt. c.loop-yes.invariant.each n (subst (λ (k : ℕ). n < k) (sym end) lt) }
