use Rattle.std.proofs.Common.{List, Bool, ℕ, ◌≡◌, ◌+◌, ◌-◌, suc, length, map, None, get_or, arith, subst, sym}
use Rattle.std.specs.Prelude.{nat_lt}
use Rattle.std.specs.List.{range_with_len}
use Rattle.std.proofs.lemmas.Option.{slice_get-get_or}
use Rattle.pv_trim.specs.Marks.{AreMarks}
use Rattle.pv_trim.proofs.Loops.{marks_first, marks_next, read_at}
use Rattle.pv_trim.proofs.marks.marks_of.Goals as goal

pub loop-k-init : goal.loop-k-init
loop-k-init c =
    let bound : ℕ = c.args.base + length c.args.steps.now in (
      omega arith,
      subst (λ (q : List Bool). AreMarks c.args.steps.now c.args.ends.now c.args.base bound (length c.args.steps.now) c.in_ok-marks_last.field-0.items q) (sym c.in_ok-marks_below.ensures)
          (subst (λ (q : List Bool). AreMarks c.args.steps.now c.args.ends.now c.args.base bound (length c.args.steps.now) q (map (λ n. nat_lt n c.args.base) (range_with_len 0 bound))) (sym c.in_ok-marks_last.ensures) (marks_first c.args.steps.now c.args.ends.now c.args.base)),
    )

pub loop-k-preserved : goal.loop-k-preserved
loop-k-preserved c =
    let low = c.loop-k.invariant.0 in
    let above = c.loop-k-test.true in
    let place : ℕ = c.loop-k.k - 1 in
    let less : c.loop-k.k ≡ suc (c.loop-k.k - 1) = omega (arith, above) in
    let long = c.requires in (
      omega (arith, low),
      marks_next c.args.steps.now c.args.ends.now c.args.base (c.args.base + length c.args.steps.now) (c.loop-k.k - 1) c.loop-k.marks.steps.items c.loop-k.marks.nodes.items c.visit.new.self.steps.items c.visit.new.self.nodes.items
          c.index-steps-k.result (get_or c.args.ends.now (c.loop-k.k - 1) None) c.loop-k.k less c.loop-k.invariant.1 (read_at c.args.steps.now (c.loop-k.k - 1) c.index-steps-k.result (omega (arith, low, above)) c.index-steps-k.is)
          (slice_get-get_or c.args.ends.now (c.loop-k.k - 1) None (omega (arith, low, above, long))) c.visit.ensures.steps c.visit.ensures.nodes,
    )

pub returns : goal.returns
returns c =
    let none : c.loop-k.k ≡ 0 = omega arith in
    subst (λ (n : ℕ). AreMarks c.args.steps.now c.args.ends.now c.args.base (c.args.base + length c.args.steps.now) n c.loop-k.marks.steps.items c.loop-k.marks.nodes.items) none c.loop-k.invariant.1
