use Rattle.std.proofs.Common.{sym, inl, inr, arith}
use Rattle.pv_check.proofs.Finding.{sides_are, no_place, place_is, read_at, length_sides}
use Rattle.pv_steps.specs.Steps.{both_sides}
use Rattle.pv_check.proofs.seen.sides_at.Goals.{then-place-eq0-via-then-place-eq0, then-place-eq0-via-else-place-eq0+then-place-congruences}
use Rattle.pv_check.proofs.seen.sides_at.Goals as goal

pub returns-then-place-eq0 : goal.returns-then-place-eq0
returns-then-place-eq0 c = elim c.then-place-eq0.branch [
  | then-place-eq0-via-then-place-eq0 w ↦ sym (no_place (both_sides c.args.congruences.now) c.args.place (inl w.if-place-eq0.true))
  | then-place-eq0-via-else-place-eq0+then-place-congruences w ↦
      sym (no_place (both_sides c.args.congruences.now) c.args.place (inr (let n = length_sides c.args.congruences.now in let z = w.if-place-congruences.true in omega (arith, n, z))))
]

pub returns : goal.returns
returns c =
    let low = c.if-place-congruences.false in
    let some = c.if-place-eq0.false in
    sym (place_is (both_sides c.args.congruences.now) c.args.place _ some (sides_are c.args.congruences.now _ c.index-congruences-place.result
    (read_at c.args.congruences.now _ c.index-congruences-place.result (omega (arith, low, some)) c.index-congruences-place.is)))
