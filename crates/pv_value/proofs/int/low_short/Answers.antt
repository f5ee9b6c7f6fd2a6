use Rattle.std.proofs.Common.{rules, SFits, w16, w32, ℤ, pos, ap, ◌∙◌}
use Rattle.std.proofs.lemmas.Int.{to_z-of_z}
use Rattle.std.specs.Int.{int_wrap, int_rem_euclid, cast_signed}
use Rattle.std.specs.Prelude.{unsigned_abs}
use Rattle.pv_value.proofs.int.low_short.Goals as goal

pub returns : goal.returns
unfolding int_wrap
returns c =
    let signed : SFits w16 c.cast_signed.result = search rules in
    let rest : SFits w32 c.rem_euclid.result = search rules in
    to_z-of_z w16 c.cast_signed.result signed ∙ c.cast_signed.ensures
    ∙ ap (λ (z : ℤ). cast_signed w16 (unsigned_abs z)) (to_z-of_z w32 c.rem_euclid.result rest ∙ c.rem_euclid.ensures.value ∙ ap (λ (z : ℤ). int_rem_euclid z (pos 65536)) (to_z-of_z w32 c.args.n c.ranges.n))
