use Rattle.std.proofs.Common.{◌≢◌, ℤ, pos, ap, sym, ◌∙◌, to_z, of_z, w64, FitsSigned, rules}
use Rattle.std.specs.Int.{int_wrap, int_wrapping_div}
use Rattle.std.proofs.lemmas.Int.{to_z-of_z}
use Rattle.pv_value.proofs.Arithmetic.{long_quotient, quotient_is}
use Rattle.pv_value.proofs.long.div.Goals as goal

pub returns-else-b-eq0 : goal.returns-else-b-eq0
returns-else-b-eq0 c =
    let a = c.args.a in
    let b = c.args.b in
    let other : b ≢ pos 0 = λ e. c.if-b-eq0.false (ap (of_z w64) e) in
    let fits : FitsSigned w64 c.wrapping_div.result = search rules in
    to_z-of_z w64 c.wrapping_div.result fits ∙ c.wrapping_div.ensures
    ∙ ap (λ (z : ℤ). int_wrapping_div w64 z (to_z w64 (of_z w64 b))) (to_z-of_z w64 a c.ranges.a)
    ∙ ap (int_wrapping_div w64 a) (to_z-of_z w64 b c.ranges.b)
    ∙ long_quotient a b c.ranges.a ∙ ap (int_wrap w64) (sym (quotient_is a b other))
