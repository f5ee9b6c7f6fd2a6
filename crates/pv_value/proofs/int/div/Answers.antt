use Rattle.std.proofs.Common.{◌≢◌, ℤ, pos, ap, sym, ◌∙◌, to_z, of_z, w32, FitsSigned, rules}
use Rattle.std.specs.Int.{int_wrap, int_wrapping_div}
use Rattle.std.proofs.lemmas.Int.{to_z-of_z}
use Rattle.pv_value.proofs.Arithmetic.{int_quotient, quotient_is}
use Rattle.pv_value.proofs.int.div.Goals as goal

pub returns-else-b-eq0 : goal.returns-else-b-eq0
returns-else-b-eq0 c =
    let a = c.args.a in
    let b = c.args.b in
    let other : b ≢ pos 0 = λ e. c.if-b-eq0.false (ap (of_z w32) e) in
    let fits : FitsSigned w32 c.wrapping_div.result = search rules in
    to_z-of_z w32 c.wrapping_div.result fits ∙ c.wrapping_div.ensures
    ∙ ap (λ (z : ℤ). int_wrapping_div w32 z (to_z w32 (of_z w32 b))) (to_z-of_z w32 a c.ranges.a)
    ∙ ap (int_wrapping_div w32 a) (to_z-of_z w32 b c.ranges.b)
    ∙ int_quotient a b c.ranges.a ∙ ap (int_wrap w32) (sym (quotient_is a b other))
