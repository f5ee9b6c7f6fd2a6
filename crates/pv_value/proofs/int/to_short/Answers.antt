use Rattle.std.proofs.Common.{rules, SFits, w16, w32, ap, sym, ◌∙◌}
use Rattle.std.proofs.lemmas.Int.{to_z-of_z, int_wrap_fits}
use Rattle.std.specs.Int.{int_wrap}
use Rattle.pv_value.proofs.int.to_short.Goals as goal

pub returns : goal.returns
returns c =
    let whole : SFits w32 c.from.result = search rules in
    let part : SFits w16 c.low_short.result = search rules in
    let is = c.from.ensures ∙ to_z-of_z w16 c.low_short.result part ∙ c.low_short.ensures ∙ ap (int_wrap w16) (to_z-of_z w32 c.args.a c.ranges.a) in
    to_z-of_z w32 c.from.result whole ∙ is ∙ sym (ap (int_wrap w32) (sym is) ∙ int_wrap_fits w32 c.from.result whole ∙ is)
