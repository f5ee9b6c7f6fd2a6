use Rattle.std.proofs.Common.{rules, ap, sym, ◌∙◌, ◌≡◌, ℤ, Option, pos, w32, SFits}
use Rattle.std.proofs.lemmas.Int.{to_z-of_z}
use Rattle.std.proofs.lemmas.Map.Lookups.{exact_unsigned}
use Rattle.std.specs.Option.{unwrap_or}
use Rattle.std.specs.Ordering.{nat_cmp}
use Rattle.std.specs.Cmp.{nat_cmp_total}
use Rattle.std.specs.FinMap.{FinMap, get}
use Rattle.pv_value.proofs.Maps.{get_is}
use Rattle.pv_value.proofs.tables.Lengths.get.Goals as goal

pub returns : goal.returns
returns c =
    let e = get_is nat_cmp nat_cmp_total exact_unsigned c.self.inside.entries.entries c.args.r in
    let found : c.copied.result ≡ get c.args.self.now c.args.r = c.copied.ensures ∙ c.get.ensures.value ∙ sym e ∙ ap (λ (m : FinMap nat_cmp ℤ). get m c.args.r) c.self.view_is in
    let value : c.unwrap_or.result ≡ unwrap_or (get c.args.self.now c.args.r) (pos 0) = c.unwrap_or.ensures ∙ ap (λ (o : Option ℤ). unwrap_or o (pos 0)) found in
    let fits : SFits w32 c.unwrap_or.result = search rules in
    to_z-of_z w32 c.unwrap_or.result fits ∙ value
