use Rattle.std.proofs.Common.{ap, sym, ◌∙◌, ◌≡◌, ℕ, Option}
use Rattle.std.proofs.lemmas.Map.Lookups.{exact_bytes}
use Rattle.std.specs.Option.{unwrap_or}
use Rattle.std.specs.Cmp.Lexicographic.{nat_list_cmp_total}
use Rattle.std.specs.FinMap.{FinMap, get}
use Rattle.pv_value.specs.Order.{name_cmp}
use Rattle.pv_value.proofs.Maps.{get_is}
use Rattle.pv_value.proofs.tables.Literals.get.Goals as goal

pub returns : goal.returns
returns c =
    let e = get_is name_cmp nat_list_cmp_total exact_bytes c.self.inside.entries.entries c.args.text.now in
    let found : c.copied.result ≡ get c.args.self.now c.args.text.now = c.copied.ensures ∙ c.get.ensures.value ∙ sym e ∙ ap (λ (m : FinMap name_cmp ℕ). get m c.args.text.now) c.self.view_is in
    c.unwrap_or.ensures ∙ ap (λ (o : Option ℕ). unwrap_or o 0) found
