use Rattle.std.proofs.Common.{ap, ◌∙◌, ℕ}
use Rattle.std.proofs.lemmas.Map.Lookups.{exact_bytes}
use Rattle.std.specs.Cmp.Lexicographic.{nat_list_cmp_total}
use Rattle.std.specs.FinMap.{FinMap, insert}
use Rattle.pv_value.specs.Order.{name_cmp}
use Rattle.pv_value.proofs.Maps.{given}
use Rattle.pv_value.proofs.tables.Literals.set.Goals as goal

pub returns-clause-ok : goal.returns-clause-ok
returns-clause-ok c =
    given name_cmp nat_list_cmp_total exact_bytes c.self.inside.entries.entries c.insert.new.self.entries c.args.text c.args.r c.in_ok-insert.ensures.updates.0
    ∙ ap (λ (m : FinMap name_cmp ℕ). insert m c.args.text c.args.r) c.self.view_is
