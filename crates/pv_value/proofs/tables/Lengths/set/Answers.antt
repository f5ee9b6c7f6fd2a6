use Rattle.std.proofs.Common.{ap, ◌∙◌, ℤ, to_z, of_z, w32}
use Rattle.std.proofs.lemmas.Int.{to_z-of_z}
use Rattle.std.proofs.lemmas.Map.Lookups.{exact_unsigned}
use Rattle.std.specs.Ordering.{nat_cmp}
use Rattle.std.specs.Cmp.{nat_cmp_total}
use Rattle.std.specs.FinMap.{FinMap, insert}
use Rattle.pv_value.proofs.Maps.{given}
use Rattle.pv_value.proofs.tables.Lengths.set.Goals as goal

pub returns-clause-ok : goal.returns-clause-ok
returns-clause-ok c =
    given nat_cmp nat_cmp_total exact_unsigned c.self.inside.entries.entries c.insert.new.self.entries c.args.r (to_z w32 (of_z w32 c.args.n)) c.in_ok-insert.ensures.updates.0
    ∙ ap (λ (m : FinMap nat_cmp ℤ). insert m c.args.r (to_z w32 (of_z w32 c.args.n))) c.self.view_is
    ∙ ap (insert c.args.self.now c.args.r) (to_z-of_z w32 c.args.n c.ranges.n)
