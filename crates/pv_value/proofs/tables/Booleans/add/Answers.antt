use Rattle.std.proofs.Common.{ap, ◌∙◌}
use Rattle.std.proofs.lemmas.Map.Lookups.{exact_unsigned}
use Rattle.std.specs.Ordering.{nat_cmp}
use Rattle.std.specs.Cmp.{nat_cmp_total}
use Rattle.std.specs.FinSet as set
use Rattle.pv_value.proofs.Maps.{added}
use Rattle.pv_value.proofs.tables.Booleans.add.Goals as goal

pub returns-clause-ok : goal.returns-clause-ok
returns-clause-ok c =
    added nat_cmp nat_cmp_total exact_unsigned c.self.inside.refs.keys c.insert.new.self.keys c.args.r c.in_ok-insert.ensures.updates.0
    ∙ ap (λ (s : set.FinSet nat_cmp). set.insert s c.args.r) c.self.view_is
