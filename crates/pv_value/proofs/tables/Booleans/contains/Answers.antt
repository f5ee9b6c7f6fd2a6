use Rattle.std.proofs.Common.{ap, sym, ◌∙◌}
use Rattle.std.specs.Ordering.{nat_cmp}
use Rattle.std.specs.Cmp.{nat_cmp_total}
use Rattle.std.specs.FinSet as set
use Rattle.pv_value.proofs.tables.Booleans.contains.Goals as goal

pub returns : goal.returns
returns c =
    c.contains.ensures ∙ sym (set.contains-from_list nat_cmp_total c.self.inside.refs.keys c.args.r)
    ∙ ap (λ (s : set.FinSet nat_cmp). set.contains s c.args.r) c.self.view_is
