use Rattle.std.proofs.Common.{ap, ◌∙◌, ℕ, List}
use Rattle.std.specs.FinMap.{FinMap, insert}
use Rattle.pv_value.specs.Order.{sym_cmp}
use Rattle.pv_value.specs.contracts.name.SymOrd.TheImpl.Laws.{total-law}
use Rattle.pv_value.proofs.Maps.{given}
use Rattle.pv_value.proofs.Places.{exact_syms}
use Rattle.pv_value.proofs.tables.Homes.set.Goals as goal

pub returns-clause-ok : goal.returns-clause-ok
returns-clause-ok c =
    given sym_cmp total-law exact_syms c.self.inside.entries.entries c.insert.new.self.entries c.args.s c.args.class c.in_ok-insert.ensures.updates.0
    ∙ ap (λ (m : FinMap sym_cmp (List ℕ)). insert m c.args.s c.args.class) c.self.view_is
