use Rattle.std.proofs.Common.{ap, sym, ◌∙◌, ℕ, List}
use Rattle.std.specs.FinMap.{FinMap, get}
use Rattle.pv_value.specs.Order.{sym_cmp}
use Rattle.pv_value.specs.contracts.name.SymOrd.TheImpl.Laws.{total-law}
use Rattle.pv_value.proofs.Maps.{get_is}
use Rattle.pv_value.proofs.Places.{exact_syms}
use Rattle.pv_value.proofs.tables.Homes.get.Goals as goal

pub returns : goal.returns
returns c =
    c.get.ensures.value ∙ sym (get_is sym_cmp total-law exact_syms c.self.inside.entries.entries c.args.s.now)
    ∙ ap (λ (m : FinMap sym_cmp (List ℕ)). get m c.args.s.now) c.self.view_is
