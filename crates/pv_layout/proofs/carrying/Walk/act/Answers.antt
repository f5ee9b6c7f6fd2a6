use Rattle.std.proofs.Common.{ℕ, Bool, true, false, slice_set, sym, ap, ◌∙◌, subst, rules}
use Rattle.pv_layout.proofs.Words.{Action, Stores, IsOther, Acts}
use Rattle.pv_layout.proofs.Writing.{acts_store, acts_increase, acts_other}
use Rattle.pv_layout.proofs.carrying.Walk.act.Goals as goal

pub returns-in-Store : goal.returns-in-Store
returns-in-Store c =
    subst (λ (a : Action). Acts a c.args.self.now c.store.new.self) (sym c.in-Store.is)
    (acts_store c.in-Store.sort c.in-Store.place c.args.self.now c.store.new.self (subst (λ (two : Bool). Stores c.in-Store.place two c.args.self.now c.store.new.self) c.is_wide.ensures c.store.ensures))

pub returns-in-Increase : goal.returns-in-Increase
returns-in-Increase c =
    subst (λ (a : Action). Acts a c.args.self.now c.set.new.self) (sym c.in-Increase.is)
    (acts_increase c.in-Increase.place c.in-Increase.field-1 c.args.self.now c.set.new.self c.requires (c.set.ensures.wide ∙ ap (λ (k : ℕ). slice_set c.args.self.now.wide.items k false) c.from.ensures)
    (c.set.ensures.written ∙ ap (λ (k : ℕ). slice_set c.args.self.now.written.items k true) c.from.ensures))

pub returns-in_default : goal.returns-in_default
returns-in_default c =
    let other : IsOther c.args.action.now = search rules in
    acts_other c.args.action.now c.args.self.now other c.requires
