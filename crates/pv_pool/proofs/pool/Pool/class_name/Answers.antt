use Rattle.std.proofs.Common.{rules, ◌≡◌, Some, List, ℕ, Option, subst, sym, ◌∙◌, ap}
use Rattle.pv_pool.specs.declared.entry.Entry.{Entry}
use Rattle.pv_pool.specs.declared.entry.Entry.TheVariants.{Class}
use Rattle.pv_pool.specs.Pools.{under, HasClass}
use Rattle.pv_pool.specs.Readers.{text_under}
use Rattle.pv_pool.proofs.Members.{class_named, mapped_some}
use Rattle.pv_pool.proofs.pool.Pool.class_name.Goals as goal

pub returns-in-Class-clause-some : goal.returns-in-Class-clause-some
returns-in-Class-clause-some c =
    let here : under c.self.inside.slots.items c.args.i ≡ Some (Class c.in-Class.name) = search rules in
    let found = class_named c.self.inside.slots.items c.self.invariant c.args.i c.in-Class.name here in
    let class : HasClass c.args.self.now c.args.i = subst (λ (pool : List Entry). HasClass pool c.args.i) c.self.view_is found.0 in
    let text : text_under c.args.self.now c.in-Class.name ≡ Some found.1.0 = subst (λ (pool : List Entry). text_under pool c.in-Class.name ≡ Some found.1.0) c.self.view_is found.1.1 in
    ((λ _. class), (λ _. mapped_some _ c.text.result found.1.0 (c.text.ensures ∙ text)))
