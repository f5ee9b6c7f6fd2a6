use Rattle.std.proofs.Common.{ap, sym, subst, ◌∙◌, List, ℕ}
use Rattle.pv_block.proofs.Words.{IfOk-weaker, Line, AreMade, changed, HoldsAfter, SortedAfter}
use Rattle.pv_block.proofs.Changed.{effect_holds, effect_sorted}
use Rattle.pv_block.proofs.effect.affected.Goals as goal

pub returns-clause-holds : goal.returns-clause-holds
returns-clause-holds c =
    let given = c.args.given.now in
    let made = c.in_ok-made.made.items in
    let is_made = subst (λ (ls : List Line). AreMade c.args.g.now given ls c.emit.new.g made) c.as_slice.ensures c.in_ok-made.ensures.made in
    IfOk-weaker c.changed.result _ _
    (λ after is. subst (HoldsAfter c.args.effect.now c.args.g.now.nodes given c.args.held c.emit.new.g.nodes) (sym (is ∙ ap (λ (m : List ℕ). changed given m c.args.held c.args.effect.now.change) c.deref.ensures.value))
    (effect_holds c.args.g.now c.emit.new.g c.args.effect.now given made c.args.held c.in_ok-made.ensures.grows is_made))
    c.changed.ensures

pub returns-clause-sorted : goal.returns-clause-sorted
returns-clause-sorted c =
    let given = c.args.given.now in
    let made = c.in_ok-made.made.items in
    let is_made = subst (λ (ls : List Line). AreMade c.args.g.now given ls c.emit.new.g made) c.as_slice.ensures c.in_ok-made.ensures.made in
    IfOk-weaker c.changed.result _ _
    (λ after is. subst (SortedAfter c.args.effect.now c.args.g.now given c.emit.new.g) (sym (is ∙ ap (λ (m : List ℕ). changed given m c.args.held c.args.effect.now.change) c.deref.ensures.value))
    (effect_sorted c.args.g.now c.emit.new.g c.args.effect.now given made c.args.held c.in_ok-made.ensures.grows is_made c.requires.sorted))
    c.changed.ensures
