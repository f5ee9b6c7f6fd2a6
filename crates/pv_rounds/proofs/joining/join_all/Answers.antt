use Rattle.std.proofs.Common.{◌≡◌, ℕ, ◌+◌, List, ◌++◌, ◌∷◌, [], take, sym, ap, ◌∙◌, subst}
use Rattle.std.proofs.lemmas.List.{take_more}
use Rattle.pv_classes.specs.declared.join.Reason.TheVariants as reason
use Rattle.pv_classes.specs.Calls.{Joins}
use Rattle.pv_rounds.specs.declared.owed.Owed.{Owed}
use Rattle.pv_rounds.specs.Joining.{JoinsAll}
use Rattle.pv_rounds.proofs.Joined.{joins_none, within_at, joins_more}
use Rattle.pv_rounds.proofs.joining.join_all.Goals as goal

pub loop-one-init : goal.loop-one-init
loop-one-init c = joins_none c.args.classes.now c.requires.classes

pub join-requires-clause-first : goal.join-requires-clause-first
join-requires-clause-first c = (within_at _ _ c.args.owed.now c.loop-one.one-index c.one-item.result c.loop-one-test.true c.one-item.is c.loop-one.invariant.long c.requires.within).0

pub join-requires-clause-second : goal.join-requires-clause-second
join-requires-clause-second c = (within_at _ _ c.args.owed.now c.loop-one.one-index c.one-item.result c.loop-one-test.true c.one-item.is c.loop-one.invariant.long c.requires.within).1

pub loop-one-preserved : goal.loop-one-preserved
loop-one-preserved c =
    let o : Owed = c.one-item.result in
    let old = c.args.classes.now in
    let mid = c.loop-one.classes in
    let new = c.join.new.self in
    let owed = c.args.owed.now in
    let i = c.loop-one.one-index in
    let within = within_at _ _ owed i o c.loop-one-test.true c.one-item.is c.loop-one.invariant.long c.requires.within in
    let one : Joins mid new o.left o.right (reason.Axiom o.axiom o.subst.items) = subst (λ (ks : List ℕ). Joins mid new o.left o.right (reason.Axiom o.axiom ks)) (c.in_ok-subst.ensures ∙ c.deref.ensures.value) c.in_ok-join.ensures in
    let more : take (i + 1) owed ≡ take i owed ++ o ∷ [] = take_more owed i o c.loop-one-test.true ∙ ap (λ (x : Owed). take i owed ++ x ∷ []) (sym c.one-item.is) in
    subst (JoinsAll old new) (sym more) (joins_more old mid new (take i owed) o c.loop-one.invariant one within.0 within.1)
