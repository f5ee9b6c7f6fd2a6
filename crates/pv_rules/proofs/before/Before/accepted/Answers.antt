use Rattle.std.proofs.Common.{rules, ◌≡◌, ◌<◌, ◌≤◌, ◌-◌, ℕ, List, Some, slice_get, length, reverse, suc, refl, subst, arith}
use Rattle.std.proofs.lemmas.Option.{slice_get_read}
use Rattle.pv_steps.specs.declared.step.Lemma.{Lemma}
use Rattle.pv_rules.specs.Known.{NoneUses}
use Rattle.pv_rules.proofs.Numbers.{AtNumber, at_number, none_at_zero, none_past, tells}
use Rattle.pv_rules.proofs.before.Before.accepted.Goals as goal

pub returns-then-number-eq0 : goal.returns-then-number-eq0
returns-then-number-eq0 c = none_at_zero (reverse c.args.self.now) c.args.number c.if-number-eq0.true

pub returns-in-Some : goal.returns-in-Some
returns-in-Some c =
    let number : suc (c.args.number - 1) ≡ c.args.number = omega (arith, c.if-number-eq0.false) in
    let low : c.args.number - 1 < length c.self.inside.known.now = search rules in
    let at : slice_get c.self.inside.known.now (c.args.number - 1) ≡ Some c.in-Some.known.now = slice_get_read c.self.inside.known.now (length c.self.inside.known.now) (c.args.number - 1) c.in-Some.known.now refl low c.in-Some.ensures.lookup.1 in
    let here = at_number c.self.inside.lemmas.now c.self.inside.known.now c.self.invariant (c.args.number - 1) c.in-Some.known.now at in
    let there = subst (λ (n : ℕ). AtNumber (reverse c.self.inside.lemmas.now) n c.in-Some.known.now) number here in
    tells (reverse c.args.self.now) c.args.number c.in-Some.known.now c.as_ref.result
    (subst (λ (ls : List Lemma). AtNumber (reverse ls) c.args.number c.in-Some.known.now) c.self.view_is there) c.as_ref.ensures.value

pub returns-in-None : goal.returns-in-None
returns-in-None c =
    let past : length c.self.inside.known.now ≤ c.args.number - 1 = search rules in
    subst (λ (ls : List Lemma). NoneUses (reverse ls) c.args.number) c.self.view_is
    (none_past c.self.inside.lemmas.now c.self.inside.known.now c.args.number c.self.invariant (omega (arith, past, c.if-number-eq0.false)))
