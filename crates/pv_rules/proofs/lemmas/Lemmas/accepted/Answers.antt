use Rattle.std.proofs.Common.{◌≡◌, ◌<◌, ◌-◌, ℕ, List, Some, slice_get, length, reverse, suc, refl, ap, subst, arith}
use Rattle.std.proofs.lemmas.Option.{slice_get_read}
use Rattle.pv_steps.specs.declared.step.Lemma.{Lemma}
use Rattle.pv_rules.proofs.Numbers.{AtNumber, accepts_if, at_number, count_known}
use Rattle.pv_rules.proofs.lemmas.Lemmas.accepted.Goals as goal

pub index-requires : goal.index-requires
index-requires c =
    let count = count_known c.self.inside.lemmas.now c.self.inside.known.items c.self.invariant in
    let all : length c.self.inside.lemmas.now ≡ length c.args.self.now = ap length c.self.view_is in
    omega (arith, count, all, c.requires.first, c.requires.last)

pub returns : goal.returns
returns c =
    let number : suc (c.args.n - 1) ≡ c.args.n = omega (arith, c.requires.first) in
    let count = count_known c.self.inside.lemmas.now c.self.inside.known.items c.self.invariant in
    let all : length c.self.inside.lemmas.now ≡ length c.args.self.now = ap length c.self.view_is in
    let low : c.args.n - 1 < length c.self.inside.known.items = omega (arith, count, all, c.requires.first, c.requires.last) in
    let at : slice_get c.self.inside.known.items (c.args.n - 1) ≡ Some c.index.result.now = slice_get_read c.self.inside.known.items (length c.self.inside.known.items) (c.args.n - 1) c.index.result.now refl low c.index.ensures in
    let here = at_number c.self.inside.lemmas.now c.self.inside.known.items c.self.invariant (c.args.n - 1) c.index.result.now at in
    let there = subst (λ (n : ℕ). AtNumber (reverse c.self.inside.lemmas.now) n c.index.result.now) number here in
    accepts_if (reverse c.args.self.now) c.args.n c.index.result.now c.is_some.result
    (subst (λ (ls : List Lemma). AtNumber (reverse ls) c.args.n c.index.result.now) c.self.view_is there) c.is_some.ensures
