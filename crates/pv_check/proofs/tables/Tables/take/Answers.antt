use Rattle.std.proofs.Common.{◌∷◌, ◌++◌, [], List, Bool, true, false, ℕ, length, slice_set, sym, ◌∙◌, ap, subst, arith, add-one}
use Rattle.pv_check.specs.Kept.{AreKept}
use Rattle.pv_check.proofs.Deciding.{on_ok_both}
use Rattle.pv_check.proofs.Pushed.{take_opens, take_ends, take_no_end, take_stays, ends_low, carried}
use Rattle.pv_check.proofs.tables.Tables.take.Goals as goal

pub number_at-outer-requires : goal.number_at-outer-requires
number_at-outer-requires c =
    let low = ends_low c.args.before.now c.args.self.now.innermost.items c.args.self.now.opened.items c.requires in
    let e = c.number_at-inside.ensures in
    let long = c.requires.long in
    omega (arith, low, e, long)

pub clear-requires : goal.clear-requires
clear-requires c =
    let low = ends_low c.args.before.now c.args.self.now.innermost.items c.args.self.now.opened.items c.requires in
    let e = c.number_at-inside.ensures in
    let wide = c.requires.wide in
    omega (arith, low, e, wide)

pub returns-then-inside-eq0 : goal.returns-then-inside-eq0
returns-then-inside-eq0 c =
    on_ok_both c.push-then-inside-eq0.result _ _ _ c.push-then-inside-eq0.ensures.innermost c.push-then-inside-eq0.ensures.opened
    (carried (c.args.before.now ++ c.args.step.now ∷ []) _ _ _ _
    (subst (λ (n : ℕ). AreKept (c.args.before.now ++ c.args.step.now ∷ []) (c.args.self.now.innermost.items ++ n ∷ []) (c.args.self.now.opened.items ++ false ∷ [])) (sym c.number_at-inside.ensures)
    (take_no_end c.args.before.now c.args.step.now c.args.self.now.innermost.items c.args.self.now.opened.items c.requires (sym c.in-Ends.ensures) (sym c.number_at-inside.ensures ∙ c.if-inside-eq0.true))))

pub returns-in-Stays : goal.returns-in-Stays
returns-in-Stays c =
    on_ok_both c.push-in-Stays.result _ _ _ c.push-in-Stays.ensures.innermost c.push-in-Stays.ensures.opened
    (carried (c.args.before.now ++ c.args.step.now ∷ []) _ _ _ _
    (subst (λ (n : ℕ). AreKept (c.args.before.now ++ c.args.step.now ∷ []) (c.args.self.now.innermost.items ++ n ∷ []) (c.args.self.now.opened.items ++ false ∷ [])) (sym c.number_at-inside.ensures)
    (take_stays c.args.before.now c.args.step.now c.args.self.now.innermost.items c.args.self.now.opened.items c.requires (sym c.in-Stays.ensures))))

pub returns-in-Opens : goal.returns-in-Opens
returns-in-Opens c =
    on_ok_both c.push.result _ _ _ c.push.ensures.innermost c.push.ensures.opened
    (carried (c.args.before.now ++ c.args.step.now ∷ []) _ _ _ _
    (subst (λ (n : ℕ). AreKept (c.args.before.now ++ c.args.step.now ∷ []) (c.args.self.now.innermost.items ++ n ∷ []) (c.args.self.now.opened.items ++ true ∷ [])) (sym (add-one (length c.args.before.now)))
    (take_opens c.args.before.now c.args.step.now c.args.self.now.innermost.items c.args.self.now.opened.items c.requires (sym c.in-Opens.ensures))))

pub returns-else-inside-eq0 : goal.returns-else-inside-eq0
returns-else-inside-eq0 c =
    let front = c.args.before.now ++ c.args.step.now ∷ [] in
    let innermost = c.args.self.now.innermost.items in
    let opened = c.args.self.now.opened.items in
    on_ok_both c.push-in-Ends.result _ _ _ c.push-in-Ends.ensures.innermost c.push-in-Ends.ensures.opened
    (λ e f. carried (c.args.before.now ++ c.args.step.now ∷ []) _ _ _ _
    (subst (λ (n : ℕ). AreKept (c.args.before.now ++ c.args.step.now ∷ []) (c.args.self.now.innermost.items ++ n ∷ []) (slice_set c.args.self.now.opened.items c.number_at-inside.result false ++ false ∷ [])) (sym c.number_at-outer.ensures)
    (take_ends c.args.before.now c.args.step.now c.number_at-inside.result c.args.self.now.innermost.items c.args.self.now.opened.items c.requires (sym c.in-Ends.ensures) c.number_at-inside.ensures c.if-inside-eq0.false))
    e (f ∙ ap (λ (q : List Bool). q ++ false ∷ []) c.clear.ensures))
