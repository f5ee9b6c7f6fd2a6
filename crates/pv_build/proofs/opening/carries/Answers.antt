use Rattle.std.proofs.Common.{◌≡◌, ℕ, zero, suc, ◌<◌, ◌≤◌, Bool, true, false, List, [], ◌∷◌, length, get_or, refl, sym, ap, ◌∙◌, arith}
use Rattle.pv_build.proofs.Words.{slice_get_read, get_or_from_slice_get, Slot, number, carried_at}
use Rattle.pv_build.proofs.Slotted.{turn_local, turn_stack}
use Rattle.pv_build.proofs.opening.carries.Goals as goal

none_past : (flags : List Bool) (k : ℕ) → length flags ≤ k → get_or flags k false ≡ false
none_past [] k le = refl
none_past (b ∷ flags) zero le = absurd (omega arith)
none_past (b ∷ flags) (suc k) le = none_past flags k (omega arith)

pub returns-then-k-len : goal.returns-then-k-len
returns-then-k-len c =
    let flags : List Bool = c.args.carried.now.locals.items in
    let k : ℕ = c.in-Local.k in
    let low : k < length flags = omega (arith, c.if-k-len.true, c.len.ensures) in
    sym (get_or_from_slice_get flags k c.index.result.now false (slice_get_read flags (length flags) k c.index.result.now refl low c.index.ensures))
    ∙ sym (turn_local (λ (k : ℕ). get_or flags k false) (λ j. true) k) ∙ ap (λ (s : Slot). carried_at c.args.carried.now (number s)) (sym c.in-Local.is)

pub returns-else-k-len : goal.returns-else-k-len
returns-else-k-len c =
    let flags : List Bool = c.args.carried.now.locals.items in
    let k : ℕ = c.in-Local.k in
    sym (none_past flags k (omega (arith, c.if-k-len.false, c.len.ensures))) ∙ sym (turn_local (λ (k : ℕ). get_or flags k false) (λ j. true) k) ∙ ap (λ (s : Slot). carried_at c.args.carried.now (number s)) (sym c.in-Local.is)

pub returns-in-Place : goal.returns-in-Place
returns-in-Place c = sym (turn_stack (λ (k : ℕ). get_or c.args.carried.now.locals.items k false) (λ j. true) c.in-Place.field-0) ∙ ap (λ (s : Slot). carried_at c.args.carried.now (number s)) (sym c.in-Place.is)
