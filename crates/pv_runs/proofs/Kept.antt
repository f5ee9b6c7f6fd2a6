-- What a block leaves as it is: the slots that none of its actions writes; and the tokens at its exits.
use Rattle.std.proofs.Common.{◌≡◌, ℕ, zero, suc, ◌+◌, Bool, true, false, List, [], ◌∷◌, map, Option, Some, None, refl, ap, sym, subst, ◌∙◌, inl, inr, arith, if◌then◌else◌}
use Rattle.pv_runs.proofs.Words.{◌||◌, ◌&&◌, ◌==◌, slice_get, slice_set, unwrap_or, option_map, eq-eqb, or_parts, ◌>>=◌, Sym, JType, Sort, Action, Program, is_wide, popped, moved, has_room, first_cleared, set_local, takes, IsAt, some_of, if_some, popped_sorts, Part, TokenPart, calls, local_slot, Cell, Held, cell_sort, local_cell, increased_cell, unset, local_part, stack_part, push, call_parts, with_result, slots_of, acted_on, acted, holds_wide, writes_local, writes_heap, writes, writes_along, acted_along}
use Rattle.pv_frame.specs.declared.sort.Sort.TheVariants as sort
use Rattle.pv_frame.specs.declared.action.Action.TheVariants as act
use Rattle.pv_runs.proofs.Tokens.{Kept, acted_token}
use Rattle.pv_runs.proofs.Options.{mapped, bound}
use Rattle.pv_runs.proofs.Turns.{turns_local}

-- ---- locals

-- a store leaves another local as it is, unless the value takes it too, or its own value is lost
set_kept : (k : ℕ) (c : Cell) (locals : List Cell) (j : ℕ) → ((j ≡ k) → ⊥) → (is_wide c.sort ≡ true → (j ≡ suc k) → ⊥) → ((suc j ≡ k) → holds_wide locals j ≡ false)
    → local_part (set_local cell_sort unset k c locals) j ≡ local_part locals j
set_kept k c [] j other after before = refl
set_kept zero c (a ∷ locals) zero other after before = absurd (other refl)
set_kept zero c (a ∷ locals) (suc j) other after before =
    elim (is_wide c.sort) as (λ b. is_wide c.sort ≡ b → local_part (if b then first_cleared unset locals else locals) j ≡ local_part locals j) [
      | true ↦ λ e. cleared locals j (λ z. after e (ap suc z))
      | false ↦ λ e. refl
    ] refl
  where
    cleared : (locals : List Cell) (j : ℕ) → ((j ≡ 0) → ⊥) → local_part (first_cleared unset locals) j ≡ local_part locals j
    cleared [] j h = refl
    cleared (b ∷ locals) zero h = absurd (h refl)
    cleared (b ∷ locals) (suc j) h = refl
set_kept (suc zero) c (a ∷ locals) zero other after before = ap (λ (b : Bool). (if b then unset else a).part) (before refl)
set_kept (suc zero) c (a ∷ locals) (suc j) other after before = set_kept zero c locals j (λ z. other (ap suc z)) (λ w z. after w (ap suc z)) (λ z. absurd (omega arith))
set_kept (suc (suc k)) c (a ∷ locals) zero other after before = refl
set_kept (suc (suc k)) c (a ∷ locals) (suc j) other after before = set_kept (suc k) c locals j (λ z. other (ap suc z)) (λ w z. after w (ap suc z)) (λ z. before (ap suc z))

replaced_kept : (locals : List Cell) (k : ℕ) (c : Cell) (j : ℕ) → ((j ≡ k) → ⊥) → local_part (slice_set locals k c) j ≡ local_part locals j
replaced_kept [] k c j other = refl
replaced_kept (a ∷ locals) zero c zero other = absurd (other refl)
replaced_kept (a ∷ locals) zero c (suc j) other = refl
replaced_kept (a ∷ locals) (suc k) c zero other = refl
replaced_kept (a ∷ locals) (suc k) c (suc j) other = replaced_kept locals k c j (λ z. other (ap suc z))

not_equal : (j k : ℕ) → (j == k) ≡ false → (j ≡ k) → ⊥
not_equal j k e z = absurd (let y : true ≡ false = sym (eq-eqb j k z) ∙ e in cc)

not_both : (a b : Bool) → (a && b) ≡ false → a ≡ true → b ≡ false
not_both true b e t = e
not_both false b e t = absurd (cc)

store_kept : (s : Sort) (k : ℕ) (c : Cell) (locals : List Cell) (j : ℕ) → c.sort ≡ s → writes_local locals (act.Store s k) j ≡ false → local_part (set_local cell_sort unset k c locals) j ≡ local_part locals j
store_kept s k c locals j e w =
    let x = or_parts ((j == k) || (is_wide s && (j == suc k))) (holds_wide locals j && (suc j == k)) w in
    let y = or_parts (j == k) (is_wide s && (j == suc k)) x.0 in
    set_kept k c locals j (not_equal j k y.0)
    (λ t. not_equal j (suc k) (not_both (is_wide s) (j == suc k) y.1 (ap is_wide (sym e) ∙ t)))
    (λ t. elim (holds_wide locals j) as (λ b. (b && (suc j == k)) ≡ false → b ≡ false) [
      | true ↦ λ e. let z : true ≡ false = sym (eq-eqb (suc j) k t) ∙ e in absurd (cc)
      | false ↦ λ e. refl
    ] x.1)

-- ---- actions

-- the heap and each local is as before, where the action doesn't write it
record Leaves (a : Action) (h g : Held) : Type 0 where
  heap : writes_heap a ≡ false → g.heap ≡ h.heap
  locals : (j : ℕ) → writes_local h.locals a j ≡ false → local_part g.locals j ≡ local_part h.locals j

leaves_to : (a : Action) (h f g : Held) → Leaves a h f → f ≡ g → Leaves a h g
leaves_to a h f g x e = subst (λ (g : Held). Leaves a h g) e x

leaves_both : (a : Action) (h f g : Held) → f.heap ≡ h.heap → f.locals ≡ h.locals → f ≡ g → Leaves a h g
leaves_both a h f g x y e = leaves_to a h f g (record { heap = λ _. x; locals = λ j _. ap (λ (l : List Cell). local_part l j) y }) e

leaves_locals : (a : Action) (h f g : Held) → writes_heap a ≡ true → f.locals ≡ h.locals → f ≡ g → Leaves a h g
leaves_locals a h f g x y e = leaves_to a h f g (record { heap = λ z. absurd (let v = sym x ∙ z in cc); locals = λ j _. ap (λ (l : List Cell). local_part l j) y }) e

result_locals : (h : Held) (f : Sym) (cells : List Cell) (r : Option JType) → (with_result h f cells r).locals ≡ h.locals
result_locals h f cells None = refl
result_locals h f cells (Some t) = refl

sort_of_one : (c : Cell) (s : Sort) → map cell_sort (c ∷ []) ≡ s ∷ [] → c.sort ≡ s
sort_of_one c s e = cc

acted_leaves : (a : Action) (h g : Held) (cells : List Cell) → map cell_sort cells ≡ takes a → acted_on a h cells ≡ Some g → Leaves a h g
acted_leaves act.Nop h g cells t e = leaves_both act.Nop h _ g refl refl (some_of _ _ e)
acted_leaves (act.Push n) h g cells t e = leaves_both (act.Push n) h _ g refl refl (some_of _ _ e)
acted_leaves (act.Literal text) h g cells t e = leaves_both (act.Literal text) h _ g refl refl (some_of _ _ e)
acted_leaves (act.Load s k) h g cells t e = leaves_both (act.Load s k) h _ g refl refl (mapped (λ (c : Cell). push h s c.part) (local_cell h k s) g e).2
acted_leaves (act.Store s k) h g (c ∷ []) t e =
    leaves_to (act.Store s k) h _ g (record { heap = λ _. refl; locals = λ j w. store_kept s k c h.locals j (sort_of_one c s t) w })
    (if_some (has_room c.sort k h.locals) (record h { locals = set_local cell_sort unset k c h.locals }) g e).1
acted_leaves (act.Increase k by) h g cells t e =
    let q = mapped (λ (c : Cell). record h { locals = slice_set h.locals k (increased_cell by c) }) (local_cell h k sort.Int) g e in
    leaves_to (act.Increase k by) h _ g (record { heap = λ _. refl; locals = λ j w. replaced_kept h.locals k (increased_cell by q.0) j (not_equal j k w) }) q.2
acted_leaves (act.Move m) h g cells t e = leaves_both (act.Move m) h _ g refl refl (mapped (λ (stack : List Cell). record h { stack = stack }) (moved cell_sort m h.stack) g e).2
acted_leaves (act.Scalar o) h g cells t e = leaves_both (act.Scalar o) h _ g refl refl (some_of _ _ e)
acted_leaves (act.Divide o) h g cells t e = leaves_both (act.Divide o) h _ g refl refl (some_of _ _ e)
acted_leaves (act.Branch b target) h g cells t e = leaves_both (act.Branch b target) h _ g refl refl (some_of _ _ e)
acted_leaves (act.Jump target) h g cells t e = leaves_both (act.Jump target) h _ g refl refl (some_of _ _ e)
acted_leaves (act.Switch default cases) h g cells t e = leaves_both (act.Switch default cases) h _ g refl refl (some_of _ _ e)
acted_leaves (act.GetStatic u f) h g cells t e = leaves_both (act.GetStatic u f) h _ g refl refl (some_of _ _ e)
acted_leaves (act.PutStatic u f) h g cells t e = leaves_locals (act.PutStatic u f) h _ g refl refl (some_of _ _ e)
acted_leaves (act.GetField u f) h g cells t e = leaves_both (act.GetField u f) h _ g refl refl (some_of _ _ e)
acted_leaves (act.PutField u f) h g cells t e = leaves_locals (act.PutField u f) h _ g refl refl (some_of _ _ e)
acted_leaves (act.LoadElement k) h g cells t e = leaves_both (act.LoadElement k) h _ g refl refl (some_of _ _ e)
acted_leaves (act.StoreElement k) h g cells t e = leaves_locals (act.StoreElement k) h _ g refl refl (some_of _ _ e)
acted_leaves act.StoreRef h g cells t e = leaves_locals act.StoreRef h _ g refl refl (some_of _ _ e)
acted_leaves (act.Cast class) h g (o ∷ []) t e = leaves_both (act.Cast class) h _ g refl refl (some_of _ _ e)
acted_leaves (act.InstanceOf class) h g (o ∷ []) t e = leaves_both (act.InstanceOf class) h _ g refl refl (some_of _ _ e)
acted_leaves act.Length h g cells t e = leaves_both act.Length h _ g refl refl (some_of _ _ e)
acted_leaves (act.Call d f) h g cells t e = leaves_locals (act.Call d f) h _ g refl (result_locals h f cells d.result) (some_of _ _ e)
acted_leaves (act.CallOn d f) h g cells t e = leaves_locals (act.CallOn d f) h _ g refl (result_locals h f cells d.result) (some_of _ _ e)
acted_leaves a h g cells t e = absurd (cc)

-- ---- slots

-- the slots that a loop needn't carry: the heap, and locals
pub data Local : ℕ → Type 0 where
  heap : Local 3
  local : (k : ℕ) → Local (local_slot k)

at_local : (h : Held) (k : ℕ) → slots_of h (local_slot k) ≡ local_part h.locals k
at_local h k = turns_local (local_part h.locals) (stack_part h.stack) k

writes_at_local : (h : Held) (a : Action) (k : ℕ) → writes h a (local_slot k) ≡ writes_local h.locals a k
writes_at_local h a k = turns_local (writes_local h.locals a) (λ j. false) k

-- without its operands
pub popped_leaves : (h : Held) (stack : List Cell) (s : ℕ) → Local s → slots_of (record h { stack = stack }) s ≡ slots_of h s
popped_leaves h stack _ heap = refl
popped_leaves h stack _ (local k) = at_local (record h { stack = stack }) k ∙ sym (at_local h k)

leaves_slot : (a : Action) (h g : Held) (s : ℕ) → Local s → Leaves a h g → writes h a s ≡ false → slots_of g s ≡ slots_of h s
leaves_slot a h g _ heap x w = x.heap w
leaves_slot a h g _ (local k) x w = at_local g k ∙ x.locals k (sym (writes_at_local h a k) ∙ w) ∙ sym (at_local h k)

writes_popped : (h : Held) (stack : List Cell) (a : Action) (s : ℕ) → Local s → writes (record h { stack = stack }) a s ≡ writes h a s
writes_popped h stack a _ heap = refl
writes_popped h stack a _ (local k) = writes_at_local (record h { stack = stack }) a k ∙ sym (writes_at_local h a k)

-- an action leaves each of these slots as it is that it doesn't write
pub on_leaves : (a : Action) (h g : Held) (cells stack : List Cell) (s : ℕ) → Local s → popped cell_sort (takes a) h.stack ≡ Some (cells, stack) → acted_on a (record h { stack = stack }) cells ≡ Some g
    → writes h a s ≡ false → slots_of g s ≡ slots_of h s
on_leaves a h g cells stack s l p e w =
    leaves_slot a (record h { stack = stack }) g s l (acted_leaves a (record h { stack = stack }) g cells (popped_sorts cell_sort (takes a) h.stack (cells, stack) p) e) (writes_popped h stack a s l ∙ w)
    ∙ popped_leaves h stack s l

acted_keeps : (a : Action) (h g : Held) (s : ℕ) → Local s → acted a h ≡ Some g → writes h a s ≡ false → slots_of g s ≡ slots_of h s
acted_keeps a h g s l e w =
    let b = bound (popped cell_sort (takes a) h.stack) (λ x. acted_on a (record h { stack = x.1 }) x.0) g e in
    on_leaves a h g b.0.0 b.0.1 s l b.1 b.2 w

-- ---- blocks

-- the actions of a block but for the last leave a slot that the block doesn't write as it is, and the last one doesn't write it
pub along_keeps : (p : Program) (n k last : ℕ) (h g : Held) (a : Action) (s : ℕ) → Local s → last ≡ k + n → acted_along p n k h ≡ Some g → IsAt p last a → writes_along p (suc n) k h s ≡ false
    → (slots_of g s ≡ slots_of h s) × (writes g a s ≡ false)
along_keeps p zero k last h g a s l at e is w =
    let same : h ≡ g = some_of h g e in
    let here : IsAt p k a = subst (λ (i : ℕ). IsAt p i a) (let q : last ≡ k = omega arith in q) is in
    let first = or_parts (writes h a s) _ (subst (λ (o : Option Action). unwrap_or (option_map (λ a. writes h a s || unwrap_or (option_map (λ g. writes_along p zero (suc k) g s) (acted a h)) false) o) false ≡ false) here w) in
    (ap (λ (h : Held). slots_of h s) (sym same), subst (λ (h : Held). writes h a s ≡ false) same first.0)
along_keeps p (suc n) k last h g a s l at e is w =
    let x = bound (slice_get p.actions k) (λ a. acted a h >>= λ g. acted_along p n (suc k) g) g e in
    let y = bound (acted x.0 h) (λ g. acted_along p n (suc k) g) g x.2 in
    let both = or_parts (writes h x.0 s) (unwrap_or (option_map (λ g. writes_along p (suc n) (suc k) g s) (acted x.0 h)) false)
    (subst (λ (o : Option Action). unwrap_or (option_map (λ a. writes h a s || unwrap_or (option_map (λ g. writes_along p (suc n) (suc k) g s) (acted a h)) false) o) false ≡ false) x.1 w) in
    let rest = subst (λ (o : Option Held). unwrap_or (option_map (λ g. writes_along p (suc n) (suc k) g s) o) false ≡ false) y.1 both.1 in
    let q = along_keeps p n (suc k) last y.0 g a s l (omega arith) y.2 is rest in
    (q.0 ∙ acted_keeps x.0 h y.0 s l y.1 both.0, q.1)

-- ---- tokens

-- what acts on a token leaves a token
pub token_kept : (h : Held) (cells : List Cell) (q : Part) → TokenPart h.token → Kept h cells q → TokenPart q
token_kept h cells q t (inl e) = subst TokenPart (sym e) t
token_kept h cells q t (inr x) = subst TokenPart (sym x.1) (calls x.0 (call_parts h cells))

pub along_token : (p : Program) (n k : ℕ) (h g : Held) → TokenPart h.token → acted_along p n k h ≡ Some g → TokenPart g.token
along_token p zero k h g t e = subst (λ (h : Held). TokenPart h.token) (some_of h g e) t
along_token p (suc n) k h g t e =
    let x = bound (slice_get p.actions k) (λ a. acted a h >>= λ g. acted_along p n (suc k) g) g e in
    let y = bound (acted x.0 h) (λ g. acted_along p n (suc k) g) g x.2 in
    let z = bound (popped cell_sort (takes x.0) h.stack) (λ q. acted_on x.0 (record h { stack = q.1 }) q.0) y.0 y.1 in
    along_token p n (suc k) y.0 g (token_kept (record h { stack = z.0.1 }) z.0.0 y.0.token t (acted_token x.0 (record h { stack = z.0.1 }) y.0 z.0.0 z.2)) y.2
