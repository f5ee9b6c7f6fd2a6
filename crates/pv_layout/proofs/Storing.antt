-- Which locals a store writes, and which hold a value of category 2 after it.
use Rattle.std.proofs.Common.{◌≡◌, ℕ, zero, suc, ◌<◌, Bool, true, false, List, [], ◌∷◌, length, refl, sym, ap, ◌∙◌, arith, if◌then◌else◌}
use Rattle.pv_layout.proofs.Words.{◌||◌, ◌&&◌, ◌==◌, not, slice_set, eqb-true, eqb-false, eq-eqb, and_parts, and_from, and_right, is_wide, first_cleared, set_local, cell_sort, unset, holds_wide}
use Rattle.pv_runs.specs.Held.{Cell}

-- ---- by the place of a local

-- local k gets a value, of category 2 or not; of the others the next one is lost to it, or its own value; f says which hold one of category 2
-- before it, and g after it
pub record Changes (f g : ℕ → Bool) (k : ℕ) (two : Bool) (j : ℕ) : Type 0 where
  pub here : j ≡ k → g j ≡ two
  pub next : two ≡ true → j ≡ suc k → g j ≡ false
  pub before : suc j ≡ k → g j ≡ false
  pub apart : ((j ≡ k) → ⊥) → (two ≡ true → (j ≡ suc k) → ⊥) → ((suc j ≡ k) → ⊥) → g j ≡ f j

abbrev Changed : (ℕ → Bool) → (ℕ → Bool) → ℕ → Bool → ℕ → Bool → Bool → Bool → Type 0
Changed f g k two j here next before = g j ≡ (if here then two else (f j && not (here || (two && next) || (f j && before))))

pub changed : (f g : ℕ → Bool) (k : ℕ) (two : Bool) (j : ℕ) → Changes f g k two j → g j ≡ (if j == k then two else (f j && not ((j == k) || (two && (j == suc k)) || (f j && (suc j == k)))))
changed f g k two j c = elim (j == k) as (λ b. (j == k) ≡ b → Changed f g k two j b (j == suc k) (suc j == k)) [
  | true ↦ λ e. c.here (eqb-true j k e)
  | false ↦ λ e. others (eqb-false j k e) (two && (j == suc k)) refl
] refl
  where
    last : ((j ≡ k) → ⊥) → (two ≡ true → (j ≡ suc k) → ⊥) → (v t : Bool) → f j ≡ v → (suc j == k) ≡ t → g j ≡ (v && not (v && t))
    last away after false true e t = c.before (eqb-true (suc j) k t)
    last away after true true e t = c.before (eqb-true (suc j) k t)
    last away after false false e t = c.apart away after (eqb-false (suc j) k t) ∙ e
    last away after true false e t = c.apart away after (eqb-false (suc j) k t) ∙ e

    others : ((j ≡ k) → ⊥) → (b : Bool) → (two && (j == suc k)) ≡ b → g j ≡ (f j && not ((false || b) || (f j && (suc j == k))))
    others away true e = let both = and_parts two (j == suc k) e in c.next both.0 (eqb-true j (suc k) both.1) ∙ sym (and_right (f j) false refl)
    others away false e = last away (λ t z. absurd (let y : true ≡ false = sym (and_from two (j == suc k) t (eq-eqb j (suc k) z)) ∙ e in cc)) (f j) (suc j == k) refl refl

-- ---- the cells

own : (k : ℕ) (c : Cell) (locals : List Cell) → k < length locals → holds_wide (set_local cell_sort unset k c locals) k ≡ is_wide c.sort
own k c [] low = absurd (omega arith)
own zero c (a ∷ locals) low = refl
own (suc zero) c (a ∷ locals) low = own zero c locals (omega arith)
own (suc (suc k)) c (a ∷ locals) low = own (suc k) c locals (omega arith)

taken : (k : ℕ) (c : Cell) (locals : List Cell) → is_wide c.sort ≡ true → holds_wide (set_local cell_sort unset k c locals) (suc k) ≡ false
taken k c [] e = refl
taken zero c (a ∷ locals) e = ap (λ (b : Bool). holds_wide (if b then first_cleared unset locals else locals) zero) e ∙ cleared locals
  where
    cleared : (locals : List Cell) → holds_wide (first_cleared unset locals) zero ≡ false
    cleared [] = refl
    cleared (b ∷ locals) = refl
taken (suc zero) c (a ∷ locals) e = taken zero c locals e
taken (suc (suc k)) c (a ∷ locals) e = taken (suc k) c locals e

lost : (j : ℕ) (c : Cell) (locals : List Cell) → holds_wide (set_local cell_sort unset (suc j) c locals) j ≡ false
lost j c [] = refl
lost zero c (a ∷ locals) = elim (is_wide a.sort) as (λ b. is_wide a.sort ≡ b → is_wide (if b then unset else a).sort ≡ false) [ true ↦ λ e. refl | false ↦ λ e. e ] refl
lost (suc j) c (a ∷ locals) = lost j c locals

kept : (k : ℕ) (c : Cell) (locals : List Cell) (j : ℕ) → ((j ≡ k) → ⊥) → (is_wide c.sort ≡ true → (j ≡ suc k) → ⊥) → ((suc j ≡ k) → ⊥) → holds_wide (set_local cell_sort unset k c locals) j ≡ holds_wide locals j
kept k c [] j other after before = refl
kept zero c (a ∷ locals) zero other after before = absurd (other refl)
kept zero c (a ∷ locals) (suc j) other after before =
    elim (is_wide c.sort) as (λ b. is_wide c.sort ≡ b → holds_wide (if b then first_cleared unset locals else locals) j ≡ holds_wide locals j) [
      | true ↦ λ e. cleared locals j (λ z. after e (ap suc z))
      | false ↦ λ e. refl
    ] refl
  where
    cleared : (locals : List Cell) (j : ℕ) → ((j ≡ 0) → ⊥) → holds_wide (first_cleared unset locals) j ≡ holds_wide locals j
    cleared [] j h = refl
    cleared (b ∷ locals) zero h = absurd (h refl)
    cleared (b ∷ locals) (suc j) h = refl
kept (suc zero) c (a ∷ locals) zero other after before = absurd (before refl)
kept (suc zero) c (a ∷ locals) (suc j) other after before = kept zero c locals j (λ z. other (ap suc z)) (λ w z. after w (ap suc z)) (λ z. absurd (omega arith))
kept (suc (suc k)) c (a ∷ locals) zero other after before = refl
kept (suc (suc k)) c (a ∷ locals) (suc j) other after before = kept (suc k) c locals j (λ z. other (ap suc z)) (λ w z. after w (ap suc z)) (λ z. before (ap suc z))

pub store_changes : (k : ℕ) (c : Cell) (locals : List Cell) (j : ℕ) → k < length locals → Changes (holds_wide locals) (holds_wide (set_local cell_sort unset k c locals)) k (is_wide c.sort) j
store_changes k c locals j low = record {
  here = λ e. ap (holds_wide (set_local cell_sort unset k c locals)) e ∙ own k c locals low;
  next = λ w e. ap (holds_wide (set_local cell_sort unset k c locals)) e ∙ taken k c locals w;
  before = λ e. ap (λ (k : ℕ). holds_wide (set_local cell_sort unset k c locals) j) (sym e) ∙ lost j c locals;
  apart = kept k c locals j;
}

-- a cell in the place of another
pub replaced : (locals : List Cell) (k : ℕ) (c : Cell) → k < length locals → holds_wide (slice_set locals k c) k ≡ is_wide c.sort
replaced [] k c low = absurd (omega arith)
replaced (a ∷ locals) zero c low = refl
replaced (a ∷ locals) (suc k) c low = replaced locals k c (omega arith)

pub not_replaced : (locals : List Cell) (k : ℕ) (c : Cell) (j : ℕ) → ((j ≡ k) → ⊥) → holds_wide (slice_set locals k c) j ≡ holds_wide locals j
not_replaced [] k c j other = refl
not_replaced (a ∷ locals) zero c zero other = absurd (other refl)
not_replaced (a ∷ locals) zero c (suc j) other = refl
not_replaced (a ∷ locals) (suc k) c zero other = refl
not_replaced (a ∷ locals) (suc k) c (suc j) other = not_replaced locals k c j (λ z. other (ap suc z))
