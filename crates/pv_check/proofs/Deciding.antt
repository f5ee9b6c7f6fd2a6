-- Tests that are true exactly where something holds, put together.
use Rattle.std.specs.Prelude.{◌≡◌, ◌⊎◌, ℕ, ◌<◌, Bool, true, false, not, ◌&&◌, ◌||◌, nat_lt, Option, Some, None, ◌==◌, refl}
use Rattle.std.specs.Prelude.{Result, Ok, Err, OnOk, IfOk, IsTrue, ◌↔◌}
use Rattle.std.proofs.Common.{inl, inr, arith}
use Rattle.std.proofs.lemmas.Bool.Decides.{nat_tests}
use Rattle.pv_value.specs.Spelled.{bind}
use Rattle.std.specs.Bool.{Decides}

pub decides_map : {t : Bool} {A B : Type 0} → Decides t A → (A → B) → (B → A) → Decides t B
decides_map h f g = (λ e. f (h.0 e), λ b. h.1 (g b))

pub decides_true : {A : Type 0} → A → Decides true A
decides_true a = (λ e. a, λ x. refl)

pub decides_false : {A : Type 0} → (A → ⊥) → Decides false A
decides_false no' = (λ e. absurd (cc), λ x. absurd (no' x))

pub decides_and : {s t : Bool} {A B : Type 0} → Decides s A → Decides t B → Decides (s && t) (A × B)
decides_and {s = true} h k = (λ e. (h.0 refl, k.0 e), λ p. k.1 p.1)
decides_and {s = false} h k = (λ e. absurd (cc), λ p. absurd (let z = h.1 p.0 in cc))

pub decides_or : {s t : Bool} {A B : Type 0} → Decides s A → Decides t B → Decides (s || t) (A ⊎ B)
decides_or {s = true} h k = (λ e. inl (h.0 refl), λ p. refl)
decides_or {s = false} h k = (λ e. inr (k.0 e), λ p. elim p [ inl a ↦ absurd (let z = h.1 a in cc) | inr b ↦ k.1 b ])

pub decides_not : {t : Bool} {A : Type 0} → Decides t A → Decides (not t) (A → ⊥)
decides_not {t = true} h = (λ e. absurd (cc), λ n. absurd (n (h.0 refl)))
decides_not {t = false} h = (λ e a. absurd (let z = h.1 a in cc), λ n. refl)

pub decides_nat : (a b : ℕ) → Decides (a == b) (a ≡ b)
decides_nat a b = (λ e. grind (arith, nat_tests), λ e. grind (arith, nat_tests))

pub decides_less : (a b : ℕ) → Decides (nat_lt a b) (a < b)
decides_less a b = (λ e. grind (arith, nat_tests), λ e. grind (arith, nat_tests))

-- what is bound to something that there is
pub bind_some : {A B : Type 0} (o : Option A) (f : A → Option B) (y : B) → bind o f ≡ Some y → (x : A) × (o ≡ Some x) × (f x ≡ Some y)
bind_some None f y e = absurd (cc)
bind_some (Some x) f y e = (x, refl, e)

-- what follows from two facts of a success
pub on_ok_both : {A E : Type 0} (r : Result A E) (P Q R : Type 0) → OnOk r P → OnOk r Q → (P → Q → R) → OnOk r R
on_ok_both (Ok a) P Q R p q f = f p q
on_ok_both (Err e) P Q R p q f = tt

-- an answer of another question with the same answer
pub if_ok_map : {E : Type 0} (r : Result Bool E) (P Q : Type 0) → (P ↔ Q) → IfOk r (λ yes. IsTrue yes ↔ P) → IfOk r (λ yes. IsTrue yes ↔ Q)
if_ok_map (Ok b) P Q f h = (λ e. f.0 (h.0 e), λ q. h.1 (f.1 q))
if_ok_map (Err e) P Q f h = tt
