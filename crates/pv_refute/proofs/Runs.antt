-- What two runs on a try show, and what is found by the first of them.
use Rattle.std.proofs.Common.{◌≡◌, ◌↔◌, ℕ, ◌+◌, ◌<◌, ◌≤◌, Bool, true, false, refl, sym, ap, subst, ◌∙◌, arith}
use Rattle.std.specs.Prelude.{IsTrue, not}
use borrow.Author.Count.{below_more}
use Rattle.pv_value.specs.declared.outcome.Input.{Input}
use Rattle.pv_value.specs.declared.outcome.Outcome.{Outcome}
use Rattle.pv_value.specs.declared.world.World.{World}
use Rattle.pv_frame.specs.declared.program.Program.{Program}
use Rattle.pv_machine.specs.Machine.{ended}
use Rattle.pv_refute.specs.declared.refuting.Found.{Found}
use Rattle.pv_refute.specs.declared.refuting.Found.TheVariants.{Differs, Tried}
use Rattle.pv_refute.specs.Tries.{try_input, try_world}
use Rattle.pv_refute.specs.Differences.{Trial, EndsWithin, DifferWithin, DifferOn, IsFound}

-- ---- two runs

end_once : (p : Program) (w : World) (x : Input) (n : ℕ) (o q : Outcome) → EndsWithin n p w x o → EndsWithin n p w x q → o ≡ q
end_once p w x n o q e d = let both : ended o ≡ ended q = sym e ∙ d in cc both

-- where both have ended, they differ exactly where the outcomes do
pub both_end : (n : ℕ) (p q : Program) (w : World) (x : Input) (one two : Outcome) (same : Bool) → EndsWithin n p w x one → EndsWithin n q w x two → (IsTrue same ↔ (one ≡ two)) → IsTrue (not same) ↔ DifferWithin n p q w x
both_end n p q w x one two true e d is = (
  λ no. absurd (cc no),
  λ h. absurd (h.apart (end_once p w x n h.one one h.first_ends e ∙ is.0 refl ∙ end_once q w x n two h.two d h.second_ends)),
)
both_end n p q w x one two false e d is = (λ yes. record { one = one; two = two; first_ends = e; second_ends = d; apart = λ same. absurd (let yes = is.1 same in cc yes) }, λ h. refl)

-- ---- what is found

-- what runs in this world and on this input show is what the try shows
pub on_try : (q : Trial) (t : ℕ) (w : World) (x : Input) (b : Bool) → w ≡ try_world → x ≡ try_input q.desc t → (IsTrue b ↔ DifferWithin q.steps q.first q.second w x) → IsTrue b ↔ DifferOn q t
on_try q t w x b world input is =
    subst (λ (y : Input). IsTrue b ↔ DifferWithin q.steps q.first q.second try_world y) input (subst (λ (v : World). IsTrue b ↔ DifferWithin q.steps q.first q.second v x) world is)

-- none of the tries before t shows a difference
abbrev pub NoneBefore : Trial → ℕ → Type 0
NoneBefore q t = (s : ℕ) → s < t → 1 ≤ s → DifferOn q s → ⊥

pub none_yet : (q : Trial) → NoneBefore q 1
none_yet q s high low d = absurd (omega (arith, low, high))

pub none_here : (q : Trial) (t : ℕ) → NoneBefore q t → (DifferOn q t → ⊥) → NoneBefore q (t + 1)
none_here q t before here = below_more (λ (s : ℕ). 1 ≤ s → DifferOn q s → ⊥) t before (λ low. here)

pub first_found : (q : Trial) (t : ℕ) (x : Input) → 1 ≤ t → t ≤ q.tries → NoneBefore q t → DifferOn q t → x ≡ try_input q.desc t → IsFound q (Differs t x)
first_found q t x low high before differ is = (record { is_try = (low, high); differ = differ; least = λ s tried d. first s tried.0 d }, is)
  where
    first : (s : ℕ) → 1 ≤ s → DifferOn q s → t ≤ s
    first s low d = let no : s < t → ⊥ = λ lt. before s lt low d in omega (arith, no)

pub all_tried : (q : Trial) (end : ℕ) → q.tries < end → NoneBefore q end → IsFound q Tried
all_tried q end lt before t is d = before t (omega (arith, is.1, lt)) is.0 d

-- one thing is found
pub found_once : (q : Trial) (f g : Found) → IsFound q f → IsFound q g → f ≡ g
found_once q (Differs t x) (Differs s y) h k =
    let le : t ≤ s = h.0.least s k.0.is_try k.0.differ in
    let ge : s ≤ t = k.0.least t h.0.is_try h.0.differ in
    let one : t ≡ s = omega (arith, le, ge) in
    let same : x ≡ y = h.1 ∙ ap (try_input q.desc) one ∙ sym k.1 in
    cc (one, same)
found_once q (Differs t x) Tried h k = absurd (k t h.0.is_try h.0.differ)
found_once q Tried (Differs s y) h k = absurd (h s k.0.is_try k.0.differ)
found_once q Tried Tried h k = refl
