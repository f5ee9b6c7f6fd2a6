-- What the pieces of a section answer, put together by their numbers.
use Rattle.std.proofs.Common.{◌≡◌, ℕ, zero, suc, ◌+◌, ◌-◌, ◌<◌, ◌≤◌, List, length, Result, Ok, Err, reverse, sym, ap, subst, ◌∙◌, arith, take_all}
use Rattle.std.specs.Prelude.{Option, None, Some, IfOk, slice_index_or}
use Rattle.pv_value.specs.declared.memory.Memory.{Memory}
use Rattle.pv_steps.specs.declared.step.Step.{Step}
use Rattle.pv_steps.specs.Right.{Instances}
use Rattle.pv_steps.specs.Accepted.{AllRight, Derives, Rejects, first_steps}
use Rattle.pv_check.specs.declared.checker.Checked.{Checked}
use Rattle.pv_check.specs.declared.checker.Checked.TheVariants.{Accepted, Rejected}
use Rattle.pv_check.specs.Checking.{ArePieces, Claim, IsFirst, IsJudged, IsPiece, NoneBefore}

module _ (R : Instances) (q : Claim) (steps : List Step) (at : ℕ → ℕ) (parts : List (Result (Option ℕ) Memory)) (are : ArePieces R q steps at parts) where
  here : (n : ℕ) → n < length parts → (number : Option ℕ) → slice_index_or parts n (Ok None) ≡ Ok number → IsPiece R q steps (at n) (at (n + 1)) number
  here n low number e = subst (λ (p : Result (Option ℕ) Memory). IfOk p (λ x. IsPiece R q steps (at n) (at (n + 1)) x)) e (are.each n (Ok None) low)

  -- where the first n pieces have no number, the steps before the next piece are right
  right_before : (n : ℕ) → n ≤ length parts → NoneBefore parts n → AllRight R q.graph (first_steps (at n) steps)
  right_before zero le none = subst (λ (m : ℕ). AllRight R q.graph (first_steps m steps)) (sym are.first) tt
  right_before (suc n) le none =
      let next : n + 1 ≡ suc n = omega arith in
      let front = right_before n (omega (arith, le)) (λ k low. none k (omega (arith, low))) in
      subst (λ (m : ℕ). AllRight R q.graph (first_steps (at m) steps)) next (here n (omega (arith, le)) None (none n (omega arith)) front).0

  -- .. so the section is rejected with the first number
  first_piece : (n : ℕ) → n < length parts → NoneBefore parts n → (number : ℕ) → slice_index_or parts n (Ok None) ≡ Ok (Some number) → Rejects R q.graph q.first q.second steps number
  first_piece n low none number e = here n low (Some number) e (right_before n (omega (arith, low)) none)

  -- .. and accepted where no piece has one
  no_piece : NoneBefore parts (length parts) → Derives R q.graph q.first q.second steps
  no_piece none =
      let n = length parts - 1 in
      let some = are.some in
      let end : n + 1 ≡ length parts = omega (arith, some) in
      let last = here n (omega (arith, some)) None (none n (omega (arith, some))) (right_before n (omega (arith, some)) (λ k low. none k (omega (arith, low, some)))) in
      let whole : at (n + 1) ≡ length steps = ap at end ∙ are.last in (
        subst (λ (front : List Step). AllRight R q.graph (reverse front)) (take_all (at (n + 1)) steps (omega (arith, whole))) last.0,
        last.1 whole,
      )

  judged : (a : Checked) → IsFirst parts a → IsJudged R q steps a
  judged Accepted h = no_piece h
  judged (Rejected m) h = first_piece h.0 h.1 h.2 m h.3

  pub judged_all : (r : Result Checked Memory) → IfOk r (λ a. IsFirst parts a) → IfOk r (λ a. IsJudged R q steps a)
  judged_all (Ok a) h = judged a h
  judged_all (Err e) h = tt
