-- The answer about a section is the one that there is.
use Rattle.std.proofs.Common.{◌≡◌, ◌↔◌, ℕ, List, Result, Ok, Err, refl, ap, subst}
use Rattle.std.specs.Prelude.{IfOk}
use Rattle.pv_value.specs.declared.memory.Memory.{Memory}
use Rattle.pv_steps.specs.declared.step.Step.{Step}
use Rattle.pv_steps.specs.Right.{Instances}
use Rattle.pv_steps.specs.Accepted.{Derives, Rejects}
use Rattle.pv_steps.proofs.Cited.{accepted_not_rejected, rejected_once}
use Rattle.pv_check.specs.declared.checker.Checked.{Checked}
use Rattle.pv_check.specs.declared.checker.Checked.TheVariants.{Accepted, Rejected}
use Rattle.pv_check.specs.Checking.{Claim, IsJudged}

accepts : (R : Instances) (q : Claim) (steps : List Step) (a : Checked) → IsJudged R q steps a → (a ≡ Accepted) ↔ Derives R q.graph q.first q.second steps
accepts R q steps Accepted h = (λ e. h, λ d. refl)
accepts R q steps (Rejected n) h = (λ e. absurd (cc e), λ d. absurd (accepted_not_rejected R q.graph q.first q.second steps n d h))

rejects : (R : Instances) (q : Claim) (steps : List Step) (a : Checked) → IsJudged R q steps a → (n : ℕ) → (a ≡ Rejected n) ↔ Rejects R q.graph q.first q.second steps n
rejects R q steps Accepted h n = (λ e. absurd (cc e), λ r. absurd (accepted_not_rejected R q.graph q.first q.second steps n h r))
rejects R q steps (Rejected m) h n = (λ e. let same : m ≡ n = cc e in subst (λ (k : ℕ). Rejects R q.graph q.first q.second steps k) same h, λ r. ap Rejected (rejected_once R q.graph q.first q.second steps m n h r))

pub accepts_all : (R : Instances) (q : Claim) (steps : List Step) (r : Result Checked Memory) → IfOk r (λ a. IsJudged R q steps a) → IfOk r (λ a. (a ≡ Accepted) ↔ Derives R q.graph q.first q.second steps)
accepts_all R q steps (Ok a) h = accepts R q steps a h
accepts_all R q steps (Err e) h = tt

pub rejects_all : (R : Instances) (q : Claim) (steps : List Step) (r : Result Checked Memory) → IfOk r (λ a. IsJudged R q steps a) → IfOk r (λ a. (n : ℕ) → (a ≡ Rejected n) ↔ Rejects R q.graph q.first q.second steps n)
rejects_all R q steps (Ok a) h = rejects R q steps a h
rejects_all R q steps (Err e) h = tt
