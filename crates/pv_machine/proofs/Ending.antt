-- A method that has ended stays so.
use Rattle.std.proofs.Common.{◌≡◌, ℕ, suc, ◌+◌, ◌-◌, ◌<◌, ◌∙◌, ap, subst, arith}
use Rattle.pv_machine.proofs.Words.{World, Outcome, Program, State, Now, running, ended, step, go_on, after}
use Rattle.pv_machine.proofs.Typing.{after_more, ended_later}

-- the step after these leads there
pub steps_on : (p : Program) (w : World) (s t : State) (n : ℕ) (now : Now) → after p w s n ≡ running t → step p w t ≡ now → after p w s (n + 1) ≡ now
steps_on p w s t n now e next =
    let one : suc n ≡ n + 1 = omega arith in
    subst (λ (m : ℕ). after p w s m ≡ now) one (after_more p w s n ∙ ap (go_on p w) e ∙ next)

-- a method that ends with the next step has ended so after more steps
pub ends_within : (p : Program) (w : World) (s t : State) (n steps : ℕ) (o : Outcome) → n < steps → after p w s n ≡ running t → step p w t ≡ ended o → after p w s steps ≡ ended o
ends_within p w s t n steps o lt e next =
    let all : steps - (n + 1) + (n + 1) ≡ steps = omega arith in
    subst (λ (m : ℕ). after p w s m ≡ ended o) all (ended_later p w s (n + 1) (steps - (n + 1)) o (steps_on p w s t n (ended o) e next))
