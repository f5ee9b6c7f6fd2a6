use Rattle.std.proofs.Common.{◌≡◌, ℕ, vec_len}
use Rattle.pv_lemmas.specs.Asked.{IsAsked}
use Rattle.pv_lemmas.proofs.under.none_asked.Given as goal

abbrev pub invariant-loop : goal.invariant-loop
invariant-loop l = record { len : vec_len l.asked ≡ l.counter; none : (p n : ℕ) → IsAsked l.asked.items p n → ⊥ }
