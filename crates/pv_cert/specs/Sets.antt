-- The words of sets: congruences with semicolons between them.
use Rattle.std.specs.Prelude.{ℕ, List, refl}
use Rattle.pv_steps.specs.declared.step.Reason.{Reason}
use Rattle.pv_steps.specs.declared.step.Congruence.{Congruence}
use Rattle.pv_format.specs.Combinators.{follow, each, whole_as}
use Rattle.pv_token.specs.Words.{Token, Sentence}
use Rattle.pv_cert.specs.Parameters.{number}
use Rattle.pv_cert.specs.Reasons.{spelled_reason, ReasonFits, ReasonFitsInSet, read_reason, read_reason_in_set}
use Rattle.pv_cert.specs.ReasonLaws

-- = or K.J
abbrev pub reason_token : Token Reason
reason_token = record { fits = ReasonFits; spells = spelled_reason; reads = read_reason; again = ReasonLaws.reason_again; back = ReasonLaws.reason_back; proper = ReasonLaws.reason_word }

-- = or K.J or sJ
abbrev pub set_reason_token : Token Reason
set_reason_token = record { fits = ReasonFitsInSet; spells = spelled_reason; reads = read_reason_in_set; again = ReasonLaws.in_set_again; back = ReasonLaws.in_set_back; proper = ReasonLaws.in_set_word }

abbrev pub to_congruence : ℕ × (ℕ × List Reason) → Congruence
to_congruence p = record { left = p.0; right = p.1.0; reasons = p.1.1 }

abbrev pub of_congruence : Congruence → ℕ × (ℕ × List Reason)
of_congruence c = (c.left, (c.right, c.reasons))

-- P Q REASONS
abbrev pub congruence : Sentence Congruence
congruence = whole_as to_congruence of_congruence (λ c. refl) (λ p. refl) (follow number (follow number (each set_reason_token)))
