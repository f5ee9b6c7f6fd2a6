-- The words of facts and reasons.
use Rattle.std.specs.Prelude.{ℕ, ◌==◌, if◌then◌else◌, List, [], ◌∷◌, Option, Some, None, codes, refl}
use Rattle.std.specs.Option.{option_map}
use Rattle.std.specs.Str.{bytes_eq}
use Rattle.pv_steps.specs.declared.step.Fact.{Fact}
use Rattle.pv_steps.specs.declared.step.Reason.{Reason}
use Rattle.pv_steps.specs.declared.step.Reason.TheVariants.{Same, By, Pair}
use Rattle.pv_format.specs.Combinators.{whole_as, cut_pair}
use Rattle.pv_token.specs.Words.{Token}
use Rattle.pv_token.specs.Tokens.{u32_token}
use Rattle.pv_cert.specs.FactLaws.{point, no_point, point_word}

abbrev pub to_fact : ℕ × ℕ → Fact
to_fact p = record { step = p.0; place = p.1 }

abbrev pub of_fact : Fact → ℕ × ℕ
of_fact f = (f.step, f.place)

-- K.J
abbrev pub fact_token : Token Fact
fact_token = whole_as to_fact of_fact (λ f. refl) (λ p. refl) (cut_pair point u32_token u32_token no_point point_word)

abbrev pub spelled_reason : Reason → List ℕ
spelled_reason Same = codes "="
spelled_reason (By f) = fact_token.spells f
spelled_reason (Pair j) = 115 ∷ u32_token.spells j

-- a pair of the same step is a reason in a set alone
abbrev pub ReasonFits : Reason → Type 0
ReasonFits Same = Unit {0}
ReasonFits (By f) = fact_token.fits f
ReasonFits (Pair j) = ⊥

abbrev pub ReasonFitsInSet : Reason → Type 0
ReasonFitsInSet Same = Unit {0}
ReasonFitsInSet (By f) = fact_token.fits f
ReasonFitsInSet (Pair j) = u32_token.fits j

abbrev pub read_reason : List ℕ → Option Reason
read_reason word = if bytes_eq word (codes "=") then Some Same else option_map By (fact_token.reads word)

abbrev pub read_reason_in_set : List ℕ → Option Reason
read_reason_in_set [] = None
read_reason_in_set (b ∷ word) = if b == 115 then option_map Pair (u32_token.reads word) else read_reason (b ∷ word)
