-- What a step owes to have a spelling, beyond numbers, constants and texts in the ranges of their types.
use Rattle.std.specs.Prelude.{◌≡◌, ◌≢◌, ℕ, false, List, []}
use Rattle.pv_graph.specs.Ops.{is_variable}
use Rattle.pv_graph.specs.Walks.{In}
use Rattle.pv_token.specs.Tokens.{u32_token}
use Rattle.pv_steps.specs.declared.step.Fact.{Fact}
use Rattle.pv_steps.specs.declared.step.Reason.{Reason}
use Rattle.pv_steps.specs.declared.step.Reason.TheVariants.{Pair}
use Rattle.pv_steps.specs.declared.step.Step.{Step}
use Rattle.pv_steps.specs.declared.step.Step.TheVariants as steps
use Rattle.pv_steps.specs.declared.step.Step.TheVariants.{Set, Open, Close, Finish}
use Rattle.pv_cert.specs.Reasons.{fact_token}

-- a pair of the same step is a reason in a set alone
abbrev pub IsNoPair : Reason → Type 0
IsNoPair (Pair j) = ⊥
IsNoPair why = Unit {0}

-- a list of the step that must have a member has one, a node is no variable, and a finish rests on no pair
abbrev pub HasMembers : Step → Type 0
HasMembers (steps.Node n o kids) = is_variable o ≡ false
HasMembers (Set cs) = cs ≢ []
HasMembers (Open d ps) = ps ≢ []
HasMembers (Close d fs) = fs ≢ []
HasMembers (Finish p q t f r h) = IsNoPair t × IsNoPair f × IsNoPair r × IsNoPair h
HasMembers s = Unit {0}

abbrev pub HaveMembers : List Step → Type 0
HaveMembers steps = (s : Step) → In steps s → HasMembers s

-- two numbers that have a spelling
abbrev pub PairFits : ℕ × ℕ → Type 0
PairFits p = u32_token.fits p.0 × u32_token.fits p.1

-- two facts that have one
abbrev pub FactPairFits : Fact × Fact → Type 0
FactPairFits p = fact_token.fits p.0 × fact_token.fits p.1
