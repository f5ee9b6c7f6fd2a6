-- The words of a step: the first word of its row, and the words that the row says.
use Rattle.std.specs.Prelude.{◌≡◌, ℕ, List, ◌∷◌, codes, Option, refl}
use Rattle.std.specs.Option.{option_map}
use Rattle.pv_graph.specs.declared.node.Op.{Op}
use Rattle.pv_steps.specs.declared.step.Fact.{Fact}
use Rattle.pv_steps.specs.declared.step.Reason.{Reason}
use Rattle.pv_steps.specs.declared.step.Congruence.{Congruence}
use Rattle.pv_steps.specs.declared.step.Step.{Step}
use Rattle.pv_steps.specs.declared.step.Step.TheVariants as steps
use Rattle.pv_format.specs.Cases.{AreCases}
use Rattle.pv_format.specs.Combinators.{one, pair, follow, exactly, each, each_pair, some, within, parts, also}
use Rattle.pv_format.specs.Choices.{Case, whole_choice}
use Rattle.pv_token.specs.Words.{Sentence}
use Rattle.pv_token.specs.Tokens.{u32_token}
use Rattle.pv_cert.specs.declared.table.Row.{Row}
use Rattle.pv_cert.specs.declared.table.Row.TheVariants as row
use Rattle.pv_cert.specs.Names.{row_name, row_token}
use Rattle.pv_cert.specs.Parameters.{number}
use Rattle.pv_cert.specs.Operations.{op_phrase}
use Rattle.pv_cert.specs.Reasons.{fact_token}
use Rattle.pv_cert.specs.Sets.{reason_token, congruence}
use Rattle.pv_cert.specs.SetLaws.{semicolon, AreApart}
use Rattle.pv_cert.specs.SetLaws

-- N OP KIDS
abbrev pub node_words : Sentence (ℕ × (Op × List ℕ))
node_words = follow number (follow op_phrase (each u32_token))

-- A a b NODES; L a b NODES
abbrev pub axiom_words : Sentence (ℕ × (ℕ × (ℕ × List ℕ)))
axiom_words = follow number (follow number (follow number (each u32_token)))

-- a b F
abbrev pub flip_words : Sentence (ℕ × (ℕ × Fact))
flip_words = follow number (follow number (exactly (one fact_token)))

-- a b F G
abbrev pub chain_words : Sentence (ℕ × (ℕ × (Fact × Fact)))
chain_words = follow number (follow number (exactly (pair (one fact_token) (one fact_token))))

-- P Q REASONS ; P Q REASONS
abbrev pub set_words : Sentence (List Congruence)
set_words = within (parts semicolon) (also AreApart (some (each congruence)) SetLaws.apart) (λ parts are. are.0) SetLaws.words

-- D X Y X Y
abbrev pub open_words : Sentence (ℕ × List (ℕ × ℕ))
open_words = follow number (some (each_pair u32_token))

-- D F G F G
abbrev pub close_words : Sentence (ℕ × List (Fact × Fact))
close_words = follow number (some (each_pair fact_token))

-- P NODES
abbrev pub assume_words : Sentence (ℕ × List ℕ)
assume_words = follow number (each u32_token)

-- P Q T F R H
abbrev pub finish_words : Sentence (ℕ × (ℕ × ((Reason × Reason) × (Reason × Reason))))
finish_words = follow number (follow number (exactly (pair (pair (one reason_token) (one reason_token)) (pair (one reason_token) (one reason_token)))))

abbrev pub step_words : Step → List (List ℕ)
step_words (steps.Node n o kids) = codes "node" ∷ node_words.spells (n, (o, kids))
step_words (steps.Axiom number a b nodes) = codes "axiom" ∷ axiom_words.spells (number, (a, (b, nodes)))
step_words (steps.Use number a b nodes) = codes "use" ∷ axiom_words.spells (number, (a, (b, nodes)))
step_words (steps.Flip a b f) = codes "flip" ∷ flip_words.spells (a, (b, f))
step_words (steps.Chain a b f g) = codes "chain" ∷ chain_words.spells (a, (b, (f, g)))
step_words (steps.Set pairs) = codes "set" ∷ set_words.spells pairs
step_words (steps.Open d pairs) = codes "open" ∷ open_words.spells (d, pairs)
step_words (steps.Close d facts) = codes "close" ∷ close_words.spells (d, facts)
step_words (steps.Assume p nodes) = codes "assume" ∷ assume_words.spells (p, nodes)
step_words (steps.Finish p q t f r h) = codes "finish" ∷ finish_words.spells (p, (q, ((t, f), (r, h))))

-- a step has a spelling where its numbers and texts do, and where each list that has at least one member has one
abbrev pub StepFits : Step → Type 0
StepFits (steps.Node n o kids) = node_words.fits (n, (o, kids))
StepFits (steps.Axiom number a b nodes) = axiom_words.fits (number, (a, (b, nodes)))
StepFits (steps.Use number a b nodes) = axiom_words.fits (number, (a, (b, nodes)))
StepFits (steps.Flip a b f) = flip_words.fits (a, (b, f))
StepFits (steps.Chain a b f g) = chain_words.fits (a, (b, (f, g)))
StepFits (steps.Set pairs) = set_words.fits pairs
StepFits (steps.Open d pairs) = open_words.fits (d, pairs)
StepFits (steps.Close d facts) = close_words.fits (d, facts)
StepFits (steps.Assume p nodes) = assume_words.fits (p, nodes)
StepFits (steps.Finish p q t f r h) = finish_words.fits (p, (q, ((t, f), (r, h))))

-- ---- how they are read

abbrev with : {X : Type 0} → (X → Step) → Sentence X → Case Sentence Step
with {X} make words = record { Held = X; make = make; words = words }

-- the words after the first
abbrev pub step_case : Row → Case Sentence Step
step_case row.Node = with (λ p. steps.Node p.0 p.1.0 p.1.1) node_words
step_case row.Axiom = with (λ p. steps.Axiom p.0 p.1.0 p.1.1.0 p.1.1.1) axiom_words
step_case row.Use = with (λ p. steps.Use p.0 p.1.0 p.1.1.0 p.1.1.1) axiom_words
step_case row.Flip = with (λ p. steps.Flip p.0 p.1.0 p.1.1) flip_words
step_case row.Chain = with (λ p. steps.Chain p.0 p.1.0 p.1.1.0 p.1.1.1) chain_words
step_case row.Set = with steps.Set set_words
step_case row.Open = with (λ p. steps.Open p.0 p.1) open_words
step_case row.Close = with (λ p. steps.Close p.0 p.1) close_words
step_case row.Assume = with (λ p. steps.Assume p.0 p.1) assume_words
step_case row.Finish = with (λ p. steps.Finish p.0 p.1.0 p.1.1.0.0 p.1.1.0.1 p.1.1.1.0 p.1.1.1.1) finish_words

each_step : (s : Step) → (r : Row) × (x : (step_case r).Held) × ((step_case r).make x ≡ s)
each_step (steps.Node n o kids) = (row.Node, (n, (o, kids)), refl)
each_step (steps.Axiom number a b nodes) = (row.Axiom, (number, (a, (b, nodes))), refl)
each_step (steps.Use number a b nodes) = (row.Use, (number, (a, (b, nodes))), refl)
each_step (steps.Flip a b f) = (row.Flip, (a, (b, f)), refl)
each_step (steps.Chain a b f g) = (row.Chain, (a, (b, (f, g))), refl)
each_step (steps.Set pairs) = (row.Set, pairs, refl)
each_step (steps.Open d pairs) = (row.Open, (d, pairs), refl)
each_step (steps.Close d facts) = (row.Close, (d, facts), refl)
each_step (steps.Assume p nodes) = (row.Assume, (p, nodes), refl)
each_step (steps.Finish p q t f r h) = (row.Finish, (p, (q, ((t, f), (r, h)))), refl)

step_spelled : (r : Row) (x : (step_case r).Held) → step_words ((step_case r).make x) ≡ row_name r ∷ (step_case r).words.spells x
step_spelled row.Node x = refl
step_spelled _ x = refl

step_fits : (r : Row) (x : (step_case r).Held) → StepFits ((step_case r).make x) → (step_case r).words.fits x
step_fits row.Node x fits = fits
step_fits _ x fits = fits

step_fitted : (r : Row) (x : (step_case r).Held) → (step_case r).words.fits x → StepFits ((step_case r).make x)
step_fitted row.Node x fits = fits
step_fitted _ x fits = fits

pub step_cases : AreCases row_token.fits row_token.spells (λ r. (step_case r).Held) (λ r. (step_case r).make) (λ r. (step_case r).words.fits) (λ r. (step_case r).words.spells) StepFits step_words
step_cases = record { each = each_step; known = λ r. tt; spelled = step_spelled; fitting = step_fits; fitted = step_fitted }

abbrev pub step_sentence : Sentence Step
step_sentence = whole_choice row_token step_case StepFits step_words step_cases

-- the step whose words after the first these are
abbrev pub row_words : Row → List (List ℕ) → Option Step
row_words row.Node words = option_map (step_case row.Node).make (node_words.reads words)
row_words r words = option_map (step_case r).make ((step_case r).words.reads words)

pub row_words_are : (r : Row) (words : List (List ℕ)) → row_words r words ≡ option_map (step_case r).make ((step_case r).words.reads words)
row_words_are row.Node words = refl
row_words_are _ words = refl
