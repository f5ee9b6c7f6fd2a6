-- The lines of a certificate, apart from its header.
use Rattle.std.specs.Prelude.{ℕ, List, codes, refl}
use Rattle.pv_steps.specs.declared.step.Var.{Var}
use Rattle.pv_steps.specs.declared.step.Step.{Step}
use Rattle.pv_format.specs.Formats.{Format}
use Rattle.pv_format.proofs.Cited.{cons_some}
use Rattle.pv_format.proofs.Cited.{choice_some}
use Rattle.pv_format.specs.Combinators.{one, follow, exactly, each, some, constant, whole_as}
use Rattle.pv_token.specs.Words.{IsWord, Sentence, NoFeed}
use Rattle.pv_token.specs.Lines.{line}
use Rattle.pv_cert.specs.Parameters.{number, text}
use Rattle.pv_cert.specs.Variables.{var_token}
use Rattle.pv_cert.specs.StepLines.{step_cases, step_sentence}

-- the line of a step
abbrev pub step_text : Format NoFeed Step
step_text = line step_sentence (choice_some step_cases)

abbrev pub step_line : Step → List ℕ
step_line s = step_text.spells s

-- a word, and then others
abbrev pub begun : {A : Type 0} (word : List ℕ) → IsWord word → Sentence A → Sentence A
begun word is words = whole_as (λ p. p.1) (λ a. (tt, a)) (λ a. refl) (λ p. refl) (follow (one (constant word is)) words)

-- NAME DESC
abbrev pub two_texts : Sentence (List ℕ × List ℕ)
two_texts = follow text (exactly text)

-- method NAME DESC
abbrev pub title_words : Sentence (List ℕ × List ℕ)
title_words = begun (codes "method") refl two_texts

-- the line that a section begins with
abbrev pub title_text : Format NoFeed (List ℕ × List ℕ)
title_text = line title_words (λ title. cons_some (codes "method") (two_texts.spells title))

abbrev pub title_line : List ℕ × List ℕ → List ℕ
title_line title = title_text.spells title

-- the line after the last step of a section
abbrev pub end_line : List ℕ
end_line = codes "end"

-- N SORTS
abbrev pub variables : Sentence (ℕ × List Var)
variables = follow number (some (each var_token))

-- lemma N SORTS
abbrev pub lemma_words : Sentence (ℕ × List Var)
lemma_words = begun (codes "lemma") refl variables

-- the line that a lemma begins with
abbrev pub lemma_text : Format NoFeed (ℕ × List Var)
lemma_text = line lemma_words (λ head. cons_some (codes "lemma") (variables.spells head))

abbrev pub lemma_line : ℕ × List Var → List ℕ
lemma_line head = lemma_text.spells head

-- A B
abbrev pub two_nodes : Sentence (ℕ × ℕ)
two_nodes = follow number (exactly number)

-- prove A B
abbrev pub prove_words : Sentence (ℕ × ℕ)
prove_words = begun (codes "prove") refl two_nodes

-- the line after the last step of a lemma
abbrev pub prove_text : Format NoFeed (ℕ × ℕ)
prove_text = line prove_words (λ sides. cons_some (codes "prove") (two_nodes.spells sides))

abbrev pub prove_line : ℕ × ℕ → List ℕ
prove_line sides = prove_text.spells sides
