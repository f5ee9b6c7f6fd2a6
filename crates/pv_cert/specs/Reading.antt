-- The lemmas and sections of a certificate, and how their lines are read one after the other.
use Rattle.std.specs.Prelude.{◌≡◌, ℕ, suc, ◌+◌, Bool, true, false, List, [], ◌∷◌, ◌++◌, map, length, Option, Some, None, Result, Ok, Err, ◌==◌, if◌then◌else◌}
use Rattle.std.specs.Option.{option_map, option_and_then, option_or}
use Rattle.std.specs.List.{flat_map, AllByRecursion}
use Rattle.std.specs.Str.{bytes_eq}
use Rattle.pv_steps.specs.declared.step.Var.{Var}
use Rattle.pv_steps.specs.declared.step.Lemma.{Lemma}
use Rattle.pv_steps.specs.declared.step.Step.{Step}
use Rattle.pv_steps.specs.declared.step.Step.TheVariants as steps
use Rattle.pv_cert.specs.declared.cert.Version.{Version}
use Rattle.pv_cert.specs.declared.cert.Version.TheVariants.{One, Two}
use Rattle.pv_cert.specs.declared.cert.Section.{Section}
use Rattle.pv_cert.specs.declared.cert.Body.{Body}
use Rattle.pv_cert.specs.declared.cert.CertFault.{CertFault}
use Rattle.pv_cert.specs.declared.cert.CertFault.TheVariants as fault
use Rattle.pv_cert.specs.StepLines.{StepFits}
use Rattle.pv_cert.specs.Lines.{title_text, title_line, step_text, step_line, end_line, lemma_text, lemma_line, prove_text, prove_line}

-- ---- its lines

-- the variables, a line for each step, and the two sides
abbrev pub lemma_lines : ℕ → Lemma → List (List ℕ)
lemma_lines n l = lemma_line (n, l.vars) ∷ (map step_line l.steps ++ prove_line (l.left, l.right) ∷ [])

-- lemmas, of which the first has this number
abbrev pub lemmas_lines : ℕ → List Lemma → List (List ℕ)
lemmas_lines n [] = []
lemmas_lines n (l ∷ lemmas) = lemma_lines n l ++ lemmas_lines (suc n) lemmas

-- a title, a line for each step, and the end
abbrev pub section_lines : Section → List (List ℕ)
section_lines s = title_line (s.name, s.desc) ∷ (map step_line s.steps ++ end_line ∷ [])

abbrev pub body_lines : Body → List (List ℕ)
body_lines b = lemmas_lines 1 b.lemmas ++ flat_map section_lines b.sections

-- ---- what has a spelling

-- the steps of a lemma: none of a block
abbrev pub is_outside_blocks : Step → Bool
is_outside_blocks (steps.Open d pairs) = false
is_outside_blocks (steps.Close d facts) = false
is_outside_blocks (steps.Assume p nodes) = false
is_outside_blocks (steps.Finish p q t f r h) = false
is_outside_blocks s = true

-- the steps of a section: all but for uses of lemmas in version 1
abbrev pub in_section : Version → Step → Bool
in_section One (steps.Use number a b nodes) = false
in_section v s = true

pub record LemmaFits (n : ℕ) (l : Lemma) : Type 0 where
  pub begins : lemma_text.fits (n, l.vars)
  pub steps : AllByRecursion StepFits l.steps
  pub may : AllByRecursion (λ s. is_outside_blocks s ≡ true) l.steps
  pub ends : prove_text.fits (l.left, l.right)

abbrev pub LemmasFit : ℕ → List Lemma → Type 0
LemmasFit n [] = Unit {0}
LemmasFit n (l ∷ lemmas) = LemmaFits n l × LemmasFit (suc n) lemmas

pub record SectionFits (s : Section) : Type 0 where
  pub title : title_text.fits (s.name, s.desc)
  pub steps : AllByRecursion StepFits s.steps

abbrev pub MayBeIn : Version → Section → Type 0
MayBeIn v s = AllByRecursion (λ step. in_section v step ≡ true) s.steps

-- version 1 has no lemmas
abbrev pub MayHave : Version → List Lemma → Type 0
MayHave One lemmas = lemmas ≡ []
MayHave Two lemmas = Unit {0}

pub record BodyFits (v : Version) (b : Body) : Type 0 where
  pub lemmas_ : LemmasFit 1 b.lemmas
  pub sections_ : AllByRecursion SectionFits b.sections
  pub may_have : MayHave v b.lemmas
  pub may : AllByRecursion (MayBeIn v) b.sections

-- ---- how they are read

-- where a line stands: after some lemmas and sections, or in a lemma or a section after some of its steps
pub data Place : Type 0 where
  between : List Lemma → List Section → Place
  proving : List Lemma → List Var → List Step → Place
  inside : List Lemma → List Section → List ℕ × List ℕ → List Step → Place

abbrev pub section_of : List ℕ × List ℕ → List Step → Section
section_of title steps = record { name = title.0; desc = title.1; steps = steps }

abbrev pub lemma_of : List Var → List Step → ℕ × ℕ → Lemma
lemma_of vars steps sides = record { vars = vars; steps = steps; left = sides.0; right = sides.1 }

-- the value, if the test says so
abbrev pub only_if : {A : Type 0} → (A → Bool) → A → Option A
only_if test a = if test a then Some a else None

-- a lemma stands before all sections, and has the next number
abbrev pub begun_lemma : Version → List Lemma → List Section → List ℕ → Option Place
begun_lemma Two lemmas [] line =
    option_map (λ head. proving lemmas head.1 []) (option_and_then (only_if (λ head. head.0 == suc (length lemmas))) (lemma_text.reads line))
begun_lemma v lemmas sections line = None

-- the place after a line, if the line may stand there
abbrev pub next : Version → Place → List ℕ → Option Place
next v (between lemmas sections) line = option_or (option_map (λ title. inside lemmas sections title []) (title_text.reads line)) (begun_lemma v lemmas sections line)
next v (proving lemmas vars steps) line =
    option_or (option_map (λ sides. between (lemmas ++ lemma_of vars steps sides ∷ []) []) (prove_text.reads line))
    (option_map (λ s. proving lemmas vars (steps ++ s ∷ [])) (option_and_then (only_if is_outside_blocks) (step_text.reads line)))
next v (inside lemmas sections title steps) line =
    if bytes_eq line end_line then Some (between lemmas (sections ++ section_of title steps ∷ []))
    else option_map (λ s. inside lemmas sections title (steps ++ s ∷ [])) (option_and_then (only_if (in_section v)) (step_text.reads line))

abbrev pub body_of : List Lemma → List Section → Body
body_of lemmas sections = record { lemmas = lemmas; sections = sections }

-- what has been read where the text ends
abbrev pub ended : Place → Result Body CertFault
ended (between lemmas sections) = Ok (body_of lemmas sections)
ended place = Err fault.Truncated

-- line n may not stand there, or what comes after it is read
abbrev pub or_fault : ℕ → (Place → Result Body CertFault) → Option Place → Result Body CertFault
or_fault n go None = Err (fault.Step n)
or_fault n go (Some place) = go place

-- the lemmas and sections of these lines, the first of which is line n
abbrev pub read_lines : Version → ℕ → Place → List (List ℕ) → Result Body CertFault
read_lines v n p [] = ended p
read_lines v n p (line ∷ lines) = or_fault n (λ q. read_lines v (n + 1) q lines) (next v p line)
