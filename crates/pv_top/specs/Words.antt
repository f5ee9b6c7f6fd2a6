-- The words that are a command, and what a command fetches and places.
use Rattle.std.specs.Prelude.{◌≡◌, ℕ, Bool, true, false, List, [], ◌∷◌, Option, Some, None, map, codes, decimal}
use Rattle.pv_class.specs.declared.class.TheConstants.{LONGEST_FILE}
use Rattle.pv_report.specs.Options.{AxiomSet}
use Rattle.pv_report.specs.Options.{Core, All}
use Rattle.pv_report.specs.Lines.{in_words, line_text}
use Rattle.pv_sections.specs.declared.certificate.TheConstants.{LONGEST_CERT}
use Rattle.pv_links.specs.declared.chain.TheConstants.{LONGEST_CHAIN}
use Rattle.pv_maker.specs.declared.class.TheConstants.{MOST_MADE}
use Rattle.pv_words.specs.Words as words
use Rattle.pv_words.specs.Words.{Give}
use Rattle.pv_words.specs.Numbers.{IsNumber}
use Rattle.pv_top.specs.declared.words.TheConstants.{DEFAULT_ROUNDS, MOST_ROUNDS, DEFAULT_BUDGET, MOST_BUDGET, DEFAULT_TRIES, MOST_TRIES, DEFAULT_STEPS, MOST_STEPS, MOST_SEED, DEFAULT_WORKERS, MOST_WORKERS}
use Rattle.pv_top.specs.declared.words.Mode.{Mode}
use Rattle.pv_top.specs.declared.words.Mode.TheVariants.{Plain, Counted, Cert}
use Rattle.pv_top.specs.declared.words.Command.{Command}
use Rattle.pv_top.specs.declared.words.Command.TheVariants.{Validate, Check, Compose, CheckChain, Migrate, Refute, Make}

-- the value of an option is this number, which lies between two bounds; an option that isn't given has a default
abbrev pub IsLimit : (least most default : ℕ) → Option (List ℕ) → ℕ → Type 0
IsLimit least most default None n = n ≡ default
IsLimit least most default (Some text) n = IsNumber least most text n

-- the word of a set of axioms
abbrev pub set_word : AxiomSet → List ℕ
set_word Core = codes "core"
set_word All = codes "all"

-- the value of an option is the word of this set; an option that isn't given is the core
abbrev pub IsSet : Option (List ℕ) → AxiomSet → Type 0
IsSet None set = set ≡ Core
IsSet (Some text) set = text ≡ set_word set

-- `--counted` and `--cert` aren't both given
abbrev pub IsMode : Bool → Option (List ℕ) → Mode (List ℕ) → Type 0
IsMode false None mode = mode ≡ Plain
IsMode true None mode = mode ≡ Counted
IsMode false (Some name) mode = mode ≡ Cert name
IsMode true (Some name) mode = ⊥

-- the value of an option is a number of workers. By how many a command goes changes nothing that it answers, so the command doesn't tell.
abbrev pub IsWorkers : Option (List ℕ) → Type 0
IsWorkers given = (n : ℕ) × IsLimit 1 MOST_WORKERS DEFAULT_WORKERS given n

-- `validate` has the flag `--counted`, the options `--axioms`, `--rounds`, `--budget`, `--workers` and `--cert`, and two arguments
abbrev pub validate_words : words.Command
validate_words = record { flags = codes "counted" ∷ []; names = codes "axioms" ∷ codes "rounds" ∷ codes "budget" ∷ codes "workers" ∷ codes "cert" ∷ []; count = 2 }

-- `check` and `check-chain` have the option `--workers`, and three arguments
abbrev pub check_words : words.Command
check_words = record { flags = []; names = codes "workers" ∷ []; count = 3 }

-- a command with this many arguments, and with neither flags nor options
abbrev pub arguments_alone : ℕ → words.Command
arguments_alone n = record { flags = []; names = []; count = n }

-- `refute` has the options `--tries` and `--steps`, and two arguments
abbrev pub refute_words : words.Command
refute_words = record { flags = []; names = codes "tries" ∷ codes "steps" ∷ []; count = 2 }

-- these words after `validate` give it these axioms, limits and mode
pub record GiveValidate (rest : List (List ℕ)) (a b : List ℕ) (axioms : AxiomSet) (rounds budget : ℕ) (mode : Mode (List ℕ)) : Type 0 where
  pub counted_flag : Bool
  pub axioms_word : Option (List ℕ)
  pub rounds_word : Option (List ℕ)
  pub budget_word : Option (List ℕ)
  pub workers_word : Option (List ℕ)
  pub cert_word : Option (List ℕ)
  pub given : Give validate_words rest (counted_flag ∷ []) (axioms_word ∷ rounds_word ∷ budget_word ∷ workers_word ∷ cert_word ∷ []) (a ∷ b ∷ [])
  pub axioms_are : IsSet axioms_word axioms
  pub rounds_are : IsLimit 0 MOST_ROUNDS DEFAULT_ROUNDS rounds_word rounds
  pub budget_is : IsLimit 1 MOST_BUDGET DEFAULT_BUDGET budget_word budget
  pub workers_are : IsWorkers workers_word
  pub mode_is : IsMode counted_flag cert_word mode

-- these words after `check` or `check-chain` give it these arguments
pub record GiveCheck (rest arguments : List (List ℕ)) : Type 0 where
  pub workers_word : Option (List ℕ)
  pub given : Give check_words rest [] (workers_word ∷ []) arguments
  pub workers_are : IsWorkers workers_word

-- these words after `refute` give it these limits
pub record GiveRefute (rest : List (List ℕ)) (a b : List ℕ) (tries steps : ℕ) : Type 0 where
  pub tries_word : Option (List ℕ)
  pub steps_word : Option (List ℕ)
  pub given : Give refute_words rest [] (tries_word ∷ steps_word ∷ []) (a ∷ b ∷ [])
  pub tries_are : IsLimit 1 MOST_TRIES DEFAULT_TRIES tries_word tries
  pub steps_are : IsLimit 1 MOST_STEPS DEFAULT_STEPS steps_word steps

-- these words after `make` give it this seed and this number of methods
pub record GiveMake (rest : List (List ℕ)) (seed count : ℕ) (a b : List ℕ) : Type 0 where
  pub seed_word : List ℕ
  pub count_word : List ℕ
  pub given : Give (arguments_alone 4) rest [] [] (seed_word ∷ count_word ∷ a ∷ b ∷ [])
  pub seed_is : IsNumber 0 MOST_SEED seed_word seed
  pub count_is : IsNumber 1 MOST_MADE count_word count

-- the words are those of a command: its name, and what gives its options and arguments
abbrev pub AreOf : List (List ℕ) → Command (List ℕ) → Type 0
AreOf words (Validate a b axioms rounds budget mode) = (rest : List (List ℕ)) × (words ≡ codes "validate" ∷ rest) × GiveValidate rest a b axioms rounds budget mode
AreOf words (Check a b cert) = (rest : List (List ℕ)) × (words ≡ codes "check" ∷ rest) × GiveCheck rest (a ∷ b ∷ cert ∷ [])
AreOf words (Compose a b c x y out) = (rest : List (List ℕ)) × (words ≡ codes "compose" ∷ rest) × Give (arguments_alone 6) rest [] [] (a ∷ b ∷ c ∷ x ∷ y ∷ out ∷ [])
AreOf words (CheckChain a c chain) = (rest : List (List ℕ)) × (words ≡ codes "check-chain" ∷ rest) × GiveCheck rest (a ∷ c ∷ chain ∷ [])
AreOf words (Migrate cert out) = (rest : List (List ℕ)) × (words ≡ codes "migrate" ∷ rest) × Give (arguments_alone 2) rest [] [] (cert ∷ out ∷ [])
AreOf words (Refute a b tries steps) = (rest : List (List ℕ)) × (words ≡ codes "refute" ∷ rest) × GiveRefute rest a b tries steps
AreOf words (Make seed count a b) = (rest : List (List ℕ)) × (words ≡ codes "make" ∷ rest) × GiveMake rest seed count a b

-- the command that the words are, None where they are none
abbrev pub IsCommand : List (List ℕ) → Option (Command (List ℕ)) → Type 0
IsCommand words (Some c) = AreOf words c
IsCommand words None = (c : Command (List ℕ)) → AreOf words c → ⊥

-- what a command fetches, in its order: the names of files, and the most bytes that each may have
abbrev pub fetches : Command (List ℕ) → List (List ℕ × ℕ)
fetches (Validate a b axioms rounds budget mode) = (a, LONGEST_FILE) ∷ (b, LONGEST_FILE) ∷ []
fetches (Check a b cert) = (a, LONGEST_FILE) ∷ (b, LONGEST_FILE) ∷ (cert, LONGEST_CERT) ∷ []
fetches (Compose a b c x y out) = (a, LONGEST_FILE) ∷ (b, LONGEST_FILE) ∷ (c, LONGEST_FILE) ∷ (x, LONGEST_CERT) ∷ (y, LONGEST_CERT) ∷ []
fetches (CheckChain a c chain) = (a, LONGEST_FILE) ∷ (c, LONGEST_FILE) ∷ (chain, LONGEST_CHAIN) ∷ []
fetches (Migrate cert out) = (cert, LONGEST_CERT) ∷ []
fetches (Refute a b tries steps) = (a, LONGEST_FILE) ∷ (b, LONGEST_FILE) ∷ []
fetches (Make seed count a b) = []

abbrev pub names_of : Command (List ℕ) → List (List ℕ)
names_of c = map (λ f. f.0) (fetches c)

-- the name of the certificate, if any
abbrev pub cert_in : Mode (List ℕ) → List (List ℕ)
cert_in (Cert name) = name ∷ []
cert_in mode = []

-- the names under which it places something, in its order
abbrev pub placed_names : Command (List ℕ) → List (List ℕ)
placed_names (Validate a b axioms rounds budget mode) = cert_in mode
placed_names (Check a b cert) = []
placed_names (Compose a b c x y out) = out ∷ []
placed_names (CheckChain a c chain) = []
placed_names (Migrate cert out) = out ∷ []
placed_names (Refute a b tries steps) = []
placed_names (Make seed count a b) = a ∷ b ∷ []

-- the two class files of whose methods a command speaks; `migrate` speaks of none, and has the name of its certificate for both
abbrev pub first_of : Command (List ℕ) → List ℕ
first_of (Validate a b axioms rounds budget mode) = a
first_of (Check a b cert) = a
first_of (Compose a b c x y out) = a
first_of (CheckChain a c chain) = a
first_of (Migrate cert out) = cert
first_of (Refute a b tries steps) = a
first_of (Make seed count a b) = a

abbrev pub second_of : Command (List ℕ) → List ℕ
second_of (Validate a b axioms rounds budget mode) = b
second_of (Check a b cert) = b
second_of (Compose a b c x y out) = c
second_of (CheckChain a c chain) = c
second_of (Migrate cert out) = cert
second_of (Refute a b tries steps) = b
second_of (Make seed count a b) = b

-- the line on two classes that were made
abbrev pub made_line : ℕ → List ℕ
made_line count = line_text (in_words (codes "made" ∷ decimal count ∷ codes "methods" ∷ []))

-- the line on words that aren't a command
abbrev pub bad_words : List ℕ
bad_words = line_text (codes "bad words")
