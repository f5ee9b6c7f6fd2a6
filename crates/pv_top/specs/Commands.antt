-- The command that was read from words.
use Rattle.std.specs.Prelude.{ℕ, ◌≤◌, Bool, List, [], ◌∷◌, Option, Some, None, option_map}
use Rattle.std.specs.Borrow.{Bor}
use Rattle.pv_report.specs.Options.{AxiomSet}
use Rattle.pv_maker.specs.declared.class.TheConstants.{MOST_MADE}
use Rattle.pv_words.specs.Answers.{texts}
use Rattle.pv_words.specs.Words.{Give}
use Rattle.pv_top.specs.declared.words.Mode.{Mode}
use Rattle.pv_top.specs.declared.words.Mode.TheVariants.{Plain, Counted, Cert}
use Rattle.pv_top.specs.declared.words.Command.{Command}
use Rattle.pv_top.specs.declared.words.Command.TheVariants.{Validate, Check, Compose, CheckChain, Migrate, Refute, Make}
use Rattle.pv_top.specs.declared.words.Order.{Order}
use Rattle.pv_top.specs.declared.words.Checked.{Checked}
use Rattle.pv_top.specs.Words.{GiveCheck, IsCommand, IsLimit, IsMode, IsSet, arguments_alone}

-- a mode by its name
abbrev pub named_mode : Mode (Bor (List ℕ)) → Mode (List ℕ)
named_mode Plain = Plain
named_mode Counted = Counted
named_mode (Cert name) = Cert name.now

-- a command by its names
abbrev pub named : Command (Bor (List ℕ)) → Command (List ℕ)
named (Validate a b axioms rounds budget mode) = Validate a.now b.now axioms rounds budget (named_mode mode)
named (Check a b cert) = Check a.now b.now cert.now
named (Compose a b c x y out) = Compose a.now b.now c.now x.now y.now out.now
named (CheckChain a c chain) = CheckChain a.now c.now chain.now
named (Migrate cert out) = Migrate cert.now out.now
named (Refute a b tries steps) = Refute a.now b.now tries steps
named (Make seed count a b) = Make seed count a.now b.now

-- a class of this number of methods can be made
abbrev pub CanMake : Command (List ℕ) → Type 0
CanMake (Make seed count a b) = count ≤ MOST_MADE
CanMake c = Unit {0}

abbrev pub IsRead : List (Bor (List ℕ)) → Option (Command (Bor (List ℕ))) → Type 0
IsRead words command = IsCommand (texts words) (option_map named command)

-- .. of this name and the words after it
abbrev pub IsReadAs : List ℕ → List (Bor (List ℕ)) → Option (Command (Bor (List ℕ))) → Type 0
IsReadAs name words command = IsCommand (name ∷ texts words) (option_map named command)

-- the same of a command with its workers
abbrev pub ordered : Option Order → Option (Command (Bor (List ℕ)))
ordered order = option_map (λ o. o.command) order

-- the arguments that words give a command that checks, None where they give it none
abbrev pub ReadsChecked : List (Bor (List ℕ)) → Option Checked → Type 0
ReadsChecked words (Some c) = GiveCheck (texts words) (texts c.arguments)
ReadsChecked words None = (arguments : List (List ℕ)) → GiveCheck (texts words) arguments → ⊥

-- the arguments that words give a command with this many alone, None where they give it none
abbrev pub ReadsArguments : ℕ → List (Bor (List ℕ)) → Option (List (Bor (List ℕ))) → Type 0
ReadsArguments n words (Some arguments) = Give (arguments_alone n) (texts words) [] [] (texts arguments)
ReadsArguments n words None = (arguments : List (List ℕ)) → Give (arguments_alone n) (texts words) [] [] arguments → ⊥

-- the limit that an option gives, None where its text is none
abbrev pub ReadsLimit : (least most default : ℕ) → Option (Bor (List ℕ)) → Option ℕ → Type 0
ReadsLimit least most default given (Some n) = IsLimit least most default (option_map (λ text. text.now) given) n
ReadsLimit least most default given None = (n : ℕ) → IsLimit least most default (option_map (λ text. text.now) given) n → ⊥

-- the set of axioms that an option gives, None where its text is the word of none
abbrev pub ReadsSet : Option (Bor (List ℕ)) → Option AxiomSet → Type 0
ReadsSet given (Some set) = IsSet (option_map (λ text. text.now) given) set
ReadsSet given None = (set : AxiomSet) → IsSet (option_map (λ text. text.now) given) set → ⊥

-- the mode by a flag and the value of an option, None where both are given
abbrev pub ReadsMode : Bool → Option (Bor (List ℕ)) → Option (Mode (Bor (List ℕ))) → Type 0
ReadsMode counted cert (Some mode) = IsMode counted (option_map (λ text. text.now) cert) (named_mode mode)
ReadsMode counted cert None = (mode : Mode (List ℕ)) → IsMode counted (option_map (λ text. text.now) cert) mode → ⊥
