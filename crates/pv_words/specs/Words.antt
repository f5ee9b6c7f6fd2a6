-- What the words of a command are: `--NAME VALUE` and `--NAME=VALUE` give an option, `--NAME` gives a flag, and `--` ends both.
use Rattle.std.specs.Prelude.{◌≡◌, ◌≢◌, ◌==◌, ◌+◌, ◌&&◌, ℕ, Bool, true, not, List, [], ◌∷◌, ◌++◌, map, length, if◌then◌else◌, Option, codes, bytes_eq, option_to_list}
use Rattle.std.specs.List.{AllByRecursion, list_all, list_any}

abbrev pub Text : Type 0
Text = List ℕ

-- what a word gives, or two: the value of an option, an argument, or a flag
pub data Part : Type 0 where
  option : Text → Text → Part
  argument : Text → Part
  flag : Text → Part

-- the text begins with - (45)
abbrev pub BeginsWithDash : Text → Type 0
BeginsWithDash [] = ⊥
BeginsWithDash (b ∷ rest) = b ≡ 45

-- what the words give, in order
pub data Say : List Text → List Part → Type 0 where
  nothing : Say [] []
  -- after `--` each word is an argument
  ended : (word : Text) (words : List Text) (parts : List Part) → word ≡ codes "--" → parts ≡ map argument words → Say (word ∷ words) parts
  -- so is a word that doesn't begin with -
  plain : (word : Text) (words : List Text) (parts : List Part) → (BeginsWithDash word → ⊥) → Say words parts → Say (word ∷ words) (argument word ∷ parts)
  -- `--NAME VALUE`
  apart : (word name value : Text) (words : List Text) (parts : List Part) → word ≡ codes "--" ++ name → Say words parts → Say (word ∷ value ∷ words) (option name value ∷ parts)
  -- `--NAME=VALUE`
  joined : (word name value : Text) (words : List Text) (parts : List Part) → word ≡ codes "--" ++ (name ++ (codes "=" ++ value)) → Say words parts → Say (word ∷ words) (option name value ∷ parts)
  -- `--NAME` alone
  alone : (word name : Text) (words : List Text) (parts : List Part) → word ≡ codes "--" ++ name → Say words parts → Say (word ∷ words) (flag name ∷ parts)

-- a value isn't empty and doesn't begin with -
pub record IsValue (text : Text) : Type 0 where
  pub some : text ≢ []
  pub no_dash : BeginsWithDash text → ⊥

-- the name of a file is neither empty nor -
pub record IsFileName (text : Text) : Type 0 where
  pub some : text ≢ []
  pub no_stream : text ≢ codes "-"

-- a command has flags of these names, options of these names, and this many arguments
pub record Command : Type 0 where
  pub flags : List Text
  pub names : List Text
  pub count : ℕ

-- the name is one of these
abbrev pub is_among : List Text → Text → Bool
is_among names name = list_any (λ n. bytes_eq n name) names

-- an option that the command has, with a value, the name of a file, or a flag that the command has
abbrev pub IsPart : Command → Part → Type 0
IsPart c (option name value) = (is_among c.names name ≡ true) × IsValue value
IsPart c (argument text) = IsFileName text
IsPart c (flag name) = is_among c.flags name ≡ true

-- the values that an option is given
abbrev pub values_of : List Part → Text → List Text
values_of [] name = []
values_of (option n value ∷ parts) name = if bytes_eq n name then value ∷ values_of parts name else values_of parts name
values_of (argument text ∷ parts) name = values_of parts name
values_of (flag n ∷ parts) name = values_of parts name

abbrev pub arguments_of : List Part → List Text
arguments_of [] = []
arguments_of (option n value ∷ parts) = arguments_of parts
arguments_of (argument text ∷ parts) = text ∷ arguments_of parts
arguments_of (flag n ∷ parts) = arguments_of parts

-- how often a flag is given
abbrev pub times_of : List Part → Text → ℕ
times_of [] name = 0
times_of (option n value ∷ parts) name = times_of parts name
times_of (argument text ∷ parts) name = times_of parts name
times_of (flag n ∷ parts) name = if bytes_eq n name then 1 + times_of parts name else times_of parts name

abbrev pub once_or_never : Bool → ℕ
once_or_never is_given = if is_given then 1 else 0

-- the words give a command these flags and the options these values, each at most once, and these are the arguments
pub record Give (c : Command) (words : List Text) (flags : List Bool) (options : List (Option Text)) (arguments : List Text) : Type 0 where
  pub parts : List Part
  pub said : Say words parts
  pub known : AllByRecursion (IsPart c) parts
  pub flagged : map (times_of parts) c.flags ≡ map once_or_never flags
  pub once : map (values_of parts) c.names ≡ map option_to_list options
  pub rest : arguments ≡ arguments_of parts
  pub counted : length arguments ≡ c.count

-- a name isn't empty and has no = (61)
abbrev pub is_name : Text → Bool
is_name name = not (bytes_eq name []) && list_all (λ b. not (b == 61)) name

-- options and flags have names, and no flag has that of an option
abbrev pub AreNames : Command → Type 0
AreNames c = (list_all is_name c.names && list_all (λ name. is_name name && not (is_among c.names name)) c.flags) ≡ true
