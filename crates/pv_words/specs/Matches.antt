-- The command of clap that a shape gives, and what its matches hold.
use Rattle.std.specs.Prelude.{◌≡◌, Bool, true, false, List, [], ◌∷◌, ◌++◌, Option, Some, None, map, unwrap_or, option_map, ⊤, IsUtf8, bytes_eq, codes}
use Rattle.std.specs.List.{AllByRecursion}
use Rattle.std.specs.Option.{option_map_or}
use Rattle.clap.specs.Words.{App, Rule, first_value, matched_of, new_app, new_rule, raw_values}
use Rattle.clap.specs.declared.builder.action.ArgAction.TheVariants.{Set, SetTrue, Append}
use Rattle.clap.specs.declared.parser.matches.Found.{Found}
use Rattle.pv_words.specs.Words.{Text, IsValue, IsFileName}

abbrev pub flag_rule : Text → Rule
flag_rule name = record (new_rule name) { long = Some name; action = Some SetTrue }

abbrev pub option_rule : Text → Rule
option_rule name = record (new_rule name) { long = Some name; action = Some Set }

-- the arguments have the empty text as their id
abbrev pub arguments_rule : Rule
arguments_rule = record (new_rule []) { action = Some Append }

abbrev pub app_with : List Text → List Text → App
app_with flags options = record (new_app []) {
  top = record (new_app []).top {
    rules = arguments_rule ∷ map flag_rule flags ++ map option_rule options;
    no_binary_name = true;
    disable_help_flag = true;
    disable_version_flag = true;
  };
}

-- whether the matches hold `true` for each flag
abbrev pub flag_values : List Text → Found → List Bool
flag_values names f = map (λ name. option_map_or (λ text. bytes_eq text (codes "true")) (first_value f name) false) names

-- the value that the matches hold of each option
abbrev pub option_values : List Text → Found → List (Option Text)
option_values names f = map (first_value f) names

-- and the arguments
abbrev pub AreArguments : Found → List Text → Type 0
AreArguments f arguments = arguments ≡ unwrap_or (option_map raw_values (matched_of f [])) []

abbrev pub AreUtf8 : List Text → Type 0
AreUtf8 = AllByRecursion IsUtf8

abbrev pub IsOptionValue : Option Text → Type 0
IsOptionValue None = ⊤
IsOptionValue (Some text) = IsValue text

abbrev pub AreValues : List (Option Text) → Type 0
AreValues = AllByRecursion IsOptionValue

abbrev pub AreFileNames : List Text → Type 0
AreFileNames = AllByRecursion IsFileName
