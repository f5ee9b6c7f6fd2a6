-- What the matches of clap say of the words.
use Rattle.std.proofs.Common.{◌≡◌, ◌≢◌, ◌∙◌, Bool, true, false, codes, refl, sym, ap, ap₂, subst, List, [], ◌∷◌, length, Option, Err, Ok, ⊎_elim}
use Rattle.std.specs.Option.{option_map_or, unwrap_or}
use Rattle.std.specs.Str.{bytes_eq}
use Rattle.std.proofs.lemmas.Bool.{and_parts}
use Rattle.clap.specs.Kinds.{FailsBy, IsAmong, Kinds}
use Rattle.clap.specs.Values.{kind_of}
use Rattle.clap.specs.Matches.{found_of}
use Rattle.clap.specs.Simple.{App, HasMatchesOf, is_simple, matches_of}
use Rattle.clap.specs.Faults.{fault_of, is_simple_and_free}
use Rattle.clap.specs.Walk.{Row, Text, first_of, rows_of}
use Rattle.clap.specs.declared.error.Error.{Error}
use Rattle.clap.specs.declared.error.kind.ErrorKind.TheVariants.{OutOfMemory}
use Rattle.clap.specs.declared.parser.matches.ArgMatches.{ArgMatches}
use Rattle.clap.specs.declared.parser.matches.Found.{Found}
use Rattle.clap.proofs.WalkLemmas.{first_value-rows, raw_values-rows}
use Rattle.pv_words.specs.Words.{AreNames, Command, Give}
use Rattle.pv_words.specs.Matches.{AreArguments, AreFileNames, AreUtf8, AreValues, app_with, flag_values, option_values}
use Rattle.pv_words.proofs.Rules.{simple_and_free}
use Rattle.pv_words.proofs.Exact.{given, gives, read_arguments, read_flags, read_options}

module _ (a : App) (c : Command) (words : List Text) (is : a ≡ app_with c.flags c.names) where
  free : is_simple_and_free a ≡ true
  free = ap is_simple_and_free is ∙ simple_and_free c

  no_fault : (m : ArgMatches) → (is_simple_and_free a ≡ true → FailsBy {T = ArgMatches} (fault_of a words) (Ok m)) → fault_of (app_with c.flags c.names) words ≡ []
  no_fault m fails = sym (ap (λ (x : App). fault_of x words) is) ∙ fails free

  rows_read : (m : ArgMatches) → HasMatchesOf a words m → rows_of (found_of m) ≡ matches_of (app_with c.flags c.names) words
  rows_read m has = (has (and_parts (is_simple a) _ free).0).0 ∙ ap (λ (x : App). matches_of x words) is

  by_memory : (e : Error) → (is_simple_and_free a ≡ true → FailsBy {T = ArgMatches} (fault_of a words) (Err e)) → fault_of (app_with c.flags c.names) words ≡ [] → kind_of e ≡ OutOfMemory
  by_memory e fails none = ⊎_elim (λ memory. memory) (λ among. absurd (subst (λ (kinds : Kinds). IsAmong (kind_of e) kinds) (sym (sym none ∙ sym (ap (λ (x : App). fault_of x words) is))) among)) (fails free)

flags_read : (names : List Text) (f : Found) (rows : List Row) → rows_of f ≡ rows → flag_values names f ≡ read_flags names rows
flags_read [] f rows is = refl
flags_read (n ∷ names) f rows is = ap₂ (λ o os. is_true o ∷ os) (first_value-rows f n ∙ ap (first_of n) is) (flags_read names f rows is)
  where
    is_true : Option Text → Bool
    is_true o = option_map_or (λ text. bytes_eq text (codes "true")) o false

options_read : (names : List Text) (f : Found) (rows : List Row) → rows_of f ≡ rows → option_values names f ≡ read_options names rows
options_read [] f rows is = refl
options_read (n ∷ names) f rows is = ap₂ (λ o os. o ∷ os) (first_value-rows f n ∙ ap (first_of n) is) (options_read names f rows is)

arguments_read : (f : Found) (arguments : List Text) (rows : List Row) → rows_of f ≡ rows → AreArguments f arguments → arguments ≡ read_arguments rows
arguments_read f arguments rows is are = are ∙ ap (λ o. unwrap_or o []) (raw_values-rows f []) ∙ ap read_arguments is

module _ (c : Command) (words : List Text) (names : AreNames c) (a : App) (is : a ≡ app_with c.flags c.names) where
  -- an error other than memory
  pub none_given : (e : Error) → (is_simple_and_free a ≡ true → FailsBy {T = ArgMatches} (fault_of a words) (Err e)) → kind_of e ≢ OutOfMemory
      → (flags : List Bool) (options : List (Option Text)) (arguments : List Text) → Give c words flags options arguments → ⊥
  none_given e fails other flags options arguments g = other (by_memory a c words is e fails (given c words names flags options arguments g).no_fault)

  -- what the matches hold
  pub record Held (flags : List Bool) (options : List (Option Text)) (arguments : List Text) : Type 0 where
    pub found : ArgMatches
    pub has : HasMatchesOf a words found
    pub flags_are : flags ≡ flag_values c.flags (found_of found)
    pub options_are : options ≡ option_values c.names (found_of found)
    pub arguments_are : AreArguments (found_of found) arguments

  module _ (flags : List Bool) (options : List (Option Text)) (arguments : List Text) (h : Held flags options arguments) where
    abbrev matches : List Row
    matches = matches_of (app_with c.flags c.names) words

    rows_are : rows_of (found_of h.found) ≡ matches
    rows_are = rows_read a c words is h.found h.has

    same_flags : flags ≡ read_flags c.flags matches
    same_flags = h.flags_are ∙ flags_read c.flags (found_of h.found) matches rows_are

    same_options : options ≡ read_options c.names matches
    same_options = h.options_are ∙ options_read c.names (found_of h.found) matches rows_are

    same_arguments : arguments ≡ read_arguments matches
    same_arguments = arguments_read (found_of h.found) arguments matches rows_are h.arguments_are

    -- what passes the tests is given
    pub all_given : AreUtf8 words → (is_simple_and_free a ≡ true → FailsBy {T = ArgMatches} (fault_of a words) (Ok h.found)) → AreValues options → AreFileNames arguments → length arguments ≡ c.count
        → Give c words flags options arguments
    all_given utf8 fails values files count =
        let g = gives c words names utf8 (no_fault a c words is h.found fails) (subst AreValues same_options values) (subst AreFileNames same_arguments files)
        (ap (λ (xs : List Text). length xs) (sym same_arguments) ∙ count) in
        subst (λ (bs : List Bool). Give c words bs options arguments) (sym same_flags)
        (subst (λ (os : List (Option Text)). Give c words (read_flags c.flags matches) os arguments) (sym same_options)
        (subst (λ (xs : List Text). Give c words (read_flags c.flags matches) (read_options c.names matches) xs) (sym same_arguments) g))

    -- and nothing else passes them
    pub record Passes : Type 0 where
      pub values : AreValues options
      pub files : AreFileNames arguments
      pub count : length arguments ≡ c.count

    pub given_passes : (bs : List Bool) (os : List (Option Text)) (xs : List Text) → Give c words bs os xs → Passes
    given_passes bs os xs g =
        let is_given = given c words names bs os xs g in
        let options_same = is_given.same_options ∙ sym same_options in
        let arguments_same = is_given.same_arguments ∙ sym same_arguments in
        record {
          values = subst AreValues options_same is_given.values;
          files = subst AreFileNames arguments_same is_given.files;
          count = ap (λ (ys : List Text). length ys) (sym arguments_same) ∙ g.counted;
        }
