-- The reading of clap is that of the definitions.
use Rattle.std.proofs.Common.{◌≡◌, ◌∙◌, ◌≤◌, ◌||◌, ℕ, zero, suc, Bool, true, false, cond, codes, refl, sym, ap, ap₂, subst, arith, List, [], ◌∷◌, map, length, replicate, slice_get, fold, Option, None, is_some, IsUtf8, option_and_then, option_to_list, true≢false}
use Rattle.std.specs.Option.{option_map_or, unwrap_or}
use Rattle.std.specs.List.{AllByRecursion}
use Rattle.std.specs.Str.{bytes_eq}
use Rattle.std.proofs.lemmas.Bool.{or_from, or_left, or_right}
use Rattle.clap.specs.Kinds.{Kinds, or_else}
use Rattle.clap.specs.Simple.{App, matches_of, names_of}
use Rattle.clap.specs.Faults.{built_fault, fault_of, settle_fault, walk_fault}
use Rattle.clap.specs.Walk.{Row, Text, all_of, first_of, idle, nothing_held, rows_after, with_default}
use Rattle.clap.proofs.FaultLemmas.{leaf_fault}
use Rattle.pv_words.specs.Words.{AreNames, Command, Give, Part, option, argument, flag, IsPart, IsValue, arguments_of, is_among, once_or_never, times_of, values_of}
use Rattle.pv_words.specs.Matches.{AreFileNames, AreValues, IsOptionValue, app_with}
use Rattle.pv_words.proofs.Rules.{Kind, a_flag, an_option, built_app, built_is, built_rules, empty_no_flag, flag_is_name, kind_of, neither, option_is_name, option_no_flag, same_text, text_same}
use Rattle.pv_words.proofs.Rows.{AreNew, all_is, first_by, first_is, grown, row_there, rows_hold, rows_with, texts_of}
use Rattle.pv_words.proofs.Once.{AreNamed, are_new, each_flag_once, each_once, firsts_of, flag_once_each, is_given, is_known, is_positive, new_fits, once_each, once_firsts, once_given, texts_arguments, texts_times, texts_values, times_are}
use Rattle.pv_words.proofs.Turns.{at, ended, shape_with, tail_fault, tail_rows}
use Rattle.pv_words.proofs.Sound.{sound}
use Rattle.pv_words.proofs.Complete.{takes}
use Rattle.pv_words.proofs.Defaults.{defaulted, false_added, finished_is, given_stays, no_default_fault, none_missing, other_stays}

-- ---- after the walk

or_else_none : (k : Kinds) → or_else k [] ≡ k
or_else_none [] = refl
or_else_none (k ∷ ks) = refl

pub fault_is : (c : Command) (words : List Text) → fault_of (app_with c.flags c.names) words ≡ tail_fault c (at [] None idle false) words
fault_is c words =
    let first = walk_fault (shape_with c) [] (at [] None idle false) words in
    let last = settle_fault (built_rules c) false (ended c (at [] None idle false) words).held in
    let rows = tail_rows c (at [] None idle false) words in
    ap (λ (a : App). built_fault a nothing_held words) (built_is c) ∙ leaf_fault (built_app c) nothing_held words refl
    ∙ (λ i. or_else first (or_else last (or_else (no_default_fault c rows i) (none_missing c (fold with_default rows (built_rules c)) i))))
    ∙ ap (λ k. or_else first k) (or_else_none last)

pub matches_are : (c : Command) (words : List Text) → matches_of (app_with c.flags c.names) words ≡ defaulted c.flags (tail_rows c (at [] None idle false) words)
matches_are c words = ap (λ (a : App). rows_after a.top.rules (names_of a) words) (built_is c) ∙ finished_is c (tail_rows c (at [] None idle false) words)

-- ---- parts and what is given

map_same : {X : Type 0} (f g : Text → X) (names : List Text) → ((n : Text) → is_among names n ≡ true → f n ≡ g n) → map f names ≡ map g names
map_same f g [] same = refl
map_same f g (n ∷ names) same = ap₂ (λ o os. o ∷ os) (same n (or_left (bytes_eq n n) (is_among names n) (text_same n n refl))) (map_same f g names (λ m e. same m (or_right (bytes_eq n m) (is_among names m) e)))

-- whether the rows hold `true` for a flag
abbrev pub is_true_in : List Row → Text → Bool
is_true_in rows n = option_map_or (λ text. bytes_eq text (codes "true")) (first_of n rows) false

abbrev begins_true : Option (List Text) → Bool
begins_true o = option_map_or (λ text. bytes_eq text (codes "true")) (option_and_then (λ (ts : List Text). slice_get ts 0) o) false

-- the flags, options and arguments that the rows of parts hold, with what flags have by default
module _ (c : Command) (are : AreNames c) (parts : List Part) (named : AreNamed c parts) (new : AreNew [] parts) where
  abbrev finished : List Row
  finished = defaulted c.flags (rows_with [] parts)

  firsts_are : map (λ n. first_of n finished) c.names ≡ firsts_of parts c.names
  firsts_are = map_same _ _ c.names (λ n among.
      first_by n finished ∙ ap (option_and_then (λ ts. slice_get ts 0)) (other_stays c.flags n (rows_with [] parts) (option_no_flag c are n among)) ∙ sym (first_by n (rows_with [] parts))
      ∙ first_is parts n new ∙ ap (λ (ts : List Text). slice_get ts 0) (texts_values c are parts n named among))

  flag_is : (n : Text) → is_among c.flags n ≡ true → is_true_in finished n ≡ is_given parts n
  flag_is n among =
      ap (λ o. option_map_or (λ text. bytes_eq text (codes "true")) o false) (first_by n finished)
      ∙ go (times_of parts n) (rows_hold parts [] n new ∙ ap (grown None) (texts_times c are parts n named among))
    where
      go : (k : ℕ) → all_of n (rows_with [] parts) ≡ grown None (replicate k (codes "true")) → begins_true (all_of n finished) ≡ is_positive k
      go zero none = ap begins_true (false_added c.flags n (rows_with [] parts) among (row_there n (rows_with [] parts) ∙ ap is_some none))
      go (suc k) some = ap begins_true (given_stays c.flags n (rows_with [] parts) (row_there n (rows_with [] parts) ∙ ap is_some some) ∙ some)

  flags_are : map (is_true_in finished) c.flags ≡ map (is_given parts) c.flags
  flags_are = map_same _ _ c.flags flag_is

  arguments_are : unwrap_or (all_of [] finished) [] ≡ arguments_of parts
  arguments_are = ap (λ o. unwrap_or o []) (other_stays c.flags [] (rows_with [] parts) (empty_no_flag c are)) ∙ all_is parts [] new ∙ texts_arguments c are parts named

  values_once : (m : Text) → is_among c.names m ≡ true → length (values_of parts m) ≤ 1
  values_once m among =
      subst (λ (ts : List Text). length ts ≤ 1) (texts_values c are parts m named among) (new_fits parts [] m (option_is_name c are m among) new)

  flags_once : (m : Text) → is_among c.flags m ≡ true → times_of parts m ≤ 1
  flags_once m among =
      subst (λ (k : ℕ). k ≤ 1) (times_are c are parts m named among)
      (new_fits parts [] m (flag_is_name c are m among) new)

names_known : (c : Command) (parts : List Part) → AllByRecursion (IsPart c) parts → AreNamed c parts
names_known c [] known = tt
names_known c (option n value ∷ parts) known = (known.0.0, names_known c parts known.1)
names_known c (argument text ∷ parts) known = (tt, names_known c parts known.1)
names_known c (flag n ∷ parts) known = (known.0, names_known c parts known.1)

rest_values : (b : Bool) (t : Text) (ts : List Text) → AllByRecursion IsValue (cond b (t ∷ ts) ts) → AllByRecursion IsValue ts
rest_values true t ts are = are.1
rest_values false t ts are = are

parts_known : (c : Command) (parts : List Part) → AreNamed c parts → ((m : Text) → is_among c.names m ≡ true → AllByRecursion IsValue (values_of parts m))
    → AreFileNames (arguments_of parts) → AllByRecursion (IsPart c) parts
parts_known c [] named values files = tt
parts_known c (option n value ∷ parts) named values files =
    let here = subst (λ b. AllByRecursion IsValue (cond b (value ∷ values_of parts n) (values_of parts n))) (text_same n n refl) (values n named.0) in
    ((named.0, here.0), parts_known c parts named.1 (λ m among. rest_values (bytes_eq n m) value (values_of parts m) (values m among)) files)
parts_known c (argument text ∷ parts) named values files = (files.0, parts_known c parts named.1 values files.1)
parts_known c (flag n ∷ parts) named values files = (named.0, parts_known c parts named.1 values files)

known_values : (c : Command) (parts : List Part) (m : Text) → AllByRecursion (IsPart c) parts → AllByRecursion IsValue (values_of parts m)
known_values c [] m known = tt
known_values c (option n value ∷ parts) m known = go (bytes_eq n m) (known_values c parts m known.1)
  where
    go : (b : Bool) → AllByRecursion IsValue (values_of parts m) → AllByRecursion IsValue (cond b (value ∷ values_of parts m) (values_of parts m))
    go true rest = (known.0.1, rest)
    go false rest = rest
known_values c (argument text ∷ parts) m known = known_values c parts m known.1
known_values c (flag n ∷ parts) m known = known_values c parts m known.1

known_files : (c : Command) (parts : List Part) → AllByRecursion (IsPart c) parts → AreFileNames (arguments_of parts)
known_files c [] known = tt
known_files c (option n value ∷ parts) known = known_files c parts known.1
known_files c (argument text ∷ parts) known = (known.0, known_files c parts known.1)
known_files c (flag n ∷ parts) known = known_files c parts known.1

value_at : (f : Text → Option Text) (names : List Text) (n : Text) → is_among names n ≡ true → AreValues (map f names) → IsOptionValue (f n)
value_at f [] n among are = absurd (cc)
value_at f (m ∷ names) n among are = go (bytes_eq m n) refl among (λ there. value_at f names n there are.1)
  where
    go : (b : Bool) → bytes_eq m n ≡ b → (b || is_among names n) ≡ true → (is_among names n ≡ true → IsOptionValue (f n)) → IsOptionValue (f n)
    go true same here again = subst (λ k. IsOptionValue (f k)) (same_text m n same) are.0
    go false same here again = again here

one_value : (ts : List Text) → length ts ≤ 1 → IsOptionValue (slice_get ts 0) → AllByRecursion IsValue ts
one_value [] le is = tt
one_value (t ∷ []) le is = (is, tt)
one_value (t ∷ u ∷ us) le is = absurd (omega arith)

first_value_is : (ts : List Text) → AllByRecursion IsValue ts → IsOptionValue (slice_get ts 0)
first_value_is [] are = tt
first_value_is (t ∷ ts) are = are.0

all_values : (parts : List Part) (names : List Text) → ((m : Text) → AllByRecursion IsValue (values_of parts m)) → AreValues (firsts_of parts names)
all_values parts [] are = tt
all_values parts (n ∷ names) are = (first_value_is (values_of parts n) (are n), all_values parts names are)

-- ---- the reading, both ways

abbrev pub read_flags : List Text → List Row → List Bool
read_flags names rows = map (is_true_in rows) names

abbrev pub read_options : List Text → List Row → List (Option Text)
read_options names rows = map (λ n. first_of n rows) names

abbrev pub read_arguments : List Row → List Text
read_arguments rows = unwrap_or (all_of [] rows) []

module _ (c : Command) (words : List Text) (names : AreNames c) where
  abbrev matches : List Row
  matches = matches_of (app_with c.flags c.names) words

  pub gives : AllByRecursion IsUtf8 words → fault_of (app_with c.flags c.names) words ≡ [] → AreValues (read_options c.names matches) → AreFileNames (read_arguments matches) → length (read_arguments matches) ≡ c.count
      → Give c words (read_flags c.flags matches) (read_options c.names matches) (read_arguments matches)
  gives utf8 none values files count =
      let found = sound c names words utf8 [] None idle tt tt (sym (fault_is c words) ∙ none) in
      let are : matches ≡ defaulted c.flags (rows_with [] found.parts) = matches_are c words ∙ ap (defaulted c.flags) found.rows_are in
      let same_flags = ap (read_flags c.flags) are ∙ flags_are c names found.parts found.named found.new in
      let same_options = ap (read_options c.names) are ∙ firsts_are c names found.parts found.named found.new in
      let same_files = ap read_arguments are ∙ arguments_are c names found.parts found.named found.new in
      let once = values_once c names found.parts found.named found.new in
      let firsts = subst AreValues same_options values in
      let known = parts_known c found.parts found.named (λ m among. one_value (values_of found.parts m) (once m among) (value_at (λ n. slice_get (values_of found.parts n) 0) c.names m among firsts))
      (subst AreFileNames same_files files) in
      record {
        parts = found.parts;
        said = found.said known;
        known = known;
        flagged = each_flag_once found.parts c.flags (flags_once c names found.parts found.named found.new) ∙ ap (map once_or_never) (sym same_flags);
        once = each_once found.parts c.names once ∙ ap (map option_to_list) (sym same_options);
        rest = same_files;
        counted = count;
      }

  pub record Given (flags : List Bool) (options : List (Option Text)) (arguments : List Text) : Type 0 where
    pub no_fault : fault_of (app_with c.flags c.names) words ≡ []
    pub same_flags : flags ≡ read_flags c.flags matches
    pub same_options : options ≡ read_options c.names matches
    pub same_arguments : arguments ≡ read_arguments matches
    pub values : AreValues options
    pub files : AreFileNames arguments

  -- an option and a flag stand once at most
  given_fits : (flags : List Bool) (options : List (Option Text)) (arguments : List Text) (g : Give c words flags options arguments) → AreNamed c g.parts → (m : Text) → is_known c m ≡ true → length (texts_of m g.parts) ≤ 1
  given_fits flags options arguments g named m known = go (kind_of c m)
    where
      go : Kind c m → length (texts_of m g.parts) ≤ 1
      go (a_flag among) =
          subst (λ (k : ℕ). k ≤ 1) (sym (times_are c names g.parts m named among)) (flag_once_each g.parts c.flags flags g.flagged m among)
      go (an_option no_flag among) = subst (λ (ts : List Text). length ts ≤ 1) (sym (texts_values c names g.parts m named among)) (once_each g.parts c.names options g.once m among)
      go (neither no_flag no_option) = absurd (true≢false (sym known ∙ or_from (is_among c.flags m) (is_among c.names m) no_flag no_option))

  pub given : (flags : List Bool) (options : List (Option Text)) (arguments : List Text) → Give c words flags options arguments → Given flags options arguments
  given flags options arguments g =
      let named = names_known c g.parts g.known in
      let new = are_new c g.parts [] named (given_fits flags options arguments g named) in
      let taken = takes c names words g.parts g.said [] None idle tt tt tt g.known new in
      let are : matches ≡ defaulted c.flags (rows_with [] g.parts) = matches_are c words ∙ ap (defaulted c.flags) taken.rows_are in
      let firsts = once_firsts g.parts c.names options g.once in
      record {
        no_fault = fault_is c words ∙ taken.no_fault;
        same_flags = once_given g.parts c.flags flags g.flagged ∙ sym (ap (read_flags c.flags) are ∙ flags_are c names g.parts named new);
        same_options = firsts ∙ sym (ap (read_options c.names) are ∙ firsts_are c names g.parts named new);
        same_arguments = g.rest ∙ sym (ap read_arguments are ∙ arguments_are c names g.parts named new);
        values = subst AreValues (sym firsts) (all_values g.parts c.names (λ m. known_values c g.parts m g.known));
        files = subst AreFileNames (sym g.rest) (known_files c g.parts g.known);
      }
