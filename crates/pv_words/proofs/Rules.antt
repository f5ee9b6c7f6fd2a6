-- The command of clap as it is built: the rule of the arguments, then that of each flag, and then that of each option.
use Rattle.std.proofs.Common.{◌≡◌, ◌∙◌, ℕ, ◌+◌, ◌&&◌, ◌||◌, Bool, true, false, not, cond, refl, sym, ap, List, [], ◌∷◌, ◌++◌, map, Some, None, is_some, fold, true≢false}
use Rattle.std.specs.Option.{option_or}
use Rattle.std.specs.List.{count_by, find, list_all, list_any}
use Rattle.std.specs.Str.{bytes_eq}
use Rattle.std.proofs.lemmas.Bool.{and_parts, not-true}
use Rattle.std.proofs.lemmas.List.Folds.{find-append}
use Rattle.std.proofs.lemmas.Slice.Eq.{bytes_eq-Decides}
use Rattle.clap.specs.Walk.{Rule, Text, arg_by_id, arg_by_long, arg_by_short, has_long, has_short, is_early_multiple}
use Rattle.clap.specs.Simple.{App, built, filled, filled_from, with_index}
use Rattle.clap.specs.Faults.{is_simple_and_free}
use Rattle.pv_words.specs.Words.{AreNames, Command, is_among, is_name}
use Rattle.pv_words.specs.Matches.{app_with, arguments_rule, flag_rule, option_rule}

abbrev pub built_flag : Text → Rule
built_flag name = with_index 1 (filled (flag_rule name))

abbrev pub built_option : Text → Rule
built_option name = with_index 1 (filled (option_rule name))

abbrev pub built_arguments : Rule
built_arguments = with_index 1 (filled arguments_rule)

-- the rules of flags and options
abbrev pub named_rules : Command → List Rule
named_rules c = map built_flag c.flags ++ map built_option c.names

abbrev pub built_rules : Command → List Rule
built_rules c = built_arguments ∷ named_rules c

abbrev pub with_rules : List Rule → App
with_rules rules = record { top = record (built (app_with [] [])).top { rules = built_arguments ∷ rules }; subs = [] }

abbrev pub built_app : Command → App
built_app c = with_rules (named_rules c)

options_filled : (i : ℕ) (names : List Text) → filled_from i (map option_rule names) ≡ map built_option names
options_filled i [] = refl
options_filled i (n ∷ names) = ap (λ rules. built_option n ∷ rules) (options_filled i names)

all_filled : (i : ℕ) (flags names : List Text) → filled_from i (map flag_rule flags ++ map option_rule names) ≡ map built_flag flags ++ map built_option names
all_filled i [] names = options_filled i names
all_filled i (n ∷ flags) names = ap (λ rules. built_flag n ∷ rules) (all_filled i flags names)

pub built_is : (c : Command) → built (app_with c.flags c.names) ≡ built_app c
built_is c = ap with_rules (all_filled 2 c.flags c.names)

-- ---- the command is simple

each_rule : (p : Rule → Bool) (flag option : Text → Rule) → ((n : Text) → p (flag n) ≡ true) → ((n : Text) → p (option n) ≡ true) → (flags names : List Text)
    → list_all p (map flag flags ++ map option names) ≡ true
each_rule p flag option one other [] [] = refl
each_rule p flag option one other [] (n ∷ names) = rw (other n) (each_rule p flag option one other [] names)
each_rule p flag option one other (n ∷ flags) names = rw (one n) (each_rule p flag option one other flags names)

pub no_rule : (p : Rule → Bool) → ((n : Text) → p (built_flag n) ≡ false) → ((n : Text) → p (built_option n) ≡ false) → (flags names : List Text)
    → list_any p (map built_flag flags ++ map built_option names) ≡ false
no_rule p one other [] [] = refl
no_rule p one other [] (n ∷ names) = rw (other n) (no_rule p one other [] names)
no_rule p one other (n ∷ flags) names = rw (one n) (no_rule p one other flags names)

one_positional : (flags names : List Text) → fold (λ n (a : Rule). n + cond (is_some a.index) 1 0) 1 (map built_flag flags ++ map built_option names) ≡ 1
one_positional [] [] = refl
one_positional [] (n ∷ names) = one_positional [] names
one_positional (n ∷ flags) names = one_positional flags names

pub simple_and_free : (c : Command) → is_simple_and_free (app_with c.flags c.names) ≡ true
simple_and_free c =
    let app = app_with c.flags c.names in
    let simple : list_all (λ (a : Rule). a.is_simple) (map flag_rule c.flags ++ map option_rule c.names) ≡ true = each_rule (λ a. a.is_simple) flag_rule option_rule (λ n. refl) (λ n. refl) c.flags c.names in
    let built_simple : list_all (λ (a : Rule). a.is_simple) (named_rules c) ≡ true = each_rule (λ a. a.is_simple) built_flag built_option (λ n. refl) (λ n. refl) c.flags c.names in
    let free : list_all (λ (a : Rule). a.is_free) (named_rules c) ≡ true = each_rule (λ a. a.is_free) built_flag built_option (λ n. refl) (λ n. refl) c.flags c.names in
    let early : list_any (is_early_multiple (count_by (λ (a : Rule). is_some a.index) (built app).top.rules)) (named_rules c) ≡ false = no_rule (is_early_multiple _) (λ n. refl) (λ n. refl) c.flags c.names in
    rw (all_filled 2 c.flags c.names, one_positional c.flags c.names, simple, built_simple, early, free) refl

-- ---- which rule is found

pub same_text : (a b : Text) → bytes_eq a b ≡ true → a ≡ b
same_text a b = (bytes_eq-Decides a b).0

pub text_same : (a b : Text) → a ≡ b → bytes_eq a b ≡ true
text_same a b = (bytes_eq-Decides a b).1

module _ (p : Rule → Bool) (rule : Text → Rule) (name : Text) (asks : (n : Text) → p (rule n) ≡ bytes_eq n name) where
  found : (names : List Text) → is_among names name ≡ true → find p (map rule names) ≡ Some (rule name)
  found [] e = absurd (cc)
  found (n ∷ names) e = go (bytes_eq n name) refl (asks n) e (found names)
    where
      go : (b : Bool) → bytes_eq n name ≡ b → p (rule n) ≡ b → (b || is_among names name) ≡ true
          → (is_among names name ≡ true → find p (map rule names) ≡ Some (rule name))
          → cond (p (rule n)) (Some (rule n)) (find p (map rule names)) ≡ Some (rule name)
      go true same is e later = rw is (ap (λ (t : Text). Some (rule t)) (same_text n name same))
      go false same is e later = rw is (later e)

  missing : (names : List Text) → is_among names name ≡ false → find p (map rule names) ≡ None
  missing [] e = refl
  missing (n ∷ names) e = go (bytes_eq n name) (asks n) e (missing names)
    where
      go : (b : Bool) → p (rule n) ≡ b → (b || is_among names name) ≡ false → (is_among names name ≡ false → find p (map rule names) ≡ None)
          → cond (p (rule n)) (Some (rule n)) (find p (map rule names)) ≡ None
      go true is e later = absurd (cc)
      go false is e later = rw is (later e)

-- the rule of a flag, of an option, or none
module _ (c : Command) (p : Rule → Bool) (name : Text) (flag_asks : (n : Text) → p (built_flag n) ≡ bytes_eq n name) (option_asks : (n : Text) → p (built_option n) ≡ bytes_eq n name) where
  flags_first : find p (named_rules c) ≡ option_or (find p (map built_flag c.flags)) (find p (map built_option c.names))
  flags_first = find-append p (map built_flag c.flags) (map built_option c.names)

  flag_found : is_among c.flags name ≡ true → find p (named_rules c) ≡ Some (built_flag name)
  flag_found e = flags_first ∙ ap (λ o. option_or o (find p (map built_option c.names))) (found p built_flag name flag_asks c.flags e)

  past_flags : is_among c.flags name ≡ false → find p (named_rules c) ≡ find p (map built_option c.names)
  past_flags e = flags_first ∙ ap (λ o. option_or o (find p (map built_option c.names))) (missing p built_flag name flag_asks c.flags e)

  option_found : is_among c.flags name ≡ false → is_among c.names name ≡ true → find p (named_rules c) ≡ Some (built_option name)
  option_found no_flag e = past_flags no_flag ∙ found p built_option name option_asks c.names e

  none_found : is_among c.flags name ≡ false → is_among c.names name ≡ false → find p (named_rules c) ≡ None
  none_found no_flag e = past_flags no_flag ∙ missing p built_option name option_asks c.names e

or_false : (b : Bool) → (b || false) ≡ b
or_false true = refl
or_false false = refl

module _ (c : Command) (name : Text) where
  abbrev is_called : Rule → Bool
  is_called a = not (is_some a.index) && has_long a name

  pub long_flag : is_among c.flags name ≡ true → arg_by_long (built_rules c) name ≡ Some (built_flag name)
  long_flag = flag_found c is_called name (λ n. or_false (bytes_eq n name)) (λ n. or_false (bytes_eq n name))

  pub long_option : is_among c.flags name ≡ false → is_among c.names name ≡ true → arg_by_long (built_rules c) name ≡ Some (built_option name)
  long_option = option_found c is_called name (λ n. or_false (bytes_eq n name)) (λ n. or_false (bytes_eq n name))

  pub long_missing : is_among c.flags name ≡ false → is_among c.names name ≡ false → arg_by_long (built_rules c) name ≡ None
  long_missing = none_found c is_called name (λ n. or_false (bytes_eq n name)) (λ n. or_false (bytes_eq n name))

pub flag_by_id : (c : Command) (x : ℕ) (name : Text) → is_among c.flags (x ∷ name) ≡ true → arg_by_id (built_rules c) (x ∷ name) ≡ Some (built_flag (x ∷ name))
flag_by_id c x name = flag_found c (λ a. bytes_eq a.id (x ∷ name)) (x ∷ name) (λ n. refl) (λ n. refl)

pub option_by_id : (c : Command) (x : ℕ) (name : Text) → is_among c.flags (x ∷ name) ≡ false → is_among c.names (x ∷ name) ≡ true → arg_by_id (built_rules c) (x ∷ name) ≡ Some (built_option (x ∷ name))
option_by_id c x name = option_found c (λ a. bytes_eq a.id (x ∷ name)) (x ∷ name) (λ n. refl) (λ n. refl)

no_rule_found : (p : Rule → Bool) (rules : List Rule) → list_any p rules ≡ false → find p rules ≡ None
no_rule_found p [] e = refl
no_rule_found p (x ∷ rules) e = go (p x) e (no_rule_found p rules)
  where
    go : (b : Bool) → (b || list_any p rules) ≡ false → (list_any p rules ≡ false → find p rules ≡ None) → cond b (Some x) (find p rules) ≡ None
    go true e later = absurd (cc)
    go false e later = later e

pub short_missing : (c : Command) (x : ℕ) → arg_by_short (built_rules c) x ≡ None
short_missing c x = no_rule_found (λ a. not (is_some a.index) && has_short a x) (named_rules c) (no_rule _ (λ n. refl) (λ n. refl) c.flags c.names)

-- ---- the names of a command

all_among : (p : Text → Bool) (names : List Text) (n : Text) → list_all p names ≡ true → is_among names n ≡ true → p n ≡ true
all_among p [] n all e = absurd (cc)
all_among p (m ∷ names) n all e = go (bytes_eq m n) refl e (all_among p names n)
  where
    go : (b : Bool) → bytes_eq m n ≡ b → (b || is_among names n) ≡ true → (list_all p names ≡ true → is_among names n ≡ true → p n ≡ true) → p n ≡ true
    go true same e again = ap p (sym (same_text m n same)) ∙ (and_parts (p m) (list_all p names) all).0
    go false same e again = again (and_parts (p m) (list_all p names) all).1 e

differs : (a b : Text) → (a ≡ b → ⊥) → bytes_eq a b ≡ false
differs a b other = go (bytes_eq a b) refl
  where
    go : (d : Bool) → bytes_eq a b ≡ d → d ≡ false
    go true same = absurd (other (same_text a b same))
    go false same = refl

module _ (c : Command) (are : AreNames c) where
  abbrev is_flag : Text → Bool
  is_flag n = is_name n && not (is_among c.names n)

  both : (list_all is_name c.names ≡ true) × (list_all is_flag c.flags ≡ true)
  both = and_parts (list_all is_name c.names) (list_all is_flag c.flags) are

  flag_parts : (n : Text) → is_among c.flags n ≡ true → (is_name n ≡ true) × (not (is_among c.names n) ≡ true)
  flag_parts n e = and_parts (is_name n) (not (is_among c.names n)) (all_among is_flag c.flags n both.1 e)

  pub flag_is_name : (n : Text) → is_among c.flags n ≡ true → is_name n ≡ true
  flag_is_name n e = (flag_parts n e).0

  -- the empty text, which is the id of the arguments, is no flag
  pub empty_no_flag : is_among c.flags [] ≡ false
  empty_no_flag = go (is_among c.flags []) refl
    where
      go : (b : Bool) → is_among c.flags [] ≡ b → b ≡ false
      go true among = absurd (true≢false (sym (flag_is_name [] among)))
      go false among = refl

  pub option_is_name : (n : Text) → is_among c.names n ≡ true → is_name n ≡ true
  option_is_name n = all_among is_name c.names n both.0

  pub option_no_flag : (n : Text) → is_among c.names n ≡ true → is_among c.flags n ≡ false
  option_no_flag n e = go (is_among c.flags n) refl
    where
      go : (b : Bool) → is_among c.flags n ≡ b → b ≡ false
      go true is = absurd (true≢false (sym e ∙ not-true (is_among c.names n) (flag_parts n is).1))
      go false is = refl

  no_flag_is_option : (n m : Text) → is_among c.flags n ≡ true → is_among c.names m ≡ true → n ≡ m → ⊥
  no_flag_is_option n m flag option same = true≢false (sym (ap (is_among c.flags) (sym same) ∙ flag) ∙ option_no_flag m option)

  pub flag_other : (n m : Text) → is_among c.flags n ≡ true → is_among c.names m ≡ true → bytes_eq n m ≡ false
  flag_other n m flag option = differs n m (no_flag_is_option n m flag option)

  pub option_other : (n m : Text) → is_among c.names n ≡ true → is_among c.flags m ≡ true → bytes_eq n m ≡ false
  option_other n m option flag = differs n m (λ same. no_flag_is_option m n flag option (sym same))

-- a name is that of a flag, of an option, or of neither
pub data Kind (c : Command) (n : Text) : Type 0 where
  a_flag : is_among c.flags n ≡ true → Kind c n
  an_option : is_among c.flags n ≡ false → is_among c.names n ≡ true → Kind c n
  neither : is_among c.flags n ≡ false → is_among c.names n ≡ false → Kind c n

pub kind_of : (c : Command) (n : Text) → Kind c n
kind_of c n = go (is_among c.flags n) (is_among c.names n) refl refl
  where
    go : (b d : Bool) → is_among c.flags n ≡ b → is_among c.names n ≡ d → Kind c n
    go true d is also = a_flag is
    go false true is also = an_option is also
    go false false is also = neither is also
