-- After the walk: clap gives each flag that isn't given the value `false`, and all other rows stay.
use Rattle.std.proofs.Common.{◌≡◌, ◌∙◌, ◌&&◌, ◌||◌, Bool, true, false, not, cond, codes, refl, sym, ap, List, [], ◌∷◌, ◌++◌, map, fold, Option, Some, None, is_some, true≢false}
use Rattle.std.specs.Option.{unwrap_or}
use Rattle.std.specs.Str.{bytes_eq}
use Rattle.std.proofs.lemmas.List.Sums.{fold-append}
use Rattle.clap.specs.Kinds.{check_kinds, or_else}
use Rattle.clap.specs.Takes.{is_given}
use Rattle.clap.specs.Faults.{check_fault, defaults_fault, given_default_fault}
use Rattle.clap.specs.Walk.{Row, Rule, Text, all_of, has_row, reading_by, with_default, with_values}
use Rattle.clap.specs.declared.parser.matches.ValueSource.TheVariants.{DefaultValue}
use Rattle.pv_words.specs.Words.{Command, is_among}
use Rattle.pv_words.proofs.Rules.{built_arguments, built_flag, built_option, built_rules, no_rule, same_text}
use Rattle.pv_words.proofs.Rows.{more_of, row_there, values_in}
use Rattle.pv_words.proofs.Turns.{shape_with}

either_way : {X : Type 0} (b : Bool) (x : X) → cond b x x ≡ x
either_way true x = refl
either_way false x = refl

-- the rows with what flags have by default
abbrev pub defaulted : List Text → List Row → List Row
defaulted flags rows = fold with_default rows (map built_flag flags)

no_default : (rows : List Row) (names : List Text) → fold with_default rows (map built_option names) ≡ rows
no_default rows [] = refl
no_default rows (n ∷ names) = ap (λ rs. fold with_default rs (map built_option names)) (either_way (has_row n rows) rows) ∙ no_default rows names

pub finished_is : (c : Command) (rows : List Row) → fold with_default rows (built_rules c) ≡ defaulted c.flags rows
finished_is c rows =
    ap (λ rs. fold with_default rs (map built_flag c.flags ++ map built_option c.names)) (either_way (has_row [] rows) rows)
    ∙ fold-append with_default rows (map built_flag c.flags) (map built_option c.names) ∙ no_default (defaulted c.flags rows) c.names

-- ---- no fault

or_true : (b : Bool) → (b || true) ≡ true
or_true true = refl
or_true false = refl

no_option_fault : (rows : List Row) (names : List Text) → defaults_fault rows (map built_option names) ≡ []
unfolding defaults_fault
no_option_fault rows [] = refl
no_option_fault rows (n ∷ names) =
    (λ i. or_else (cond (or_true (has_row n rows) i) [] (given_default_fault (built_option n) [])) (defaults_fault (either_way (has_row n rows) rows i) (map built_option names)))
    ∙ no_option_fault rows names

no_flag_fault : (rows : List Row) (flags names : List Text) → defaults_fault rows (map built_flag flags ++ map built_option names) ≡ []
unfolding defaults_fault
no_flag_fault rows [] names = no_option_fault rows names
no_flag_fault rows (n ∷ flags) names =
    ap (λ k. or_else k (defaults_fault (with_default rows (built_flag n)) (map built_flag flags ++ map built_option names))) (either_way (has_row n rows || false) [])
    ∙ no_flag_fault (with_default rows (built_flag n)) flags names

pub no_default_fault : (c : Command) (rows : List Row) → defaults_fault rows (built_rules c) ≡ []
unfolding defaults_fault
no_default_fault c rows =
    (λ i. or_else (cond (or_true (has_row [] rows) i) [] (given_default_fault built_arguments []))
    (defaults_fault (either_way (has_row [] rows) rows i) (map built_flag c.flags ++ map built_option c.names)))
    ∙ no_flag_fault rows c.flags c.names

pub none_missing : (c : Command) (rows : List Row) → check_fault (shape_with c) rows false ≡ []
none_missing c rows = ap (λ b. check_kinds false false b) (no_rule (λ (a : Rule). a.required && not (is_given a.id rows)) (λ n. refl) (λ n. refl) c.flags c.names)

-- ---- what the rows hold

-- a flag without a row gets one
abbrev with_false : Text → List Row → List Row
with_false n rows = with_values n (reading_by (built_flag n)) DefaultValue (codes "false" ∷ []) rows

false_in : (n id : Text) (rows : List Row) → all_of id (with_false n rows) ≡ more_of n id (codes "false" ∷ []) (all_of n rows) (all_of id rows)
false_in n id rows = values_in n id (reading_by (built_flag n)) DefaultValue (codes "false" ∷ []) rows

other_default : (n id : Text) (rows : List Row) → bytes_eq n id ≡ false → all_of id (with_default rows (built_flag n)) ≡ all_of id rows
other_default n id rows other = go (has_row n rows)
  where
    go : (b : Bool) → all_of id (cond b rows (with_false n rows)) ≡ all_of id rows
    go true = refl
    go false = false_in n id rows ∙ rw other refl

given_default : (n id : Text) (rows : List Row) → has_row id rows ≡ true → all_of id (with_default rows (built_flag n)) ≡ all_of id rows
given_default n id rows has = go (bytes_eq n id) refl
  where
    go : (b : Bool) → bytes_eq n id ≡ b → all_of id (with_default rows (built_flag n)) ≡ all_of id rows
    go true same = ap (λ b. all_of id (cond b rows (with_false n rows))) (ap (λ k. has_row k rows) (same_text n id same) ∙ has)
    go false other = other_default n id rows other

has_as : (id : Text) (rows more : List Row) → all_of id more ≡ all_of id rows → has_row id more ≡ has_row id rows
has_as id rows more same = row_there id more ∙ ap is_some same ∙ sym (row_there id rows)

pub given_stays : (flags : List Text) (id : Text) (rows : List Row) → has_row id rows ≡ true → all_of id (defaulted flags rows) ≡ all_of id rows
given_stays [] id rows has = refl
given_stays (n ∷ flags) id rows has =
    let same = given_default n id rows has in
    given_stays flags id (with_default rows (built_flag n)) (has_as id rows _ same ∙ has) ∙ same

pub other_stays : (flags : List Text) (id : Text) (rows : List Row) → is_among flags id ≡ false → all_of id (defaulted flags rows) ≡ all_of id rows
other_stays [] id rows e = refl
other_stays (n ∷ flags) id rows e = go (bytes_eq n id) refl e (other_stays flags id (with_default rows (built_flag n)))
  where
    go : (b : Bool) → bytes_eq n id ≡ b → (b || is_among flags id) ≡ false → (is_among flags id ≡ false → all_of id (defaulted flags (with_default rows (built_flag n))) ≡ all_of id (with_default rows (built_flag n)))
        → all_of id (defaulted flags (with_default rows (built_flag n))) ≡ all_of id rows
    go true same e later = absurd (true≢false e)
    go false other e later = later e ∙ other_default n id rows other

no_values : (o : Option (List Text)) → is_some o ≡ false → o ≡ None
no_values None e = refl
no_values (Some ts) e = absurd (true≢false e)

pub false_added : (flags : List Text) (id : Text) (rows : List Row) → is_among flags id ≡ true → has_row id rows ≡ false → all_of id (defaulted flags rows) ≡ Some (codes "false" ∷ [])
false_added [] id rows e none = absurd (true≢false (sym e))
false_added (n ∷ flags) id rows e none = go (bytes_eq n id) refl e (false_added flags id (with_default rows (built_flag n)))
  where
    nothing : all_of id rows ≡ None
    nothing = no_values (all_of id rows) (sym (row_there id rows) ∙ none)

    go : (b : Bool) → bytes_eq n id ≡ b → (b || is_among flags id) ≡ true
        → (is_among flags id ≡ true → has_row id (with_default rows (built_flag n)) ≡ false → all_of id (defaulted flags (with_default rows (built_flag n))) ≡ Some (codes "false" ∷ []))
        → all_of id (defaulted flags (with_default rows (built_flag n))) ≡ Some (codes "false" ∷ [])
    go true same e later =
        let is = same_text n id same in
        let here : all_of id (with_default rows (built_flag n)) ≡ Some (codes "false" ∷ []) =
        ap (λ b. all_of id (cond b rows (with_false n rows))) (ap (λ k. has_row k rows) is ∙ none)
        ∙ false_in n id rows ∙ rw same (ap (λ o. Some (unwrap_or o [] ++ codes "false" ∷ [])) (ap (λ k. all_of k rows) is ∙ nothing)) in
        given_stays flags id (with_default rows (built_flag n)) (row_there id (with_default rows (built_flag n)) ∙ ap is_some here) ∙ here
    go false other e later = later e (has_as id rows _ (other_default n id rows other) ∙ none)
