-- The command of clap, one flag or option more.
use Rattle.std.proofs.Common.{◌≡◌, ◌∙◌, ℕ, ◌+◌, ◌<◌, sym, ap, ap₂, List, [], ◌∷◌, ◌++◌, append-nil, append_assoc, take, map, length, Bor}
use Rattle.std.specs.List.{slice_index_or}
use Rattle.std.proofs.lemmas.List.{map_more, map-append}
use Rattle.clap.specs.Words.{App, Rule, Text, with_rule}
use Rattle.pv_words.specs.Answers.{texts}
use Rattle.pv_words.specs.Matches.{app_with, arguments_rule, flag_rule, option_rule}

abbrev app_of_rules : List Rule → App
app_of_rules rules = record (app_with [] []) { top = record (app_with [] []).top { rules = arguments_rule ∷ rules } }

one_more : (rule : Text → Rule) (names : List Text) (n : Text) → map rule names ++ rule n ∷ [] ≡ map rule (names ++ n ∷ [])
one_more rule names n = sym (map-append rule names (n ∷ []))

more : (names : List (Bor Text)) (i : ℕ) (d : Bor Text) → i < length names → texts (take i names) ++ (slice_index_or names i d).now ∷ [] ≡ texts (take (i + 1) names)
more names i d lt = sym (map_more (λ s. s.now) names i d lt)

pub flag_more : (a : App) (r : Rule) (flags : List (Bor Text)) (i : ℕ) (d : Bor Text) → i < length flags → a ≡ app_with (texts (take i flags)) [] → r ≡ flag_rule (slice_index_or flags i d).now
    → with_rule a r ≡ app_with (texts (take (i + 1) flags)) []
flag_more a r flags i d lt is rule =
    let f = texts (take i flags) in
    let n = (slice_index_or flags i d).now in
    ap₂ with_rule is rule
    ∙ ap app_of_rules (ap (λ rules. rules ++ flag_rule n ∷ []) (append-nil (map flag_rule f)) ∙ one_more flag_rule f n ∙ sym (append-nil (map flag_rule (f ++ n ∷ []))))
    ∙ ap (λ names. app_with names []) (more flags i d lt)

pub option_more : (a : App) (r : Rule) (flags : List Text) (names : List (Bor Text)) (i : ℕ) (d : Bor Text) → i < length names → a ≡ app_with flags (texts (take i names)) → r ≡ option_rule (slice_index_or names i d).now
    → with_rule a r ≡ app_with flags (texts (take (i + 1) names))
option_more a r flags names i d lt is rule =
    let f = texts (take i names) in
    let n = (slice_index_or names i d).now in
    ap₂ with_rule is rule
    ∙ ap app_of_rules (append_assoc (map flag_rule flags) (map option_rule f) (option_rule n ∷ []) ∙ ap (λ rules. map flag_rule flags ++ rules) (one_more option_rule f n))
    ∙ ap (app_with flags) (more names i d lt)
