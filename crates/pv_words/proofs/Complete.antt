-- In words that say new parts of the command clap finds no fault, and its rows are those of the parts.
use Rattle.std.proofs.Common.{◌≡◌, ◌∙◌, Bool, true, false, refl, sym, subst, List, [], ◌∷◌, map, Option, Some, None}
use Rattle.std.specs.List.{AllByRecursion}
use Rattle.clap.specs.Walk.{Row, Text, Waiting, Walk, idle, option as waits, positional}
use Rattle.pv_words.specs.Words.{AreNames, Command, Part, option, argument, flag, Say, ended, plain, apart, joined, alone, nothing, IsPart}
use Rattle.pv_words.proofs.Rules.{flag_is_name, long_flag, long_option, option_is_name, option_no_flag}
use Rattle.pv_words.proofs.Rows.{AreNew, IsNew, rows_with, use_part}
use Rattle.pv_words.proofs.Looks.{name_alone, name_joined, plain_look}
use Rattle.pv_words.proofs.Turns.{IsFree, Turns, alone_turn, apart_turn, at, ends_turn, joined_turn, none_of_both, plain_turn, tail_fault, tail_row_turns, tail_rows, tail_turns, trailing_turn, value_turn, walk_end}
use Rattle.pv_words.proofs.Settling.{IsFresh, IsKnown, fresh_settled, known_found, used_if_new, pend, rows_past, settled_is}
use Rattle.pv_words.proofs.Sound.{moved}

pub record Taken (c : Command) (rows : List Row) (q : Option Part) (w : Walk) (words : List Text) (parts : List Part) : Type 0 where
  pub no_fault : tail_fault c w words ≡ []
  pub rows_are : tail_rows c w words ≡ rows_with (rows_past q rows) parts

module _ (c : Command) (are : AreNames c) where
  taken_end : (rows : List Row) (q : Option Part) (waiting : Waiting) (is_trailing : Bool) → IsKnown c q → IsFresh rows q → Taken c rows q (at rows (pend q) waiting is_trailing) [] []
  taken_end rows q waiting is_trailing known fresh = record {
    no_fault = none_of_both _ _ (walk_end c (at rows (pend q) waiting is_trailing)) (fresh_settled c are q rows known fresh);
    rows_are = settled_is c are q rows known;
  }

  takes_trailing : (words : List Text) (rows : List Row) (q : Option Part) (waiting : Waiting) → IsKnown c q → IsFresh rows q
      → Taken c rows q (at rows (pend q) waiting true) words (map argument words)
  takes_trailing [] rows q waiting known fresh = taken_end rows q waiting true known fresh
  takes_trailing (word ∷ words) rows q waiting known fresh =
      let t = moved c are q rows _ word _ (λ r. at r (pend (Some (argument word))) positional true) known (trailing_turn c rows (pend q) waiting word) in
      let more = takes_trailing words (rows_past q rows) (Some (argument word)) positional tt tt in
      record {
        no_fault = tail_turns c _ _ word _ words t ∙ none_of_both _ _ (fresh_settled c are q rows known fresh) more.no_fault;
        rows_are = tail_row_turns c _ _ word _ words t ∙ more.rows_are;
      }

  pub takes : (words : List Text) (parts : List Part) → Say words parts → (rows : List Row) (q : Option Part) (waiting : Waiting) → IsFree waiting → IsKnown c q → IsFresh rows q
      → AllByRecursion (IsPart c) parts → AreNew (rows_past q rows) parts → Taken c rows q (at rows (pend q) waiting false) words parts
  takes words parts nothing rows q waiting free known fresh of new = taken_end rows q waiting false known fresh
  takes ws ps (ended word words parts is same) rows q waiting free known fresh of new =
      let t = subst (λ (x : Text). Turns c (at rows (pend q) waiting false) x [] (at rows (pend q) waiting true)) (sym is) (ends_turn c rows (pend q) waiting) in
      let more = subst (λ (xs : List Part). Taken c rows q (at rows (pend q) waiting true) words xs) (sym same) (takes_trailing words rows q waiting known fresh) in
      record {
        no_fault = tail_turns c _ _ word _ words t ∙ more.no_fault;
        rows_are = tail_row_turns c _ _ word _ words t ∙ more.rows_are;
      }
  takes ws ps (plain word words parts no_dash said) rows q waiting free known fresh of new =
      let look = plain_look word no_dash in
      let t = moved c are q rows _ word _ (λ r. at r (pend (Some (argument word))) positional false) known (plain_turn c rows (pend q) waiting word look.0 look.1 look.2 free) in
      let more = takes words parts said (rows_past q rows) (Some (argument word)) positional tt tt tt of.1 new.1 in
      record {
        no_fault = tail_turns c _ _ word _ words t ∙ none_of_both _ _ (fresh_settled c are q rows known fresh) more.no_fault;
        rows_are = tail_row_turns c _ _ word _ words t ∙ more.rows_are;
      }
  takes ws ps (apart word name value words parts is said) rows q waiting free known fresh of new =
      let long = name_alone name word (option_is_name c are name of.0.0) is in
      let t = moved c are q rows _ word _ (λ r. at r (Some (name, [])) (waits name) false) known
      (apart_turn c rows (pend q) waiting word long.0 name long.1 (long_option c name (option_no_flag c are name of.0.0) of.0.0)) in
      let look = plain_look value of.0.1.no_dash in
      let u = value_turn c (rows_past q rows) name value look.0 look.1 look.2 (known_found c are (option name value) of.0.0) in
      let more = takes words parts said (rows_past q rows) (Some (option name value)) idle tt of.0.0 new.0 of.1 new.1 in
      record {
        no_fault = tail_turns c _ _ word _ (value ∷ words) t
            ∙ none_of_both _ _ (none_of_both _ _ (fresh_settled c are q rows known fresh) refl) (tail_turns c _ _ value _ words u ∙ more.no_fault);
        rows_are = tail_row_turns c _ _ word _ (value ∷ words) t ∙ (tail_row_turns c _ _ value _ words u ∙ more.rows_are);
      }
  takes ws ps (joined word name value words parts is said) rows q waiting free known fresh of new =
      let long = name_joined name value word (option_is_name c are name of.0.0) is in
      let first = joined_turn c rows (pend q) waiting word long.0 name value long.1 (long_option c name (option_no_flag c are name of.0.0) of.0.0) in
      let t = moved c are q rows _ word _ (λ r. at (use_part (option name value) r) (pend None) idle false) known first in
      let more = takes words parts said (use_part (option name value) (rows_past q rows)) None idle tt tt tt of.1 new.1 in
      let here = subst (λ (r : List Row). IsNew r (option name value)) (sym (settled_is c are q rows known)) new.0 in
      record {
        no_fault = tail_turns c _ _ word _ words t
            ∙ none_of_both _ _ (none_of_both _ _ (none_of_both _ _ (fresh_settled c are q rows known fresh) (used_if_new (option name value) _ here)) refl) more.no_fault;
        rows_are = tail_row_turns c _ _ word _ words t ∙ more.rows_are;
      }
  takes ws ps (alone word name words parts is said) rows q waiting free known fresh of new =
      let long = name_alone name word (flag_is_name c are name of.0) is in
      let first = alone_turn c rows (pend q) waiting word long.0 name long.1 (long_flag c name of.0) in
      let t = moved c are q rows _ word _ (λ r. at (use_part (flag name) r) (pend None) idle false) known first in
      let more = takes words parts said (use_part (flag name) (rows_past q rows)) None idle tt tt tt of.1 new.1 in
      let here = subst (λ (r : List Row). IsNew r (flag name)) (sym (settled_is c are q rows known)) new.0 in
      record {
        no_fault = tail_turns c _ _ word _ words t
            ∙ none_of_both _ _ (none_of_both _ _ (none_of_both _ _ (fresh_settled c are q rows known fresh) (used_if_new (flag name) _ here)) refl) more.no_fault;
        rows_are = tail_row_turns c _ _ word _ words t ∙ more.rows_are;
      }
