-- Where clap finds no fault in words, they say the parts that its rows hold.
use Rattle.std.proofs.Common.{◌≡◌, ◌∙◌, Bool, true, false, refl, sym, ap, subst, List, [], ◌∷◌, map, append-nil, Option, Some, None, IsUtf8}
use Rattle.std.specs.Prelude.{⊤}
use Rattle.std.specs.List.{AllByRecursion}
use Rattle.std.specs.Str.{bytes_eq}
use Rattle.clap.specs.Lexer.{long_of, name_and_value}
use Rattle.clap.specs.Walk.{Row, Text, Waiting, Walk, idle, option as waits, positional, settled_rows}
use Rattle.pv_words.specs.Words.{AreNames, Command, Part, option, argument, flag, Say, ended, plain, apart, joined, alone, nothing, IsPart, is_among}
use Rattle.pv_words.proofs.Rules.{Kind, a_flag, an_option, built_rules, kind_of, long_flag, long_missing, long_option, neither, short_missing}
use Rattle.pv_words.proofs.Rows.{AreNew, IsNew, rows_with, use_part}
use Rattle.pv_words.proofs.Once.{AreNamed}
use Rattle.pv_words.proofs.Looks.{Look, ends, long, short, other, dashes, flag_spelled, look_of, some_char, spelled}
use Rattle.pv_words.proofs.Turns.{IsFree, Turns, alone_turn, apart_turn, at, ends_turn, first_none, joined_turn, plain_turn, second_none, short_unknown, tail_fault, tail_row_turns, tail_rows, tail_turns, trailing_turn, unknown_fault, value_turn, valued_fault, word_fails}
use Rattle.pv_words.proofs.Settling.{IsFresh, IsKnown, known_found, open_fails, open_trailing, pend, rows_past, settled_fresh, settled_is, new_if_used}

-- the parts that words say, where they are parts of the command, and the rows at the end of the walk
pub record Found (c : Command) (rows : List Row) (q : Option Part) (last : List Row) (IsSaid : List Part → Type 0) : Type 0 where
  pub parts : List Part
  pub said : AllByRecursion (IsPart c) parts → IsSaid parts
  pub named : AreNamed c parts
  pub fresh : IsFresh rows q
  pub new : AreNew (rows_past q rows) parts
  pub rows_are : last ≡ rows_with (rows_past q rows) parts

module _ (c : Command) (are : AreNames c) where
  abbrev pub Trails : List Text → Type 0
  Trails words = (rows : List Row) (q : Option Part) (waiting : Waiting) → IsKnown c q → tail_fault c (at rows (pend q) waiting true) words ≡ []
      → Found c rows q (tail_rows c (at rows (pend q) waiting true) words) (λ parts. parts ≡ map argument words)

  abbrev pub Sounds : List Text → Type 0
  Sounds words = (rows : List Row) (q : Option Part) (waiting : Waiting) → IsFree waiting → IsKnown c q → tail_fault c (at rows (pend q) waiting false) words ≡ []
      → Found c rows q (tail_rows c (at rows (pend q) waiting false) words) (Say words)

  -- the words after the next
  abbrev pub Later : List Text → Type 0
  Later [] = ⊤
  Later (word ∷ words) = Sounds words

  -- the rows that stand are those of parts
  pub moved : (q : Option Part) (rows : List Row) (w : Walk) (word : Text) (faults : _) (after : List Row → Walk) → IsKnown c q
      → Turns c w word faults (after (settled_rows (built_rules c) (pend q) rows)) → Turns c w word faults (after (rows_past q rows))
  moved q rows w word faults after known t = subst (λ (r : List Row). Turns c w word faults (after r)) (settled_is c are q rows known) t

  at_end : (rows : List Row) (q : Option Part) (waiting : Waiting) (is_trailing : Bool) (IsSaid : List Part → Type 0) → IsKnown c q → IsSaid []
      → tail_fault c (at rows (pend q) waiting is_trailing) [] ≡ [] → Found c rows q (tail_rows c (at rows (pend q) waiting is_trailing) []) IsSaid
  at_end rows q waiting is_trailing IsSaid known said e = record {
    parts = [];
    said = λ _. said;
    named = tt;
    fresh = settled_fresh c are q rows known (second_none _ _ e);
    new = tt;
    rows_are = settled_is c are q rows known;
  }

  pub trails : (words : List Text) → Trails words
  trails [] rows q waiting known e = at_end rows q waiting true (λ parts. parts ≡ []) known refl e
  trails (word ∷ words) rows q waiting known e =
      let t = moved q rows _ word _ (λ r. at r (pend (Some (argument word))) positional true) known (trailing_turn c rows (pend q) waiting word) in
      let faults = sym (tail_turns c _ _ word _ words t) ∙ e in
      let more = trails words (rows_past q rows) (Some (argument word)) positional tt (second_none _ _ faults) in
      record {
        parts = argument word ∷ more.parts;
        said = λ parts. ap (λ ps. argument word ∷ ps) (more.said parts.1);
        named = (tt, more.named);
        fresh = settled_fresh c are q rows known (first_none _ _ faults);
        new = (tt, more.new);
        rows_are = tail_row_turns c _ _ word _ words t ∙ more.rows_are;
      }

  -- ---- an option that waits for its value

  pub record Opened (rows : List Row) (n : Text) (words : List Text) : Type 0 where
    pub value : Text
    pub rest : List Text
    pub parts : List Part
    pub is : words ≡ value ∷ rest
    pub said : AllByRecursion (IsPart c) parts → Say rest parts
    pub named : AreNamed c parts
    pub fresh : IsNew rows (option n value)
    pub new : AreNew (use_part (option n value) rows) parts
    pub rows_are : tail_rows c (at rows (Some (n, [])) (waits n) false) words ≡ rows_with (use_part (option n value) rows) parts

  -- a word `--NAME` or `--NAME=VALUE` is a fault before the value
  flag_opened : (rows : List Row) (n word : Text) (words : List Text) (name : Text) (v : Option Text) → Kind c name → is_among c.names n ≡ true
      → bytes_eq word dashes ≡ false → long_of word ≡ Some (name, v) → tail_fault c (at rows (Some (n, [])) (waits n) false) (word ∷ words) ≡ [] → ⊥
  flag_opened rows n word words name v (neither no_flag no_option) among not_end spells e =
      word_fails c _ word words _ (unknown_fault c rows (Some (n, [])) (waits n) word not_end name v spells (long_missing c name no_flag no_option)) e
  flag_opened rows n word words name (Some value) (an_option no_flag is) among not_end spells e =
      let t = joined_turn c rows (Some (n, [])) (waits n) word not_end name value spells (long_option c name no_flag is) in
      open_fails c are n rows among (first_none _ _ (first_none _ _ (first_none _ _ (sym (tail_turns c _ _ word _ words t) ∙ e))))
  flag_opened rows n word words name None (an_option no_flag is) among not_end spells e =
      let t = apart_turn c rows (Some (n, [])) (waits n) word not_end name spells (long_option c name no_flag is) in
      open_fails c are n rows among (first_none _ _ (first_none _ _ (sym (tail_turns c _ _ word _ words t) ∙ e)))
  flag_opened rows n word words name (Some value) (a_flag is) among not_end spells e =
      word_fails c _ word words _ (valued_fault c rows (Some (n, [])) (waits n) word not_end name value spells (long_flag c name is)) e
  flag_opened rows n word words name None (a_flag is) among not_end spells e =
      let t = alone_turn c rows (Some (n, [])) (waits n) word not_end name spells (long_flag c name is) in
      open_fails c are n rows among (first_none _ _ (first_none _ _ (first_none _ _ (sym (tail_turns c _ _ word _ words t) ∙ e))))

  opened : (words : List Text) (rows : List Row) (n : Text) → Later words → AllByRecursion IsUtf8 words → is_among c.names n ≡ true
      → tail_fault c (at rows (Some (n, [])) (waits n) false) words ≡ [] → Opened rows n words
  opened [] rows n later utf8 among e = absurd (open_fails c are n rows among (second_none _ _ e))
  opened (word ∷ words) rows n later utf8 among e = go (look_of word)
    where
      go : Look word → Opened rows n (word ∷ words)
      go (ends is) =
          let t = subst (λ (x : Text). Turns c (at rows (Some (n, [])) (waits n) false) x [] (at rows (Some (n, [])) (waits n) true)) (sym is) (ends_turn c rows (Some (n, [])) (waits n)) in
          absurd (open_trailing c are words n rows (waits n) among (sym (tail_turns c _ _ word _ words t) ∙ e))
      go (long text not_end is spells) = absurd (flag_opened rows n word words (name_and_value text).0 (name_and_value text).1 (kind_of c (name_and_value text).0) among not_end spells e)
      go (short b text not_end is no_long some_short) =
          let first = some_char b text (subst IsUtf8 is utf8.0) in
          absurd (word_fails c _ word words _ (short_unknown c rows (Some (n, [])) (waits n) word not_end b text first.0 no_long some_short first.1 (short_missing c first.0)) e)
      go (other not_end dash no_long no_short) =
          let t = value_turn c rows n word not_end no_long no_short (known_found c are (option n word) among) in
          let more = later rows (Some (option n word)) idle tt among (sym (tail_turns c _ _ word _ words t) ∙ e) in
          record {
            value = word;
            rest = words;
            parts = more.parts;
            is = refl;
            said = more.said;
            named = more.named;
            fresh = more.fresh;
            new = more.new;
            rows_are = tail_row_turns c _ _ word _ words t ∙ more.rows_are;
          }

  -- ---- one word

  flag_sounds : (word : Text) (words : List Text) (name : Text) (v : Option Text) → Kind c name → Sounds words → Later words → AllByRecursion IsUtf8 words
      → bytes_eq word dashes ≡ false → word ≡ 45 ∷ 45 ∷ spelled (name, v) → long_of word ≡ Some (name, v) → Sounds (word ∷ words)
  flag_sounds word words name v (neither no_flag no_option) again later utf8 not_end is spells rows q waiting free known e =
      absurd (word_fails c _ word words _ (unknown_fault c rows (pend q) waiting word not_end name v spells (long_missing c name no_flag no_option)) e)
  flag_sounds word words name (Some value) (a_flag among) again later utf8 not_end is spells rows q waiting free known e =
      absurd (word_fails c _ word words _ (valued_fault c rows (pend q) waiting word not_end name value spells (long_flag c name among)) e)
  flag_sounds word words name None (a_flag among) again later utf8 not_end is spells rows q waiting free known e =
      let first = alone_turn c rows (pend q) waiting word not_end name spells (long_flag c name among) in
      let faults = sym (tail_turns c _ _ word _ words first) ∙ e in
      let here = first_none _ _ (first_none _ _ faults) in
      let t = moved q rows _ word _ (λ r. at (use_part (flag name) r) (pend None) idle false) known first in
      let more = again (use_part (flag name) (rows_past q rows)) None idle tt tt (second_none _ _ (sym (tail_turns c _ _ word _ words t) ∙ e)) in
      record {
        parts = flag name ∷ more.parts;
        said = λ parts. alone word name words more.parts (is ∙ ap (λ (t : Text). 45 ∷ 45 ∷ t) (append-nil name)) (more.said parts.1);
        named = (among, more.named);
        fresh = settled_fresh c are q rows known (first_none _ _ here);
        new = (subst (λ (r : List Row). IsNew r (flag name)) (settled_is c are q rows known) (new_if_used (flag name) _ (second_none _ _ here)), more.new);
        rows_are = tail_row_turns c _ _ word _ words t ∙ more.rows_are;
      }
  flag_sounds word words name (Some value) (an_option no_flag among) again later utf8 not_end is spells rows q waiting free known e =
      let first = joined_turn c rows (pend q) waiting word not_end name value spells (long_option c name no_flag among) in
      let faults = sym (tail_turns c _ _ word _ words first) ∙ e in
      let here = first_none _ _ (first_none _ _ faults) in
      let t = moved q rows _ word _ (λ r. at (use_part (option name value) r) (pend None) idle false) known first in
      let more = again (use_part (option name value) (rows_past q rows)) None idle tt tt (second_none _ _ (sym (tail_turns c _ _ word _ words t) ∙ e)) in
      record {
        parts = option name value ∷ more.parts;
        said = λ parts. joined word name value words more.parts is (more.said parts.1);
        named = (among, more.named);
        fresh = settled_fresh c are q rows known (first_none _ _ here);
        new = (subst (λ (r : List Row). IsNew r (option name value)) (settled_is c are q rows known) (new_if_used (option name value) _ (second_none _ _ here)), more.new);
        rows_are = tail_row_turns c _ _ word _ words t ∙ more.rows_are;
      }
  flag_sounds word words name None (an_option no_flag among) again later utf8 not_end is spells rows q waiting free known e =
      let first = apart_turn c rows (pend q) waiting word not_end name spells (long_option c name no_flag among) in
      let t = moved q rows _ word _ (λ r. at r (Some (name, [])) (waits name) false) known first in
      let faults = sym (tail_turns c _ _ word _ words t) ∙ e in
      let more = opened words (rows_past q rows) name later utf8 among (second_none _ _ faults) in
      record {
        parts = option name more.value ∷ more.parts;
        said = λ parts. subst (λ (ws : List Text). Say (word ∷ ws) (option name more.value ∷ more.parts)) (sym more.is)
            (apart word name more.value more.rest more.parts (is ∙ ap (λ (t : Text). 45 ∷ 45 ∷ t) (append-nil name)) (more.said parts.1));
        named = (among, more.named);
        fresh = settled_fresh c are q rows known (first_none _ _ (first_none _ _ faults));
        new = (more.fresh, more.new);
        rows_are = tail_row_turns c _ _ word _ words t ∙ more.rows_are;
      }

  step : (word : Text) (words : List Text) → Sounds words → Later words → AllByRecursion IsUtf8 (word ∷ words) → Sounds (word ∷ words)
  step word words again later utf8 rows q waiting free known e = go (look_of word)
    where
      go : Look word → Found c rows q (tail_rows c (at rows (pend q) waiting false) (word ∷ words)) (Say (word ∷ words))
      go (ends is) =
          let t = subst (λ (x : Text). Turns c (at rows (pend q) waiting false) x [] (at rows (pend q) waiting true)) (sym is) (ends_turn c rows (pend q) waiting) in
          let more = trails words rows q waiting known (sym (tail_turns c _ _ word _ words t) ∙ e) in
          record {
            parts = more.parts;
            said = λ parts. ended word words more.parts is (more.said parts);
            named = more.named;
            fresh = more.fresh;
            new = more.new;
            rows_are = tail_row_turns c _ _ word _ words t ∙ more.rows_are;
          }
      go (long text not_end is spells) =
          let p = name_and_value text in
          flag_sounds word words p.0 p.1 (kind_of c p.0) again later utf8.1 not_end (is ∙ ap (λ (t : Text). 45 ∷ 45 ∷ t) (flag_spelled text)) spells rows q waiting free known e
      go (short b text not_end is no_long some_short) =
          let first = some_char b text (subst IsUtf8 is utf8.0) in
          absurd (word_fails c _ word words _ (short_unknown c rows (pend q) waiting word not_end b text first.0 no_long some_short first.1 (short_missing c first.0)) e)
      go (other not_end dash no_long no_short) =
          let t = moved q rows _ word _ (λ r. at r (pend (Some (argument word))) positional false) known (plain_turn c rows (pend q) waiting word not_end no_long no_short free) in
          let faults = sym (tail_turns c _ _ word _ words t) ∙ e in
          let more = again (rows_past q rows) (Some (argument word)) positional tt tt (second_none _ _ faults) in
          record {
            parts = argument word ∷ more.parts;
            said = λ parts. plain word words more.parts (λ begins. parts.0.no_stream (dash begins)) (more.said parts.1);
            named = (tt, more.named);
            fresh = settled_fresh c are q rows known (first_none _ _ faults);
            new = (tt, more.new);
            rows_are = tail_row_turns c _ _ word _ words t ∙ more.rows_are;
          }

  pub sound : (words : List Text) → AllByRecursion IsUtf8 words → Sounds words
  sound [] utf8 = λ rows q waiting free known e. at_end rows q waiting false (Say []) known nothing e
  sound (x ∷ []) utf8 = step x [] (sound [] tt) tt utf8
  sound (x ∷ y ∷ words) utf8 = step x (y ∷ words) (sound (y ∷ words) utf8.1) (sound words utf8.1.1) utf8
