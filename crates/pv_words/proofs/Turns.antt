-- One word of the walk of clap: the walk after it, and the faults that it adds.
use Rattle.std.proofs.Common.{◌≡◌, ◌∙◌, ℕ, ◌&&◌, Bool, true, false, cond, refl, sym, ap, List, [], ◌∷◌, drop, length, slice_get, fold, Option, Some, None}
use Rattle.std.specs.Prelude.{⊤, encode_utf8, nat_lt}
use Rattle.std.specs.Option.{option_map_or}
use Rattle.std.specs.Str.{bytes_eq, chars}
use Rattle.clap.specs.Lexer.{long_of, short_of}
use Rattle.clap.specs.Kinds.{Kinds, or_else}
use Rattle.clap.specs.Simple.{Shape}
use Rattle.clap.specs.Faults.{bundle_fault, bundle_step_fault, flag_word_fault, flags_fault, long_fault, other_fault, react_fault, settle_fault, short_fault, step_fault, turn_fault, walk_fault}
use Rattle.clap.specs.Walk.{Held, Row, Rule, Step, Text, Waiting, Walk, after_flag, after_step, arg_by_id, arg_by_long, arg_by_short, idle, is_pending, long_met, long_or_other, next, option, option_word, plain_word, positional, positional_held, pushed, settled, settled_rows, short_or_plain, subcommand_met, subcommand_or_other, trailing, used, value, walked, word_met}
use Rattle.clap.specs.declared.error.kind.ErrorKind.TheVariants.{TooManyValues, UnknownArgument}
use Rattle.clap.specs.declared.error.kind.ErrorKind.{ErrorKind}
use Rattle.pv_words.specs.Words.{Command}
use Rattle.pv_words.proofs.Rules.{built_app, built_arguments, built_flag, built_option, built_rules, text_same}
use Rattle.pv_words.proofs.Looks.{dashes}

abbrev pub Pending : Type 0
Pending = Option (Text × List Text)

abbrev pub shape_with : Command → Shape
shape_with c = (built_app c).top

-- where the walk stands between two words
abbrev pub held : List Row → Pending → Held
held rows pending = record { rows = rows; pending = pending; skip = 0 }

abbrev pub at : List Row → Pending → Waiting → Bool → Walk
at rows pending waiting is_trailing = record {
  held = held rows pending;
  waiting = waiting;
  position = 1;
  is_trailing = is_trailing;
  stopped = None;
}

-- the word leads from one walk to the next, with these faults
pub record Turns (c : Command) (w : Walk) (word : Text) (faults : Kinds) (after : Walk) : Type 0 where
  pub walks : walked (built_rules c) [] w word ≡ after
  pub fails : turn_fault (shape_with c) [] w word ≡ faults

and_false : (b : Bool) → (b && false) ≡ false
and_false true = refl
and_false false = refl

no_subcommand : (waiting : Waiting) (word : Text) → subcommand_met [] waiting word ≡ None
no_subcommand idle word = refl
no_subcommand (option id) word = refl
no_subcommand positional word = refl

-- no option waits for its value
abbrev pub IsFree : Waiting → Type 0
IsFree idle = ⊤
IsFree (option id) = ⊥
IsFree positional = ⊤

is_value : (waiting : Waiting) → IsFree waiting → (rules : List Rule) (word : Text) (h : Held) → plain_word rules waiting word h ≡ (h, value)
is_value idle free rules word h = refl
is_value (option id) free rules word h = absurd free
is_value positional free rules word h = refl

module _ (c : Command) (rows : List Row) (pending : Pending) where
  -- what stood before is used first
  given : (word : Text) → positional_held (built_rules c) built_arguments word (held rows pending) ≡ held (settled_rows (built_rules c) pending rows) (Some ([], word ∷ []))
  given word = ap (λ b. pushed [] word (cond b (held rows pending) (settled (built_rules c) (held rows pending)))) (and_false (is_pending built_arguments pending))

  given_fault : cond (is_pending built_arguments pending && false) [] (settle_fault (built_rules c) false (held rows pending)) ≡ settle_fault (built_rules c) false (held rows pending)
  given_fault = ap (λ b. cond b [] (settle_fault (built_rules c) false (held rows pending))) (and_false (is_pending built_arguments pending))

  -- after `--`
  pub trailing_turn : (waiting : Waiting) (word : Text)
      → Turns c (at rows pending waiting true) word (settle_fault (built_rules c) false (held rows pending)) (at (settled_rows (built_rules c) pending rows) (Some ([], word ∷ [])) positional true)
  unfolding walked
  trailing_turn waiting word = record {
    walks = ap (λ (h : Held). record {
      held = h;
      waiting = positional;
      position = 1;
      is_trailing = true;
      stopped = None;
    }) (given word);
    fails = given_fault;
  }

  -- before it
  abbrev other : Waiting → Text → Held × Step
  other waiting word = subcommand_or_other (built_rules c) None waiting 1 word (held rows pending)

  met : (waiting : Waiting) (word : Text) → word_met (built_rules c) [] false waiting 1 word (held rows pending) ≡ other waiting word
  met waiting word = ap (λ o. subcommand_or_other (built_rules c) o waiting 1 word (held rows pending)) (no_subcommand waiting word)

  turn : (waiting : Waiting) (word : Text) (m : Held × Step) (k : Kinds) → other waiting word ≡ m → other_fault (shape_with c) None word (held rows pending) ≡ k
      → Turns c (at rows pending waiting false) word (or_else k (step_fault (shape_with c) 1 m.0 m.1)) (after_step (built_rules c) word (at rows pending waiting false) m.0 m.1)
  unfolding walked
  turn waiting word m k is fault =
      let all = met waiting word ∙ is in
      let faults = ap (λ o. other_fault (shape_with c) o word (held rows pending)) (no_subcommand waiting word) ∙ fault in
      record {
        walks = ap (λ (p : Held × Step). after_step (built_rules c) word (at rows pending waiting false) p.0 p.1) all;
        fails = λ i. or_else (faults i) (step_fault (shape_with c) 1 (all i).0 (all i).1);
      }

  pub ends_turn : (waiting : Waiting) → Turns c (at rows pending waiting false) dashes [] (at rows pending waiting true)
  ends_turn waiting = turn waiting dashes (held rows pending, trailing 1) [] refl refl

  module _ (waiting : Waiting) (word : Text) (not_end : bytes_eq word dashes ≡ false) where
    flag_met : (n : Text) (v : Option Text) (o : Option Rule) → long_of word ≡ Some (n, v) → arg_by_long (built_rules c) n ≡ o
        → other waiting word ≡ after_flag (built_rules c) waiting word (long_met (built_rules c) o v (held rows pending)).0 (long_met (built_rules c) o v (held rows pending)).1
    flag_met n v o is found =
        (λ i. cond (not_end i) (held rows pending, trailing 1) (long_or_other (built_rules c) waiting word (is i) (held rows pending)))
        ∙ ap (λ r. after_flag (built_rules c) waiting word (long_met (built_rules c) r v (held rows pending)).0 (long_met (built_rules c) r v (held rows pending)).1) found

    flag_fault : (n : Text) (v : Option Text) (o : Option Rule) → long_of word ≡ Some (n, v) → arg_by_long (built_rules c) n ≡ o
        → other_fault (shape_with c) None word (held rows pending) ≡ long_fault (built_rules c) false o v (held rows pending)
    flag_fault n v o is found =
        (λ i. cond (not_end i) [] (flag_word_fault (built_rules c) false (is i) word (held rows pending)))
        ∙ ap (λ r. long_fault (built_rules c) false r v (held rows pending)) found

    pub joined_turn : (n t : Text) → long_of word ≡ Some (n, Some t) → arg_by_long (built_rules c) n ≡ Some (built_option n)
        → Turns c (at rows pending waiting false) word (or_else (react_fault (built_rules c) false (built_option n) (t ∷ []) (held rows pending)) [])
        (at (used (built_option n) (t ∷ []) (settled_rows (built_rules c) pending rows)) None idle false)
    joined_turn n t is found = turn waiting word _ _ (flag_met n (Some t) (Some (built_option n)) is found) (flag_fault n (Some t) (Some (built_option n)) is found)

    pub apart_turn : (n : Text) → long_of word ≡ Some (n, None) → arg_by_long (built_rules c) n ≡ Some (built_option n)
        → Turns c (at rows pending waiting false) word (or_else (settle_fault (built_rules c) false (held rows pending)) [])
        (at (settled_rows (built_rules c) pending rows) (Some (n, [])) (option n) false)
    apart_turn n is found = turn waiting word _ _ (flag_met n None (Some (built_option n)) is found) (flag_fault n None (Some (built_option n)) is found)

    pub alone_turn : (n : Text) → long_of word ≡ Some (n, None) → arg_by_long (built_rules c) n ≡ Some (built_flag n)
        → Turns c (at rows pending waiting false) word (or_else (react_fault (built_rules c) false (built_flag n) [] (held rows pending)) [])
        (at (used (built_flag n) [] (settled_rows (built_rules c) pending rows)) None idle false)
    alone_turn n is found = turn waiting word _ _ (flag_met n None (Some (built_flag n)) is found) (flag_fault n None (Some (built_flag n)) is found)

    pub valued_fault : (n t : Text) → long_of word ≡ Some (n, Some t) → arg_by_long (built_rules c) n ≡ Some (built_flag n)
        → turn_fault (shape_with c) [] (at rows pending waiting false) word ≡ TooManyValues ∷ []
    valued_fault n t is found = (turn waiting word (other waiting word) (TooManyValues ∷ []) refl (flag_fault n (Some t) (Some (built_flag n)) is found)).fails

    pub unknown_fault : (n : Text) (v : Option Text) → long_of word ≡ Some (n, v) → arg_by_long (built_rules c) n ≡ None
        → turn_fault (shape_with c) [] (at rows pending waiting false) word ≡ UnknownArgument ∷ []
    unknown_fault n v is missing = (turn waiting word (other waiting word) (UnknownArgument ∷ []) refl (flag_fault n v None is missing)).fails

    pub short_unknown : (b : ℕ) (t : Text) (x : ℕ) → long_of word ≡ None → short_of word ≡ Some (b ∷ t) → slice_get (chars (b ∷ t)) 0 ≡ Some x → arg_by_short (built_rules c) x ≡ None
        → turn_fault (shape_with c) [] (at rows pending waiting false) word ≡ UnknownArgument ∷ []
    unfolding flags_fault
    short_unknown b t x no_long is first missing =
        let unknown : bundle_fault (built_rules c) false (b ∷ t) (held rows pending) ≡ UnknownArgument ∷ [] =
        ap (λ o. bundle_step_fault (built_rules c) false o (b ∷ t) 0 (held rows pending) (flags_fault (built_rules c) false (length t))) first
        ∙ ap (λ o. short_fault (built_rules c) false o (drop (length (encode_utf8 x)) (b ∷ t)) (held rows pending) (flags_fault (built_rules c) false (length t) (drop (length (encode_utf8 x)) (b ∷ t)) 0)) missing in
        let fault : other_fault (shape_with c) None word (held rows pending) ≡ UnknownArgument ∷ [] =
        (λ i. cond (not_end i) [] (flag_word_fault (built_rules c) false (no_long i) word (held rows pending)))
        ∙ ap (λ o. option_map_or (λ flags. bundle_fault (built_rules c) false flags (held rows pending)) o []) is ∙ unknown in
        (turn waiting word (other waiting word) (UnknownArgument ∷ []) refl fault).fails

    module _ (no_long : long_of word ≡ None) (no_short : short_of word ≡ None) where
      pub plain_met : other waiting word ≡ plain_word (built_rules c) waiting word (held rows pending)
      plain_met =
          (λ i. cond (not_end i) (held rows pending, trailing 1) (long_or_other (built_rules c) waiting word (no_long i) (held rows pending)))
          ∙ ap (λ o. short_or_plain (built_rules c) waiting word o (held rows pending)) no_short

      plain_fault : other_fault (shape_with c) None word (held rows pending) ≡ []
      plain_fault =
          (λ i. cond (not_end i) [] (flag_word_fault (built_rules c) false (no_long i) word (held rows pending)))
          ∙ ap (λ o. option_map_or (λ flags. bundle_fault (built_rules c) false flags (held rows pending)) o []) no_short

      pub plain_turn : IsFree waiting
          → Turns c (at rows pending waiting false) word (settle_fault (built_rules c) false (held rows pending)) (at (settled_rows (built_rules c) pending rows) (Some ([], word ∷ [])) positional false)
      plain_turn free =
          let t = turn waiting word (held rows pending, value) [] (plain_met ∙ is_value waiting free (built_rules c) word (held rows pending)) plain_fault in
          record {
            walks = t.walks ∙ ap (λ (h : Held). record {
              held = h;
              waiting = positional;
              position = 1;
              is_trailing = false;
              stopped = None;
            }) (given word);
            fails = t.fails ∙ given_fault;
          }

-- the value of an option
pub value_turn : (c : Command) (rows : List Row) (n word : Text) → bytes_eq word dashes ≡ false → long_of word ≡ None → short_of word ≡ None → arg_by_id (built_rules c) n ≡ Some (built_option n)
    → Turns c (at rows (Some (n, [])) (option n) false) word [] (at rows (Some (n, word ∷ [])) idle false)
value_turn c rows n word not_end no_long no_short found =
    let h = held rows (Some (n, [])) in
    let is : plain_word (built_rules c) (option n) word h ≡ (pushed n word h, next idle) =
    ap (λ o. ((option_word o n word h).0, next (option_word o n word h).1)) found
    ∙ ap (λ b. (pushed n word h, next (cond (nat_lt (cond b 1 0) 1) (option n) idle))) (text_same n n refl) in
    turn c rows (Some (n, [])) (option n) word _ [] (plain_met c rows (Some (n, [])) (option n) word not_end no_long no_short ∙ is)
    (plain_fault c rows (Some (n, [])) (option n) word not_end no_long no_short)

-- ---- all words from here on

abbrev pub ended : Command → Walk → List Text → Walk
ended c w words = fold (walked (built_rules c) []) w words

-- the faults of these words, and of what stands at their end
abbrev pub tail_fault : Command → Walk → List Text → Kinds
tail_fault c w words = or_else (walk_fault (shape_with c) [] w words) (settle_fault (built_rules c) false (ended c w words).held)

abbrev pub tail_rows : Command → Walk → List Text → List Row
tail_rows c w words = (settled (built_rules c) (ended c w words).held).rows

or_else_regrouped : (a b d : Kinds) → or_else (or_else a b) d ≡ or_else a (or_else b d)
or_else_regrouped [] b d = refl
or_else_regrouped (k ∷ ks) b d = refl

pub word_fault_first : (c : Command) (w : Walk) (word : Text) (rest : List Text)
    → tail_fault c w (word ∷ rest) ≡ or_else (turn_fault (shape_with c) [] w word) (tail_fault c (walked (built_rules c) [] w word) rest)
unfolding walk_fault
word_fault_first c w word rest = or_else_regrouped (turn_fault (shape_with c) [] w word) _ _

pub tail_turns : (c : Command) (w after : Walk) (word : Text) (faults : Kinds) (rest : List Text) → Turns c w word faults after
    → tail_fault c w (word ∷ rest) ≡ or_else faults (tail_fault c after rest)
tail_turns c w after word faults rest t = word_fault_first c w word rest ∙ (λ i. or_else (t.fails i) (tail_fault c (t.walks i) rest))

pub tail_row_turns : (c : Command) (w after : Walk) (word : Text) (faults : Kinds) (rest : List Text) → Turns c w word faults after
    → tail_rows c w (word ∷ rest) ≡ tail_rows c after rest
tail_row_turns c w after word faults rest t = ap (λ v. tail_rows c v rest) t.walks

pub walk_end : (c : Command) (w : Walk) → walk_fault (shape_with c) [] w [] ≡ []
unfolding walk_fault
walk_end c w = refl

pub first_none : (a b : Kinds) → or_else a b ≡ [] → a ≡ []
first_none [] b e = refl
first_none (k ∷ ks) b e = e

pub second_none : (a b : Kinds) → or_else a b ≡ [] → b ≡ []
second_none [] b e = e
second_none (k ∷ ks) b e = absurd (cc)

pub none_of_both : (a b : Kinds) → a ≡ [] → b ≡ [] → or_else a b ≡ []
none_of_both a b e f = ap (λ k. or_else k b) e ∙ f

pub not_none : (k : ErrorKind) (a : Kinds) → a ≡ k ∷ [] → a ≡ [] → ⊥
not_none k a is none = cc

-- after a word with a fault there is one
pub word_fails : (c : Command) (w : Walk) (word : Text) (rest : List Text) (k : ErrorKind) → turn_fault (shape_with c) [] w word ≡ k ∷ [] → tail_fault c w (word ∷ rest) ≡ [] → ⊥
word_fails c w word rest k is e = not_none k (turn_fault (shape_with c) [] w word) is (first_none _ _ (sym (word_fault_first c w word rest) ∙ e))
