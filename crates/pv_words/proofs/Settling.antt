-- What stands to be used between two words: nothing, a part, or an option that waits for its value.
use Rattle.std.proofs.Common.{◌≡◌, ◌∙◌, ◌&&◌, Bool, true, false, cond, refl, sym, ap, List, [], ◌∷◌, Option, Some, None, true≢false}
use Rattle.std.specs.Prelude.{⊤}
use Rattle.std.specs.Option.{option_map_or}
use Rattle.clap.specs.Kinds.{or_else}
use Rattle.clap.specs.Faults.{settle_fault, use_fault}
use Rattle.clap.specs.Walk.{Row, Text, Waiting, arg_by_id, has_row, settled_rows, used_by_id}
use Rattle.clap.specs.declared.error.kind.ErrorKind.TheVariants.{ArgumentConflict, InvalidValue}
use Rattle.pv_words.specs.Words.{AreNames, Command, Part, option, argument, flag, is_among}
use Rattle.pv_words.proofs.Rules.{built_flag, built_option, built_rules, flag_by_id, flag_is_name, option_by_id, option_is_name, option_no_flag}
use Rattle.pv_words.proofs.Rows.{IsNew, given_of, id_of, rule_for, use_part}
use Rattle.pv_words.proofs.Once.{IsNamed}
use Rattle.pv_words.proofs.Turns.{Pending, at, first_none, held, not_none, second_none, tail_fault, tail_turns, trailing_turn}

abbrev pub pend : Option Part → Pending
pend None = None
pend (Some p) = Some (id_of p, given_of p)

abbrev pub IsKnown : Command → Option Part → Type 0
IsKnown c None = ⊤
IsKnown c (Some p) = IsNamed c p

-- the rows after its use
abbrev pub rows_past : Option Part → List Row → List Row
rows_past None rows = rows
rows_past (Some p) rows = use_part p rows

abbrev pub IsFresh : List Row → Option Part → Type 0
IsFresh rows None = ⊤
IsFresh rows (Some p) = IsNew rows p

no_row : (b : Bool) → or_else (cond (b && true) (ArgumentConflict ∷ []) []) [] ≡ [] → b ≡ false
no_row true none = absurd (cc)
no_row false none = refl

pub new_if_used : (p : Part) (rows : List Row) → use_fault false (rule_for p) (given_of p) rows ≡ [] → IsNew rows p
new_if_used (argument text) rows e = tt
new_if_used (option n value) rows e = no_row (has_row n rows) e
new_if_used (flag n) rows e = no_row (has_row n rows) e

pub used_if_new : (p : Part) (rows : List Row) → IsNew rows p → use_fault false (rule_for p) (given_of p) rows ≡ []
used_if_new (argument text) rows new = refl
used_if_new (option n value) rows new = ap (λ b. or_else (cond (b && true) (ArgumentConflict ∷ []) []) []) new
used_if_new (flag n) rows new = ap (λ b. or_else (cond (b && true) (ArgumentConflict ∷ []) []) []) new

module _ (c : Command) (are : AreNames c) where
  flag_found : (n : Text) → is_among c.flags n ≡ true → arg_by_id (built_rules c) n ≡ Some (built_flag n)
  flag_found [] among = absurd (true≢false (sym (flag_is_name c are [] among)))
  flag_found (x ∷ n) among = flag_by_id c x n among

  option_found : (n : Text) → is_among c.names n ≡ true → arg_by_id (built_rules c) n ≡ Some (built_option n)
  option_found [] among = absurd (true≢false (sym (option_is_name c are [] among)))
  option_found (x ∷ n) among = option_by_id c x n (option_no_flag c are (x ∷ n) among) among

  pub known_found : (p : Part) → IsNamed c p → arg_by_id (built_rules c) (id_of p) ≡ Some (rule_for p)
  known_found (option n value) among = option_found n among
  known_found (argument text) known = refl
  known_found (flag n) among = flag_found n among

  pub settled_is : (q : Option Part) (rows : List Row) → IsKnown c q → settled_rows (built_rules c) (pend q) rows ≡ rows_past q rows
  settled_is None rows known = refl
  settled_is (Some p) rows known = ap (λ o. used_by_id o (given_of p) rows) (known_found p known)

  fault_is : (p : Part) (rows : List Row) → IsNamed c p → settle_fault (built_rules c) false (held rows (pend (Some p))) ≡ use_fault false (rule_for p) (given_of p) rows
  fault_is p rows known = ap (λ o. option_map_or (λ a. use_fault false a (given_of p) rows) o []) (known_found p known)

  pub settled_fresh : (q : Option Part) (rows : List Row) → IsKnown c q → settle_fault (built_rules c) false (held rows (pend q)) ≡ [] → IsFresh rows q
  settled_fresh None rows known e = tt
  settled_fresh (Some p) rows known e = new_if_used p rows (sym (fault_is p rows known) ∙ e)

  pub fresh_settled : (q : Option Part) (rows : List Row) → IsKnown c q → IsFresh rows q → settle_fault (built_rules c) false (held rows (pend q)) ≡ []
  fresh_settled None rows known fresh = refl
  fresh_settled (Some p) rows known fresh = fault_is p rows known ∙ used_if_new p rows fresh

  -- an option must have its value
  pub open_fails : (n : Text) (rows : List Row) → is_among c.names n ≡ true → settle_fault (built_rules c) false (held rows (Some (n, []))) ≡ [] → ⊥
  open_fails n rows among e =
      let one = ap (λ o. option_map_or (λ a. use_fault false a [] rows) o []) (option_found n among) in
      not_none InvalidValue (use_fault false (built_option n) [] rows) refl (sym one ∙ e)

  pub open_trailing : (words : List Text) (n : Text) (rows : List Row) (waiting : Waiting) → is_among c.names n ≡ true → tail_fault c (at rows (Some (n, [])) waiting true) words ≡ [] → ⊥
  open_trailing [] n rows waiting among e = open_fails n rows among (second_none _ _ e)
  open_trailing (word ∷ rest) n rows waiting among e =
      open_fails n rows among (first_none _ _ (sym (tail_turns c _ _ word _ rest (trailing_turn c rows (Some (n, [])) waiting word)) ∙ e))
