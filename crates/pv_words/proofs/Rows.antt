-- The rows of clap after uses of flags, options and arguments, and what they hold.
use Rattle.std.proofs.Common.{◌≡◌, ◌∙◌, ◌||◌, Bool, true, false, cond, codes, refl, sym, ap, List, [], ◌∷◌, ◌++◌, slice_get, append_assoc, Option, Some, None, is_some, option_map, option_and_then, true≢false}
use Rattle.std.specs.Prelude.{⊤}
use Rattle.std.specs.Option.{unwrap_or}
use Rattle.std.specs.List.{find}
use Rattle.std.specs.Str.{bytes_eq}
use Rattle.clap.specs.Walk.{Row, Rule, Text, all_of, first_of, has_row, reading_by, stronger, used, with_values, without}
use Rattle.clap.specs.declared.builder.value_parser.Reading.{Reading}
use Rattle.clap.specs.declared.parser.matches.ValueSource.{ValueSource}
use Rattle.clap.specs.declared.parser.matches.ValueSource.TheVariants.{CommandLine}
use Rattle.pv_words.specs.Words.{Part, option, argument, flag}
use Rattle.pv_words.proofs.Rules.{built_arguments, built_flag, built_option, same_text, text_same}

-- ---- parts as uses of rules

abbrev pub id_of : Part → Text
id_of (option n value) = n
id_of (argument text) = []
id_of (flag n) = n

-- the text that the rows hold of it
abbrev pub text_of : Part → Text
text_of (option n value) = value
text_of (argument text) = text
text_of (flag n) = codes "true"

abbrev pub rule_for : Part → Rule
rule_for (option n value) = built_option n
rule_for (argument text) = built_arguments
rule_for (flag n) = built_flag n

-- the values that its words have
abbrev pub given_of : Part → List Text
given_of (option n value) = value ∷ []
given_of (argument text) = text ∷ []
given_of (flag n) = []

abbrev pub use_part : Part → List Row → List Row
use_part p rows = used (rule_for p) (given_of p) rows

-- the rows after these parts
abbrev pub rows_with : List Row → List Part → List Row
rows_with rows [] = rows
rows_with rows (p ∷ parts) = rows_with (use_part p rows) parts

-- an option or a flag that isn't given yet
abbrev pub IsNew : List Row → Part → Type 0
IsNew rows (option n value) = has_row n rows ≡ false
IsNew rows (argument text) = ⊤
IsNew rows (flag n) = has_row n rows ≡ false

abbrev pub AreNew : List Row → List Part → Type 0
AreNew rows [] = ⊤
AreNew rows (p ∷ parts) = IsNew rows p × AreNew (use_part p rows) parts

-- ---- the values of one id

without_none : (id : Text) (rows : List Row) → has_row id rows ≡ false → without id rows ≡ rows
without_none id [] e = refl
without_none id (r ∷ rows) e = go (bytes_eq r.id id) e (without_none id rows)
  where
    go : (b : Bool) → (b || has_row id rows) ≡ false → (has_row id rows ≡ false → without id rows ≡ rows)
        → cond b ([] ++ rows) (r ∷ without id rows) ≡ r ∷ rows
    go true e again = absurd (cc)
    go false e again = ap (λ rs. r ∷ rs) (again e)

pub row_there : (id : Text) (rows : List Row) → has_row id rows ≡ is_some (all_of id rows)
row_there id [] = refl
row_there id (r ∷ rows) = go (bytes_eq r.id id) (row_there id rows)
  where
    go : (b : Bool) → has_row id rows ≡ is_some (all_of id rows) → (b || has_row id rows) ≡ is_some (option_map (λ (x : Row). x.values) (cond b (Some r) (find (λ x. bytes_eq x.id id) rows)))
    go true e = refl
    go false e = e

-- two texts that the same text equals, or doesn't
other_text : (a b c : Text) → bytes_eq a b ≡ false → bytes_eq a c ≡ true → bytes_eq b c ≡ false
other_text a b c not_b is_c = go (bytes_eq b c) refl
  where
    go : (t : Bool) → bytes_eq b c ≡ t → t ≡ false
    go false e = refl
    go true e = absurd (true≢false (sym (text_same a b (same_text a c is_c ∙ sym (same_text b c e))) ∙ not_b))

abbrev pub more_of : Text → Text → List Text → Option (List Text) → Option (List Text) → Option (List Text)
more_of key id values old other = cond (bytes_eq key id) (Some (unwrap_or old [] ++ values)) other

pub values_in : (key id : Text) (how : Reading) (s : ValueSource) (values : List Text) (rows : List Row)
    → all_of id (with_values key how s values rows) ≡ more_of key id values (all_of key rows) (all_of id rows)
values_in key id how s values [] = go (bytes_eq key id)
  where
    go : (b : Bool) → option_map (λ (x : Row). x.values) (cond b (Some (record {
      id = key;
      values = values;
      count = None;
      source = Some s;
      reading = how;
    })) None) ≡ cond b (Some values) None
    go true = refl
    go false = refl
values_in key id how s values (r ∷ rows) = here (bytes_eq r.id key) refl (values_in key id how s values rows)
  where
    there : (b c : Bool) → bytes_eq r.id key ≡ false → bytes_eq r.id id ≡ b → bytes_eq key id ≡ c
        → all_of id (with_values key how s values rows) ≡ cond c (Some (unwrap_or (all_of key rows) [] ++ values)) (all_of id rows)
        → option_map (λ (x : Row). x.values) (cond b (Some r) (find (λ x. bytes_eq x.id id) (with_values key how s values rows)))
        ≡ cond c (Some (unwrap_or (all_of key rows) [] ++ values)) (option_map (λ (x : Row). x.values) (cond b (Some r) (find (λ x. bytes_eq x.id id) rows)))
    there true true off is same again = absurd (true≢false (sym same ∙ other_text r.id key id off is))
    there true false off is same again = refl
    there false true off is same again = again
    there false false off is same again = again

    joined : (b : Bool) → bytes_eq r.id id ≡ b → bytes_eq key id ≡ b
        → all_of id (record r { values = r.values ++ values; source = Some (stronger r.source s) } ∷ rows) ≡ cond (bytes_eq key id) (Some (r.values ++ values)) (all_of id (r ∷ rows))
    joined true is same = rw (is, same) refl
    joined false is same = rw (is, same) refl

    here : (b : Bool) → bytes_eq r.id key ≡ b → all_of id (with_values key how s values rows) ≡ more_of key id values (all_of key rows) (all_of id rows)
        → all_of id (with_values key how s values (r ∷ rows)) ≡ more_of key id values (all_of key (r ∷ rows)) (all_of id (r ∷ rows))
    here true is again = rw is (joined (bytes_eq key id) (ap (λ t. bytes_eq t id) (same_text r.id key is)) refl)
    here false is again = rw is (there (bytes_eq r.id id) (bytes_eq key id) is refl refl again)

-- a new part adds its text to what its id has
pub part_in : (p : Part) (id : Text) (rows : List Row) → IsNew rows p → all_of id (use_part p rows) ≡ more_of (id_of p) id (text_of p ∷ []) (all_of (id_of p) rows) (all_of id rows)
part_in (option n value) id rows new =
    ap (λ rs. all_of id (with_values n (reading_by (built_option n)) CommandLine (value ∷ []) rs)) (without_none n rows new) ∙ values_in n id _ CommandLine (value ∷ []) rows
part_in (argument text) id rows new = values_in [] id _ CommandLine (text ∷ []) rows
part_in (flag n) id rows new =
    ap (λ rs. all_of id (with_values n (reading_by (built_flag n)) CommandLine (codes "true" ∷ []) rs)) (without_none n rows new) ∙ values_in n id _ CommandLine (codes "true" ∷ []) rows

-- ---- the values of an id after parts

-- what the parts say of an id
abbrev pub texts_of : Text → List Part → List Text
texts_of id [] = []
texts_of id (p ∷ parts) = cond (bytes_eq (id_of p) id) (text_of p ∷ texts_of id parts) (texts_of id parts)

abbrev pub grown : Option (List Text) → List Text → Option (List Text)
grown old [] = old
grown old (t ∷ ts) = Some (unwrap_or old [] ++ t ∷ ts)

grown_once : (old : List Text) (t : Text) (ts : List Text) → grown (Some (old ++ t ∷ [])) ts ≡ Some (old ++ t ∷ ts)
grown_once old t [] = refl
grown_once old t (u ∷ us) = ap (λ us. Some us) (append_assoc old (t ∷ []) (u ∷ us))

pub rows_hold : (parts : List Part) (rows : List Row) (id : Text) → AreNew rows parts → all_of id (rows_with rows parts) ≡ grown (all_of id rows) (texts_of id parts)
rows_hold [] rows id new = refl
rows_hold (p ∷ parts) rows id new =
    rows_hold parts (use_part p rows) id new.1 ∙ ap (λ o. grown o (texts_of id parts)) (part_in p id rows new.0) ∙ go (bytes_eq (id_of p) id) refl
  where
    go : (b : Bool) → bytes_eq (id_of p) id ≡ b
        → grown (cond b (Some (unwrap_or (all_of (id_of p) rows) [] ++ text_of p ∷ [])) (all_of id rows)) (texts_of id parts)
        ≡ grown (all_of id rows) (cond b (text_of p ∷ texts_of id parts) (texts_of id parts))
    go true is =
        grown_once (unwrap_or (all_of (id_of p) rows) []) (text_of p) (texts_of id parts)
        ∙ ap (λ k. Some (unwrap_or (all_of k rows) [] ++ text_of p ∷ texts_of id parts)) (same_text (id_of p) id is)
    go false is = refl

-- the first value of an id
pub first_by : (id : Text) (rows : List Row) → first_of id rows ≡ option_and_then (λ ts. slice_get ts 0) (all_of id rows)
first_by id rows = go (find (λ r. bytes_eq r.id id) rows)
  where
    go : (o : Option Row) → option_and_then (λ (r : Row). slice_get r.values 0) o ≡ option_and_then (λ ts. slice_get ts 0) (option_map (λ (r : Row). r.values) o)
    go None = refl
    go (Some r) = refl

pub first_is : (parts : List Part) (name : Text) → AreNew [] parts → first_of name (rows_with [] parts) ≡ slice_get (texts_of name parts) 0
first_is parts name new = first_by name (rows_with [] parts) ∙ ap (option_and_then (λ ts. slice_get ts 0)) (rows_hold parts [] name new) ∙ last (texts_of name parts)
  where
    last : (ts : List Text) → option_and_then (λ (us : List Text). slice_get us 0) (grown None ts) ≡ slice_get ts 0
    last [] = refl
    last (t ∷ ts) = refl

-- and all
pub all_is : (parts : List Part) (name : Text) → AreNew [] parts → unwrap_or (all_of name (rows_with [] parts)) [] ≡ texts_of name parts
all_is parts name new = ap (λ o. unwrap_or o []) (rows_hold parts [] name new) ∙ go (texts_of name parts)
  where
    go : (ts : List Text) → unwrap_or (grown None ts) [] ≡ ts
    go [] = refl
    go (t ∷ ts) = refl
