-- What a word looks like to clap: `--`, a flag, a bundle of short flags, or a word that is none of these.
use Rattle.std.proofs.Common.{◌≡◌, ◌∙◌, ℕ, ◌+◌, ◌==◌, ◌||◌, suc, ap₂, Bool, true, false, not, cond, codes, refl, sym, ap, arith, List, [], ◌∷◌, ◌++◌, length, take, drop, append-nil, append_assoc, add-zero, take_at, drop_at, length-append, encode_utf8_all, subst, slice_get, Option, Some, None, IsUtf8, true≢false, eqb-true}
use Rattle.std.specs.List.{after_first, before_first, list_all, position_or_len}
use Rattle.std.specs.Option.{option_map_or}
use lib.Utf8.{encode}
use Rattle.std.specs.Str.{bytes_eq, chars}
use Rattle.std.proofs.lemmas.Bool.{and_parts, not-true}
use Rattle.std.proofs.lemmas.Str.{chars_past_char, encodes-chars}
use Rattle.clap.specs.Lexer.{has_byte, long_of, name_and_value, short_of}
use Rattle.pv_words.specs.Words.{BeginsWithDash, Text, is_name}

abbrev pub dashes : Text
dashes = 45 ∷ 45 ∷ []

pub data Look (word : Text) : Type 0 where
  ends : word ≡ dashes → Look word
  long : (t : Text) → bytes_eq word dashes ≡ false → word ≡ 45 ∷ 45 ∷ t → long_of word ≡ Some (name_and_value t) → Look word
  short : (b : ℕ) (t : Text) → bytes_eq word dashes ≡ false → word ≡ 45 ∷ b ∷ t → long_of word ≡ None → short_of word ≡ Some (b ∷ t) → Look word
  other : bytes_eq word dashes ≡ false → (BeginsWithDash word → word ≡ codes "-") → long_of word ≡ None → short_of word ≡ None → Look word

dash_other : (b : ℕ) (t : Text) (d : Bool) → (b == 45) ≡ d → Look (45 ∷ b ∷ t)
dash_other b [] true e = let is : b ≡ 45 = eqb-true b 45 e in ends (ap (λ x. 45 ∷ x ∷ []) is)
dash_other b (x ∷ t) true e = let is : b ≡ 45 = eqb-true b 45 e in long (x ∷ t) (rw is refl) (ap (λ y. 45 ∷ y ∷ x ∷ t) is) (rw is refl)
dash_other b t false e = short b t (rw e refl) refl (rw e refl) (rw e refl)

first_other : (b : ℕ) (t : Text) (d : Bool) → (b == 45) ≡ d → Look (b ∷ t)
first_other b t false e = other (rw e refl) (λ is. absurd (true≢false (sym (ap (λ x. x == 45) is) ∙ e))) (rw e refl) (rw e refl)
first_other b [] true e = let is : b ≡ 45 = eqb-true b 45 e in other (rw is refl) (λ _. ap (λ x. x ∷ []) is) (rw is refl) (rw is refl)
first_other b (c ∷ t) true e = let is : b ≡ 45 = eqb-true b 45 e in rw is (dash_other c t (c == 45) refl)

pub look_of : (word : Text) → Look word
look_of [] = other refl (λ is. absurd is) refl refl
look_of (b ∷ t) = first_other b t (b == 45) refl

-- a word that doesn't begin with - is none of the others
pub plain_look : (word : Text) → (BeginsWithDash word → ⊥) → (bytes_eq word dashes ≡ false) × (long_of word ≡ None) × (short_of word ≡ None)
plain_look word no_dash = go (look_of word)
  where
    dash : (t : Text) → word ≡ 45 ∷ t → ⊥
    dash t is = no_dash (subst BeginsWithDash (sym is) refl)

    go : Look word → (bytes_eq word dashes ≡ false) × (long_of word ≡ None) × (short_of word ≡ None)
    go (ends is) = absurd (dash (45 ∷ []) is)
    go (long t not_end is some_long) = absurd (dash (45 ∷ t) is)
    go (short b t not_end is no_long some) = absurd (dash (b ∷ t) is)
    go (other not_end is no_long no_short) = (not_end, no_long, no_short)

-- ---- a flag that spells a name

abbrev is_equals : ℕ → Bool
is_equals b = b == 61

abbrev has_no_equals : Text → Bool
has_no_equals = list_all (λ b. not (b == 61))

passed : (n rest : Text) → has_no_equals n ≡ true → position_or_len is_equals (n ++ rest) ≡ length n + position_or_len is_equals rest
passed [] rest e = omega arith
passed (x ∷ n) rest e =
    let parts = and_parts (not (x == 61)) _ e in
    let no = not-true (x == 61) parts.0 in
    let later = passed n rest parts.1 in
    rw no (omega arith)

no_byte : (n rest : Text) → has_no_equals n ≡ true → has_byte 61 (n ++ rest) ≡ has_byte 61 rest
no_byte [] rest e = refl
no_byte (x ∷ n) rest e = let parts = and_parts (not (x == 61)) _ e in rw (not-true (x == 61) parts.0) (no_byte n rest parts.1)

pub flag_alone : (n : Text) → has_no_equals n ≡ true → name_and_value n ≡ (n, None)
flag_alone n e =
    let whole : n ++ [] ≡ n = append-nil n in
    let at : length n ≡ position_or_len is_equals n = subst (λ (t : Text). length n ≡ position_or_len is_equals t) whole (sym (passed n [] e ∙ add-zero _)) in
    let none : has_byte 61 n ≡ false = subst (λ (t : Text). has_byte 61 t ≡ false) whole (no_byte n [] e) in
    let front : before_first is_equals n ≡ n = subst (λ (t : Text). take (position_or_len is_equals n) t ≡ n) whole (take_at n [] _ at) in
    rw (none, front) refl

pub flag_joined : (n value : Text) → has_no_equals n ≡ true → name_and_value (n ++ 61 ∷ value) ≡ (n, Some value)
flag_joined n value e =
    let at : length n ≡ position_or_len is_equals (n ++ 61 ∷ value) = sym (passed n (61 ∷ value) e ∙ add-zero _) in
    let some : has_byte 61 (n ++ 61 ∷ value) ≡ true = no_byte n (61 ∷ value) e in
    let front : before_first is_equals (n ++ 61 ∷ value) ≡ n = take_at n (61 ∷ value) _ at in
    let split : n ++ 61 ∷ value ≡ (n ++ 61 ∷ []) ++ value = sym (append_assoc n (61 ∷ []) value) in
    let long : length (n ++ 61 ∷ []) ≡ position_or_len is_equals (n ++ 61 ∷ value) + 1 = length-append n (61 ∷ []) ∙ ap (λ k. k + 1) at in
    let back : after_first is_equals (n ++ 61 ∷ value) ≡ value = ap (drop (position_or_len is_equals (n ++ 61 ∷ value) + 1)) split ∙ drop_at (n ++ 61 ∷ []) value _ long in
    rw (some, front, back) refl

-- `--NAME` and `--NAME=VALUE`
pub name_alone : (n word : Text) → is_name n ≡ true → word ≡ 45 ∷ 45 ∷ n → (bytes_eq word dashes ≡ false) × (long_of word ≡ Some (n, None))
name_alone [] word name is = absurd (true≢false (sym name))
name_alone (x ∷ n) word name is =
    let no = (and_parts (not (bytes_eq (x ∷ n) [])) (has_no_equals (x ∷ n)) name).1 in
    (ap (λ w. bytes_eq w dashes) is, ap long_of is ∙ ap (λ p. Some p) (flag_alone (x ∷ n) no))

pub name_joined : (n value word : Text) → is_name n ≡ true → word ≡ 45 ∷ 45 ∷ n ++ 61 ∷ value → (bytes_eq word dashes ≡ false) × (long_of word ≡ Some (n, Some value))
name_joined [] value word name is = absurd (true≢false (sym name))
name_joined (x ∷ n) value word name is =
    let no = (and_parts (not (bytes_eq (x ∷ n) [])) (has_no_equals (x ∷ n)) name).1 in
    (ap (λ w. bytes_eq w dashes) is, ap long_of is ∙ ap (λ p. Some p) (flag_joined (x ∷ n) value no))

-- ---- and the other way round

none_before : (t : Text) → has_byte 61 t ≡ false → before_first is_equals t ≡ t
none_before [] e = refl
none_before (x ∷ t) e = go (x == 61) refl e (none_before t)
  where
    go : (b : Bool) → (x == 61) ≡ b → (b || has_byte 61 t) ≡ false → (has_byte 61 t ≡ false → before_first is_equals t ≡ t)
        → take (cond (not (x == 61)) (1 + position_or_len is_equals t) 0) (x ∷ t) ≡ x ∷ t
    go true is none later = absurd (cc)
    go false is none later =
        let next : 1 + position_or_len is_equals t ≡ suc (position_or_len is_equals t) = omega arith in
        rw is (ap (λ k. take k (x ∷ t)) next ∙ ap (λ us. x ∷ us) (later none))

some_before : (t : Text) → has_byte 61 t ≡ true → t ≡ before_first is_equals t ++ 61 ∷ after_first is_equals t
some_before [] e = absurd (cc)
some_before (x ∷ t) e = go (x == 61) refl e (some_before t)
  where
    go : (b : Bool) → (x == 61) ≡ b → (b || has_byte 61 t) ≡ true → (has_byte 61 t ≡ true → t ≡ before_first is_equals t ++ 61 ∷ after_first is_equals t)
        → x ∷ t ≡ take (cond (not (x == 61)) (1 + position_or_len is_equals t) 0) (x ∷ t) ++ 61 ∷ drop (cond (not (x == 61)) (1 + position_or_len is_equals t) 0 + 1) (x ∷ t)
    go true is some later = rw is (ap (λ y. y ∷ t) (eqb-true x 61 is))
    go false is some later =
        let next : 1 + position_or_len is_equals t ≡ suc (position_or_len is_equals t) = omega arith in
        let after : (1 + position_or_len is_equals t) + 1 ≡ suc (position_or_len is_equals t + 1) = omega arith in
        rw is (ap (λ us. x ∷ us) (later some) ∙ ap₂ (λ k m. take k (x ∷ t) ++ 61 ∷ drop m (x ∷ t)) (sym next) (sym after))

-- a flag is its name, or its name, = and its value
abbrev pub spelled : Text × Option Text → Text
spelled p = p.0 ++ option_map_or (λ value. 61 ∷ value) p.1 []

pub flag_spelled : (t : Text) → t ≡ spelled (name_and_value t)
flag_spelled t = go (has_byte 61 t) refl
  where
    go : (b : Bool) → has_byte 61 t ≡ b → t ≡ before_first is_equals t ++ option_map_or (λ (value : Text). 61 ∷ value) (cond b (Some (after_first is_equals t)) None) []
    go true e = some_before t e
    go false e = sym (none_before t e) ∙ sym (append-nil (before_first is_equals t))

-- ---- the characters of a bundle

pub some_char : (b : ℕ) (t : Text) → IsUtf8 (45 ∷ b ∷ t) → (c : ℕ) × (slice_get (chars (b ∷ t)) 0 ≡ Some c)
unfolding encode
some_char b t u = go (chars (b ∷ t)) refl
  where
    first : chars (45 ∷ b ∷ t) ≡ 45 ∷ chars (b ∷ t)
    first = chars_past_char (45 ∷ b ∷ t) (b ∷ t) 45 u refl

    go : (cs : List ℕ) → chars (b ∷ t) ≡ cs → (c : ℕ) × (slice_get cs 0 ≡ Some c)
    go (c ∷ cs) e = (c, refl)
    go [] e = let one : 45 ∷ [] ≡ 45 ∷ b ∷ t = ap encode_utf8_all (sym (first ∙ ap (λ cs. 45 ∷ cs) e)) ∙ encodes-chars (45 ∷ b ∷ t) u in absurd (cc)
