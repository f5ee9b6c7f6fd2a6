-- An option or a flag that stands at most once among the parts is new at each use, and the other way round.
use Rattle.std.proofs.Common.{◌≡◌, ◌∙◌, ◌+◌, ◌≤◌, ◌||◌, ℕ, zero, suc, Bool, true, false, cond, codes, refl, sym, ap, ap₂, subst, arith, List, [], ◌∷◌, ◌++◌, map, length, replicate, slice_get, Option, Some, None, is_some, option_to_list, true≢false}
use Rattle.std.specs.Prelude.{⊤}
use Rattle.std.specs.List.{AllByRecursion}
use Rattle.std.specs.Option.{unwrap_or}
use Rattle.std.specs.Str.{bytes_eq}
use Rattle.std.proofs.lemmas.Bool.{or_left, or_right}
use Rattle.std.proofs.lemmas.List.{length-replicate}
use Rattle.clap.specs.Walk.{Row, Text, all_of, has_row}
use Rattle.pv_words.specs.Words.{AreNames, Command, Part, option, argument, flag, arguments_of, is_among, is_name, once_or_never, times_of, values_of}
use Rattle.pv_words.proofs.Rules.{flag_is_name, flag_other, option_is_name, option_other, same_text, text_same}
use Rattle.pv_words.proofs.Rows.{AreNew, IsNew, id_of, part_in, row_there, text_of, texts_of, use_part}

abbrev pub IsNamed : Command → Part → Type 0
IsNamed c (option n value) = is_among c.names n ≡ true
IsNamed c (argument text) = ⊤
IsNamed c (flag n) = is_among c.flags n ≡ true

abbrev pub AreNamed : Command → List Part → Type 0
AreNamed c = AllByRecursion (IsNamed c)

-- the name is that of a flag or an option
abbrev pub is_known : Command → Text → Bool
is_known c n = is_among c.flags n || is_among c.names n

pub known_name : (c : Command) (are : AreNames c) (n : Text) → is_known c n ≡ true → is_name n ≡ true
known_name c are n e = go (is_among c.flags n) refl e
  where
    go : (b : Bool) → is_among c.flags n ≡ b → (b || is_among c.names n) ≡ true → is_name n ≡ true
    go true among e = flag_is_name c are n among
    go false other e = option_is_name c are n e

pub known_option : (c : Command) (n : Text) → is_among c.names n ≡ true → is_known c n ≡ true
known_option c n e = or_right (is_among c.flags n) (is_among c.names n) e

pub known_flag : (c : Command) (n : Text) → is_among c.flags n ≡ true → is_known c n ≡ true
known_flag c n e = or_left (is_among c.flags n) (is_among c.names n) e

-- a name isn't the id of the arguments
pub not_arguments : (n : Text) → is_name n ≡ true → bytes_eq [] n ≡ false
not_arguments [] e = absurd (true≢false (sym e))
not_arguments (x ∷ n) e = refl

pub no_name : (n : Text) → is_name n ≡ true → bytes_eq n [] ≡ false
no_name [] e = absurd (true≢false (sym e))
no_name (x ∷ n) e = refl

-- ---- new uses

-- an id that has a value has no more, and another has at most one
abbrev pub Fits : Bool → List Text → Type 0
Fits true ts = ts ≡ []
Fits false ts = length ts ≤ 1

row_after : (p : Part) (m : Text) (rows : List Row) → IsNew rows p → has_row m (use_part p rows) ≡ (bytes_eq (id_of p) m || has_row m rows)
row_after p m rows new = row_there m (use_part p rows) ∙ ap is_some (part_in p m rows new) ∙ go (bytes_eq (id_of p) m)
  where
    go : (b : Bool) → is_some (cond b (Some (unwrap_or (all_of (id_of p) rows) [] ++ text_of p ∷ [])) (all_of m rows)) ≡ (b || has_row m rows)
    go true = refl
    go false = sym (row_there m rows)

nothing_more : (t : Text) (ts : List Text) → length (t ∷ ts) ≤ 1 → ts ≡ []
nothing_more t [] le = refl
nothing_more t (u ∷ us) le = absurd (omega arith)

fits_after : (b h : Bool) (t : Text) (ts : List Text) → Fits h (cond b (t ∷ ts) ts) → Fits (b || h) ts
fits_after true true t ts e = absurd (cc)
fits_after true false t ts le = nothing_more t ts le
fits_after false h t ts e = e

fits_new : (b : Bool) (t : Text) (ts : List Text) → Fits b (t ∷ ts) → b ≡ false
fits_new true t ts e = absurd (cc)
fits_new false t ts e = refl

pub are_new : (c : Command) (parts : List Part) (rows : List Row) → AreNamed c parts → ((m : Text) → is_known c m ≡ true → Fits (has_row m rows) (texts_of m parts)) → AreNew rows parts
are_new c [] rows named fits = tt
are_new c (p ∷ parts) rows named fits =
    let new = is_new p named.0 fits in (
      new,
      are_new c parts (use_part p rows) named.1 (λ m e.
          subst (λ (b : Bool). Fits b (texts_of m parts)) (sym (row_after p m rows new)) (fits_after (bytes_eq (id_of p) m) (has_row m rows) (text_of p) (texts_of m parts) (fits m e))),
    )
  where
    no_row : (n t : Text) → Fits (has_row n rows) (cond (bytes_eq n n) (t ∷ texts_of n parts) (texts_of n parts)) → has_row n rows ≡ false
    no_row n t fit = fits_new (has_row n rows) t (texts_of n parts) (subst (λ (b : Bool). Fits (has_row n rows) (cond b (t ∷ texts_of n parts) (texts_of n parts))) (text_same n n refl) fit)

    is_new : (q : Part) → IsNamed c q → ((m : Text) → is_known c m ≡ true → Fits (has_row m rows) (texts_of m (q ∷ parts))) → IsNew rows q
    is_new (argument text) name each = tt
    is_new (option n value) name each = no_row n value (each n (known_option c n name))
    is_new (flag n) name each = no_row n (codes "true") (each n (known_flag c n name))

fits_before : (b h : Bool) (t : Text) (ts : List Text) → (b ≡ true → h ≡ false) → Fits (b || h) ts → Fits h (cond b (t ∷ ts) ts)
fits_before true true t ts new e = absurd (true≢false (new refl))
fits_before true false t ts new e = let none : length ts ≡ 0 = ap (λ (us : List Text). length us) e in omega arith
fits_before false h t ts new e = e

pub new_fits : (parts : List Part) (rows : List Row) (m : Text) → is_name m ≡ true → AreNew rows parts → Fits (has_row m rows) (texts_of m parts)
new_fits [] rows m name new = go (has_row m rows)
  where
    go : (b : Bool) → Fits b []
    go true = refl
    go false = omega arith
new_fits (p ∷ parts) rows m name new =
    fits_before (bytes_eq (id_of p) m) (has_row m rows) (text_of p) (texts_of m parts) (fresh p new.0)
    (subst (λ (b : Bool). Fits b (texts_of m parts)) (row_after p m rows new.0) (new_fits parts (use_part p rows) m name new.1))
  where
    fresh : (q : Part) → IsNew rows q → bytes_eq (id_of q) m ≡ true → has_row m rows ≡ false
    fresh (option n value) none same = ap (λ k. has_row k rows) (sym (same_text n m same)) ∙ none
    fresh (flag n) none same = ap (λ k. has_row k rows) (sym (same_text n m same)) ∙ none
    fresh (argument text) none same = absurd (true≢false (sym same ∙ not_arguments m name))

-- ---- what the parts say of an id, in the words of the definition

module _ (c : Command) (are : AreNames c) where
  pub texts_values : (parts : List Part) (m : Text) → AreNamed c parts → is_among c.names m ≡ true → texts_of m parts ≡ values_of parts m
  texts_values [] m named among = refl
  texts_values (option n value ∷ parts) m named among = ap (λ ts. cond (bytes_eq n m) (value ∷ ts) ts) (texts_values parts m named.1 among)
  texts_values (argument text ∷ parts) m named among = rw (not_arguments m (option_is_name c are m among)) (texts_values parts m named.1 among)
  texts_values (flag n ∷ parts) m named among = rw (flag_other c are n m named.0 among) (texts_values parts m named.1 among)

  pub texts_times : (parts : List Part) (m : Text) → AreNamed c parts → is_among c.flags m ≡ true → texts_of m parts ≡ replicate (times_of parts m) (codes "true")
  texts_times [] m named among = refl
  texts_times (option n value ∷ parts) m named among = rw (option_other c are n m named.0 among) (texts_times parts m named.1 among)
  texts_times (argument text ∷ parts) m named among = rw (not_arguments m (flag_is_name c are m among)) (texts_times parts m named.1 among)
  texts_times (flag n ∷ parts) m named among = go (bytes_eq n m) (texts_times parts m named.1 among)
    where
      go : (b : Bool) → texts_of m parts ≡ replicate (times_of parts m) (codes "true")
          → cond b (codes "true" ∷ texts_of m parts) (texts_of m parts) ≡ replicate (cond b (1 + times_of parts m) (times_of parts m)) (codes "true")
      go true later = let e : 1 + times_of parts m ≡ suc (times_of parts m) = omega arith in rw e (ap (λ ts. codes "true" ∷ ts) later)
      go false later = later

  pub times_are : (parts : List Part) (m : Text) → AreNamed c parts → is_among c.flags m ≡ true → length (texts_of m parts) ≡ times_of parts m
  times_are parts m named among = ap (λ (ts : List Text). length ts) (texts_times parts m named among) ∙ length-replicate (times_of parts m) (codes "true")

  pub texts_arguments : (parts : List Part) → AreNamed c parts → texts_of [] parts ≡ arguments_of parts
  texts_arguments [] named = refl
  texts_arguments (option n value ∷ parts) named = rw (no_name n (option_is_name c are n named.0)) (texts_arguments parts named.1)
  texts_arguments (argument text ∷ parts) named = ap (λ ts. text ∷ ts) (texts_arguments parts named.1)
  texts_arguments (flag n ∷ parts) named = rw (no_name n (flag_is_name c are n named.0)) (texts_arguments parts named.1)

-- ---- each at most once

-- what names have are images under `to`, which `back` undoes
module _ {X Y : Type 0} (of : Text → X) (to : Y → X) (back : X → Y) where
  each_image : (names : List Text) → ((m : Text) → is_among names m ≡ true → of m ≡ to (back (of m))) → map of names ≡ map to (map (λ n. back (of n)) names)
  each_image [] are = refl
  each_image (n ∷ names) are =
      ap₂ (λ x xs. x ∷ xs) (are n (or_left (bytes_eq n n) (is_among names n) (text_same n n refl))) (each_image names (λ m e. are m (or_right (bytes_eq n m) (is_among names m) e)))

  image_at : (names : List Text) (ys : List Y) (m : Text) → map of names ≡ map to ys → is_among names m ≡ true → (y : Y) × (of m ≡ to y)
  image_at [] ys m e among = absurd (cc)
  image_at (n ∷ names) [] m e among = absurd (cc)
  image_at (n ∷ names) (y ∷ ys) m e among =
      let rest : map of names ≡ map to ys = cc in
      let first : of n ≡ to y = cc in
      go first (bytes_eq n m) refl among (image_at names ys m rest)
    where
      go : of n ≡ to y → (b : Bool) → bytes_eq n m ≡ b → (b || is_among names m) ≡ true → (is_among names m ≡ true → (z : Y) × (of m ≡ to z)) → (z : Y) × (of m ≡ to z)
      go first true same here again = (y, ap of (sym (same_text n m same)) ∙ first)
      go first false same here again = again here

  images_back : ((y : Y) → y ≡ back (to y)) → (names : List Text) (ys : List Y) → map of names ≡ map to ys → ys ≡ map (λ n. back (of n)) names
  images_back undoes [] [] e = refl
  images_back undoes [] (y ∷ ys) e = absurd (cc)
  images_back undoes (n ∷ names) [] e = absurd (cc)
  images_back undoes (n ∷ names) (y ∷ ys) e =
      let rest : map of names ≡ map to ys = cc in
      let first : of n ≡ to y = cc in
      ap₂ (λ x xs. x ∷ xs) (undoes y ∙ ap back (sym first)) (images_back undoes names ys rest)

-- an option, which has one value or none
abbrev first_value : List Text → Option Text
first_value ts = slice_get ts 0

one_or_none : (ts : List Text) → length ts ≤ 1 → ts ≡ option_to_list (first_value ts)
one_or_none [] le = refl
one_or_none (t ∷ []) le = refl
one_or_none (t ∷ u ∷ us) le = absurd (omega arith)

option_is_one : (o : Option Text) → length (option_to_list o) ≤ 1
option_is_one None = omega arith
option_is_one (Some t) = omega arith

option_back : (o : Option Text) → o ≡ first_value (option_to_list o)
option_back None = refl
option_back (Some t) = refl

abbrev pub firsts_of : List Part → List Text → List (Option Text)
firsts_of parts names = map (λ n. slice_get (values_of parts n) 0) names

module _ (parts : List Part) (names : List Text) where
  pub each_once : ((m : Text) → is_among names m ≡ true → length (values_of parts m) ≤ 1) → map (values_of parts) names ≡ map option_to_list (firsts_of parts names)
  each_once le = each_image (values_of parts) option_to_list first_value names (λ m among. one_or_none (values_of parts m) (le m among))

  module _ (options : List (Option Text)) (are : map (values_of parts) names ≡ map option_to_list options) where
    pub once_each : (m : Text) → is_among names m ≡ true → length (values_of parts m) ≤ 1
    once_each m among =
        let one = image_at (values_of parts) option_to_list first_value names options m are among in
        subst (λ (ts : List Text). length ts ≤ 1) (sym one.1) (option_is_one one.0)

    pub once_firsts : options ≡ firsts_of parts names
    once_firsts = images_back (values_of parts) option_to_list first_value option_back names options are

-- a flag, which is given once or never
abbrev pub is_positive : ℕ → Bool
is_positive zero = false
is_positive (suc n) = true

never_or_once : (n : ℕ) → n ≤ 1 → n ≡ once_or_never (is_positive n)
never_or_once zero le = refl
never_or_once (suc zero) le = refl
never_or_once (suc (suc n)) le = absurd (omega arith)

flag_is_one : (b : Bool) → once_or_never b ≤ 1
flag_is_one true = omega arith
flag_is_one false = omega arith

flag_back : (b : Bool) → b ≡ is_positive (once_or_never b)
flag_back true = refl
flag_back false = refl

abbrev pub is_given : List Part → Text → Bool
is_given parts n = is_positive (times_of parts n)

module _ (parts : List Part) (names : List Text) where
  pub each_flag_once : ((m : Text) → is_among names m ≡ true → times_of parts m ≤ 1) → map (times_of parts) names ≡ map once_or_never (map (is_given parts) names)
  each_flag_once le = each_image (times_of parts) once_or_never is_positive names (λ m among. never_or_once (times_of parts m) (le m among))

  module _ (flags : List Bool) (are : map (times_of parts) names ≡ map once_or_never flags) where
    pub flag_once_each : (m : Text) → is_among names m ≡ true → times_of parts m ≤ 1
    flag_once_each m among =
        let one = image_at (times_of parts) once_or_never is_positive names flags m are among in
        subst (λ (k : ℕ). k ≤ 1) (sym one.1) (flag_is_one one.0)

    pub once_given : flags ≡ map (is_given parts) names
    once_given = images_back (times_of parts) once_or_never is_positive flag_back names flags are
