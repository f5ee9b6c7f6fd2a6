-- The words of a listing: what is spelled is read, and nothing else is.
use Rattle.std.proofs.Common.{◌≡◌, ◌↔◌, inl, inr, ℕ, ◌<◌, ◌≤◌, Bool, true, false, cond, eqb, leb, ◌&&◌, List, [], ◌∷◌, ◌++◌, length, Option, Some, None, is_some, refl, sym, ap, subst, ◌∙◌, arith}
use Rattle.std.specs.Prelude.{codes, ◌==◌}
use Rattle.std.specs.Option.{option_map}
use Rattle.std.specs.List.{list_all}
use Rattle.std.specs.Str.{bytes_eq}
use Rattle.std.proofs.lemmas.Bool.{eqb-true, le-leb, leb-true, and_parts, and_from, cond-true, cond-false}
use Rattle.std.proofs.lemmas.Bool.Decides.{nat_tests}
use Rattle.std.proofs.lemmas.Slice.Eq.{bytes_eq-Decides}
use Rattle.pv_pool.specs.Texts.{IsText}
use Rattle.pv_pool.specs.TextTests.{is_text_from}
use Rattle.pv_pool.specs.TextLaws.{text_decides}
use Rattle.pv_format.specs.Options.{some_is, mapped, chosen, passed}
use Rattle.pv_token.specs.Words.{is_word, IsWord}
use Rattle.pv_token.specs.TokenLaws.{word-append, word-cons}
use Rattle.pv_listing.specs.declared.line.First.{First}
use Rattle.pv_listing.specs.declared.line.First.TheVariants as first
use Rattle.pv_listing.specs.Mnemonics.{names, name_in, opcode_in, has_name, text_or_none, mnemonic}
use Rattle.pv_listing.specs.WordReading.{is_name, is_label_byte, is_label, read_label, before_colon, word_as, first_by, read_first, FirstFits, first_word}

-- ---- names

pub name_decides : (bytes : List ℕ) → (is_name bytes ≡ true) ↔ ((length bytes ≤ 65535) × IsText bytes)
name_decides bytes = (
  λ e. let p = and_parts (leb (length bytes) 65535) (is_text_from bytes 0) e in (leb-true (length bytes) 65535 p.0, (text_decides bytes).0 p.1),
  λ h. and_from (leb (length bytes) 65535) (is_text_from bytes 0) (le-leb (length bytes) 65535 h.0) ((text_decides bytes).1 h.1),
)

-- ---- labels

high : (b : ℕ) → is_label_byte b ≡ true → (32 < b) × (b < 128)
high b e = grind (arith, nat_tests)

all_high : (word : List ℕ) → list_all is_label_byte word ≡ true → IsWord word
all_high [] e = refl
all_high (b ∷ word) e = let p = and_parts (is_label_byte b) (list_all is_label_byte word) e in word-cons b word (high b p.0).0 (all_high word p.1)

pub label_word : (word : List ℕ) → is_label word ≡ true → IsWord word
label_word [] e = refl
label_word (b ∷ word) e = all_high (b ∷ word) e

pub label_again : (word : List ℕ) → is_label word ≡ true → read_label word ≡ Some word
label_again word e = cond-true (is_label word) (Some word) None e

pub label_back : (text word : List ℕ) → read_label text ≡ Some word → (is_label word ≡ true) × (text ≡ word)
label_back text word e =
    let p = passed (is_label text) (Some text) word e in
    let is : text ≡ word = some_is (Some text) text word refl p.1 in
    (subst (λ (w : List ℕ). is_label w ≡ true) is p.0, is)

-- ---- the colon after a label

pub colon_again : (word : List ℕ) → before_colon (word ++ 58 ∷ []) ≡ Some word
colon_again [] = refl
colon_again (b ∷ []) = refl
colon_again (b ∷ c ∷ word) = ap (option_map (λ front. b ∷ front)) (colon_again (c ∷ word))

pub colon_back : (text word : List ℕ) → before_colon text ≡ Some word → text ≡ word ++ 58 ∷ []
colon_back [] word e = absurd (cc)
colon_back (b ∷ []) word e =
    let p = passed (eqb b 58) (Some []) word e in
    ap (λ (x : ℕ). x ∷ []) (eqb-true b 58 p.0) ∙ ap (λ (t : List ℕ). t ++ 58 ∷ []) (some_is (Some []) [] word refl p.1)
colon_back (b ∷ c ∷ text) word e =
    let m = mapped (before_colon (c ∷ text)) (λ front. b ∷ front) word e in
    ap (λ (t : List ℕ). b ∷ t) (colon_back (c ∷ text) m.0 m.1) ∙ ap (λ (t : List ℕ). t ++ 58 ∷ []) m.2

-- ---- the table of mnemonics

-- its words are read as their opcodes
abbrev reads_as : Option First → ℕ → Bool
reads_as (Some (first.Mnemonic n)) op = n == op
reads_as f op = false

abbrev row_reads : ℕ × List ℕ → Bool
row_reads row = reads_as (read_first row.1) row.0 && is_word row.1

-- each is the name of its opcode
abbrev row_names : ℕ × List ℕ → Bool
row_names row = has_name row.0 && bytes_eq (mnemonic row.0) row.1

reads_back : (f : Option First) (op : ℕ) → reads_as f op ≡ true → f ≡ Some (first.Mnemonic op)
reads_back (Some (first.Mnemonic n)) op e = ap (λ (k : ℕ). Some (first.Mnemonic k)) (eqb-true n op e)
reads_back (Some first.Class) op e = absurd (cc)
reads_back (Some first.Method) op e = absurd (cc)
reads_back (Some (first.Label l)) op e = absurd (cc)
reads_back (Some first.End) op e = absurd (cc)
reads_back None op e = absurd (cc)

-- what holds of each row holds of one that is found by its opcode
by_opcode : (test : ℕ × List ℕ → Bool) (rows : List (ℕ × List ℕ)) (op : ℕ) → list_all test rows ≡ true → is_some (name_in rows op) ≡ true → test (op, text_or_none (name_in rows op)) ≡ true
by_opcode test [] op all some = absurd (cc)
by_opcode test (row ∷ rows) op all some = by_test (name_in rows op) (eqb row.0 op) refl some (λ more. by_opcode test rows op (and_parts (test row) (list_all test rows) all).1 more)
  where
    by_test : (rest : Option (List ℕ)) (b : Bool) → eqb row.0 op ≡ b → is_some (cond (eqb row.0 op) (Some row.1) rest) ≡ true → (is_some rest ≡ true → test (op, text_or_none rest) ≡ true) → test (op, text_or_none (cond (eqb row.0 op) (Some row.1) rest)) ≡ true
    by_test rest true e some later =
        ap (λ (o : Option (List ℕ)). test (op, text_or_none o)) (cond-true (eqb row.0 op) (Some row.1) rest e) ∙ ap (λ (k : ℕ). test (k, row.1)) (sym (eqb-true row.0 op e)) ∙ (and_parts (test row) (list_all test rows) all).0
    by_test rest false e some later =
        let other : is_some rest ≡ true = sym (ap (λ (o : Option (List ℕ)). is_some o) (cond-false (eqb row.0 op) (Some row.1) rest e)) ∙ some in
        ap (λ (o : Option (List ℕ)). test (op, text_or_none o)) (cond-false (eqb row.0 op) (Some row.1) rest e) ∙ later other

-- and of one that is found by its name
by_name : (test : ℕ × List ℕ → Bool) (rows : List (ℕ × List ℕ)) (word : List ℕ) (op : ℕ) → list_all test rows ≡ true → opcode_in rows word ≡ Some op → test (op, word) ≡ true
by_name test [] word op all e = absurd (cc)
by_name test (row ∷ rows) word op all e =
    let p = and_parts (test row) (list_all test rows) all in
    elim (chosen (bytes_eq row.1 word) (Some row.0) (opcode_in rows word) op e) [
      | inl here ↦
          let word_is : row.1 ≡ word = (bytes_eq-Decides row.1 word).0 here.0 in
          let op_is : row.0 ≡ op = some_is (Some row.0) row.0 op refl here.1 in
          ap (λ (k : ℕ). test (k, word)) (sym op_is) ∙ ap (λ (w : List ℕ). test (row.0, w)) (sym word_is) ∙ p.0
      | inr later ↦ by_name test rows word op p.1 later.1
    ]

all_read : list_all row_reads names ≡ true
all_read = refl

all_named : list_all row_names names ≡ true
all_named = refl

mnemonic_reads : (op : ℕ) → has_name op ≡ true → row_reads (op, mnemonic op) ≡ true
mnemonic_reads op some = by_opcode row_reads names op all_read some

pub mnemonic_again : (op : ℕ) → has_name op ≡ true → read_first (mnemonic op) ≡ Some (first.Mnemonic op)
mnemonic_again op some = reads_back (read_first (mnemonic op)) op (and_parts (reads_as (read_first (mnemonic op)) op) (is_word (mnemonic op)) (mnemonic_reads op some)).0

mnemonic_word : (op : ℕ) → has_name op ≡ true → IsWord (mnemonic op)
mnemonic_word op some = (and_parts (reads_as (read_first (mnemonic op)) op) (is_word (mnemonic op)) (mnemonic_reads op some)).1

mnemonic_back : (word : List ℕ) (op : ℕ) → opcode_in names word ≡ Some op → (has_name op ≡ true) × (word ≡ mnemonic op)
mnemonic_back word op e =
    let p = and_parts (has_name op) (bytes_eq (mnemonic op) word) (by_name row_names names word op all_named e) in
    (p.0, sym ((bytes_eq-Decides (mnemonic op) word).0 p.1))

-- ---- the first word of a line

pub first_again : (f : First) → FirstFits f → read_first (first_word f) ≡ Some f
first_again first.Class fits = refl
first_again first.Method fits = refl
first_again (first.Label l) fits = ap (first_by (l ++ 58 ∷ [])) (colon_again l) ∙ ap (option_map first.Label) (label_again l fits)
first_again (first.Mnemonic op) fits = mnemonic_again op fits
first_again first.End fits = refl

this_word : (word name : List ℕ) (f g : First) → bytes_eq word name ≡ true → Some f ≡ Some g → FirstFits f → name ≡ first_word f → FirstFits g × (word ≡ first_word g)
this_word word name f g same e fits is =
    let f_is : f ≡ g = some_is (Some f) f g refl e in
    subst (λ (x : First). FirstFits x × (word ≡ first_word x)) f_is (fits, (bytes_eq-Decides word name).0 same ∙ is)

word_back : (word : List ℕ) (f : First) → word_as word ≡ Some f → FirstFits f × (word ≡ first_word f)
word_back word f e =
    elim (chosen (bytes_eq word (codes "class")) (Some first.Class) (cond (bytes_eq word (codes "method")) (Some first.Method) (cond (bytes_eq word (codes "end")) (Some first.End) (option_map first.Mnemonic (opcode_in names word)))) f e) [
      | inl p ↦ this_word word (codes "class") first.Class f p.0 p.1 tt refl
      | inr p ↦
          elim (chosen (bytes_eq word (codes "method")) (Some first.Method) (cond (bytes_eq word (codes "end")) (Some first.End) (option_map first.Mnemonic (opcode_in names word))) f p.1) [
            | inl q ↦ this_word word (codes "method") first.Method f q.0 q.1 tt refl
            | inr q ↦
                elim (chosen (bytes_eq word (codes "end")) (Some first.End) (option_map first.Mnemonic (opcode_in names word)) f q.1) [
                  | inl r ↦ this_word word (codes "end") first.End f r.0 r.1 tt refl
                  | inr r ↦
                      let m = mapped (opcode_in names word) first.Mnemonic f r.1 in
                      let b = mnemonic_back word m.0 m.1 in
                      subst (λ (x : First). FirstFits x × (word ≡ first_word x)) m.2 b
                ]
          ]
    ]

label_first : (word l : List ℕ) (f : First) → before_colon word ≡ Some l → option_map first.Label (read_label l) ≡ Some f → FirstFits f × (word ≡ first_word f)
label_first word l f colon e =
    let m = mapped (read_label l) first.Label f e in
    let b = label_back l m.0 m.1 in
    subst (λ (x : First). FirstFits x × (word ≡ first_word x)) m.2 (b.0, colon_back word l colon ∙ ap (λ (t : List ℕ). t ++ 58 ∷ []) b.1)

pub first_back : (word : List ℕ) (f : First) → read_first word ≡ Some f → FirstFits f × (word ≡ first_word f)
first_back word f e = by_colon (before_colon word) refl e
  where
    by_colon : (o : Option (List ℕ)) → before_colon word ≡ o → first_by word o ≡ Some f → FirstFits f × (word ≡ first_word f)
    by_colon None colon e = word_back word f e
    by_colon (Some l) colon e = label_first word l f colon e

pub first_proper : (f : First) → FirstFits f → IsWord (first_word f)
first_proper first.Class fits = refl
first_proper first.Method fits = refl
first_proper (first.Label l) fits = word-append l (58 ∷ []) (label_word l fits) refl
first_proper (first.Mnemonic op) fits = mnemonic_word op fits
first_proper first.End fits = refl
