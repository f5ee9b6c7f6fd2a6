-- The words of lines: no line feed is in them, a line names its method, and only one verdict ends a line with ` equivalent`.
use Rattle.std.proofs.Common.{◌≡◌, ◌⊎◌, ℕ, zero, suc, ◌+◌, ◌<◌, ◌/◌, ◌%◌, Bool, true, false, ltb, eqb, List, [], ◌∷◌, ◌++◌, inl, inr, refl, sym, ap, subst, ◌∙◌, append_assoc, arith}
use Rattle.std.specs.Prelude.{codes, decimal, ◌==◌, ◌&&◌, not, nat_lt}
use Rattle.std.specs.Fmt.{digit_glyph, digits_onto, digits}
use Rattle.std.specs.List.{AllByRecursion, list_all}
use Rattle.std.specs.Str.{bytes_eq}
use Rattle.std.proofs.Math.Nat.{mod-lt}
use Rattle.std.proofs.lemmas.Bool.{lt-ltb, ne_eqb, and_parts, and_from, not-true, cond_both}
use Rattle.std.proofs.lemmas.List.{append-nil}
use Rattle.std.proofs.lemmas.Slice.Eq.{bytes_eq-Decides}
use Rattle.pv_base.specs.Stored.{AreBytes}
use Rattle.pv_class.specs.declared.file.Method.{Method}
use Rattle.pv_class.specs.declared.fault.ClassFault.{ClassFault}
use Rattle.pv_class.specs.declared.fault.ClassFault.TheVariants as fault
use Rattle.pv_class.specs.declared.fault.PoolWord.{PoolWord}
use Rattle.pv_class.specs.declared.fault.PoolWord.TheVariants as pool
use Rattle.pv_frame.specs.declared.cause.CauseKind.{CauseKind}
use Rattle.pv_frame.specs.declared.cause.CauseKind.TheVariants as kind
use Rattle.pv_report.specs.declared.verdict.Side.{Side}
use Rattle.pv_report.specs.declared.verdict.Side.TheVariants as side
use Rattle.pv_report.specs.declared.verdict.Verdict.{Verdict}
use Rattle.pv_report.specs.declared.verdict.Verdict.TheVariants as verdict
use Rattle.pv_token.specs.Words.{is_word, IsWord, spaced}
use Rattle.pv_token.specs.Spellings.{shown_bytes, meant_bytes}
use Rattle.pv_token.proofs.Cited.{shown_word, shown_meant}
use Rattle.pv_report.specs.Lines.{side_word, kind_word, pool_word, word_at, verdict_words, fault_words, in_words, method_line, line_of}
use Rattle.pv_report.specs.Laws.{LinesName}

-- ---- texts with a separator after them

-- the separator isn't in it
abbrev pub Lacks : ℕ → List ℕ → Type 0
Lacks sep text = AllByRecursion (λ b. b ≡ sep → ⊥) text

-- two texts without the separator, each with it and more after it
pub one_front : (sep : ℕ) (a b x y : List ℕ) → Lacks sep a → Lacks sep b → a ++ sep ∷ x ≡ b ++ sep ∷ y → (a ≡ b) × (x ≡ y)
one_front sep [] [] x y p q e = (refl, cc e)
one_front sep [] (d ∷ b) x y p q e = absurd (q.0 (cc e))
one_front sep (c ∷ a) [] x y p q e = absurd (p.0 (cc e))
one_front sep (c ∷ a) (d ∷ b) x y p q e =
    let head : c ≡ d = cc e in
    let rest : a ++ sep ∷ x ≡ b ++ sep ∷ y = cc e in
    let one = one_front sep a b x y p.1 q.1 rest in
    (cc (head, one.0), one.1)

lacks_append : (sep : ℕ) (a b : List ℕ) → Lacks sep a → Lacks sep b → Lacks sep (a ++ b)
lacks_append sep [] b p q = q
lacks_append sep (c ∷ a) b p q = (p.0, lacks_append sep a b p.1 q)

no_sep : (sep : ℕ) (a x : List ℕ) → Lacks sep (a ++ sep ∷ x) → ⊥
no_sep sep [] x lacks = lacks.0 refl
no_sep sep (c ∷ a) x lacks = no_sep sep a x lacks.1

-- what comes after the last separator
one_back : (sep : ℕ) (a b x y : List ℕ) → Lacks sep x → Lacks sep y → a ++ sep ∷ x ≡ b ++ sep ∷ y → x ≡ y
one_back sep [] [] x y p q e = cc e
one_back sep [] (d ∷ b) x y p q e = absurd (no_sep sep b y (subst (Lacks sep) (cc e) p))
one_back sep (c ∷ a) [] x y p q e = absurd (no_sep sep a x (subst (Lacks sep) (cc (sym e)) q))
one_back sep (c ∷ a) (d ∷ b) x y p q e = one_back sep a b x y p q (cc e)

-- ---- words

-- it has neither a blank nor a line feed
pub record IsPart (word : List ℕ) : Type 0 where
  pub blank : Lacks 32 word
  pub feed : Lacks 10 word

abbrev pub AreParts : List (List ℕ) → Type 0
AreParts words = AllByRecursion IsPart words

tested : (test : ℕ → Bool) (sep : ℕ) → test sep ≡ false → (word : List ℕ) → list_all test word ≡ true → Lacks sep word
tested test sep fails [] is = tt
tested test sep fails (b ∷ word) is =
    let t = and_parts (test b) (list_all test word) is in
    (λ e. let no : test b ≡ false = ap test e ∙ fails in absurd (cc (t.0, no)), tested test sep fails word t.1)

word_part : (word : List ℕ) → IsWord word → IsPart word
word_part word is = record { blank = tested (λ b. nat_lt 32 b) 32 refl word is; feed = tested (λ b. nat_lt 32 b) 10 refl word is }

pub shown_part : (bytes : List ℕ) → IsPart (shown_bytes bytes)
shown_part bytes = word_part (shown_bytes bytes) (shown_word bytes)

-- .. and isn't `equivalent`
pub record IsOther (word : List ℕ) : Type 0 where
  pub part : IsPart word
  pub other : word ≡ codes "equivalent" → ⊥

-- some words, each such a one
abbrev pub AreOther : List (List ℕ) → Type 0
AreOther [] = ⊥
AreOther (word ∷ words) = IsOther word × AllByRecursion IsOther words

pub other_parts : (words : List (List ℕ)) → AreOther words → AreParts words
other_parts [] all = absurd all
other_parts (word ∷ []) all = (all.0.part, tt)
other_parts (word ∷ next ∷ words) all = (all.0.part, other_parts (next ∷ words) all.1)

-- a word that is known, by a test
abbrev pub is_other : List ℕ → Bool
is_other word = is_word word && not (bytes_eq word (codes "equivalent"))

pub known : (word : List ℕ) → is_other word ≡ true → IsOther word
known word is =
    let t = and_parts (is_word word) (not (bytes_eq word (codes "equivalent"))) is in
    let no = not-true (bytes_eq word (codes "equivalent")) t.1 in
    record { part = word_part word t.0; other = λ e. absurd (let yes = (bytes_eq-Decides word (codes "equivalent")).1 e in cc (yes, no)) }

-- what stands in numbers and digests, and not in `equivalent`
abbrev pub is_low : ℕ → Bool
is_low b = not (b == 32) && not (b == 10) && nat_lt b 113

pub low_other : (word : List ℕ) → list_all is_low word ≡ true → IsOther word
low_other word all = record {
  part = record { blank = tested is_low 32 refl word all; feed = tested is_low 10 refl word all };
  other = λ e. let no : list_all is_low word ≡ false = ap (list_all is_low) e in absurd (cc (all, no));
}

low_from : (b : ℕ) → 32 < b → b < 113 → is_low b ≡ true
low_from b lo hi = rw (ne_eqb b 32 (omega arith), ne_eqb b 10 (omega arith), lt-ltb b 113 hi) refl

glyph_low : (d : ℕ) → d < 10 → is_low (digit_glyph false d) ≡ true
glyph_low d lt = cond_both (ltb d 10) (48 + d) (87 + d) (λ b. is_low b ≡ true) (λ e. low_from (48 + d) (omega arith) (omega arith)) (λ e. low_from (87 + d) (omega arith) (omega arith))

digits_low : (k n : ℕ) (acc : List ℕ) → list_all is_low acc ≡ true → list_all is_low (digits_onto k 10 false n acc) ≡ true
digits_low zero n acc all = all
digits_low (suc k) n acc all =
    let g = digit_glyph false (n % 10) in
    let more = and_from (is_low g) (list_all is_low acc) (glyph_low (n % 10) (mod-lt n (omega arith))) all in
    cond_both (eqb (n / 10) 0) (g ∷ acc) (digits_onto k 10 false (n / 10) (g ∷ acc)) (λ t. list_all is_low t ≡ true) (λ e. more) (λ e. digits_low k (n / 10) (g ∷ acc) more)

pub number_other : (n : ℕ) → IsOther (decimal n)
unfolding digits
number_other n = low_other (decimal n) (digits_low 64 n [] refl)

-- ---- lines of words

-- no line feed is in words
pub whole_words : (words : List (List ℕ)) → AreParts words → Lacks 10 (in_words words)
whole_words [] all = tt
whole_words (word ∷ words) all = lacks_append 10 word (spaced words) all.0.feed (whole_spaced words all.1)
  where
    whole_spaced : (words : List (List ℕ)) → AreParts words → Lacks 10 (spaced words)
    whole_spaced [] all = tt
    whole_spaced (word ∷ words) all = (λ e. omega (arith, e), lacks_append 10 word (spaced words) all.0.feed (whole_spaced words all.1))

-- no line ends with ` equivalent` after which such words come
pub ends_other : (start : List ℕ) (words : List (List ℕ)) (front : List ℕ) → AreOther words → start ++ spaced words ≡ front ++ codes " equivalent" → ⊥
ends_other start [] front all e = absurd all
ends_other start (word ∷ []) front all e =
    let same = ap (λ (t : List ℕ). start ++ 32 ∷ t) (sym (append-nil word)) ∙ e in
    all.0.other (one_back 32 start front word (codes "equivalent") all.0.part.blank (word_part (codes "equivalent") refl).blank same)
ends_other start (word ∷ next ∷ words) front all e = ends_other (start ++ 32 ∷ word) (next ∷ words) front all.1 (append_assoc start (32 ∷ word) (spaced (next ∷ words)) ∙ e)

-- .. after a name and a descriptor
pub method_other : (name desc : List ℕ) (words : List (List ℕ)) (front : List ℕ) → AreOther words → method_line name desc words ≡ front ++ codes " equivalent" → ⊥
method_other name desc words front all e = ends_other (shown_bytes name ++ 32 ∷ shown_bytes desc) words front all (append_assoc (shown_bytes name) (32 ∷ shown_bytes desc) (spaced words) ∙ e)

pub whole_method : (name desc : List ℕ) (words : List (List ℕ)) → AreParts words → Lacks 10 (method_line name desc words)
whole_method name desc words all = whole_words (shown_bytes name ∷ shown_bytes desc ∷ words) (shown_part name, (shown_part desc, all))

-- ---- the words of reports

pub side_other : (s : Side) → IsOther (side_word s)
side_other side.First = known (codes "first") refl
side_other side.Second = known (codes "second") refl

kind_other : (k : CauseKind) → is_other (kind_word k) ≡ true
kind_other kind.Handler = refl
kind_other _ = refl

pool_other : (w : PoolWord) → is_other (pool_word w) ≡ true
pool_other pool.Tag = refl
pool_other _ = refl

at_other : (word : List ℕ) (at : ℕ) → is_other word ≡ true → AreOther (word_at word at)
at_other word at is = (known word is, (known (codes "at") refl, (number_other at, tt)))

pub verdict_other : (v : Verdict) → (v ≡ verdict.Equivalent) ⊎ AreOther (verdict_words v)
verdict_other verdict.Missing = inr (known (codes "missing") refl, tt)
verdict_other (verdict.NoCode s) = inr (known (codes "nocode") refl, (side_other s, tt))
verdict_other (verdict.Refused s cause) = inr (known (codes "refused") refl, (side_other s, at_other (kind_word cause.kind) cause.at (kind_other cause.kind)))
verdict_other verdict.Equivalent = inl refl
verdict_other verdict.Apart = inr (known (codes "unknown") refl, (known (codes "apart") refl, tt))
verdict_other (verdict.Rounds n) = inr (known (codes "unknown") refl, (known (codes "rounds") refl, (number_other n, tt)))
verdict_other (verdict.Budget k) = inr (known (codes "unknown") refl, (known (codes "budget") refl, (number_other k, tt)))

pub verdict_parts : (v : Verdict) → AreParts (verdict_words v)
verdict_parts v =
    elim (verdict_other v) [
      | inl e ↦ subst (λ (w : Verdict). AreParts (verdict_words w)) (sym e) (word_part (codes "equivalent") refl, tt)
      | inr all ↦ other_parts (verdict_words v) all
    ]

fault_other : (f : ClassFault) → AreOther (fault_words f)
fault_other (fault.Truncated at) = at_other (codes "truncated") at refl
fault_other (fault.Magic at) = at_other (codes "magic") at refl
fault_other (fault.Version at) = at_other (codes "version") at refl
fault_other (fault.Pool w at) = at_other (pool_word w) at (pool_other w)
fault_other (fault.Descriptor at) = at_other (codes "descriptor") at refl
fault_other (fault.Code at) = at_other (codes "code") at refl
fault_other (fault.Duplicate at) = at_other (codes "duplicate") at refl
fault_other (fault.Trailing at) = at_other (codes "trailing") at refl
fault_other (fault.TooLong at) = at_other (codes "too-long") at refl
fault_other fault.Memory = (known (codes "out") refl, (known (codes "of") refl, (known (codes "memory") refl, tt)))

-- the line on a file that has no reading
pub bad_class_whole : (s : Side) (f : ClassFault) → Lacks 10 (in_words (codes "bad" ∷ codes "class" ∷ side_word s ∷ fault_words f))
bad_class_whole s f = whole_words (codes "bad" ∷ codes "class" ∷ side_word s ∷ fault_words f) ((known (codes "bad") refl).part, ((known (codes "class") refl).part, ((side_other s).part, other_parts (fault_words f) (fault_other f))))

pub bad_class_other : (s : Side) (f : ClassFault) (front : List ℕ) → in_words (codes "bad" ∷ codes "class" ∷ side_word s ∷ fault_words f) ≡ front ++ codes " equivalent" → ⊥
bad_class_other s f front e = ends_other (codes "bad class " ++ side_word s) (fault_words f) front (fault_other f) e

-- ---- the lines on methods

pub whole_line : (m : Method) (v : Verdict) → Lacks 10 (line_of m v)
whole_line m v = whole_method m.name m.desc (verdict_words v) (verdict_parts v)

pub only_equivalent : (m : Method) (v : Verdict) (front : List ℕ) → line_of m v ≡ front ++ codes " equivalent" → v ≡ verdict.Equivalent
only_equivalent m v front e =
    elim (verdict_other v) [
      | inl is ↦ is
      | inr all ↦ absurd (method_other m.name m.desc (verdict_words v) front all e)
    ]

-- no two lists of bytes have one shown text
shown_once : (a b : List ℕ) → AreBytes a → AreBytes b → shown_bytes a ≡ shown_bytes b → a ≡ b
shown_once a b p q e = sym (shown_meant a p) ∙ ap meant_bytes e ∙ shown_meant b q

after_blank : (v : Verdict) → (rest : List ℕ) × (spaced (verdict_words v) ≡ 32 ∷ rest)
after_blank verdict.Missing = (_, refl)
after_blank _ = (_, refl)

pub lines_name : LinesName
lines_name m p v w a b c d same =
    let x = after_blank v in
    let y = after_blank w in
    let name = one_front 32 (shown_bytes m.name) (shown_bytes p.name) _ _ (shown_part m.name).blank (shown_part p.name).blank same in
    let desc = one_front 32 (shown_bytes m.desc) (shown_bytes p.desc) x.0 y.0 (shown_part m.desc).blank (shown_part p.desc).blank (ap (λ (t : List ℕ). shown_bytes m.desc ++ t) (sym x.1) ∙ name.1 ∙ ap (λ (t : List ℕ). shown_bytes p.desc ++ t) y.1) in
    (shown_once m.name p.name a c name.0, shown_once m.desc p.desc b d desc.0)
