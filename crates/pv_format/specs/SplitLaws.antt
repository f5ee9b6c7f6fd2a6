-- Texts cut at a separator, and put together again.
use Rattle.std.proofs.Common.{◌≡◌, ◌≢◌, ◌==◌, ℕ, ◌-◌, ◌+◌, Bool, true, false, cond, eqb, List, [], ◌∷◌, ◌++◌, length, take, drop, Option, Some, None, refl, sym, ap, subst, ◌∙◌, append_assoc, arith, inl, inr}
use Rattle.std.specs.Borrow.{Bor}
use Rattle.std.specs.Cmp.Lexicographic.{pointwise}
use Rattle.std.proofs.lemmas.Bool.Decides.{Decides-eqb}
use Rattle.std.proofs.lemmas.Slice.Eq.{slice_eq-Decides}
use Rattle.std.proofs.lemmas.List.{take-append-drop, length-append}
use Rattle.std.proofs.Math.Seq.{drop-append_seam}
use Rattle.std.specs.Option.{option_map, option_and_then, MatchOption}
use Rattle.std.specs.List.{AllByRecursion, slice_split, onto_first}
use Rattle.std.proofs.lemmas.Bool.{eqb-true, cond-true, cond-false}
use Rattle.std.proofs.lemmas.List.{append-nil}
use Rattle.std.proofs.lemmas.List.Elements.{All-from_recursion}
use Rattle.std.proofs.lemmas.List.Splits.{slice_split_at, slice_split_none}
use Rattle.pv_format.specs.Splits.{join, Separator, AreParts, text_of, is_blank, is_feed, body_of, cut}
use Rattle.pv_format.specs.Formats.{Format}
use Rattle.pv_format.specs.Reading.{read_both}
use Rattle.pv_format.specs.Options.{some_is, mapped, found, chosen, passed}

pub only_blank : (b : ℕ) → is_blank b ≡ true → b ≡ 32
only_blank b e = eqb-true b 32 e

pub only_feed : (b : ℕ) → is_feed b ≡ true → b ≡ 10
only_feed b e = eqb-true b 10 e

join_cons : {S : Type 0} (s : S) (part : List S) (parts : List (List S)) → parts ≢ [] → join s (part ∷ parts) ≡ part ++ s ∷ join s parts
join_cons s part [] some = absurd (some refl)
join_cons s part (next ∷ parts) some = refl

join-onto_first : {S : Type 0} (s x : S) (parts : List (List S)) → join s (onto_first x parts) ≡ x ∷ join s parts
join-onto_first s x [] = refl
join-onto_first s x (part ∷ []) = refl
join-onto_first s x (part ∷ next ∷ parts) = refl

onto_first_some : {S : Type 0} (x : S) (parts : List (List S)) → onto_first x parts ≢ []
onto_first_some x [] e = absurd (cc)
onto_first_some x (part ∷ parts) e = absurd (cc)

pub split_some : {S : Type 0} (is : S → Bool) (text : List S) → slice_split is text ≢ []
split_some is [] e = absurd (cc)
split_some is (x ∷ text) e = by_test (is x) e
  where
    by_test : (b : Bool) → cond b ([] ∷ slice_split is text) (onto_first x (slice_split is text)) ≡ [] → ⊥
    by_test true e = absurd (cc)
    by_test false e = onto_first_some x (slice_split is text) e

join_step : {S : Type 0} (s x : S) (rest : List (List S)) (text : List S) (b : Bool) → (b ≡ true → x ≡ s) → rest ≢ [] → join s rest ≡ text → join s (cond b ([] ∷ rest) (onto_first x rest)) ≡ x ∷ text
join_step {S} s x rest text true same some e = join_cons s [] rest some ∙ ap (λ (r : List S). s ∷ r) e ∙ ap (λ (y : S). y ∷ text) (sym (same refl))
join_step {S} s x rest text false same some e = join-onto_first s x rest ∙ ap (λ (r : List S). x ∷ r) e

-- parts that were cut at a separator give the text again
pub join-split : {S : Type 0} (sep : Separator S) (text : List S) → join sep.symbol (slice_split sep.is text) ≡ text
join-split sep [] = refl
join-split sep (x ∷ text) = join_step sep.symbol x (slice_split sep.is text) text (sep.is x) (sep.only x) (split_some sep.is text) (join-split sep text)

-- parts without the separator are what their text is cut into
pub split-join : {S : Type 0} (sep : Separator S) (parts : List (List S)) → parts ≢ [] → AllByRecursion (λ part. AllByRecursion (λ x. sep.is x ≡ false) part) parts → slice_split sep.is (join sep.symbol parts) ≡ parts
split-join sep [] some apart = absurd (some refl)
split-join sep (part ∷ []) some apart = slice_split_none sep.is part (All-from_recursion (λ x. sep.is x ≡ false) part apart.0)
split-join {S} sep (part ∷ next ∷ parts) some apart =
    slice_split_at sep.is part sep.symbol (join sep.symbol (next ∷ parts)) (All-from_recursion (λ x. sep.is x ≡ false) part apart.0) sep.here
    ∙ ap (λ (r : List (List S)). part ∷ r) (split-join sep (next ∷ parts) (λ e. absurd (cc)) apart.1)

-- no part of what a text is cut into has the separator
pub split_apart : {S : Type 0} (is : S → Bool) (text : List S) → AllByRecursion (λ part. AllByRecursion (λ x. is x ≡ false) part) (slice_split is text)
split_apart is [] = (tt, tt)
split_apart {S} is (x ∷ text) = by_test (is x) refl (slice_split is text) (split_apart is text)
  where
    onto : (parts : List (List S)) → is x ≡ false → AllByRecursion (λ part. AllByRecursion (λ x. is x ≡ false) part) parts → AllByRecursion (λ part. AllByRecursion (λ x. is x ≡ false) part) (onto_first x parts)
    onto [] e apart = ((e, tt), tt)
    onto (part ∷ parts) e apart = ((e, apart.0), apart.1)

    by_test : (b : Bool) → is x ≡ b → (parts : List (List S)) → AllByRecursion (λ part. AllByRecursion (λ x. is x ≡ false) part) parts
        → AllByRecursion (λ part. AllByRecursion (λ x. is x ≡ false) part) (cond b ([] ∷ parts) (onto_first x parts))
    by_test true e parts apart = (tt, apart)
    by_test false e parts apart = onto parts e apart

pub parts_again : {S : Type 0} (sep : Separator S) (parts : List (List S)) → AreParts sep parts → Some (slice_split sep.is (join sep.symbol parts)) ≡ Some parts
parts_again {S} sep parts fits = ap (λ (list : List (List S)). Some list) (split-join sep parts fits.some fits.apart)

pub parts_back : {S : Type 0} (sep : Separator S) (text : List S) (parts : List (List S)) → Some (slice_split sep.is text) ≡ Some parts → AreParts sep parts × (text ≡ join sep.symbol parts)
parts_back sep text parts e =
    let is : slice_split sep.is text ≡ parts = some_is (Some (slice_split sep.is text)) (slice_split sep.is text) parts refl e in (
      record { some = λ none. split_some sep.is text (is ∙ none); apart = subst (λ list. AllByRecursion (λ part. AllByRecursion (λ x. sep.is x ≡ false) part) list) is (split_apart sep.is text) },
      sym (join-split sep text) ∙ ap (join sep.symbol) is,
    )

-- ---- two parts

cut_again : {S : Type 0} (sep : Separator S) (front back : List S) → AllByRecursion (λ s. sep.is s ≡ false) front → cut sep.is (front ++ sep.symbol ∷ back) ≡ Some (front, back)
cut_again {S} sep [] back apart = cond-true (sep.is sep.symbol) (Some ([], back)) (option_map (λ p. (sep.symbol ∷ p.0, p.1)) (cut sep.is back)) sep.here
cut_again {S} sep (s ∷ front) back apart =
    cond-false (sep.is s) (Some ([], front ++ sep.symbol ∷ back)) (option_map (λ p. (s ∷ p.0, p.1)) (cut sep.is (front ++ sep.symbol ∷ back))) apart.0
    ∙ ap (option_map (λ (p : List S × List S). (s ∷ p.0, p.1))) (cut_again sep front back apart.1)

pub cut_back : {S : Type 0} (sep : Separator S) (text : List S) (p : List S × List S) → cut sep.is text ≡ Some p → text ≡ p.0 ++ sep.symbol ∷ p.1
cut_back sep [] p e = absurd (cc)
cut_back {S} sep (s ∷ text) p e =
    elim (chosen (sep.is s) (Some ([], text)) (option_map (λ p. (s ∷ p.0, p.1)) (cut sep.is text)) p e) [
      | inl here ↦ ap (λ (x : S). x ∷ text) (sep.only s here.0) ∙ ap (λ (q : List S × List S). q.0 ++ sep.symbol ∷ q.1) (some_is (Some ([], text)) ([], text) p refl here.1)
      | inr later ↦
          let m = mapped (cut sep.is text) (λ p. (s ∷ p.0, p.1)) p later.1 in
          ap (λ (r : List S). s ∷ r) (cut_back sep text m.0 m.1) ∙ ap (λ (q : List S × List S). q.0 ++ sep.symbol ∷ q.1) m.2
    ]

pub cut_pair_again : {S A B : Type 0} {P Q : List S → Type 0} (sep : Separator S) (f : Format P A) (g : Format Q B) → ((a : A) → f.fits a → AllByRecursion (λ s. sep.is s ≡ false) (f.spells a))
    → (p : A × B) → f.fits p.0 × g.fits p.1 → option_and_then (read_both f.reads g.reads) (cut sep.is (f.spells p.0 ++ sep.symbol ∷ g.spells p.1)) ≡ Some p
cut_pair_again {S} {A} {B} sep f g apart p fits =
    ap (option_and_then (read_both f.reads g.reads)) (cut_again sep (f.spells p.0) (g.spells p.1) (apart p.0 fits.0))
    ∙ ap (option_and_then (λ (a : A). option_map (λ (b : B). (a, b)) (g.reads (g.spells p.1)))) (f.again p.0 fits.0)
    ∙ ap (option_map (λ (b : B). (p.0, b))) (g.again p.1 fits.1)

pub cut_pair_back : {S A B : Type 0} {P Q : List S → Type 0} (sep : Separator S) (f : Format P A) (g : Format Q B) (text : List S) (p : A × B) → option_and_then (read_both f.reads g.reads) (cut sep.is text) ≡ Some p
    → (f.fits p.0 × g.fits p.1) × (text ≡ f.spells p.0 ++ sep.symbol ∷ g.spells p.1)
cut_pair_back {S} {A} {B} sep f g text p e =
    let c = found (cut sep.is text) (read_both f.reads g.reads) p e in
    let a = found (f.reads c.0.0) (λ a. option_map (λ b. (a, b)) (g.reads c.0.1)) p c.2 in
    let b = mapped (g.reads c.0.1) (λ b. (a.0, b)) p a.2 in
    let first = f.back c.0.0 a.0 a.1 in
    let second = g.back c.0.1 b.0 b.1 in
    subst (λ (q : A × B). (f.fits q.0 × g.fits q.1) × (text ≡ f.spells q.0 ++ sep.symbol ∷ g.spells q.1)) b.2
    ((first.0, second.0), cut_back sep text c.0 c.1 ∙ ap (λ (r : List S). r ++ sep.symbol ∷ c.0.1) first.1 ∙ ap (λ (r : List S). f.spells a.0 ++ sep.symbol ∷ r) second.1)

-- ---- lines

pub body_again : (body : List ℕ) → body_of (body ++ 10 ∷ []) ≡ Some body
body_again [] = refl
body_again (b ∷ []) = refl
body_again (b ∷ c ∷ body) = ap (option_map (λ body. b ∷ body)) (body_again (c ∷ body))

pub body_back : (text body : List ℕ) → body_of text ≡ Some body → text ≡ body ++ 10 ∷ []
body_back [] body e = absurd (cc)
body_back (b ∷ []) body e =
    let p = passed (eqb b 10) (Some []) body e in
    ap (λ (x : ℕ). x ∷ []) (eqb-true b 10 p.0) ∙ ap (λ (t : List ℕ). t ++ 10 ∷ []) (some_is (Some []) [] body refl p.1)
body_back (b ∷ c ∷ text) body e =
    let m = mapped (body_of (c ∷ text)) (λ body. b ∷ body) body e in
    ap (λ (t : List ℕ). b ∷ t) (body_back (c ∷ text) m.0 m.1) ∙ ap (λ (t : List ℕ). t ++ 10 ∷ []) m.2

pub text_join : (lines : List (List ℕ)) → lines ≢ [] → text_of lines ≡ join 10 lines ++ 10 ∷ []
text_join [] some = absurd (some refl)
text_join (line ∷ []) some = append-nil (line ++ 10 ∷ [])
text_join (line ∷ next ∷ lines) some =
    ap (λ (t : List ℕ). (line ++ 10 ∷ []) ++ t) (text_join (next ∷ lines) (λ e. absurd (cc)))
    ∙ append_assoc line (10 ∷ []) (join 10 (next ∷ lines) ++ 10 ∷ [])
    ∙ sym (append_assoc line (10 ∷ join 10 (next ∷ lines)) (10 ∷ []))

abbrev feeds : Separator ℕ
feeds = record { symbol = 10; is = is_feed; here = refl; only = only_feed }

pub lines_again : (lines : List (List ℕ)) → AreParts feeds lines → option_map (slice_split is_feed) (body_of (text_of lines)) ≡ Some lines
lines_again lines fits =
    ap (λ (t : List ℕ). option_map (slice_split is_feed) (body_of t)) (text_join lines fits.some)
    ∙ ap (option_map (slice_split is_feed)) (body_again (join 10 lines))
    ∙ parts_again feeds lines fits

pub lines_back : (text : List ℕ) (lines : List (List ℕ)) → option_map (slice_split is_feed) (body_of text) ≡ Some lines → AreParts feeds lines × (text ≡ text_of lines)
lines_back text lines e =
    let m = mapped (body_of text) (slice_split is_feed) lines e in
    let p = parts_back feeds m.0 lines (ap (λ (list : List (List ℕ)). Some list) m.2) in
    (p.0, body_back text m.0 m.1 ∙ ap (λ (t : List ℕ). t ++ 10 ∷ []) p.1 ∙ sym (text_join lines p.0.some))

-- ---- the last byte

ends : (text : List ℕ) → pointwise ◌==◌ (drop (length text - 1) text) (10 ∷ []) ≡ true → drop (length text - 1) text ≡ 10 ∷ []
ends text e = (slice_eq-Decides Decides-eqb (drop (length text - 1) text) (10 ∷ []) (pointwise ◌==◌ (drop (length text - 1) text) (10 ∷ [])) refl).0 e

body_there : (text body : List ℕ) → pointwise ◌==◌ (drop (length text - 1) text) (10 ∷ []) ≡ true → body ≡ take (length text - 1) text → Some body ≡ body_of text
body_there text body e is =
    let parts : body ++ 10 ∷ [] ≡ text = ap (λ (front : List ℕ). front ++ 10 ∷ []) is ∙ ap (λ (back : List ℕ). take (length text - 1) text ++ back) (sym (ends text e)) ∙ take-append-drop (length text - 1) text in
    sym (body_again body) ∙ ap body_of parts

no_body : (text : List ℕ) (o : Option (List ℕ)) → body_of text ≡ o → pointwise ◌==◌ (drop (length text - 1) text) (10 ∷ []) ≡ false → None ≡ o
no_body text None is e = refl
no_body text (Some body) is e = absurd (
    let whole = body_back text body is in
    let back : drop (length (body ++ 10 ∷ []) - 1) (body ++ 10 ∷ []) ≡ 10 ∷ [] = ap (λ n. drop n (body ++ 10 ∷ [])) (omega (arith, length-append body (10 ∷ []))) ∙ drop-append_seam body (10 ∷ []) in
    let same : drop (length text - 1) text ≡ 10 ∷ [] = ap (λ (t : List ℕ). drop (length t - 1) t) whole ∙ back in
    let yes : pointwise ◌==◌ (drop (length text - 1) text) (10 ∷ []) ≡ true = ap (λ (t : List ℕ). pointwise ◌==◌ t (10 ∷ [])) same in
    cc (yes, e))

-- what is left of a text without its last line feed
pub body_found : (text suffix : List ℕ) (o : Option (Bor (List ℕ))) → suffix ≡ 10 ∷ []
    → MatchOption o (pointwise ◌==◌ (drop (length text - length suffix) text) suffix ≡ false) (λ x. (pointwise ◌==◌ (drop (length text - length suffix) text) suffix ≡ true) × (x.now ≡ take (length text - length suffix) text) × (length x.now + length suffix ≡ length text))
    → option_map (λ body. body.now) o ≡ body_of text
body_found text suffix None is m = no_body text (body_of text) refl (subst (λ (s : List ℕ). pointwise ◌==◌ (drop (length text - length s) text) s ≡ false) is m)
body_found text suffix (Some x) is m =
    body_there text x.now (subst (λ (s : List ℕ). pointwise ◌==◌ (drop (length text - length s) text) s ≡ true) is m.0) (m.1 ∙ ap (λ (s : List ℕ). take (length text - length s) text) is)
