-- The words ask for one thing at most, and what words show is one text.
use Rattle.std.proofs.Common.{◌≡◌, ℕ, Bool, false, List, [], ◌∷◌, length, Option, Some, None, refl, sym, ap, subst, ◌∙◌, arith}
use Rattle.std.specs.Prelude.{map, option_map, slice_index_or}
use Rattle.std.specs.Borrow.{Bor}
use Rattle.pv_token.specs.Tokens.{shown_token}
use Rattle.pv_words.specs.Answers.{texts}
use Rattle.pv_words.specs.Words.{Give}
use Rattle.pv_words.proofs.Cited.{is_one}
use Rattle.pv_draw.specs.declared.answer.Signature.{Signature}
use Rattle.pv_draw.specs.declared.request.Form.{Form}
use Rattle.pv_draw.specs.declared.request.Given.{Given}
use Rattle.pv_draw.specs.Requests.{AskFor, IsRequest, IsShown, Request, form_by, graphs_words}
use Rattle.pv_draw.specs.Reading.{AreGiven, IsSignatureOf, request_of}

-- ---- what a word shows

-- what a word shows is what is read of it
shown_read : (word text : List ℕ) → IsShown word text → shown_token.reads word ≡ Some text
shown_read word text is = ap shown_token.reads is.shown ∙ shown_token.again text is.bytes

pub shows : (word bytes text : List ℕ) → shown_token.reads word ≡ Some bytes → text ≡ bytes → IsShown word text
shows word bytes text e is = let back = shown_token.back word bytes e in subst (IsShown word) (sym is) (record { bytes = back.0; shown = back.1 })

pub shows_nothing : (word text : List ℕ) → shown_token.reads word ≡ None → IsShown word text → ⊥
shows_nothing word text e is = absurd (let both : ◌≡◌ {A = Option (List ℕ)} None (Some text) = sym e ∙ shown_read word text is in cc both)

shown_once : (word text other : List ℕ) → IsShown word text → IsShown word other → text ≡ other
shown_once word text other h k =
    let both : ◌≡◌ {A = Option (List ℕ)} (Some text) (Some other) = sym (shown_read word text h) ∙ shown_read word other k in
    cc both

-- ---- what words give

-- by what was read of them
abbrev pub text_of : Option (Bor (List ℕ)) → Option (List ℕ)
text_of o = option_map (λ s. s.now) o

no_options : (words : List (List ℕ)) (flags : List Bool) (options : List (Option (List ℕ))) (arguments : List (List ℕ)) → Give graphs_words words flags options arguments → options ≡ []
no_options words flags [] arguments given = refl
no_options words flags (o ∷ options) arguments given = absurd (let e = given.once in cc e)

pub are_given : (words : List (List ℕ)) (flags : List Bool) (options : List (Option (Bor (List ℕ)))) (arguments : List (Bor (List ℕ))) (d : Bor (List ℕ)) (form : Form) → Give graphs_words words flags (map text_of options) (texts arguments) → length flags ≡ 1 → length arguments ≡ 4 → form ≡ form_by (slice_index_or flags 0 false)
    → AreGiven words (Some (record { form = form; first = slice_index_or arguments 0 d; second = slice_index_or arguments 1 d; name = slice_index_or arguments 2 d; desc = slice_index_or arguments 3 d }))
are_given words (dot ∷ []) options (a ∷ b ∷ n ∷ t ∷ []) d form given one four is =
    (dot, subst (λ (o : List (Option (List ℕ))). Give graphs_words words (dot ∷ []) o (a.now ∷ b.now ∷ n.now ∷ t.now ∷ [])) (no_options words (dot ∷ []) (map text_of options) _ given) given, is)
are_given words _ options _ d form given one four is = absurd (omega (arith, one, four))

-- ---- one request

given_once : (words : List (List ℕ)) (dot flag : Bool) (a b n t a' b' n' t' : List ℕ) → Give graphs_words words (dot ∷ []) [] (a ∷ b ∷ n ∷ t ∷ []) → Give graphs_words words (flag ∷ []) [] (a' ∷ b' ∷ n' ∷ t' ∷ [])
    → (dot ≡ flag) × (a ≡ a') × (b ≡ b') × (n ≡ n') × (t ≡ t')
given_once words dot flag a b n t a' b' n' t' h k =
    let one = is_one graphs_words refl words _ _ _ _ _ _ h k in
    let same : dot ≡ flag = let e = one.0 in cc e in
    let first : a ≡ a' = let e = one.2 in cc e in
    let second : b ≡ b' = let e = one.2 in cc e in
    let name : n ≡ n' = let e = one.2 in cc e in
    let desc : t ≡ t' = let e = one.2 in cc e in
    (same, first, second, name, desc)

asked_once : (words : List (List ℕ)) (r q : Request) → AskFor words r → AskFor words q → r ≡ q
asked_once words r q h k =
    let one = given_once words h.dot k.dot r.first r.second h.name h.desc q.first q.second k.name k.desc h.given k.given in
    let form : r.form ≡ q.form = h.form ∙ ap form_by one.0 ∙ sym k.form in
    let first : r.first ≡ q.first = one.1 in
    let second : r.second ≡ q.second = one.2 in
    let name : r.signature.name ≡ q.signature.name = shown_once k.name r.signature.name q.signature.name (subst (λ (w : List ℕ). IsShown w r.signature.name) one.3 h.name_is) k.name_is in
    let desc : r.signature.desc ≡ q.signature.desc = shown_once k.desc r.signature.desc q.signature.desc (subst (λ (w : List ℕ). IsShown w r.signature.desc) one.4 h.desc_is) k.desc_is in
    let signature : r.signature ≡ q.signature =
    ap (λ (n : List ℕ). record r.signature { name = n }) name ∙ ap (λ (t : List ℕ). record { name = q.signature.name; desc = t }) desc in
    ap (λ (f : Form). record r { form = f }) form
    ∙ ap (λ (n : List ℕ). record { form = q.form; first = n; second = r.second; signature = r.signature }) first
    ∙ ap (λ (n : List ℕ). record { form = q.form; first = q.first; second = n; signature = r.signature }) second
    ∙ ap (λ (s : Signature). record { form = q.form; first = q.first; second = q.second; signature = s }) signature

pub one_request : (words : List (List ℕ)) (r q : Option Request) → IsRequest words r → IsRequest words q → r ≡ q
one_request words None None h k = refl
one_request words None (Some q) h k = absurd (h q k)
one_request words (Some r) None h k = absurd (k r h)
one_request words (Some r) (Some q) h k = ap (λ (x : Request). Some x) (asked_once words r q h k)

-- ---- the request that was read

-- words that give nothing ask for nothing
pub nothing_given : (words : List (List ℕ)) → AreGiven words None → IsRequest words None
nothing_given words none r h = none (h.dot ∷ []) [] _ h.given

-- nor do those of which one shows nothing
pub nothing_shown : (words : List (List ℕ)) (g : Given) → AreGiven words (Some g) → IsSignatureOf g.name.now g.desc.now None → IsRequest words None
nothing_shown words g (dot, given, form) none r h =
    let one = given_once words h.dot dot r.first r.second h.name h.desc g.first.now g.second.now g.name.now g.desc.now h.given given in
    none r.signature (subst (λ (w : List ℕ). IsShown w r.signature.name) one.3 h.name_is) (subst (λ (w : List ℕ). IsShown w r.signature.desc) one.4 h.desc_is)

pub is_request : (words : List (List ℕ)) (g : Given) (s : Signature) → AreGiven words (Some g) → IsSignatureOf g.name.now g.desc.now (Some s) → IsRequest words (Some (request_of g s))
is_request words g s (dot, given, form) shown = record { dot = dot; name = g.name.now; desc = g.desc.now; given = given; form = form; name_is = shown.0; desc_is = shown.1 }
