-- The words of an operation stand in its certificate between texts that don't depend on it.
use Rattle.std.proofs.Common.{◌≡◌, ℕ, ◌+◌, ◌-◌, ◌≤◌, codes, decimal, length, take, drop, List, [], ◌∷◌, ◌++◌, refl, sym, ap, ◌∙◌, append_assoc, arith}
use Rattle.std.specs.Prelude.{slice_range}
use Rattle.std.proofs.lemmas.List.{append-nil, length-append}
use Rattle.std.proofs.lemmas.Fmt.{decimal_digit}
use Rattle.hex.specs.Hex.{encode_with}
use Rattle.pv_graph.specs.declared.node.Op.{Op}
use Rattle.pv_steps.specs.declared.step.Step.TheVariants as steps
use Rattle.pv_format.specs.Splits.{text_of}
use Rattle.pv_token.specs.Words.{spaced}
use Rattle.pv_token.proofs.Cited.{line_spaced}
use Rattle.pv_cert.specs.declared.cert.Version.TheVariants.{Two}
use Rattle.pv_cert.specs.Operations.{op_words}
use Rattle.pv_cert.specs.Lines.{step_line, title_line}
use Rattle.pv_cert.specs.Certificates.{header, spelled}
use Rattle.pv_drawings.specs.Alone.{alone, no_digest}

-- the header and the title
abbrev before_step : List ℕ
before_step = text_of ((header Two).spells (no_digest, no_digest) ++ title_line ([], []) ∷ [])

unfoldable before : List ℕ
before = before_step ++ codes "node 0"

abbrev after : List ℕ
after = codes "\nend\n"

step_is : (o : Op) → step_line (steps.Node 0 o []) ≡ codes "node 0" ++ spaced (op_words o)
step_is o =
    line_spaced (codes "node") (decimal 0 ∷ (op_words o ++ []))
    ∙ ap (λ (r : List ℕ). codes "node " ++ (r ++ spaced (op_words o ++ []))) (decimal_digit 0 (omega arith))
    ∙ ap (λ (r : List (List ℕ)). codes "node 0" ++ spaced r) (append-nil (op_words o))

alone_text : (o : Op) → spelled Two (alone o) ≡ before ++ (spaced (op_words o) ++ after)
unfolding before encode_with
alone_text o =
    let whole : spelled Two (alone o) ≡ before_step ++ ((step_line (steps.Node 0 o []) ++ 10 ∷ []) ++ codes "end\n") = refl in
    whole
    ∙ ap (λ (r : List ℕ). before_step ++ ((r ++ 10 ∷ []) ++ codes "end\n")) (step_is o)
    ∙ ap (λ (r : List ℕ). before_step ++ r) (append_assoc (codes "node 0" ++ spaced (op_words o)) (10 ∷ []) (codes "end\n") ∙ append_assoc (codes "node 0") (spaced (op_words o)) after)
    ∙ sym (append_assoc before_step (codes "node 0") (spaced (op_words o) ++ after))

before_long : length before ≡ 175
unfolding before encode_with
before_long = refl

text_long : (o : Op) (text : List ℕ) → text ≡ spelled Two (alone o) → length text ≡ 175 + (length (spaced (op_words o)) + 5)
text_long o text e =
    let words : List ℕ = spaced (op_words o) in
    omega (arith, ap length (e ∙ alone_text o), length-append before (words ++ after), length-append words after, before_long)

pub alone_long : (o : Op) (text : List ℕ) → text ≡ spelled Two (alone o) → 175 + 5 ≤ length text
alone_long o text e = omega (arith, text_long o text e)

take_front : (s r : List ℕ) → take (length s) (s ++ r) ≡ s
take_front [] r = refl
take_front (x ∷ s) r = ap (λ (t : List ℕ). x ∷ t) (take_front s r)

drop_front : (s r : List ℕ) → drop (length s) (s ++ r) ≡ r
drop_front [] r = refl
drop_front (x ∷ s) r = drop_front s r

-- what is cut out are the words
pub alone_cut : (o : Op) (text : List ℕ) → text ≡ spelled Two (alone o) → slice_range text 175 (length text - 5) ≡ spaced (op_words o)
alone_cut o text e =
    let words : List ℕ = spaced (op_words o) in
    let count : length text - 5 - 175 ≡ length words = omega (arith, text_long o text e) in
    let rest : drop 175 text ≡ words ++ after = ap (λ (n : ℕ). drop n text) (sym before_long) ∙ ap (drop (length before)) (e ∙ alone_text o) ∙ drop_front before (words ++ after) in
    ap (λ (n : ℕ). take n (drop 175 text)) count ∙ ap (take (length words)) rest ∙ take_front words after
