-- How many lines a certificate has, and that its text has at least as many bytes.
use Rattle.std.proofs.Common.{◌≡◌, ℕ, suc, ◌+◌, ◌<◌, ◌≤◌, List, [], ◌∷◌, ◌++◌, length, map, take, get_or, refl, ap, ◌∙◌, append_assoc, arith, length-append}
use Rattle.std.specs.List.{flat_map, sum_by}
use Rattle.std.proofs.lemmas.List.{length-map, take_all}
use Rattle.std.proofs.lemmas.List.Sums.{sum_by-cons, sum_by_more, sum_by_more_le}
use Rattle.pv_steps.specs.declared.step.Lemma.{Lemma}
use Rattle.pv_steps.specs.declared.step.Step.{Step}
use Rattle.pv_format.specs.Splits.{text_of}
use Rattle.pv_cert.specs.declared.cert.Version.{Version}
use Rattle.pv_cert.specs.declared.cert.Version.TheVariants.{Two}
use Rattle.pv_cert.specs.declared.cert.Cert.{Cert}
use Rattle.pv_cert.specs.declared.cert.Section.{Section}
use Rattle.pv_cert.specs.Lines.{end_line, lemma_line, prove_line, step_line, title_line}
use Rattle.pv_cert.specs.Reading.{body_lines, lemma_lines, lemmas_lines, section_lines}
use Rattle.pv_cert.specs.Certificates as cert
use Rattle.pv_chain.specs.declared.chain.Chain.{Chain}
use Rattle.pv_chain.specs.Chains.{spelled}
use Rattle.pv_chain.specs.Heads.{head}

text_long : (lines : List (List ℕ)) → length lines ≤ length (text_of lines)
text_long [] = omega arith
text_long (line ∷ lines) = omega (arith, text_long lines, length-append (line ++ 10 ∷ []) (text_of lines), length-append line (10 ∷ []))

-- a certificate has no more lines than bytes
pub few_lines : (v : Version) (c : Cert) → length (cert.cert_lines v c) ≤ length (cert.spelled v c)
few_lines v c = text_long (cert.cert_lines v c)

-- those of its header, of its lemmas and of its sections
pub cert_count : (v : Version) (c : Cert) → length (cert.cert_lines v c) ≡ 3 + (length (lemmas_lines 1 c.lemmas) + length (flat_map section_lines c.sections))
cert_count v c =
    let three : length (cert.cert_lines v c) ≡ suc (suc (suc (length (body_lines (cert.body c))))) = refl in
    omega (arith, three, length-append (lemmas_lines 1 c.lemmas) (flat_map section_lines c.sections))

-- one line before the steps and one after them
abbrev pub lemma_size : Lemma → ℕ
lemma_size l = length l.steps + 2

abbrev pub section_size : Section → ℕ
section_size s = length s.steps + 2

steps_between : (first last : List ℕ) (steps : List Step) → length (first ∷ (map step_line steps ++ last ∷ [])) ≡ length steps + 2
steps_between first last steps = omega (arith, length-append (map step_line steps) (last ∷ []), length-map steps step_line)

pub lemmas_count : (n : ℕ) (lemmas : List Lemma) → length (lemmas_lines n lemmas) ≡ sum_by lemma_size lemmas
lemmas_count n [] = refl
lemmas_count n (l ∷ lemmas) = omega (arith, sum_by-cons lemma_size l lemmas, length-append (lemma_lines n l) (lemmas_lines (suc n) lemmas), steps_between (lemma_line (n, l.vars)) (prove_line (l.left, l.right)) l.steps, lemmas_count (suc n) lemmas)

pub sections_count : (sections : List Section) → length (flat_map section_lines sections) ≡ sum_by section_size sections
sections_count [] = refl
sections_count (s ∷ sections) = omega (arith, sum_by-cons section_size s sections, length-append (section_lines s) (flat_map section_lines sections), steps_between (title_line (s.name, s.desc)) end_line s.steps, sections_count sections)

-- as the loops count them: x, the next of xs, has `more` lines
pub counted_next : {X : Type 0} (size : X → ℕ) (xs : List X) (k : ℕ) (x : X) (count more : ℕ) → k < length xs → x ≡ get_or xs k x → count ≡ sum_by size (take k xs) → more ≡ size x → count + more ≡ sum_by size (take (k + 1) xs)
counted_next size xs k x count more lt is so e = omega (arith, so, e, ap size is, sum_by_more size xs k x lt)

pub counted_fits : {X : Type 0} (size : X → ℕ) (xs : List X) (k : ℕ) (x : X) (count more : ℕ) → k < length xs → x ≡ get_or xs k x → count ≡ sum_by size (take k xs) → more ≡ size x → count + more ≤ sum_by size xs
counted_fits size xs k x count more lt is so e = omega (arith, so, e, ap size is, sum_by_more_le size xs k x lt)

pub counted_all : {X : Type 0} (size : X → ℕ) (xs : List X) (k count : ℕ) → length xs ≤ k → count ≡ sum_by size (take k xs) → count ≡ sum_by size xs
counted_all size xs k count end so = so ∙ ap (sum_by size) (take_all k xs end)

-- what is written is the spelling
pub chain_after : (start a b end first second middle : List ℕ) (n : ℕ) (c : Chain) → start ≡ [] → a ≡ start ++ head.spells (middle, n) → b ≡ a ++ first → end ≡ b ++ second → middle ≡ c.middle → n ≡ length (cert.cert_lines Two c.first)
    → first ≡ cert.spelled Two c.first → second ≡ cert.spelled Two c.second → end ≡ spelled c
chain_after start a b end first second middle n c e1 e2 e3 e4 m is one two =
    e4
    ∙ ap (λ (t : List ℕ). t ++ second) (e3 ∙ ap (λ (t : List ℕ). t ++ first) (e2 ∙ ap (λ (t : List ℕ). t ++ head.spells (middle, n)) e1))
    ∙ append_assoc (head.spells (middle, n)) first second
    ∙ ap (λ (x : List ℕ). head.spells (x, n) ++ (first ++ second)) m
    ∙ ap (λ (k : ℕ). head.spells (c.middle, k) ++ (first ++ second)) is
    ∙ ap (λ (t : List ℕ). head.spells (c.middle, length (cert.cert_lines Two c.first)) ++ (t ++ second)) one
    ∙ ap (λ (t : List ℕ). head.spells (c.middle, length (cert.cert_lines Two c.first)) ++ (cert.spelled Two c.first ++ t)) two
