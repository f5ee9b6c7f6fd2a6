-- What is written word by word is the line, and what is written line by line is the text.
use Rattle.std.proofs.Common.{◌≡◌, ℕ, drop, map, codes, List, [], ◌∷◌, ◌++◌, refl, sym, ap, ◌∙◌, append_assoc}
use Rattle.std.specs.Prelude.{decimal}
use Rattle.std.specs.List.{flat_map}
use Rattle.std.proofs.lemmas.List.{append-nil}
use Rattle.std.proofs.lemmas.Grind.{flat_map-append}
use Rattle.pv_steps.specs.declared.step.Congruence.{Congruence}
use Rattle.pv_steps.specs.declared.step.Step.{Step}
use Rattle.pv_steps.specs.declared.step.Var.{Var}
use Rattle.pv_steps.specs.declared.step.Lemma.{Lemma}
use Rattle.pv_format.specs.Splits.{join, text_of}
use Rattle.pv_token.specs.Words.{spaced}
use Rattle.pv_token.specs.Spellings.{shown_bytes}
use Rattle.pv_token.proofs.Cited.{line_spaced}
use Rattle.pv_cert.specs.declared.cert.Version.{Version}
use Rattle.pv_cert.specs.declared.cert.Section.{Section}
use Rattle.pv_cert.specs.declared.cert.Cert.{Cert}
use Rattle.pv_cert.specs.Sets.{congruence}
use Rattle.pv_cert.specs.StepLines.{set_words, step_words}
use Rattle.pv_cert.specs.Variables.{var_name}
use Rattle.pv_cert.specs.Lines.{step_line, title_line, lemma_line, prove_line}
use Rattle.pv_cert.specs.Reading.{lemma_lines, lemmas_lines, section_lines}
use Rattle.pv_cert.specs.Certificates.{header, spelled}

abbrev Words : Type 0
Words = List (List ℕ)

joined_spaced : {A : Type 0} (f : A → Words) (s : List ℕ) (first : A) (rest : List A) → spaced (join s (map f (first ∷ rest))) ≡ spaced (f first) ++ flat_map (λ a. spaced (s ∷ f a)) rest
joined_spaced f s first [] = sym (append-nil (spaced (f first)))
joined_spaced f s first (next ∷ rest) =
    flat_map-append (λ word. 32 ∷ word) (f first) (s ∷ join s (map f (next ∷ rest)))
    ∙ ap (λ (r : List ℕ). spaced (f first) ++ ((32 ∷ s) ++ r)) (joined_spaced f s next rest)
    ∙ ap (λ (r : List ℕ). spaced (f first) ++ r) (sym (append_assoc (32 ∷ s) (spaced (f next)) (flat_map (λ a. spaced (s ∷ f a)) rest)))

-- a semicolon stands before each congruence of a set after the first
pub set_spaced : (first : Congruence) (rest : List Congruence) → spaced (set_words.spells (first ∷ rest)) ≡ spaced (congruence.spells first) ++ flat_map (λ c. spaced (codes ";" ∷ congruence.spells c)) rest
set_spaced first rest = joined_spaced congruence.spells (codes ";") first rest

pub set_after : (start mid end : List ℕ) (first : Congruence) (rest : List Congruence) → mid ≡ start ++ spaced (congruence.spells first) → end ≡ mid ++ flat_map (λ c. spaced (codes ";" ∷ congruence.spells c)) rest → end ≡ start ++ spaced (set_words.spells (first ∷ rest))
set_after start mid end first rest e f =
    let more : List ℕ = flat_map (λ c. spaced (codes ";" ∷ congruence.spells c)) rest in
    f ∙ ap (λ (r : List ℕ). r ++ more) e ∙ append_assoc start (spaced (congruence.spells first)) more ∙ ap (λ (r : List ℕ). start ++ r) (sym (set_spaced first rest))

-- the line of a step
pub step_after : (start one two end name : List ℕ) (s : Step) → step_words s ≡ name ∷ drop 1 (step_words s) → one ≡ start ++ name → two ≡ one ++ spaced (drop 1 (step_words s)) → end ≡ two ++ 10 ∷ [] → end ≡ start ++ text_of (step_line s ∷ [])
step_after start one two end name s is first second third =
    let feed : List ℕ = 10 ∷ [] in
    let args : List ℕ = spaced (drop 1 (step_words s)) in
    let line : step_line s ≡ name ++ args = ap (join 32) is ∙ line_spaced name (drop 1 (step_words s)) in
    third
    ∙ ap (λ (x : List ℕ). x ++ feed) (second ∙ ap (λ (x : List ℕ). x ++ args) first ∙ append_assoc start name args)
    ∙ append_assoc start (name ++ args) feed
    ∙ ap (λ (x : List ℕ). start ++ (x ++ feed)) (sym line)
    ∙ ap (λ (x : List ℕ). start ++ x) (sym (append-nil (step_line s ++ feed)))

-- the lines of sections are written section by section
pub sections_text : (sections : List Section) → text_of (flat_map section_lines sections) ≡ flat_map (λ s. text_of (section_lines s)) sections
sections_text [] = refl
sections_text (s ∷ sections) =
    flat_map-append (λ line. line ++ 10 ∷ []) (section_lines s) (flat_map section_lines sections)
    ∙ ap (λ (r : List ℕ). text_of (section_lines s) ++ r) (sections_text sections)

-- the line that a section begins with
pub title_spaced : (name desc : List ℕ) → title_line (name, desc) ≡ codes "method" ++ spaced (shown_bytes name ∷ shown_bytes desc ∷ [])
title_spaced name desc = line_spaced (codes "method") (shown_bytes name ∷ shown_bytes desc ∷ [])

-- the title, the steps and the end
pub section_text : (s : Section) → text_of (section_lines s) ≡ (text_of (title_line (s.name, s.desc) ∷ []) ++ text_of (map step_line s.steps)) ++ codes "end\n"
section_text s =
    flat_map-append (λ line. line ++ 10 ∷ []) (title_line (s.name, s.desc) ∷ map step_line s.steps) (codes "end" ∷ [])
    ∙ ap (λ (r : List ℕ). (r ++ text_of (map step_line s.steps)) ++ codes "end\n") (sym (append-nil (title_line (s.name, s.desc) ++ 10 ∷ [])))

-- the line that a lemma begins with
pub lemma_after : (start one two three end : List ℕ) (n : ℕ) (vars : List Var) → one ≡ start ++ codes "lemma " → two ≡ one ++ decimal n → three ≡ two ++ spaced (map var_name vars) → end ≡ three ++ 10 ∷ [] → end ≡ start ++ text_of (lemma_line (n, vars) ∷ [])
lemma_after start one two three end n vars first second third last =
    let feed : List ℕ = 10 ∷ [] in
    let word : List ℕ = codes "lemma " in
    let args : List ℕ = spaced (map var_name vars) in
    let line : lemma_line (n, vars) ≡ word ++ (decimal n ++ args) = line_spaced (codes "lemma") (decimal n ∷ map var_name vars) in
    let two_is : two ≡ start ++ (word ++ decimal n) = second ∙ ap (λ (x : List ℕ). x ++ decimal n) first ∙ append_assoc start word (decimal n) in
    let three_is : three ≡ start ++ ((word ++ decimal n) ++ args) = third ∙ ap (λ (x : List ℕ). x ++ args) two_is ∙ append_assoc start (word ++ decimal n) args in
    last
    ∙ ap (λ (x : List ℕ). x ++ feed) three_is
    ∙ append_assoc start ((word ++ decimal n) ++ args) feed
    ∙ ap (λ (x : List ℕ). start ++ (x ++ feed)) (append_assoc word (decimal n) args ∙ sym line)
    ∙ ap (λ (x : List ℕ). start ++ x) (sym (append-nil (lemma_line (n, vars) ++ feed)))

-- the line after the last step of a lemma
pub prove_spaced : (left right : ℕ) → prove_line (left, right) ≡ codes "prove" ++ spaced (decimal left ∷ decimal right ∷ [])
prove_spaced left right = line_spaced (codes "prove") (decimal left ∷ decimal right ∷ [])

-- the variables, the steps and the two sides
pub lemma_text : (n : ℕ) (l : Lemma) → text_of (lemma_lines n l) ≡ (text_of (lemma_line (n, l.vars) ∷ []) ++ text_of (map step_line l.steps)) ++ text_of (prove_line (l.left, l.right) ∷ [])
lemma_text n l =
    flat_map-append (λ line. line ++ 10 ∷ []) (lemma_line (n, l.vars) ∷ map step_line l.steps) (prove_line (l.left, l.right) ∷ [])
    ∙ ap (λ (r : List ℕ). (r ++ text_of (map step_line l.steps)) ++ text_of (prove_line (l.left, l.right) ∷ [])) (sym (append-nil (lemma_line (n, l.vars) ++ 10 ∷ [])))

-- the header, the lemmas and the sections
pub cert_text : (v : Version) (c : Cert) → spelled v c ≡ text_of ((header v).spells (c.first, c.second)) ++ (text_of (lemmas_lines 1 c.lemmas) ++ flat_map (λ s. text_of (section_lines s)) c.sections)
cert_text v c =
    flat_map-append (λ line. line ++ 10 ∷ []) ((header v).spells (c.first, c.second)) (lemmas_lines 1 c.lemmas ++ flat_map section_lines c.sections)
    ∙ ap (λ (r : List ℕ). text_of ((header v).spells (c.first, c.second)) ++ r)
    (flat_map-append (λ line. line ++ 10 ∷ []) (lemmas_lines 1 c.lemmas) (flat_map section_lines c.sections) ∙ ap (λ (r : List ℕ). text_of (lemmas_lines 1 c.lemmas) ++ r) (sections_text c.sections))

pub cert_after : (v : Version) (start one two end : List ℕ) (c : Cert) (lemmas : List Lemma) (sections : List Section) → start ≡ [] → one ≡ start ++ text_of ((header v).spells (c.first, c.second))
    → lemmas ≡ c.lemmas → two ≡ one ++ text_of (lemmas_lines 1 lemmas) → sections ≡ c.sections → end ≡ two ++ flat_map (λ s. text_of (section_lines s)) sections → end ≡ spelled v c
cert_after v start one two end c lemmas sections empty first ls second ss third =
    let head : List ℕ = text_of ((header v).spells (c.first, c.second)) in
    let mid : List ℕ = text_of (lemmas_lines 1 c.lemmas) in
    let last : List ℕ = flat_map (λ s. text_of (section_lines s)) c.sections in
    let one_is : one ≡ head = first ∙ ap (λ (r : List ℕ). r ++ head) empty in
    let two_is : two ≡ head ++ mid = second ∙ ap (λ (l : List Lemma). one ++ text_of (lemmas_lines 1 l)) ls ∙ ap (λ (r : List ℕ). r ++ mid) one_is in
    third
    ∙ ap (λ (l : List Section). two ++ flat_map (λ s. text_of (section_lines s)) l) ss
    ∙ ap (λ (r : List ℕ). r ++ last) two_is
    ∙ append_assoc head mid last
    ∙ sym (cert_text v c)
