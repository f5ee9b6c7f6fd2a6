-- The lines of lemmas and sections lead from place to place.
use Rattle.std.proofs.Common.{◌≡◌, ℕ, ◌+◌, Bool, true, false, cond, List, [], ◌∷◌, ◌++◌, length, map, drop, codes, Option, Some, None, Result, Ok, refl, sym, ap, subst, ◌∙◌, append_assoc, arith, add-zero, suc}
use Rattle.std.specs.Prelude.{◌==◌}
use Rattle.std.specs.Option.{option_map, option_and_then, option_or}
use Rattle.std.specs.List.{flat_map, AllByRecursion}
use Rattle.std.specs.Str.{bytes_eq}
use Rattle.std.proofs.lemmas.Bool.{eq-eqb}
use Rattle.std.proofs.lemmas.Slice.Eq.{bytes_eq-Decides}
use Rattle.std.proofs.lemmas.List.{append-nil, length-append}
use Rattle.pv_steps.specs.declared.step.Var.{Var}
use Rattle.pv_steps.specs.declared.step.Lemma.{Lemma}
use Rattle.pv_steps.specs.declared.step.Step.{Step}
use Rattle.pv_steps.specs.declared.step.Step.TheVariants as steps
use Rattle.pv_format.specs.Formats.{Format}
use Rattle.pv_token.specs.Words.{spaced}
use Rattle.pv_token.proofs.Cited.{line_spaced}
use Rattle.pv_cert.specs.declared.cert.Version.{Version}
use Rattle.pv_cert.specs.declared.cert.Version.TheVariants.{One, Two}
use Rattle.pv_cert.specs.declared.cert.Section.{Section}
use Rattle.pv_cert.specs.declared.cert.Body.{Body}
use Rattle.pv_cert.specs.declared.cert.CertFault.{CertFault}
use Rattle.pv_cert.specs.StepLines.{StepFits, step_words}
use Rattle.pv_cert.specs.Lines.{title_text, title_line, step_text, step_line, end_line, lemma_text, lemma_line, prove_text, prove_line}
use Rattle.pv_cert.specs.Reading.{lemma_lines, lemmas_lines, section_lines, body_lines, is_outside_blocks, in_section, LemmaFits, LemmasFit, SectionFits, MayBeIn, MayHave, BodyFits, Place, between, proving, inside, section_of, lemma_of, only_if, begun_lemma, next, ended, or_fault, read_lines}
use Rattle.pv_cert.proofs.Moves.{Lines}

-- some lines lead from one place to another
abbrev pub Leads : Version → Place → Lines → Place → Type 0
Leads v p [] q = p ≡ q
Leads v p (line ∷ lines) q = (r : Place) × (next v p line ≡ Some r) × Leads v r lines q

pub leads_append : (v : Version) (p q r : Place) (front back : Lines) → Leads v p front q → Leads v q back r → Leads v p (front ++ back) r
leads_append v p q r [] back first second = subst (λ p. Leads v p back r) (sym first) second
leads_append v p q r (line ∷ front) back first second = (first.0, first.1, leads_append v first.0 q r front back first.2 second)

-- one line at the end
leads_last : (v : Version) (p q r : Place) (front : Lines) (line : List ℕ) → Leads v p front q → next v q line ≡ Some r → Leads v p (front ++ line ∷ []) r
leads_last v p q r front line first last = leads_append v p q r front (line ∷ []) first (r, last, refl)

-- ---- a line of one kind is none of another

abbrev first_byte : List ℕ → ℕ
first_byte [] = 0
first_byte (b ∷ line) = b

unread : {A : Type 0} {P : List ℕ → Type 0} (w : Format P A) (line : List ℕ) → ((a : A) → line ≡ w.spells a → ⊥) → w.reads line ≡ None
unread {A} w line other = by (w.reads line) refl
  where
    by : (o : Option A) → w.reads line ≡ o → o ≡ None
    by None e = refl
    by (Some a) e = absurd (other a (w.back line a e).1)

differ : (xs ys : List ℕ) → (first_byte xs == first_byte ys) ≡ false → xs ≡ ys → ⊥
differ xs ys apart same = let equal = subst (λ (zs : List ℕ). (first_byte xs == first_byte zs) ≡ false) (sym same) apart in let refl_is = eq-eqb (first_byte xs) (first_byte xs) refl in absurd (cc)

no_title : (head : ℕ × List Var) → title_text.reads (lemma_line head) ≡ None
no_title head = unread title_text (lemma_line head) (λ title same. differ (lemma_line head) (title_line title) refl same)

abbrev first_word : Lines → List ℕ
first_word [] = []
first_word (word ∷ words) = word

step_spaced : (s : Step) → step_line s ≡ first_word (step_words s) ++ spaced (drop 1 (step_words s))
step_spaced (steps.Node n o kids) = line_spaced (codes "node") (drop 1 (step_words (steps.Node n o kids)))
step_spaced s = line_spaced (first_word (step_words s)) (drop 1 (step_words s))

no_p : (s : Step) → (first_byte (first_word (step_words s) ++ spaced (drop 1 (step_words s))) == 112) ≡ false
no_p (steps.Node n o kids) = refl
no_p s = refl

no_proof : (s : Step) → prove_text.reads (step_line s) ≡ None
no_proof s = unread prove_text (step_line s) (λ sides same. differ (first_word (step_words s) ++ spaced (drop 1 (step_words s))) (prove_line sides) (no_p s) (sym (step_spaced s) ∙ same))

not_end : (s : Step) → StepFits s → bytes_eq (step_line s) end_line ≡ false
not_end s fits = bool_is (bytes_eq (step_line s) end_line) (λ is. same_reading (ap step_text.reads ((bytes_eq-Decides (step_line s) end_line).0 is)))
  where
    bool_is : (b : Bool) → (b ≡ true → ⊥) → b ≡ false
    bool_is true h = absurd (h refl)
    bool_is false h = refl

    end_is_no_step : step_text.reads end_line ≡ None
    end_is_no_step = refl

    same_reading : step_text.reads (step_line s) ≡ step_text.reads end_line → ⊥
    same_reading e = let a = step_text.again s fits in let b = end_is_no_step in absurd (cc)

-- ---- a line that may stand at a place is read there

only_is : {A : Type 0} (test : A → Bool) (a : A) → test a ≡ true → only_if test a ≡ Some a
only_is test a is = ap (λ b. cond b (Some a) None) is

title_next : (v : Version) (lemmas : List Lemma) (sections : List Section) (title : List ℕ × List ℕ) → title_text.fits title → next v (between lemmas sections) (title_line title) ≡ Some (inside lemmas sections title [])
title_next v lemmas sections title fits = ap (λ o. option_or (option_map (λ t. inside lemmas sections t []) o) (begun_lemma v lemmas sections (title_line title))) (title_text.again title fits)

step_next : (v : Version) (lemmas : List Lemma) (sections : List Section) (title : List ℕ × List ℕ) (front : List Step) (s : Step) → StepFits s → in_section v s ≡ true
    → next v (inside lemmas sections title front) (step_line s) ≡ Some (inside lemmas sections title (front ++ s ∷ []))
step_next v lemmas sections title front s fits may =
    let go : Option Step → Option Place = option_map (λ s. inside lemmas sections title (front ++ s ∷ [])) in
    ap (λ b. cond b (Some (between lemmas (sections ++ section_of title front ∷ []))) (go (option_and_then (only_if (in_section v)) (step_text.reads (step_line s))))) (not_end s fits)
    ∙ ap (λ o. go (option_and_then (only_if (in_section v)) o)) (step_text.again s fits)
    ∙ ap go (only_is (in_section v) s may)

lemma_next : (lemmas : List Lemma) (vars : List Var) → lemma_text.fits (suc (length lemmas), vars) → next Two (between lemmas []) (lemma_line (suc (length lemmas), vars)) ≡ Some (proving lemmas vars [])
lemma_next lemmas vars fits =
    let head : ℕ × List Var = (suc (length lemmas), vars) in
    let test : ℕ × List Var → Bool = λ h. h.0 == suc (length lemmas) in
    let go : Option (ℕ × List Var) → Option Place = option_map (λ h. proving lemmas h.1 []) in
    ap (λ o. option_or (option_map (λ t. inside lemmas [] t []) o) (begun_lemma Two lemmas [] (lemma_line head))) (no_title head)
    ∙ ap (λ o. go (option_and_then (only_if test) o)) (lemma_text.again head fits)
    ∙ ap go (only_is test head (eq-eqb (suc (length lemmas)) (suc (length lemmas)) refl))

lemma_step_next : (v : Version) (lemmas : List Lemma) (vars : List Var) (front : List Step) (s : Step) → StepFits s → is_outside_blocks s ≡ true
    → next v (proving lemmas vars front) (step_line s) ≡ Some (proving lemmas vars (front ++ s ∷ []))
lemma_step_next v lemmas vars front s fits may =
    let go : Option Step → Option Place = option_map (λ s. proving lemmas vars (front ++ s ∷ [])) in
    ap (λ o. option_or (option_map (λ sides. between (lemmas ++ lemma_of vars front sides ∷ []) []) o) (go (option_and_then (only_if is_outside_blocks) (step_text.reads (step_line s))))) (no_proof s)
    ∙ ap (λ o. go (option_and_then (only_if is_outside_blocks) o)) (step_text.again s fits)
    ∙ ap go (only_is is_outside_blocks s may)

prove_next : (v : Version) (lemmas : List Lemma) (vars : List Var) (front : List Step) (sides : ℕ × ℕ) → prove_text.fits sides
    → next v (proving lemmas vars front) (prove_line sides) ≡ Some (between (lemmas ++ lemma_of vars front sides ∷ []) [])
prove_next v lemmas vars front sides fits =
    let more : Option Place = option_map (λ s. proving lemmas vars (front ++ s ∷ [])) (option_and_then (only_if is_outside_blocks) (step_text.reads (prove_line sides))) in
    ap (λ o. option_or (option_map (λ sides. between (lemmas ++ lemma_of vars front sides ∷ []) []) o) more) (prove_text.again sides fits)

-- ---- sections

steps_lead : (v : Version) (lemmas : List Lemma) (sections : List Section) (title : List ℕ × List ℕ) (front more : List Step) → AllByRecursion StepFits more → AllByRecursion (λ s. in_section v s ≡ true) more
    → Leads v (inside lemmas sections title front) (map step_line more) (inside lemmas sections title (front ++ more))
steps_lead v lemmas sections title front [] fits may = ap (inside lemmas sections title) (sym (append-nil front))
steps_lead v lemmas sections title front (s ∷ more) fits may = (
  inside lemmas sections title (front ++ s ∷ []),
  step_next v lemmas sections title front s fits.0 may.0,
  subst (λ (ss : List Step). Leads v (inside lemmas sections title (front ++ s ∷ [])) (map step_line more) (inside lemmas sections title ss)) (append_assoc front (s ∷ []) more)
      (steps_lead v lemmas sections title (front ++ s ∷ []) more fits.1 may.1),
)

section_leads : (v : Version) (lemmas : List Lemma) (done : List Section) (s : Section) → SectionFits s → MayBeIn v s → Leads v (between lemmas done) (section_lines s) (between lemmas (done ++ s ∷ []))
section_leads v lemmas done s fits may = (
  inside lemmas done (s.name, s.desc) [],
  title_next v lemmas done (s.name, s.desc) fits.title,
  leads_last v (inside lemmas done (s.name, s.desc) []) (inside lemmas done (s.name, s.desc) s.steps) (between lemmas (done ++ s ∷ [])) (map step_line s.steps) end_line
      (steps_lead v lemmas done (s.name, s.desc) [] s.steps fits.steps may) refl,
)

sections_lead : (v : Version) (lemmas : List Lemma) (done sections : List Section) → AllByRecursion SectionFits sections → AllByRecursion (MayBeIn v) sections
    → Leads v (between lemmas done) (flat_map section_lines sections) (between lemmas (done ++ sections))
sections_lead v lemmas done [] fits may = ap (between lemmas) (sym (append-nil done))
sections_lead v lemmas done (s ∷ sections) fits may =
    leads_append v (between lemmas done) (between lemmas (done ++ s ∷ [])) (between lemmas (done ++ s ∷ sections)) (section_lines s) (flat_map section_lines sections)
    (section_leads v lemmas done s fits.0 may.0)
    (subst (λ (ss : List Section). Leads v (between lemmas (done ++ s ∷ [])) (flat_map section_lines sections) (between lemmas ss)) (append_assoc done (s ∷ []) sections)
    (sections_lead v lemmas (done ++ s ∷ []) sections fits.1 may.1))

-- ---- lemmas

lemma_steps_lead : (v : Version) (lemmas : List Lemma) (vars : List Var) (front more : List Step) → AllByRecursion StepFits more → AllByRecursion (λ s. is_outside_blocks s ≡ true) more
    → Leads v (proving lemmas vars front) (map step_line more) (proving lemmas vars (front ++ more))
lemma_steps_lead v lemmas vars front [] fits may = ap (proving lemmas vars) (sym (append-nil front))
lemma_steps_lead v lemmas vars front (s ∷ more) fits may = (
  proving lemmas vars (front ++ s ∷ []),
  lemma_step_next v lemmas vars front s fits.0 may.0,
  subst (λ (ss : List Step). Leads v (proving lemmas vars (front ++ s ∷ [])) (map step_line more) (proving lemmas vars ss)) (append_assoc front (s ∷ []) more)
      (lemma_steps_lead v lemmas vars (front ++ s ∷ []) more fits.1 may.1),
)

lemma_leads : (done : List Lemma) (l : Lemma) → LemmaFits (suc (length done)) l → Leads Two (between done []) (lemma_lines (suc (length done)) l) (between (done ++ l ∷ []) [])
lemma_leads done l fits = (
  proving done l.vars [],
  lemma_next done l.vars fits.begins,
  leads_last Two (proving done l.vars []) (proving done l.vars l.steps) (between (done ++ l ∷ []) []) (map step_line l.steps) (prove_line (l.left, l.right))
      (lemma_steps_lead Two done l.vars [] l.steps fits.steps fits.may) (prove_next Two done l.vars l.steps (l.left, l.right) fits.ends),
)

lemmas_lead : (n : ℕ) (done lemmas : List Lemma) → n ≡ suc (length done) → LemmasFit n lemmas → Leads Two (between done []) (lemmas_lines n lemmas) (between (done ++ lemmas) [])
lemmas_lead n done [] is fits = ap (λ (ls : List Lemma). between ls []) (sym (append-nil done))
lemmas_lead n done (l ∷ lemmas) is fits =
    let first = lemma_leads done l (subst (λ m. LemmaFits m l) is fits.0) in
    let longer : length (done ++ l ∷ []) ≡ length done + 1 = length-append done (l ∷ []) in
    let later : suc n ≡ suc (length (done ++ l ∷ [])) = omega (arith, longer, is) in
    leads_append Two (between done []) (between (done ++ l ∷ []) []) (between (done ++ l ∷ lemmas) []) (lemma_lines n l) (lemmas_lines (suc n) lemmas)
    (subst (λ m. Leads Two (between done []) (lemma_lines m l) (between (done ++ l ∷ []) [])) (sym is) first)
    (subst (λ (ls : List Lemma). Leads Two (between (done ++ l ∷ []) []) (lemmas_lines (suc n) lemmas) (between ls [])) (append_assoc done (l ∷ []) lemmas)
    (lemmas_lead (suc n) (done ++ l ∷ []) lemmas later fits.1))

-- those that a version may have
may_lead : (v : Version) (lemmas : List Lemma) → MayHave v lemmas → LemmasFit 1 lemmas → Leads v (between [] []) (lemmas_lines 1 lemmas) (between lemmas [])
may_lead One lemmas none fits = subst (λ (ls : List Lemma). Leads One (between [] []) (lemmas_lines 1 ls) (between ls [])) (sym none) refl
may_lead Two lemmas may fits = lemmas_lead 1 [] lemmas refl fits

-- all lines of lemmas and sections
pub body_leads : (v : Version) (b : Body) → BodyFits v b → Leads v (between [] []) (body_lines b) (between b.lemmas b.sections)
body_leads v b fits =
    leads_append v (between [] []) (between b.lemmas []) (between b.lemmas b.sections) (lemmas_lines 1 b.lemmas) (flat_map section_lines b.sections)
    (may_lead v b.lemmas fits.may_have fits.lemmas_) (sections_lead v b.lemmas [] b.sections fits.sections_ fits.may)

-- ---- reading

-- reading goes on where the lines lead
pub leads_read : (v : Version) (n : ℕ) (p q : Place) (front lines : Lines) → Leads v p front q → read_lines v n p (front ++ lines) ≡ read_lines v (n + length front) q lines
leads_read v n p q [] lines leads = ap (λ (r : Place). read_lines v n r lines) leads ∙ ap (λ m. read_lines v m q lines) (sym (add-zero n))
leads_read v n p q (line ∷ front) lines leads =
    ap (or_fault n (λ q. read_lines v (n + 1) q (front ++ lines))) leads.1
    ∙ leads_read v (n + 1) leads.0 q front lines leads.2
    ∙ ap (λ k. read_lines v k q lines) (one_more n (length front))
  where
    one_more : (n k : ℕ) → (n + 1) + k ≡ n + suc k
    one_more n k = omega arith

taken : (n : ℕ) (o : Option Place) (go : Place → Result Body CertFault) (b : Body) → or_fault n go o ≡ Ok b → (q : Place) × (o ≡ Some q) × (go q ≡ Ok b)
taken n None go b e = absurd (cc)
taken n (Some q) go b e = (q, refl, e)

-- lines that are read lead to where they end
pub read_leads : (v : Version) (n : ℕ) (p : Place) (lines : Lines) (b : Body) → read_lines v n p lines ≡ Ok b → (q : Place) × Leads v p lines q × (ended q ≡ Ok b)
read_leads v n p [] b e = (p, refl, e)
read_leads v n p (line ∷ lines) b e =
    let t = taken n (next v p line) (λ q. read_lines v (n + 1) q lines) b e in
    let rest = read_leads v (n + 1) t.0 lines b t.2 in
    (rest.0, (t.0, t.1, rest.1), rest.2)
