-- The lines that have been read at a place, and what is known of them there.
use Rattle.std.proofs.Common.{◌≡◌, ℕ, ◌+◌, Bool, true, false, cond, List, [], ◌∷◌, ◌++◌, length, map, Option, Some, None, refl, sym, ap, subst, ◌∙◌, append_assoc, arith, suc, ◌⊎◌, inl, inr}
use Rattle.std.specs.Prelude.{◌==◌}
use Rattle.std.specs.Option.{option_map, option_and_then, option_or}
use Rattle.std.specs.List.{flat_map, AllByRecursion}
use Rattle.std.specs.Str.{bytes_eq}
use Rattle.std.proofs.lemmas.Bool.{eqb-true}
use Rattle.std.proofs.lemmas.Slice.Eq.{bytes_eq-Decides}
use Rattle.std.proofs.lemmas.List.{append-nil}
use Rattle.pv_steps.specs.declared.step.Var.{Var}
use Rattle.pv_steps.specs.declared.step.Lemma.{Lemma}
use Rattle.pv_steps.specs.declared.step.Step.{Step}
use Rattle.pv_format.proofs.Cited.{mapped, some_is, chosen}
use Rattle.pv_cert.specs.declared.cert.Version.{Version}
use Rattle.pv_cert.specs.declared.cert.Version.TheVariants.{One, Two}
use Rattle.pv_cert.specs.declared.cert.Section.{Section}
use Rattle.pv_cert.specs.StepLines.{StepFits}
use Rattle.pv_cert.specs.Lines.{title_text, title_line, step_text, step_line, end_line, lemma_text, lemma_line, prove_text, prove_line}
use Rattle.pv_cert.specs.Reading.{lemma_lines, lemmas_lines, section_lines, body_lines, is_outside_blocks, in_section, LemmaFits, LemmasFit, SectionFits, MayBeIn, MayHave, BodyFits, Place, between, proving, inside, section_of, lemma_of, only_if, begun_lemma, next, body_of}
use Rattle.pv_cert.specs.Faults.{Begins}

abbrev pub Lines : Type 0
Lines = List (List ℕ)

-- the lines so far
abbrev pub so_far : Place → Lines
so_far (between lemmas sections) = body_lines (body_of lemmas sections)
so_far (proving lemmas vars steps) = lemmas_lines 1 lemmas ++ (lemma_line (suc (length lemmas), vars) ∷ map step_line steps)
so_far (inside lemmas sections title steps) = body_lines (body_of lemmas sections) ++ (title_line title ∷ map step_line steps)

-- some lemmas, and one that has been begun
pub record ProvingFits (lemmas : List Lemma) (vars : List Var) (steps : List Step) : Type 0 where
  pub before : LemmasFit 1 lemmas
  pub begins : lemma_text.fits (suc (length lemmas), vars)
  pub steps_fit : AllByRecursion StepFits steps
  pub may : AllByRecursion (λ s. is_outside_blocks s ≡ true) steps

-- lemmas and sections, and a section that has been begun
pub record InsideFits (v : Version) (lemmas : List Lemma) (sections : List Section) (title : List ℕ × List ℕ) (steps : List Step) : Type 0 where
  pub before : BodyFits v (body_of lemmas sections)
  pub begins : title_text.fits title
  pub steps_fit : AllByRecursion StepFits steps
  pub may : AllByRecursion (λ s. in_section v s ≡ true) steps

abbrev pub PlaceFits : Version → Place → Type 0
PlaceFits v (between lemmas sections) = BodyFits v (body_of lemmas sections)
PlaceFits v (proving lemmas vars steps) = (v ≡ Two) × ProvingFits lemmas vars steps
PlaceFits v (inside lemmas sections title steps) = InsideFits v lemmas sections title steps

-- ---- lists

pub all_push : {A : Type 0} (P : A → Type 0) (xs : List A) (x : A) → AllByRecursion P xs → P x → AllByRecursion P (xs ++ x ∷ [])
all_push P [] x all p = (p, tt)
all_push P (y ∷ xs) x all p = (all.0, all_push P xs x all.1 p)

map_push : {A B : Type 0} (f : A → B) (xs : List A) (x : A) → map f (xs ++ x ∷ []) ≡ map f xs ++ f x ∷ []
map_push f [] x = refl
map_push f (y ∷ xs) x = ap (λ (r : List _). f y ∷ r) (map_push f xs x)

flat_map_push : {X A : Type 0} (f : X → List A) (xs : List X) (x : X) → flat_map f (xs ++ x ∷ []) ≡ flat_map f xs ++ f x
flat_map_push f [] x = append-nil (f x)
flat_map_push f (y ∷ xs) x = ap (λ (r : List _). f y ++ r) (flat_map_push f xs x) ∙ sym (append_assoc (f y) (flat_map f xs) (f x))

lemmas_push : (n k : ℕ) (lemmas : List Lemma) (l : Lemma) → k ≡ n + length lemmas → lemmas_lines n (lemmas ++ l ∷ []) ≡ lemmas_lines n lemmas ++ lemma_lines k l
lemmas_push n k [] l e = let same : n ≡ k = omega arith in append-nil (lemma_lines n l) ∙ ap (λ (m : ℕ). lemma_lines m l) same
lemmas_push n k (m ∷ lemmas) l e =
    let later : k ≡ suc n + length lemmas = omega arith in
    ap (λ (r : Lines). lemma_lines n m ++ r) (lemmas_push (suc n) k lemmas l later) ∙ sym (append_assoc (lemma_lines n m) (lemmas_lines (suc n) lemmas) (lemma_lines k l))

fits_push : (n k : ℕ) (lemmas : List Lemma) (l : Lemma) → k ≡ n + length lemmas → LemmasFit n lemmas → LemmaFits k l → LemmasFit n (lemmas ++ l ∷ [])
fits_push n k [] l e fits last = let same : k ≡ n = omega arith in (subst (λ (m : ℕ). LemmaFits m l) same last, tt)
fits_push n k (m ∷ lemmas) l e fits last = let later : k ≡ suc n + length lemmas = omega arith in (fits.0, fits_push (suc n) k lemmas l later fits.1 last)

pub one_later : (n : ℕ) → suc n ≡ 1 + n
one_later n = omega arith

-- ---- one line

-- what a line that may stand at a place leads to
pub record Moves (v : Version) (p : Place) (line : List ℕ) (q : Place) : Type 0 where
  pub fits : PlaceFits v p → PlaceFits v q
  pub lines : so_far q ≡ so_far p ++ line ∷ []

title_moves : (v : Version) (lemmas : List Lemma) (sections : List Section) (line : List ℕ) (title : List ℕ × List ℕ) → title_text.reads line ≡ Some title
    → Moves v (between lemmas sections) line (inside lemmas sections title [])
title_moves v lemmas sections line title e =
    let b = title_text.back line title e in
    record {
      fits = λ fits. record { before = fits; begins = b.0; steps_fit = tt; may = tt };
      lines = ap (λ (l : List ℕ). body_lines (body_of lemmas sections) ++ l ∷ []) (sym b.1);
    }

pub ended_moves : (v : Version) (lemmas : List Lemma) (sections : List Section) (title : List ℕ × List ℕ) (steps : List Step) (line : List ℕ) → line ≡ end_line
    → Moves v (inside lemmas sections title steps) line (between lemmas (sections ++ section_of title steps ∷ []))
ended_moves v lemmas sections title steps line e = record {
  fits = λ fits. record {
    lemmas_ = fits.before.lemmas_;
    sections_ = all_push SectionFits sections (section_of title steps) fits.before.sections_ (record { title = fits.begins; steps = fits.steps_fit });
    may_have = fits.before.may_have;
    may = all_push (MayBeIn v) sections (section_of title steps) fits.before.may fits.may;
  };
  lines = ap (λ (r : Lines). lemmas_lines 1 lemmas ++ r) (flat_map_push section_lines sections (section_of title steps))
      ∙ regroup (lemmas_lines 1 lemmas) (flat_map section_lines sections) (title_line title ∷ map step_line steps) (end_line ∷ [])
      ∙ ap (λ (l : List ℕ). ((lemmas_lines 1 lemmas ++ flat_map section_lines sections) ++ (title_line title ∷ map step_line steps)) ++ l ∷ []) (sym e);
}
  where
    regroup : (a b c d : Lines) → a ++ (b ++ (c ++ d)) ≡ ((a ++ b) ++ c) ++ d
    regroup a b c d = sym (append_assoc a b (c ++ d)) ∙ sym (append_assoc (a ++ b) c d)

step_moves : (v : Version) (lemmas : List Lemma) (sections : List Section) (title : List ℕ × List ℕ) (steps : List Step) (line : List ℕ) (s : Step)
    → step_text.reads line ≡ Some s → in_section v s ≡ true → Moves v (inside lemmas sections title steps) line (inside lemmas sections title (steps ++ s ∷ []))
step_moves v lemmas sections title steps line s e may =
    let b = step_text.back line s e in
    let front : Lines = body_lines (body_of lemmas sections) in
    record {
      fits = λ fits. record { before = fits.before; begins = fits.begins; steps_fit = all_push StepFits steps s fits.steps_fit b.0; may = all_push (λ s. in_section v s ≡ true) steps s fits.may may };
      lines = ap (λ (r : Lines). front ++ (title_line title ∷ r)) (map_push step_line steps s ∙ ap (λ (l : List ℕ). map step_line steps ++ l ∷ []) (sym b.1))
          ∙ sym (append_assoc front (title_line title ∷ map step_line steps) (line ∷ []));
    }

lemma_moves : (lemmas : List Lemma) (line : List ℕ) (head : ℕ × List Var) → lemma_text.reads line ≡ Some head → (head.0 == suc (length lemmas)) ≡ true
    → Moves Two (between lemmas []) line (proving lemmas head.1 [])
lemma_moves lemmas line head e is =
    let b = lemma_text.back line head e in
    let same : head ≡ (suc (length lemmas), head.1) = ap (λ (n : ℕ). (n, head.1)) (eqb-true head.0 (suc (length lemmas)) is) in
    record {
      fits = λ fits. (refl, record { before = fits.lemmas_; begins = subst lemma_text.fits same b.0; steps_fit = tt; may = tt });
      lines = ap (λ (l : List ℕ). lemmas_lines 1 lemmas ++ l ∷ []) (sym (b.1 ∙ ap lemma_line same)) ∙ ap (λ (r : Lines). r ++ line ∷ []) (sym (append-nil (lemmas_lines 1 lemmas)));
    }

lemma_step_moves : (v : Version) (lemmas : List Lemma) (vars : List Var) (steps : List Step) (line : List ℕ) (s : Step) → step_text.reads line ≡ Some s → is_outside_blocks s ≡ true
    → Moves v (proving lemmas vars steps) line (proving lemmas vars (steps ++ s ∷ []))
lemma_step_moves v lemmas vars steps line s e may =
    let b = step_text.back line s e in
    let front : Lines = lemmas_lines 1 lemmas in
    let head : List ℕ = lemma_line (suc (length lemmas), vars) in
    record {
      fits = λ fits. (
        fits.0,
        record { before = fits.1.before; begins = fits.1.begins; steps_fit = all_push StepFits steps s fits.1.steps_fit b.0; may = all_push (λ s. is_outside_blocks s ≡ true) steps s fits.1.may may },
      );
      lines = ap (λ (r : Lines). front ++ (head ∷ r)) (map_push step_line steps s ∙ ap (λ (l : List ℕ). map step_line steps ++ l ∷ []) (sym b.1))
          ∙ sym (append_assoc front (head ∷ map step_line steps) (line ∷ []));
    }

pub proved_moves : (v : Version) (lemmas : List Lemma) (vars : List Var) (steps : List Step) (sides : ℕ × ℕ) (line : List ℕ) → prove_text.fits sides → line ≡ prove_line sides
    → Moves v (proving lemmas vars steps) line (between (lemmas ++ lemma_of vars steps sides ∷ []) [])
proved_moves v lemmas vars steps sides line ends e =
    let l : Lemma = lemma_of vars steps sides in
    let head : List ℕ = lemma_line (suc (length lemmas), vars) in
    record {
      fits = λ fits. record {
        lemmas_ = fits_push 1 (suc (length lemmas)) lemmas l (one_later (length lemmas)) fits.1.before (record { begins = fits.1.begins; steps = fits.1.steps_fit; may = fits.1.may; ends = ends });
        sections_ = tt;
        may_have = subst (λ v. MayHave v (lemmas ++ l ∷ [])) (sym fits.0) tt;
        may = tt;
      };
      lines = append-nil (lemmas_lines 1 (lemmas ++ l ∷ [])) ∙ lemmas_push 1 (suc (length lemmas)) lemmas l (one_later (length lemmas))
          ∙ sym (append_assoc (lemmas_lines 1 lemmas) (head ∷ map step_line steps) (prove_line sides ∷ []))
          ∙ ap (λ (t : List ℕ). (lemmas_lines 1 lemmas ++ (head ∷ map step_line steps)) ++ t ∷ []) (sym e);
    }

-- ---- which line it was

either : {A : Type 0} (o p : Option A) (a : A) → option_or o p ≡ Some a → (o ≡ Some a) ⊎ (p ≡ Some a)
either None p a e = inr e
either (Some x) p a e = inl e

-- a value that passed a test
kept : {A : Type 0} (test : A → Bool) (o : Option A) (a : A) → option_and_then (only_if test) o ≡ Some a → (o ≡ Some a) × (test a ≡ true)
kept test None a e = absurd (cc)
kept test (Some x) a e =
    elim (chosen (test x) (Some x) None a e) [
      | inl p ↦ (p.1, subst (λ y. test y ≡ true) (some_is (Some x) x a refl p.1) p.0)
      | inr p ↦ let gone = p.1 in absurd (cc)
    ]

begun_moves : (v : Version) (lemmas : List Lemma) (sections : List Section) (line : List ℕ) (q : Place) → begun_lemma v lemmas sections line ≡ Some q → Moves v (between lemmas sections) line q
begun_moves One lemmas sections line q e = absurd (cc)
begun_moves Two lemmas (s ∷ sections) line q e = absurd (cc)
begun_moves Two lemmas [] line q e =
    let m = mapped (option_and_then (only_if (λ head. head.0 == suc (length lemmas))) (lemma_text.reads line)) (λ head. proving lemmas head.1 []) q e in
    let k = kept (λ head. head.0 == suc (length lemmas)) (lemma_text.reads line) m.0 m.1 in
    subst (Moves Two (between lemmas []) line) m.2 (lemma_moves lemmas line m.0 k.0 k.1)

pub moves : (v : Version) (p : Place) (line : List ℕ) (q : Place) → next v p line ≡ Some q → Moves v p line q
moves v (between lemmas sections) line q e =
    elim (either (option_map (λ title. inside lemmas sections title []) (title_text.reads line)) (begun_lemma v lemmas sections line) q e) [
      | inl title ↦
          let m = mapped (title_text.reads line) (λ title. inside lemmas sections title []) q title in
          subst (Moves v (between lemmas sections) line) m.2 (title_moves v lemmas sections line m.0 m.1)
      | inr begun ↦ begun_moves v lemmas sections line q begun
    ]
moves v (proving lemmas vars steps) line q e =
    elim (either (option_map (λ sides. between (lemmas ++ lemma_of vars steps sides ∷ []) []) (prove_text.reads line))
    (option_map (λ s. proving lemmas vars (steps ++ s ∷ [])) (option_and_then (only_if is_outside_blocks) (step_text.reads line))) q e) [
      | inl proved ↦
          let m = mapped (prove_text.reads line) (λ sides. between (lemmas ++ lemma_of vars steps sides ∷ []) []) q proved in
          let b = prove_text.back line m.0 m.1 in
          subst (Moves v (proving lemmas vars steps) line) m.2 (proved_moves v lemmas vars steps m.0 line b.0 b.1)
      | inr more ↦
          let m = mapped (option_and_then (only_if is_outside_blocks) (step_text.reads line)) (λ s. proving lemmas vars (steps ++ s ∷ [])) q more in
          let k = kept is_outside_blocks (step_text.reads line) m.0 m.1 in
          subst (Moves v (proving lemmas vars steps) line) m.2 (lemma_step_moves v lemmas vars steps line m.0 k.0 k.1)
    ]
moves v (inside lemmas sections title steps) line q e =
    elim (choose_end (bytes_eq line end_line) (between lemmas (sections ++ section_of title steps ∷ [])) q
    (option_map (λ s. inside lemmas sections title (steps ++ s ∷ [])) (option_and_then (only_if (in_section v)) (step_text.reads line))) e) [
      | inl is ↦ subst (Moves v (inside lemmas sections title steps) line) is.1 (ended_moves v lemmas sections title steps line ((bytes_eq-Decides line end_line).0 is.0))
      | inr more ↦
          let m = mapped (option_and_then (only_if (in_section v)) (step_text.reads line)) (λ s. inside lemmas sections title (steps ++ s ∷ [])) q more.1 in
          let k = kept (in_section v) (step_text.reads line) m.0 m.1 in
          subst (Moves v (inside lemmas sections title steps) line) m.2 (step_moves v lemmas sections title steps line m.0 k.0 k.1)
    ]
  where
    choose_end : (b : Bool) (made q : Place) (o : Option Place) → cond b (Some made) o ≡ Some q → ((b ≡ true) × (made ≡ q)) ⊎ ((b ≡ false) × (o ≡ Some q))
    choose_end true made q o e = inl (refl, cc)
    choose_end false made q o e = inr (refl, e)

-- ---- what begins so

-- the lines so far begin those of some lemmas and sections: one more line ends what has been begun
pub begins : (v : Version) (p : Place) → PlaceFits v p → Begins v (so_far p)
begins v (between lemmas sections) fits = (body_of lemmas sections, fits, [], sym (append-nil (so_far (between lemmas sections))))
begins v (proving lemmas vars steps) fits =
    let m = proved_moves v lemmas vars steps (0, 0) (prove_line (0, 0)) (omega arith, omega arith) refl in
    (body_of (lemmas ++ lemma_of vars steps (0, 0) ∷ []) [], m.fits fits, prove_line (0, 0) ∷ [], m.lines)
begins v (inside lemmas sections title steps) fits =
    let m = ended_moves v lemmas sections title steps end_line refl in
    (body_of lemmas (sections ++ section_of title steps ∷ []), m.fits fits, end_line ∷ [], m.lines)
