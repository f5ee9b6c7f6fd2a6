-- What a checker keeps says which fact is cited, and whether it is visible.
use Rattle.std.specs.Prelude.{◌≡◌, ◌≢◌, ◌⊎◌, ℕ, zero, suc, ◌≤◌, ◌<◌, Bool, true, false, List, [], ◌∷◌, ◌++◌, length, reverse, Option, Some, None, slice_get, ◌==◌, ◌-◌, refl}
use Rattle.std.proofs.Math.ListN.{get_or}
use Rattle.std.proofs.Common.{inl, inr, sym, ap, ◌∙◌, arith, length-append}
use Rattle.std.proofs.lemmas.Bool.Decides.{nat_tests}
use Rattle.std.proofs.lemmas.List.{length-reverse}
use Rattle.std.proofs.lemmas.Option.{same_Some, slice_get_within, slice_get_past, slice_get-get_or, get_or_from_slice_get}
use Rattle.pv_value.specs.Spelled.{bind}
use Rattle.pv_steps.specs.declared.step.Step.TheVariants as steps
use Rattle.pv_steps.specs.declared.step.Fact.{Fact}
use Rattle.pv_steps.specs.declared.step.Step.{Step}
use Rattle.pv_steps.specs.declared.step.Congruence.{Congruence}
use Rattle.pv_steps.specs.declared.step.Step.TheVariants.{Axiom, Use, Flip, Chain, Set, Open, Close, Assume, Finish}
use Rattle.pv_steps.specs.Steps.{Block, OpenBlock, both_sides, numbered, pairs_of, Stated, states, open_after, stated_at, equality_of, AreOpen}
use Rattle.pv_steps.specs.Accepted.{first_steps}
use Rattle.pv_check.specs.declared.seen.Found.{Found}
use Rattle.pv_check.specs.Kept.{number_of, blocks_at, opened_pairs, pairs_opened, step_pairs, AreKept, found_in, found_at}
use Rattle.pv_check.specs.Inductions.{block_of}
use Rattle.pv_check.proofs.Fronts.{has_at, next_first}
use Rattle.pv_check.proofs.Placed.{first_opened, after_opened, self_open}

-- ---- what a step states

at_next : (s : Step) (before : List Step) → stated_at (s ∷ before) (suc (length before)) ≡ Some (states s (suc (length before)) (open_after before))
at_next s before = go (suc (length before) == suc (length before)) (grind (arith, nat_tests))
  where
    go : (t : Bool) → t ≡ true → elim t [ true ↦ Some (states s (suc (length before)) (open_after before)) | false ↦ stated_at before (suc (length before)) ] ≡ Some (states s (suc (length before)) (open_after before))
    go true e = refl
    go false e = absurd (cc)

at_other : (s : Step) (before : List Step) (k : ℕ) → k ≢ suc (length before) → stated_at (s ∷ before) k ≡ stated_at before k
at_other s before k low = go (k == suc (length before)) (grind (arith, nat_tests))
  where
    go : (t : Bool) → t ≡ false → elim t [ true ↦ Some (states s (suc (length before)) (open_after before)) | false ↦ stated_at before k ] ≡ stated_at before k
    go true e = absurd (cc)
    go false e = refl

stated_in : (later : List Step) (s : Step) (earlier : List Step) → stated_at (later ++ s ∷ earlier) (suc (length earlier)) ≡ Some (states s (suc (length earlier)) (open_after earlier))
stated_in [] s earlier = at_next s earlier
stated_in (t ∷ later) s earlier = at_other t (later ++ s ∷ earlier) (suc (length earlier)) (let z = length-append later (s ∷ earlier) in λ e. omega (arith, z, e)) ∙ stated_in later s earlier

pub stated_is : (section : List Step) (k : ℕ) (s : Step) → slice_get section k ≡ Some s → stated_at (reverse section) (suc k) ≡ Some (states s (suc k) (blocks_at section k))
stated_is section k s e =
    let h = has_at section k s e in
    ap (λ (q : List Step). stated_at q (suc k)) h.whole
    ∙ ap (λ (n : ℕ). stated_at (h.later ++ s ∷ first_steps k section) (suc n)) (sym h.count)
    ∙ stated_in h.later s (first_steps k section)
    ∙ ap (λ (n : ℕ). Some (states s (suc n) (blocks_at section k))) h.count

pub not_stated : (before : List Step) (k : ℕ) → ((k ≡ 0) ⊎ (length before < k)) → stated_at before k ≡ None
not_stated [] k h = refl
not_stated (s ∷ before) k h = at_other s before k (far h) ∙ not_stated before k (nearer h)
  where
    far : ((k ≡ 0) ⊎ (suc (length before) < k)) → k ≢ suc (length before)
    far (inl e) f = absurd (omega (arith, e, f))
    far (inr e) f = absurd (omega (arith, e, f))

    nearer : ((k ≡ 0) ⊎ (suc (length before) < k)) → (k ≡ 0) ⊎ (length before < k)
    nearer (inl e) = inl e
    nearer (inr e) = inr (omega (arith, e))

-- the blocks around what a step states are those that are open after it
pub around_is : (section : List Step) (k : ℕ) (s : Step) → slice_get section k ≡ Some s → (states s (suc k) (blocks_at section k)).around ≡ blocks_at section (suc k)
around_is section k s e =
    ap (λ (n : ℕ). (states s (suc n) (blocks_at section k)).around) (sym (has_at section k s e).count)
    ∙ ap open_after (sym (next_first section k s e))

-- ---- by the number of the innermost block

pub number_low : (section : List Step) (n : ℕ) → n ≤ length section → number_of (blocks_at section n) ≤ n
number_low section n low = go (blocks_at section n) (self_open (blocks_at section n))
  where
    go : (ps : List OpenBlock) → AreOpen ps (blocks_at section n) → number_of ps ≤ n
    go [] h = omega arith
    go (p ∷ ps) h = let z = first_opened section n low p ps h in let y = z.number in let x = z.low in omega (arith, y, x)

pub same_blocks : (section : List Step) (n : ℕ) → n ≤ length section → (ps : List OpenBlock) → AreOpen ps (blocks_at section n) → blocks_at section (number_of ps) ≡ ps
same_blocks section n low [] h = refl
same_blocks section n low (p ∷ ps) h = after_opened section n p ps (first_opened section n low p ps h)

pairs_by : (s : Step) (b : Block) (p : OpenBlock) (ps : List OpenBlock) → block_of s ≡ Some b → p.block ≡ b → pairs_of (p ∷ ps) ≡ pairs_opened (Some s)
pairs_by (Open d pairs) b p ps e f = ap (λ (c : Block). pairs_of (record { opened = p.opened; block = c } ∷ ps)) (f ∙ sym (same_Some _ _ e))
pairs_by (Assume q nodes) b p ps e f = ap (λ (c : Block). pairs_of (record { opened = p.opened; block = c } ∷ ps)) (f ∙ sym (same_Some _ _ e))
pairs_by s b p ps e f = absurd (cc)

pub opened_pairs_are : (section : List Step) (n : ℕ) → n ≤ length section → pairs_of (blocks_at section n) ≡ opened_pairs section (number_of (blocks_at section n))
opened_pairs_are section n low = go (blocks_at section n) (self_open (blocks_at section n))
  where
    go : (ps : List OpenBlock) → AreOpen ps (blocks_at section n) → pairs_of ps ≡ opened_pairs section (number_of ps)
    go [] h = refl
    go (p ∷ ps) h =
        let z = first_opened section n low p ps h in
        pairs_by z.step p.block p ps z.block refl ∙ ap pairs_opened (sym z.there) ∙ ap (opened_pairs section) (sym z.number)

pub sides_are : (cs : List Congruence) (j : ℕ) (c : Congruence) → slice_get cs j ≡ Some c → slice_get (both_sides cs) j ≡ Some (c.left, c.right)
sides_are [] j c e = absurd (cc)
sides_are (d ∷ cs) zero c e = ap (λ (q : Congruence). Some (q.left, q.right)) (same_Some _ _ e)
sides_are (d ∷ cs) (suc j) c e = sides_are cs j c e

pub no_sides : (cs : List Congruence) (j : ℕ) → slice_get cs j ≡ None → slice_get (both_sides cs) j ≡ None
no_sides [] j e = refl
no_sides (d ∷ cs) zero e = absurd (cc)
no_sides (d ∷ cs) (suc j) e = no_sides cs j e

-- a place counted from 1
pub at_place : {A : Type 0} (xs : List A) (place : ℕ) → (place ≡ 0 → ⊥) → numbered xs place ≡ slice_get xs (place - 1)
at_place xs zero h = absurd (h refl)
at_place xs (suc j) h = ap (slice_get xs) (omega arith)

pub step_pairs_are : (section : List Step) (k : ℕ) → k ≤ length section → (s : Step) → (states s (suc k) (blocks_at section k)).pairs ≡ step_pairs s (opened_pairs section (number_of (blocks_at section k)))
step_pairs_are section k low (steps.Node n o kids) = refl
step_pairs_are section k low (Axiom n a b nodes) = refl
step_pairs_are section k low (Use n a b nodes) = refl
step_pairs_are section k low (Flip a b f) = refl
step_pairs_are section k low (Chain a b f g) = refl
step_pairs_are section k low (Set cs) = refl
step_pairs_are section k low (Open d pairs) = refl
step_pairs_are section k low (Close d fs) = opened_pairs_are section k low
step_pairs_are section k low (Assume p nodes) = refl
step_pairs_are section k low (Finish p q t f r h) = refl

-- ---- facts

abbrev pub found_by : ℕ → Option (ℕ × ℕ) → Option Found
found_by n None = None
found_by n (Some p) = Some (record { around = n; left = p.0; right = p.1 })

found_in_stated : (st : Stated) (place : ℕ) → found_in (equality_of st place) ≡ found_by (number_of st.around) (numbered st.pairs place)
found_in_stated st place = go (numbered st.pairs place)
  where
    go : (o : Option (ℕ × ℕ)) → found_in (bind o (λ p. Some (record { around = st.around; left = p.0; right = p.1 }))) ≡ found_by (number_of st.around) o
    go None = refl
    go (Some p) = refl

pub no_fact : (section : List Step) (f : Fact) → ((f.step ≡ 0) ⊎ (length section < f.step)) → found_at section f ≡ None
no_fact section f h = ap (λ (o : Option Stated). found_in (bind o (λ s. equality_of s f.place))) (not_stated (reverse section) f.step (far h))
  where
    far : ((f.step ≡ 0) ⊎ (length section < f.step)) → (f.step ≡ 0) ⊎ (length (reverse section) < f.step)
    far (inl e) = inl e
    far (inr e) = let z = length-reverse section in inr (omega (arith, z, e))

pub fact_is : (section : List Step) (f : Fact) (k : ℕ) (s : Step) → f.step ≡ suc k → slice_get section k ≡ Some s
    → found_at section f ≡ found_by (number_of (blocks_at section (suc k))) (numbered (step_pairs s (opened_pairs section (number_of (blocks_at section k)))) f.place)
fact_is section f k s n e =
    let low = slice_get_within section k s e in
    ap (λ (o : Option Stated). found_in (bind o (λ s. equality_of s f.place))) (ap (stated_at (reverse section)) n ∙ stated_is section k s e)
    ∙ found_in_stated (states s (suc k) (blocks_at section k)) f.place
    ∙ ap (λ (ps : List OpenBlock). found_by (number_of ps) (numbered (states s (suc k) (blocks_at section k)).pairs f.place)) (around_is section k s e)
    ∙ ap (λ (ps : List (ℕ × ℕ)). found_by (number_of (blocks_at section (suc k))) (numbered ps f.place)) (step_pairs_are section k (omega (arith, low)) s)

-- an element that is read
pub read_at : {A : Type 0} (xs : List A) (i : ℕ) (x : A) → i < length xs → x ≡ get_or xs i x → slice_get xs i ≡ Some x
read_at xs i x low e = slice_get-get_or xs i x low ∙ ap Some (sym e)

pub place_is : {A : Type 0} (xs : List A) (place : ℕ) (x : A) → (place ≡ 0 → ⊥) → slice_get xs (place - 1) ≡ Some x → numbered xs place ≡ Some x
place_is xs place x h e = at_place xs place h ∙ e

pub no_place : {A : Type 0} (xs : List A) (place : ℕ) → ((place ≡ 0) ⊎ (length xs < place)) → numbered xs place ≡ None
no_place xs zero h = refl
no_place xs (suc j) (inl e) = absurd (cc)
no_place xs (suc j) (inr low) = slice_get_past xs j (omega (arith, low))

pub length_sides : (cs : List Congruence) → length (both_sides cs) ≡ length cs
length_sides [] = refl
length_sides (c ∷ cs) = ap suc (length_sides cs)

-- ---- what is kept

pub inside_at : (section : List Step) (innermost : List ℕ) (opened : List Bool) → AreKept section innermost opened → (n : ℕ) → n ≤ length section → get_or innermost n 0 ≡ number_of (blocks_at section n)
inside_at section innermost opened kept n low = get_or_from_slice_get innermost n (number_of (blocks_at section n)) 0 (kept.innermost_ n low)

pub inside_low : (section : List Step) (innermost : List ℕ) (opened : List Bool) → AreKept section innermost opened → (n : ℕ) → n ≤ length section → get_or innermost n 0 ≤ length section
inside_low section innermost opened kept n low = let e = inside_at section innermost opened kept n low in let z = number_low section n low in omega (arith, e, z, low)

-- a fact that is cited, by what is read
pub fact_by : (section : List Step) (innermost : List ℕ) (opened : List Bool) → AreKept section innermost opened → (f : Fact) (d : Step) → (f.step ≡ 0 → ⊥) → f.step ≤ length section
    → (o : Option (ℕ × ℕ)) → o ≡ numbered (step_pairs (get_or section (f.step - 1) d) (opened_pairs section (get_or innermost (f.step - 1) 0))) f.place → found_by (get_or innermost f.step 0) o ≡ found_at section f
fact_by section innermost opened kept f d some low o is = go f.step refl
  where
    go : (n : ℕ) → f.step ≡ n → found_by (get_or innermost f.step 0) o ≡ found_at section f
    go zero z = absurd (some z)
    go (suc k) z =
        let at : f.step - 1 ≡ k = omega (arith, z) in
        let s : Step = get_or section (f.step - 1) d in
        let fact = fact_is section f k s z (ap (slice_get section) (sym at) ∙ slice_get-get_or section (f.step - 1) d (omega (arith, at, z, low))) in
        ap (λ (n : ℕ). found_by n o) (inside_at section innermost opened kept f.step low ∙ ap (λ (n : ℕ). number_of (blocks_at section n)) z)
        ∙ ap (found_by (number_of (blocks_at section (suc k)))) (is ∙ ap (λ (n : ℕ). numbered (step_pairs s (opened_pairs section n)) f.place) (ap (λ (n : ℕ). get_or innermost n 0) at ∙ inside_at section innermost opened kept k (omega (arith, low, z))))
        ∙ sym fact
