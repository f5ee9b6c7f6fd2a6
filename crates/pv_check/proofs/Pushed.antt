-- What is kept of the steps, with one more.
use Rattle.std.specs.Prelude.{◌≡◌, ◌≢◌, ◌⊎◌, ℕ, zero, suc, ◌-◌, ◌<◌, ◌≤◌, Bool, true, false, ◌||◌, List, [], ◌∷◌, ◌++◌, length, reverse, Some, slice_get, slice_set, ◌==◌, refl}
use Rattle.std.specs.Bool.{Decides}
use Rattle.std.proofs.Math.ListN.{get_or}
use Rattle.std.proofs.Common.{inl, inr, sym, ap, ◌∙◌, subst, arith}
use Rattle.std.proofs.lemmas.List.{reverse-append, length-reverse, take-append-le}
use Rattle.pv_steps.specs.declared.step.Step.{Step}
use Rattle.pv_steps.specs.declared.step.Step.TheVariants.{Open, Assume, Close, Finish}
use Rattle.pv_steps.specs.Steps.{Block, Loop, Ending, OpenBlock, outer_of, states, open_after, AreOpen}
use Rattle.pv_check.specs.declared.tables.Effect.TheVariants.{Opens, Ends, Stays}
use Rattle.pv_check.specs.Kept.{number_of, blocks_at, open_now, has_opened, is_among, effect_of, AreKept}
use Rattle.pv_check.proofs.Deciding.{decides_nat}
use Rattle.pv_check.proofs.Placed.{OpenedAt, first_opened, self_open}
use Rattle.pv_check.proofs.Finding.{number_low, inside_at, inside_low}
use Rattle.pv_check.proofs.Ended.{none_open}
use Rattle.pv_check.proofs.Visible.{now_is}

before_last : {A : Type 0} (xs : List A) (x : A) (i : ℕ) → i < length xs → slice_get (xs ++ x ∷ []) i ≡ slice_get xs i
before_last [] x i low = absurd (omega (arith, low))
before_last (y ∷ ys) x zero low = refl
before_last (y ∷ ys) x (suc i) low = before_last ys x i (omega (arith, low))

at_last : {A : Type 0} (xs : List A) (x : A) (i : ℕ) → i ≡ length xs → slice_get (xs ++ x ∷ []) i ≡ Some x
at_last [] x zero e = refl
at_last [] x (suc i) e = absurd (omega (arith, e))
at_last (y ∷ ys) x zero e = absurd (omega (arith, e))
at_last (y ∷ ys) x (suc i) e = at_last ys x i (omega (arith, e))

longer : {A : Type 0} (xs : List A) (x : A) → length (xs ++ x ∷ []) ≡ suc (length xs)
longer [] x = refl
longer (y ∷ ys) x = ap suc (longer ys x)

-- the open blocks with a step more
pub now_with : (front : List Step) (s : Step) → open_now (front ++ s ∷ []) ≡ (states s (suc (length front)) (open_now front)).around
now_with front s = ap open_after (reverse-append front (s ∷ [])) ∙ ap (λ (n : ℕ). (states s (suc n) (open_now front)).around) (length-reverse front)

first_same : (front : List Step) (s : Step) (n : ℕ) → n ≤ length front → blocks_at (front ++ s ∷ []) n ≡ blocks_at front n
first_same front s n low = ap (λ (q : List Step). open_after (reverse q)) (take-append-le n front (s ∷ []) low)

last_or : (n m : ℕ) → n ≤ suc m → (n ≤ m) ⊎ (n ≡ suc m)
last_or n m low = grind arith

kept_more : (front : List Step) (s : Step) (v : ℕ) (b : Bool) (innermost : List ℕ) (opened more : List Bool) → AreKept front innermost opened → length more ≡ length opened
    → v ≡ number_of (open_now (front ++ s ∷ [])) → ((n : ℕ) → n ≤ length front → slice_get more n ≡ Some (is_among n (open_now (front ++ s ∷ [])))) → b ≡ is_among (suc (length front)) (open_now (front ++ s ∷ []))
    → AreKept (front ++ s ∷ []) (innermost ++ v ∷ []) (more ++ b ∷ [])
kept_more front s v b innermost opened more kept len number now last = record {
  long = longer innermost v ∙ ap suc kept.long ∙ ap suc (sym (longer front s));
  wide = longer more b ∙ ap suc (len ∙ kept.wide) ∙ ap suc (sym (longer front s));
  innermost_ = λ n low. by_n n (last_or n (length front) (let z = longer front s in omega (arith, low, z)));
  opened_ = λ n low. by_m n (last_or n (length front) (let z = longer front s in omega (arith, low, z)));
}
  where
    by_n : (n : ℕ) → (n ≤ length front) ⊎ (n ≡ suc (length front)) → slice_get (innermost ++ v ∷ []) n ≡ Some (number_of (blocks_at (front ++ s ∷ []) n))
    by_n n (inl low) = before_last innermost v n (let z = kept.long in omega (arith, z, low)) ∙ kept.innermost_ n low ∙ ap (λ (q : List OpenBlock). Some (number_of q)) (sym (first_same front s n low))
    by_n n (inr e) =
        at_last innermost v n (e ∙ sym kept.long)
        ∙ ap Some (number ∙ ap number_of (sym (now_is (front ++ s ∷ [])) ∙ ap (blocks_at (front ++ s ∷ [])) (longer front s ∙ sym e)))

    by_m : (n : ℕ) → (n ≤ length front) ⊎ (n ≡ suc (length front)) → slice_get (more ++ b ∷ []) n ≡ Some (is_among n (open_now (front ++ s ∷ [])))
    by_m n (inl low) = before_last more b n (let z = kept.wide in omega (arith, z, len, low)) ∙ now n low
    by_m n (inr e) = at_last more b n (e ∙ sym (len ∙ kept.wide)) ∙ ap Some (last ∙ ap (λ (k : ℕ). is_among k (open_now (front ++ s ∷ []))) (sym e))

-- ---- numbers fall outwards

below_opened : (front : List Step) (n : ℕ) (ps : List OpenBlock) → AreOpen ps (open_now front) → number_of ps < n → has_opened n ps ≡ false
below_opened front n [] h low = refl
below_opened front n (p ∷ ps) h low = go (p.opened == n) (decides_nat p.opened n) (below_opened front n ps (outwards (open_now front) h) (let z = fall in omega (arith, z, low)))
  where
    outwards : (qs : List OpenBlock) → AreOpen (p ∷ ps) qs → AreOpen ps qs
    outwards [] e = absurd (cc)
    outwards (q ∷ qs) (inl e) = inr (subst (AreOpen ps) (let z : ps ≡ qs = cc in z) (self_open ps))
    outwards (q ∷ qs) (inr m) = inr (outwards qs m)

    at_ : OpenedAt front (length front) p ps
    at_ = first_opened front (length front) (omega arith) p ps (subst (AreOpen (p ∷ ps)) (sym (now_is front)) h)

    fall : number_of ps < p.opened
    fall =
        let low = at_.low in
        let z = number_low front at_.k (omega (arith, low)) in
        let e = ap number_of at_.outer_ in
        let n = at_.number in
        omega (arith, z, e, n)

    go : (t : Bool) → Decides t (p.opened ≡ n) → has_opened n ps ≡ false → (t || has_opened n ps) ≡ false
    go true d e = absurd (let z = d.0 refl in omega (arith, z, low))
    go false d e = e

now_low : (front : List Step) → number_of (open_now front) ≤ length front
now_low front = let z = number_low front (length front) (omega arith) in let e = ap number_of (now_is front) in omega (arith, z, e)

not_yet : (front : List Step) → is_among (suc (length front)) (open_now front) ≡ false
not_yet front = below_opened front (suc (length front)) (open_now front) (self_open (open_now front)) (let z = now_low front in omega (arith, z))

-- ---- a step that opens no block and ends none

pub kept_same : (front : List Step) (s : Step) (innermost : List ℕ) (opened : List Bool) → AreKept front innermost opened → (states s (suc (length front)) (open_now front)).around ≡ open_now front
    → AreKept (front ++ s ∷ []) (innermost ++ get_or innermost (length front) 0 ∷ []) (opened ++ false ∷ [])
kept_same front s innermost opened kept same =
    let now = now_with front s ∙ same in
    kept_more front s (get_or innermost (length front) 0) false innermost opened opened kept refl
    (inside_at front innermost opened kept (length front) (omega arith) ∙ ap number_of (now_is front ∙ sym now))
    (λ n low. kept.opened_ n low ∙ ap (λ (ps : List OpenBlock). Some (is_among n ps)) (sym now))
    (sym (not_yet front) ∙ ap (is_among (suc (length front))) (sym now))

-- ---- one that opens a block

among_other : (n : ℕ) (p : OpenBlock) (ps : List OpenBlock) → n ≢ p.opened → is_among n (p ∷ ps) ≡ is_among n ps
among_other zero p ps h = refl
among_other (suc k) p ps h = go (p.opened == suc k) (decides_nat p.opened (suc k))
  where
    go : (t : Bool) → Decides t (p.opened ≡ suc k) → (t || has_opened (suc k) ps) ≡ has_opened (suc k) ps
    go true d = absurd (h (sym (d.0 refl)))
    go false d = refl

among_first : (k : ℕ) (p : OpenBlock) (ps : List OpenBlock) → p.opened ≡ suc k → is_among (suc k) (p ∷ ps) ≡ true
among_first k p ps e = go (p.opened == suc k) ((decides_nat p.opened (suc k)).1 e)
  where
    go : (t : Bool) → t ≡ true → (t || has_opened (suc k) ps) ≡ true
    go true e = refl
    go false e = absurd (cc)

pub kept_opens : (front : List Step) (s : Step) (b : Block) (innermost : List ℕ) (opened : List Bool) → AreKept front innermost opened → (states s (suc (length front)) (open_now front)).around ≡ record { opened = suc (length front); block = b } ∷ open_now front
    → AreKept (front ++ s ∷ []) (innermost ++ suc (length front) ∷ []) (opened ++ true ∷ [])
kept_opens front s b innermost opened kept same =
    let now = now_with front s ∙ same in
    kept_more front s (suc (length front)) true innermost opened opened kept refl
    (ap number_of (sym now))
    (λ n low. kept.opened_ n low ∙ ap Some (sym (among_other n (record { opened = suc (length front); block = b }) (open_now front) (λ e. omega (arith, e, low))) ∙ ap (is_among n) (sym now)))
    (sym (among_first (length front) (record { opened = suc (length front); block = b }) (open_now front) refl) ∙ ap (is_among (suc (length front))) (sym now))

-- ---- one that ends a block

set_at : {A : Type 0} (xs : List A) (i : ℕ) (x : A) → i < length xs → slice_get (slice_set xs i x) i ≡ Some x
set_at [] i x low = absurd (omega (arith, low))
set_at (y ∷ ys) zero x low = refl
set_at (y ∷ ys) (suc i) x low = set_at ys i x (omega (arith, low))

set_other : {A : Type 0} (xs : List A) (i j : ℕ) (x : A) → i ≢ j → slice_get (slice_set xs i x) j ≡ slice_get xs j
set_other [] i j x h = refl
set_other (y ∷ ys) zero zero x h = absurd (h refl)
set_other (y ∷ ys) zero (suc j) x h = refl
set_other (y ∷ ys) (suc i) zero x h = refl
set_other (y ∷ ys) (suc i) (suc j) x h = set_other ys i j x (λ e. h (ap suc e))

set_length : {A : Type 0} (xs : List A) (i : ℕ) (x : A) → length (slice_set xs i x) ≡ length xs
set_length [] i x = refl
set_length (y ∷ ys) zero x = refl
set_length (y ∷ ys) (suc i) x = ap suc (set_length ys i x)

ends_by : (front : List Step) (s : Step) (p : OpenBlock) (ps : List OpenBlock) (innermost : List ℕ) (opened : List Bool) → AreKept front innermost opened → open_now front ≡ p ∷ ps → (states s (suc (length front)) (open_now front)).around ≡ outer_of (open_now front)
    → AreKept (front ++ s ∷ []) (innermost ++ get_or innermost (p.opened - 1) 0 ∷ []) (slice_set opened p.opened false ++ false ∷ [])
ends_by front s p ps innermost opened kept is same = kept_more front s (get_or innermost (p.opened - 1) 0) false innermost opened (slice_set opened p.opened false) kept (set_length opened p.opened false)
    (inside_at front innermost opened kept (p.opened - 1) before ∙ ap (λ (k : ℕ). number_of (blocks_at front k)) (sym k_is) ∙ ap number_of (sym at_.outer_ ∙ sym now))
    (λ n low. by_n n low (cases n p.opened) ∙ ap (λ (qs : List OpenBlock). Some (is_among n qs)) (sym now))
    (sym last ∙ ap (is_among (suc (length front))) (sym now))
  where
    now : open_now (front ++ s ∷ []) ≡ ps
    now = now_with front s ∙ same ∙ ap outer_of is

    at_ : OpenedAt front (length front) p ps
    at_ = first_opened front (length front) (omega arith) p ps (subst (AreOpen (p ∷ ps)) (sym (now_is front ∙ is)) (self_open (p ∷ ps)))

    k_is : at_.k ≡ p.opened - 1
    k_is = let n = at_.number in omega (arith, n)

    before : p.opened - 1 ≤ length front
    before = let z = at_.low in omega (arith, z, k_is)

    inner : AreOpen ps (open_now front)
    inner = subst (AreOpen ps) (sym is) (inr (self_open ps))

    fall : number_of ps < p.opened
    fall =
        let low = at_.low in
        let z = number_low front at_.k (omega (arith, low)) in
        let e = ap number_of at_.outer_ in
        let n = at_.number in
        omega (arith, z, e, n)

    last : is_among (suc (length front)) ps ≡ false
    last = below_opened front (suc (length front)) ps inner (let z = at_.low in let n = at_.number in omega (arith, z, n, fall))

    cases : (n m : ℕ) → (n ≡ m) ⊎ (n ≢ m)
    cases n m = grind arith

    gone : (n : ℕ) → n ≡ p.opened → is_among n ps ≡ false
    gone zero e = absurd (let n = at_.number in omega (arith, e, n))
    gone (suc k) e = below_opened front (suc k) ps inner (omega (arith, e, fall))

    by_n : (n : ℕ) → n ≤ length front → (n ≡ p.opened) ⊎ (n ≢ p.opened) → slice_get (slice_set opened p.opened false) n ≡ Some (is_among n ps)
    by_n n low (inl e) =
        ap (slice_get (slice_set opened p.opened false)) e
        ∙ set_at opened p.opened false (let z = kept.wide in let y = at_.low in let n = at_.number in omega (arith, z, y, n))
        ∙ ap Some (sym (gone n e))
    by_n n low (inr other) =
        set_other opened p.opened n false (λ e. other (sym e)) ∙ kept.opened_ n low ∙ ap (λ (qs : List OpenBlock). Some (is_among n qs)) is ∙ ap Some (among_other n p ps other)

-- the block with this number ends
pub kept_ends : (front : List Step) (s : Step) (n : ℕ) (innermost : List ℕ) (opened : List Bool) → AreKept front innermost opened → n ≡ get_or innermost (length front) 0 → n ≢ 0 → (states s (suc (length front)) (open_now front)).around ≡ outer_of (open_now front)
    → AreKept (front ++ s ∷ []) (innermost ++ get_or innermost (n - 1) 0 ∷ []) (slice_set opened n false ++ false ∷ [])
kept_ends front s n innermost opened kept e some same = go (open_now front) refl number
  where
    number : n ≡ number_of (open_now front)
    number = e ∙ inside_at front innermost opened kept (length front) (omega arith) ∙ ap number_of (now_is front)

    go : (ps : List OpenBlock) → open_now front ≡ ps → n ≡ number_of ps → AreKept (front ++ s ∷ []) (innermost ++ get_or innermost (n - 1) 0 ∷ []) (slice_set opened n false ++ false ∷ [])
    go [] is z = absurd (some z)
    go (p ∷ ps) is z = subst (λ (m : ℕ). AreKept (front ++ s ∷ []) (innermost ++ get_or innermost (m - 1) 0 ∷ []) (slice_set opened m false ++ false ∷ [])) (sym z) (ends_by front s p ps innermost opened kept is same)

-- with no block open nothing ends
pub kept_no_end : (front : List Step) (s : Step) (innermost : List ℕ) (opened : List Bool) → AreKept front innermost opened → get_or innermost (length front) 0 ≡ 0 → (states s (suc (length front)) (open_now front)).around ≡ outer_of (open_now front)
    → AreKept (front ++ s ∷ []) (innermost ++ get_or innermost (length front) 0 ∷ []) (opened ++ false ∷ [])
kept_no_end front s innermost opened kept none same = kept_same front s innermost opened kept (same ∙ ap outer_of nothing ∙ sym nothing)
  where
    nothing : open_now front ≡ []
    nothing = none_open front (sym (ap number_of (now_is front)) ∙ sym (inside_at front innermost opened kept (length front) (omega arith)) ∙ none)

-- ---- by what a step does

opens_one : (s : Step) → effect_of s ≡ Opens → (k : ℕ) (ps : List OpenBlock) → (b : Block) × ((states s k ps).around ≡ record { opened = k; block = b } ∷ ps)
opens_one (Open d pairs) e k ps = (Loop d pairs, refl)
opens_one (Assume p nodes) e k ps = (Ending p nodes, refl)
opens_one s e k ps = absurd (cc)

ends_one : (s : Step) → effect_of s ≡ Ends → (k : ℕ) (ps : List OpenBlock) → (states s k ps).around ≡ outer_of ps
ends_one (Close d fs) e k ps = refl
ends_one (Finish p q t f r h) e k ps = refl
ends_one s e k ps = absurd (cc)

stays : (s : Step) → effect_of s ≡ Stays → (k : ℕ) (ps : List OpenBlock) → (states s k ps).around ≡ ps
stays (Open d pairs) e k ps = absurd (cc)
stays (Assume p nodes) e k ps = absurd (cc)
stays (Close d fs) e k ps = absurd (cc)
stays (Finish p q t f r h) e k ps = absurd (cc)
stays s e k ps = refl

pub take_opens : (front : List Step) (s : Step) (innermost : List ℕ) (opened : List Bool) → AreKept front innermost opened → effect_of s ≡ Opens → AreKept (front ++ s ∷ []) (innermost ++ suc (length front) ∷ []) (opened ++ true ∷ [])
take_opens front s innermost opened kept e = let o = opens_one s e (suc (length front)) (open_now front) in kept_opens front s o.0 innermost opened kept o.1

pub take_ends : (front : List Step) (s : Step) (n : ℕ) (innermost : List ℕ) (opened : List Bool) → AreKept front innermost opened → effect_of s ≡ Ends → n ≡ get_or innermost (length front) 0 → n ≢ 0
    → AreKept (front ++ s ∷ []) (innermost ++ get_or innermost (n - 1) 0 ∷ []) (slice_set opened n false ++ false ∷ [])
take_ends front s n innermost opened kept e is some = kept_ends front s n innermost opened kept is some (ends_one s e (suc (length front)) (open_now front))

pub take_no_end : (front : List Step) (s : Step) (innermost : List ℕ) (opened : List Bool) → AreKept front innermost opened → effect_of s ≡ Ends → get_or innermost (length front) 0 ≡ 0
    → AreKept (front ++ s ∷ []) (innermost ++ get_or innermost (length front) 0 ∷ []) (opened ++ false ∷ [])
take_no_end front s innermost opened kept e none = kept_no_end front s innermost opened kept none (ends_one s e (suc (length front)) (open_now front))

pub take_stays : (front : List Step) (s : Step) (innermost : List ℕ) (opened : List Bool) → AreKept front innermost opened → effect_of s ≡ Stays
    → AreKept (front ++ s ∷ []) (innermost ++ get_or innermost (length front) 0 ∷ []) (opened ++ false ∷ [])
take_stays front s innermost opened kept e = kept_same front s innermost opened kept (stays s e (suc (length front)) (open_now front))

pub ends_low : (front : List Step) (innermost : List ℕ) (opened : List Bool) → AreKept front innermost opened → get_or innermost (length front) 0 ≤ length front
ends_low front innermost opened kept = inside_low front innermost opened kept (length front) (omega arith)

-- .. as lists that are equal to those
pub carried : (steps : List Step) (innermost innermost' : List ℕ) (opened opened' : List Bool) → AreKept steps innermost opened → innermost' ≡ innermost → opened' ≡ opened → AreKept steps innermost' opened'
carried steps innermost innermost' opened opened' kept e f = subst (λ (q : List ℕ). AreKept steps q opened') (sym e) (subst (λ (q : List Bool). AreKept steps innermost q) (sym f) kept)
