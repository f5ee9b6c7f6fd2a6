-- What the loops keep.
use Rattle.std.specs.Prelude.{◌≡◌, ◌⊎◌, ℕ, zero, suc, ◌+◌, ◌-◌, ◌<◌, ◌≤◌, min, Bool, true, false, List, [], ◌∷◌, ◌++◌, map, length, reverse, drop, Option, Some, slice_get, slice_set, get_or, nat_lt, if◌then◌else◌, refl}
use Rattle.std.specs.List.{range_with_len}
use Rattle.std.proofs.Common.{inl, inr, sym, ap, ◌∙◌, subst, arith, drop-cons, length-append}
use Rattle.std.proofs.lemmas.List.{reverse-append, length-set, get_or-set_same, get_or-set_other}
use Rattle.std.proofs.lemmas.List.FromFn.{length-map-range_with_len, get_or-map-range_with_len}
use mir.Val.{bool_byte}
use Rattle.std.proofs.lemmas.Bool.Decides.{nat_tests}
use Rattle.std.proofs.lemmas.Option.{slice_get_within, slice_get-get_or, get_or_from_slice_get, same_Some}
use Rattle.pv_graph.proofs.Cited.{get_front, get_last}
use Rattle.pv_steps.specs.declared.step.Fact.{Fact}
use Rattle.pv_steps.specs.declared.step.Congruence.{Congruence}
use Rattle.pv_steps.specs.declared.step.Reason.{Reason}
use Rattle.pv_steps.specs.declared.step.Step.{Step}
use Rattle.pv_steps.specs.declared.step.Step.TheVariants as steps
use Rattle.pv_steps.specs.declared.step.Step.TheVariants.{Axiom, Use, Flip, Chain, Set, Open, Close, Assume, Finish}
use Rattle.pv_steps.specs.Steps.{OpenBlock, outer_of, open_after}
use Rattle.pv_steps.specs.Accepted.{first_steps}
use Rattle.pv_steps.proofs.Cited.{next_steps}
use Rattle.pv_trim.specs.Citing.{reason_facts, set_facts}
use Rattle.pv_trim.specs.Moving.{count, moved, kept_steps}
use Rattle.pv_trim.specs.Marks.{is_on, IsOn, marking_step, marking_facts, steps_with, nodes_with, innermost, ended, AreEnds, AreMarks}
use Rattle.pv_trim.specs.Stacks.{numbers, first, without_first, effect_of, stack_after, ended_by, AreEndsTo}
use Rattle.pv_trim.specs.Ranks.{AreCounts, AreCountsTo}
use Rattle.pv_trim.proofs.Counting.{count_no, count_low, yes_or_no}
use Rattle.pv_trim.proofs.Fronts.{count_first, less_cases, element}
use Rattle.pv_trim.proofs.Marking.{marks_back, on_within}

-- ---- facts of sets

facts_append : (k : ℕ) (xs ys : List Fact) (marks : List Bool) → marking_facts k (xs ++ ys) marks ≡ marking_facts k ys (marking_facts k xs marks)
facts_append k [] ys marks = refl
facts_append k (x ∷ xs) ys marks = facts_append k xs ys (marking_step k x.step marks)

pub set_next : (k i : ℕ) (set : List Congruence) (c : Congruence) (rs : List Reason) (old new rest : List Bool) → i < length set → c ≡ get_or set i c → rs ≡ c.reasons → new ≡ marking_facts k (reason_facts rs) old
    → marking_facts k (set_facts (drop i set)) old ≡ rest → marking_facts k (set_facts (drop (i + 1) set)) new ≡ rest
set_next k i set c rs old new rest low is e f h =
    let next : suc i ≡ i + 1 = omega arith in
    subst (λ (n : ℕ). marking_facts k (set_facts (drop n set)) new ≡ rest) next
    (ap (marking_facts k (set_facts (drop (suc i) set))) (f ∙ ap (λ (q : List Reason). marking_facts k (reason_facts q) old) e)
    ∙ sym (facts_append k (reason_facts c.reasons) (set_facts (drop (suc i) set)) old)
    ∙ ap (λ (x : Congruence). marking_facts k (reason_facts x.reasons ++ set_facts (drop (suc i) set)) old) is
    ∙ ap (λ (q : List Congruence). marking_facts k (set_facts q) old) (sym (drop-cons set i c low))
    ∙ h)

-- ---- ends of blocks

without_numbers : (ps : List OpenBlock) → without_first (numbers ps) ≡ numbers (outer_of ps)
without_numbers [] = refl
without_numbers (p ∷ ps) = refl

first_number : (ps : List OpenBlock) → first (numbers ps) ≡ innermost ps
first_number [] = refl
first_number (p ∷ ps) = refl

numbers_after : (s : Step) (before : List Step) → numbers (open_after (s ∷ before)) ≡ stack_after (effect_of s) (suc (length before)) (numbers (open_after before))
numbers_after (steps.Node n o kids) before = refl
numbers_after (Axiom n a b nodes) before = refl
numbers_after (Use n a b nodes) before = refl
numbers_after (Flip a b x) before = refl
numbers_after (Chain a b x y) before = refl
numbers_after (Set cs) before = refl
numbers_after (Open d ps) before = refl
numbers_after (Close d fs) before = sym (without_numbers (open_after before))
numbers_after (Assume p ns) before = refl
numbers_after (Finish p q t u v w) before = sym (without_numbers (open_after before))

ended_is : (s : Step) (inside : List OpenBlock) → ended_by (effect_of s) (numbers inside) ≡ ended s inside
ended_is (steps.Node n o kids) inside = refl
ended_is (Axiom n a b nodes) inside = refl
ended_is (Use n a b nodes) inside = refl
ended_is (Flip a b x) inside = refl
ended_is (Chain a b x y) inside = refl
ended_is (Set cs) inside = refl
ended_is (Open d ps) inside = refl
ended_is (Close d fs) inside = first_number inside
ended_is (Assume p ns) inside = refl
ended_is (Finish p q t u v w) inside = first_number inside

pub ends_first : (section : List Step) → AreEndsTo section 0 [] []
ends_first section = record { long = refl; each = λ i s low there. absurd (omega (arith, low)); blocks = refl }

pub ends_next : (section : List Step) (k : ℕ) (s : Step) (ends : List (Option ℕ)) (stack new : List ℕ) (end : Option ℕ) → slice_get section k ≡ Some s → AreEndsTo section k ends stack
    → end ≡ ended_by (effect_of s) (reverse stack) → reverse new ≡ stack_after (effect_of s) (k + 1) (reverse stack) → AreEndsTo section (k + 1) (ends ++ end ∷ []) new
ends_next section k s ends stack new end there h e f =
    let low = slice_get_within section k s there in
    let long = count_first section k (omega (arith, low)) in
    let next : suc k ≡ k + 1 = omega arith in
    subst (λ (n : ℕ). AreEndsTo section n (ends ++ end ∷ []) new) next (record {
      long = length-append ends (end ∷ []) ∙ (let z = h.long in omega (arith, z));
      each = λ i t less at. elim (less_cases i k less) [
        | inl l ↦ get_front ends end i (let z = h.long in omega (arith, z, l)) ∙ h.each i t l at
        | inr same ↦
            (let one : s ≡ t = same_Some _ _ (sym there ∙ ap (slice_get section) (sym same) ∙ at) in
            ap (slice_get (ends ++ end ∷ [])) (same ∙ sym h.long)
            ∙ get_last ends end
            ∙ ap Some (e ∙ ap (ended_by (effect_of s)) h.blocks ∙ ended_is s (open_after (first_steps k section)))
            ∙ ap (λ (q : Step). Some (ended q (open_after (first_steps k section)))) one
            ∙ ap (λ (n : ℕ). Some (ended t (open_after (first_steps n section)))) (sym same))
      ];
      blocks =
          f ∙ ap (stack_after (effect_of s) (k + 1)) h.blocks
          ∙ ap (λ (n : ℕ). stack_after (effect_of s) n (numbers (open_after (first_steps k section)))) (let z : k + 1 ≡ suc (length (first_steps k section)) = omega (arith, long) in z)
          ∙ sym (numbers_after s (first_steps k section))
          ∙ ap (λ (q : List Step). numbers (open_after q)) (sym (next_steps section k s there));
    })

pub ends_all : (section : List Step) (k : ℕ) (ends : List (Option ℕ)) (stack : List ℕ) → k ≡ length section → AreEndsTo section k ends stack → AreEnds section ends
ends_all section k ends stack e h = record { long = h.long ∙ e; each = λ i s there. h.each i s (let z = slice_get_within section i s there in omega (arith, z, e)) there }

-- ---- the first marks

below_is : (base count n : ℕ) → n < count → is_on (map (λ m. nat_lt m base) (range_with_len 0 count)) n ≡ nat_lt n base
below_is base count n low = get_or-map-range_with_len (λ m. nat_lt m base) 0 count n n false low (let z : 0 + n ≡ n = omega arith in z)

test_low : (n base : ℕ) → nat_lt n base ≡ true → n < base
test_low n base h = grind (arith, nat_tests)

low_test : (n base : ℕ) → n < base → nat_lt n base ≡ true
low_test n base h = grind (arith, nat_tests)

below_long : (base count : ℕ) → length (map (λ m. nat_lt m base) (range_with_len 0 count)) ≡ count
below_long base count = length-map-range_with_len (λ m. nat_lt m base) 0 count

below_only : (base count n : ℕ) → IsOn (map (λ m. nat_lt m base) (range_with_len 0 count)) n → n < base
below_only base count n h =
    let low = on_within (map (λ m. nat_lt m base) (range_with_len 0 count)) n h in
    let long = below_long base count in
    test_low n base (sym (below_is base count n (omega (arith, low, long))) ∙ h)

abbrev pub last_mark : ℕ → List Bool
last_mark count = slice_set (map (λ n. nat_lt n 0) (range_with_len 0 count)) (count - 1) true

last_only : (count n : ℕ) → IsOn (last_mark count) n → suc n ≡ count
last_only count n h = elim (equal n (count - 1)) [
  | inl e ↦
      (let low = on_within (last_mark count) n h in
      let long = length-set (map (λ m. nat_lt m 0) (range_with_len 0 count)) (count - 1) true ∙ below_long 0 count in
      omega (arith, e, low, long))
  | inr ne ↦ (let z = below_only 0 count n (sym (get_or-set_other (map (λ m. nat_lt m 0) (range_with_len 0 count)) (count - 1) n true false ne) ∙ h) in absurd (omega (arith, z)))
]
  where
    equal : (a b : ℕ) → (a ≡ b) ⊎ (a ≡ b → ⊥)
    equal a b = grind arith

pub marks_first : (section : List Step) (ends : List (Option ℕ)) (base : ℕ) → AreMarks section ends base (base + length section) (length section) (last_mark (length section)) (map (λ n. nat_lt n base) (range_with_len 0 (base + length section)))
marks_first section ends base = record {
  steps_long = length-set (map (λ m. nat_lt m 0) (range_with_len 0 (length section))) (length section - 1) true ∙ below_long 0 (length section);
  nodes_long = below_long base (base + length section);
  first = λ n low. below_is base (base + length section) n (omega (arith, low)) ∙ low_test n base low;
  last = λ k s e there is.
      ap (is_on (last_mark (length section))) (let z : k ≡ length section - 1 = omega (arith, e) in z)
      ∙ get_or-set_same (map (λ m. nat_lt m 0) (range_with_len 0 (length section))) (length section - 1) true false (let z = below_long 0 (length section) in omega (arith, z, e));
  cited = λ k s low there on. let z = slice_get_within section k s there in absurd (omega (arith, z, low));
  made = λ k n o kids low there on. let z = slice_get_within section k (steps.Node n o kids) there in absurd (omega (arith, z, low));
  needed = λ k n o kids low there on. let z = slice_get_within section k (steps.Node n o kids) there in absurd (omega (arith, z, low));
  wanted = λ k on. inl (last_only (length section) k on);
  named_ = λ n on. inl (below_only base (base + length section) n on);
}

pub marks_next : (section : List Step) (ends : List (Option ℕ)) (base bound k : ℕ) (marks nodes new_marks new_nodes : List Bool) (s : Step) (e : Option ℕ) → (m : ℕ) → m ≡ suc k → AreMarks section ends base bound m marks nodes → slice_get section k ≡ Some s → slice_get ends k ≡ Some e
    → new_marks ≡ steps_with s k e marks nodes → new_nodes ≡ nodes_with s k marks nodes → AreMarks section ends base bound k new_marks new_nodes
marks_next section ends base bound k marks nodes new_marks new_nodes s e m same h there end a b =
    subst (λ (q : List Bool). AreMarks section ends base bound k new_marks q) (sym b)
    (subst (λ (q : List Bool). AreMarks section ends base bound k q (nodes_with s k marks nodes)) (sym a)
    (marks_back section ends base bound k marks nodes (subst (λ (n : ℕ). AreMarks section ends base bound n marks nodes) same h) s e there end))

-- ---- counts

pub counts_first : (marks : List Bool) → AreCountsTo marks 0 (0 ∷ []) 0
counts_first marks = record { within = omega arith; long = refl; now = refl; each = λ n low. ap (slice_get (0 ∷ [])) (none n low) ∙ ap (λ (k : ℕ). Some (count (is_on marks) k)) (sym (none n low)) }
  where
    none : (n : ℕ) → n ≤ 0 → n ≡ 0
    none n low = omega (arith, low)

pub counts_next : (marks : List Bool) (i : ℕ) (counts : List ℕ) (last new : ℕ) → i < length marks → AreCountsTo marks i counts last → new ≡ (if is_on marks i then suc last else last) → AreCountsTo marks (i + 1) (counts ++ new ∷ []) new
counts_next marks i counts last new low h e =
    let here : new ≡ count (is_on marks) (suc i) = e ∙ ap (λ (n : ℕ). if is_on marks i then suc n else n) h.now in
    let next : suc i ≡ i + 1 = omega arith in
    subst (λ (n : ℕ). AreCountsTo marks n (counts ++ new ∷ []) new) next (record {
      within = omega (arith, low);
      long = length-append counts (new ∷ []) ∙ (let z = h.long in omega (arith, z));
      now = here;
      each = λ n less. elim (le_cases n i less) [
        | inl l ↦ get_front counts new n (let z = h.long in omega (arith, z, l)) ∙ h.each n l
        | inr same ↦ ap (slice_get (counts ++ new ∷ [])) (same ∙ sym h.long) ∙ get_last counts new ∙ ap Some here ∙ ap (λ (k : ℕ). Some (count (is_on marks) k)) (sym same)
      ];
    })
  where
    le_cases : (n i : ℕ) → n ≤ suc i → (n ≤ i) ⊎ (n ≡ suc i)
    le_cases n i h = grind arith

pub counts_all : (marks : List Bool) (i : ℕ) (counts : List ℕ) (last : ℕ) → i ≡ length marks → AreCountsTo marks i counts last → AreCounts marks counts
counts_all marks i counts last e h = record { long = h.long ∙ ap suc e; each = λ n low. h.each n (omega (arith, e, low)) }

pub last_low : (marks : List Bool) (i : ℕ) (counts : List ℕ) (last : ℕ) → AreCountsTo marks i counts last → last ≤ i
last_low marks i counts last h = let a = count_low (is_on marks) i in let b = h.now in omega (arith, a, b)

pub byte_counts : (b : Bool) (n : ℕ) → n + bool_byte b ≡ (if b then suc n else n)
byte_counts true n = omega arith
byte_counts false n = omega arith

pub byte_low : (b : Bool) → bool_byte b ≤ 1
byte_low true = omega arith
byte_low false = omega arith

-- no number past the end counts
past_count : (marks : List Bool) (d : ℕ) → count (is_on marks) (d + length marks) ≡ count (is_on marks) (length marks)
past_count marks zero = ap (count (is_on marks)) (let z : 0 + length marks ≡ length marks = omega arith in z)
past_count marks (suc d) =
    ap (count (is_on marks)) (let z : suc d + length marks ≡ suc (d + length marks) = omega arith in z)
    ∙ count_no (is_on marks) (d + length marks) (off (d + length marks) (omega arith))
    ∙ past_count marks d
  where
    off : (n : ℕ) → length marks ≤ n → is_on marks n ≡ false
    off n low = elim (yes_or_no (is_on marks n)) [ inl y ↦ (let z = on_within marks n y in absurd (omega (arith, z, low))) | inr z ↦ z ]

pub count_place : (marks : List Bool) (n place : ℕ) → place ≡ min n (length marks) → count (is_on marks) place ≡ count (is_on marks) n
count_place marks n place e = elim (low_or_high n (length marks)) [
  | inl low ↦ ap (count (is_on marks)) (let z : place ≡ n = grind arith in z)
  | inr high ↦
      ap (count (is_on marks)) (let z : place ≡ length marks = grind arith in z)
      ∙ sym (past_count marks (n - length marks))
      ∙ ap (count (is_on marks)) (let z : n - length marks + length marks ≡ n = omega (arith, high) in z)
]
  where
    low_or_high : (a b : ℕ) → (a ≤ b) ⊎ (b ≤ a)
    low_or_high a b = grind arith

pub place_low : (marks : List Bool) (n : ℕ) → count (is_on marks) n ≤ n
place_low marks n = count_low (is_on marks) n

pub before_is : (marks : List Bool) (counts : List ℕ) (n place value : ℕ) → AreCounts marks counts → place ≡ min n (length marks) → value ≡ get_or counts place value → value ≡ count (is_on marks) n
before_is marks counts n place value h e f =
    f ∙ get_or_from_slice_get counts place (count (is_on marks) place) value (h.each place (let z : place ≤ length marks = grind arith in z)) ∙ count_place marks n place e

-- an element that was read
pub read_at : {A : Type 0} (xs : List A) (i : ℕ) (x : A) → i < length xs → x ≡ get_or xs i x → slice_get xs i ≡ Some x
read_at xs i x low e = slice_get-get_or xs i x low ∙ ap Some (sym e)

pub read_any : (section : List Step) (i : ℕ) → i < length section → (s : Step) × (slice_get section i ≡ Some s)
read_any section i low = element section i low

-- ---- kept steps

pub kept_next : (keep : ℕ → Bool) (f r : ℕ → ℕ) (section : List Step) (k : ℕ) (s : Step) (old : List Step) → slice_get section k ≡ Some s → keep k ≡ true → reverse old ≡ kept_steps keep f r (first_steps k section)
    → reverse (old ++ moved f r s ∷ []) ≡ kept_steps keep f r (first_steps (k + 1) section)
kept_next keep f r section k s old there on h =
    let low = slice_get_within section k s there in
    let long = count_first section k (omega (arith, low)) in
    reverse-append old (moved f r s ∷ [])
    ∙ ap (λ (q : List Step). moved f r s ∷ q) h
    ∙ sym (ap (λ (b : Bool). if b then moved f r s ∷ kept_steps keep f r (first_steps k section) else kept_steps keep f r (first_steps k section)) (ap keep long ∙ on))
    ∙ ap (kept_steps keep f r) (sym (next_steps section k s there))
    ∙ ap (λ (n : ℕ). kept_steps keep f r (first_steps n section)) (let z : suc k ≡ k + 1 = omega arith in z)

pub kept_less : (keep : ℕ → Bool) (f r : ℕ → ℕ) (section : List Step) (k : ℕ) (s : Step) (old : List Step) → slice_get section k ≡ Some s → keep k ≡ false → reverse old ≡ kept_steps keep f r (first_steps k section)
    → reverse old ≡ kept_steps keep f r (first_steps (k + 1) section)
kept_less keep f r section k s old there off h =
    let low = slice_get_within section k s there in
    let long = count_first section k (omega (arith, low)) in
    h
    ∙ sym (ap (λ (b : Bool). if b then moved f r s ∷ kept_steps keep f r (first_steps k section) else kept_steps keep f r (first_steps k section)) (ap keep long ∙ off))
    ∙ ap (kept_steps keep f r) (sym (next_steps section k s there))
    ∙ ap (λ (n : ℕ). kept_steps keep f r (first_steps n section)) (let z : suc k ≡ k + 1 = omega arith in z)
