-- Marks where blocks begin, as loops set them.
use Rattle.std.proofs.Common.{◌≡◌, ℕ, zero, suc, ◌+◌, ◌<◌, ◌≤◌, Bool, true, false, List, [], ◌∷◌, ◌++◌, length, get_or, set, take, map, replicate, Some, refl, sym, ap, ◌∙◌, subst, inl, inr, arith}
use Rattle.std.specs.Prelude.{◌⊎◌, slice_get, Contains}
use Rattle.std.proofs.lemmas.Bool.{cases_lt, false≢true}
use Rattle.std.proofs.lemmas.List.{length-set, length-replicate, map_more}
use Rattle.std.proofs.lemmas.Option.{slice_get_within, slice_get_read}
use Rattle.pv_insn.specs.declared.insn.Case.{Case}
use Rattle.pv_frame.specs.declared.action.Action.{Action}
use Rattle.pv_frame.specs.declared.program.Program.{Program}
use Rattle.pv_frame.specs.Programs.{IsAt}
use Rattle.pv_frame.proofs.Cited.{some_of, equal_or_not, get_set, get_set_other, contains_cases, contains_none}
use Rattle.pv_flow.specs.Exits.{ends_block, targets}
use Rattle.pv_flow.specs.Blocks.{Begins, first, target, next}
use Rattle.pv_flow.specs.Finding.{marked, AreBegins}

-- ---- one mark

set_keeps : (marks : List Bool) (t k : ℕ) → slice_get marks k ≡ Some true → slice_get (set marks t true) k ≡ Some true
set_keeps marks t k is = elim (equal_or_not k t) [
  | inl e ↦ subst (λ (i : ℕ). slice_get (set marks i true) k ≡ Some true) e (get_set marks k true (slice_get_within marks k true is))
  | inr other ↦ get_set_other marks t k true other ∙ is
]

set_sound : (marks : List Bool) (t k : ℕ) → slice_get (set marks t true) k ≡ Some true → (slice_get marks k ≡ Some true) ⊎ (t ≡ k)
set_sound marks t k is = elim (equal_or_not k t) [
  | inl e ↦ inr (sym e)
  | inr other ↦ inl (sym (get_set_other marks t k true other) ∙ is)
]

-- ---- the marks of some places

pub length-marked : (places : List ℕ) (marks : List Bool) → length (marked places marks) ≡ length marks
length-marked [] marks = refl
length-marked (t ∷ places) marks = length-marked places (set marks t true) ∙ length-set marks t true

pub marked_push : (places : List ℕ) (t : ℕ) (marks : List Bool) → marked (places ++ t ∷ []) marks ≡ set (marked places marks) t true
marked_push [] t marks = refl
marked_push (s ∷ places) t marks = marked_push places t (set marks s true)

pub mark_more : (cases : List Case) (i : ℕ) (d : Case) (start marks now : List Bool) → i < length cases → marks ≡ marked (map (λ c. c.target) (take i cases)) start
    → now ≡ set marks (get_or cases i d).target true → now ≡ marked (map (λ c. c.target) (take (i + 1) cases)) start
mark_more cases i d start marks now lt so_far is =
    is ∙ ap (λ (m : List Bool). set m (get_or cases i d).target true) so_far ∙ sym (marked_push (map (λ (c : Case). c.target) (take i cases)) (get_or cases i d).target start)
    ∙ ap (λ (places : List ℕ). marked places start) (sym (map_more (λ (c : Case). c.target) cases i d lt))

marked_keeps : (places : List ℕ) (marks : List Bool) (k : ℕ) → slice_get marks k ≡ Some true → slice_get (marked places marks) k ≡ Some true
marked_keeps [] marks k is = is
marked_keeps (t ∷ places) marks k is = marked_keeps places (set marks t true) k (set_keeps marks t k is)

marked_marks : (places : List ℕ) (marks : List Bool) (k : ℕ) → Contains places k → k < length marks → slice_get (marked places marks) k ≡ Some true
marked_marks [] marks k among lt = absurd (contains_none k among)
marked_marks (t ∷ places) marks k among lt = elim (contains_cases t k places among) [
  | inl e ↦ marked_keeps places (set marks t true) k (subst (λ (i : ℕ). slice_get (set marks i true) k ≡ Some true) (sym e) (get_set marks k true lt))
  | inr more ↦ marked_marks places (set marks t true) k more (omega (arith, length-set marks t true))
]

contains_later : (t k : ℕ) (places : List ℕ) → Contains places k → Contains (t ∷ places) k
contains_later t k places (i, lt, is) = (suc i, omega arith, is)

marked_sound : (places : List ℕ) (marks : List Bool) (k : ℕ) → slice_get (marked places marks) k ≡ Some true → (slice_get marks k ≡ Some true) ⊎ Contains places k
marked_sound [] marks k is = inl is
marked_sound (t ∷ places) marks k is = elim (marked_sound places (set marks t true) k is) [
  | inl was ↦ elim (set_sound marks t k was) [ inl was ↦ inl was | inr e ↦ inr (0, omega arith, e) ]
  | inr among ↦ inr (contains_later t k places among)
]

-- ---- the marks of the instructions so far

pub record BeginSoFar (p : Program) (n : ℕ) (marks : List Bool) : Type 0 where
  pub one_each : length marks ≡ suc (length p.actions)
  pub sound : (k : ℕ) → slice_get marks k ≡ Some true → Begins p k
  pub entry : slice_get marks 0 ≡ Some true
  pub named : (i k : ℕ) (a : Action) → i < n → IsAt p i a → Contains (targets a) k → k < length marks → slice_get marks k ≡ Some true
  pub after : (i : ℕ) (a : Action) → i < n → IsAt p i a → ends_block a ≡ true → slice_get marks (suc i) ≡ Some true

none_marked : (n k : ℕ) → slice_get (replicate n false) k ≡ Some true → ⊥
none_marked zero k is = absurd (cc)
none_marked (suc n) zero is = absurd (cc)
none_marked (suc n) (suc k) is = none_marked n k is

pub begins_none : (p : Program) (marks : List Bool) → marks ≡ replicate (length p.actions + 1) false → BeginSoFar p 0 (set marks 0 true)
begins_none p marks e =
    let long : length marks ≡ suc (length p.actions) = ap length e ∙ length-replicate (length p.actions + 1) false ∙ omega arith in
    record {
      one_each = length-set marks 0 true ∙ long;
      sound = λ k is. elim (set_sound marks 0 k is) [
        | inl was ↦ absurd (none_marked (length p.actions + 1) k (subst (λ (l : List Bool). slice_get l k ≡ Some true) e was))
        | inr at ↦ subst (Begins p) at first
      ];
      entry = get_set marks 0 true (omega arith);
      named = λ i k a lt at among within. absurd (omega arith);
      after = λ i a lt at ends. absurd (omega arith);
    }

-- after the targets of one more instruction are marked, and the next place if that begins a block
record MarksOne (p : Program) (n : ℕ) (a : Action) (marks now : List Bool) : Type 0 where
  one_each : length now ≡ length marks
  kept : (k : ℕ) → slice_get (marked (targets a) marks) k ≡ Some true → slice_get now k ≡ Some true
  sound : (k : ℕ) → slice_get now k ≡ Some true → (slice_get (marked (targets a) marks) k ≡ Some true) ⊎ ((suc n ≡ k) × (ends_block a ≡ true))
  after : ends_block a ≡ true → slice_get now (suc n) ≡ Some true

begins_one : (p : Program) (n : ℕ) (a : Action) (marks now : List Bool) → IsAt p n a → BeginSoFar p n marks → MarksOne p n a marks now → BeginSoFar p (n + 1) now
begins_one p n a marks now at s one = record {
  one_each = one.one_each ∙ s.one_each;
  sound = λ k is. elim (one.sound k is) [
    | inl was ↦ elim (marked_sound (targets a) marks k was) [
      | inl was ↦ s.sound k was
      | inr among ↦ target n k a at among
    ]
    | inr ends ↦ subst (Begins p) ends.0 (next n a at ends.1)
  ];
  entry = one.kept 0 (marked_keeps (targets a) marks 0 s.entry);
  named = λ i k b lt here among within. elim (cases_lt i n) [
    | inl less ↦ one.kept k (marked_keeps (targets a) marks k (s.named i k b less here among (omega (arith, one.one_each))))
    | inr ge ↦
        let same : b ≡ a = is_same i b here (omega arith) in
        one.kept k (marked_marks (targets a) marks k (subst (λ (x : Action). Contains (targets x) k) same among) (omega (arith, one.one_each)))
  ];
  after = λ i b lt here ends. elim (cases_lt i n) [
    | inl less ↦ one.kept (suc i) (marked_keeps (targets a) marks (suc i) (s.after i b less here ends))
    | inr ge ↦
        let e : i ≡ n = omega arith in
        let same : b ≡ a = is_same i b here e in
        subst (λ (j : ℕ). slice_get now (suc j) ≡ Some true) (sym e) (one.after (ap ends_block (sym same) ∙ ends))
  ];
}
  where
    is_same : (i : ℕ) (b : Action) → IsAt p i b → i ≡ n → b ≡ a
    is_same i b here e = some_of b a (sym here ∙ ap (slice_get p.actions) e ∙ at)

pub begins_on : (p : Program) (n : ℕ) (a : Action) (marks : List Bool) → IsAt p n a → ends_block a ≡ false → BeginSoFar p n marks → BeginSoFar p (n + 1) (marked (targets a) marks)
begins_on p n a marks at on s = begins_one p n a marks _ at s (record {
  one_each = length-marked (targets a) marks;
  kept = λ k is. is;
  sound = λ k is. inl is;
  after = λ ends. absurd (false≢true (sym on ∙ ends));
})

pub begins_after : (p : Program) (n : ℕ) (a : Action) (marks : List Bool) → IsAt p n a → ends_block a ≡ true → n < length p.actions → BeginSoFar p n marks → BeginSoFar p (n + 1) (set (marked (targets a) marks) (n + 1) true)
begins_after p n a marks at ends lt s =
    let e : suc n ≡ n + 1 = omega arith in
    begins_one p n a marks _ at s (record {
      one_each = length-set (marked (targets a) marks) (n + 1) true ∙ length-marked (targets a) marks;
      kept = λ k is. set_keeps (marked (targets a) marks) (n + 1) k is;
      sound = λ k is. elim (set_sound (marked (targets a) marks) (n + 1) k is) [ inl was ↦ inl was | inr at ↦ inr (e ∙ at, ends) ];
      after = λ _. subst (λ (j : ℕ). slice_get (set (marked (targets a) marks) (n + 1) true) j ≡ Some true) (sym e) (get_set (marked (targets a) marks) (n + 1) true (omega (arith, length-marked (targets a) marks, s.one_each)));
    })

all_begin : (p : Program) (n : ℕ) (marks : List Bool) → length p.actions ≤ n → BeginSoFar p n marks → (k : ℕ) → Begins p k → k < length marks → slice_get marks k ≡ Some true
all_begin p n marks le s k first lt = s.entry
all_begin p n marks le s k (target i j a at among) lt = let within = slice_get_within p.actions i a at in s.named i k a (omega arith) at among lt
all_begin p n marks le s k (next i a at ends) lt = let within = slice_get_within p.actions i a at in s.after i a (omega arith) at ends

pub begins_all : (p : Program) (n : ℕ) (marks : List Bool) → length p.actions ≤ n → BeginSoFar p n marks → AreBegins p marks
begins_all p n marks le s = record { one_each = s.one_each; sound = s.sound; all = all_begin p n marks le s }

pub at_read : (p : Program) (actions : List Action) (n : ℕ) (a : Action) → actions ≡ p.actions → n < length actions → a ≡ get_or actions n a → IsAt p n a
at_read p actions n a same lt is = subst (λ (l : List Action). slice_get l n ≡ Some a) same (slice_get_read actions (length actions) n a refl lt is)
