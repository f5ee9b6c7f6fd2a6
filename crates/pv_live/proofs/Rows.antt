-- Rows of marks, as the functions that make them find them.
use Rattle.std.proofs.Common.{◌≡◌, ℕ, zero, suc, ◌+◌, ◌<◌, ◌≤◌, Bool, true, false, List, [], ◌∷◌, ◌++◌, length, get_or, set, Some, None, refl, sym, ap, ◌∙◌, subst, inl, inr, arith}
use Rattle.std.specs.Prelude.{◌⊎◌, map, option_map, slice_get}
use Rattle.std.specs.Bool.{Decides}
use Rattle.std.proofs.lemmas.List.{get_or-set_same, get_or-set_other}
use Rattle.std.proofs.lemmas.Option.{slice_get_within, slice_get-get_or, get_or_from_slice_get, slice_get-map}
use Rattle.std.proofs.Math.ListN.{length-set}
use Rattle.pv_frame.proofs.Cited.{some_of, no_some, equal_or_not, get_set, get_set_other, contains_first, contains_more, contains_cases, contains_none}
use Rattle.pv_insn.specs.declared.insn.Case.{Case}
use Rattle.pv_frame.specs.declared.action.Action.{Action}
use Rattle.pv_live.specs.Marks.{IsMarked, Marks, MarkedAt, MarkedAtOne, IsLiveIf, IsLiveBefore}

-- ---- lists by their places

pub each_push : {A : Type 0} (P : ℕ → A → Type 0) (xs : List A) (x : A) → ((i : ℕ) (a : A) → slice_get xs i ≡ Some a → P i a) → P (length xs) x → (i : ℕ) (a : A) → slice_get (xs ++ x ∷ []) i ≡ Some a → P i a
each_push P [] x each p zero a e = subst (P 0) (some_of _ _ e) p
each_push P [] x each p (suc i) a e = no_some a e
each_push P (y ∷ xs) x each p zero a e = each 0 a e
each_push P (y ∷ xs) x each p (suc i) a e = each_push (λ j. P (suc j)) xs x (λ j. each (suc j)) p i a e

-- ---- marks

-- nothing more is marked
pub marks_none : (Q : ℕ → Type 0) (row : List Bool) → ((x : ℕ) → x < length row → Q x → IsMarked row x) → Marks Q row row
marks_none Q row there = record { long = refl; kept = λ x m. m; added = there; only = λ x m. inl m }

pub marks_set : (row : List Bool) (n : ℕ) → n < length row → Marks (λ x. x ≡ n) row (set row n true)
marks_set row n low = record {
  long = length-set row n true;
  kept = λ x m. elim (equal_or_not x n) [
    | inl e ↦ subst (IsMarked (set row n true)) (sym e) (get_set row n true low)
    | inr differ ↦ get_set_other row n x true differ ∙ m
  ];
  added = λ x _ e. subst (IsMarked (set row n true)) (sym e) (get_set row n true low);
  only = λ x m. elim (equal_or_not x n) [ inl e ↦ inr e | inr differ ↦ inl (sym (get_set_other row n x true differ) ∙ m) ];
}

-- what is marked in two steps
pub marks_more : (Q R S : ℕ → Type 0) (old mid new : List Bool) → ((x : ℕ) → S x → Q x ⊎ R x) → ((x : ℕ) → Q x → S x) → ((x : ℕ) → R x → S x) → Marks Q old mid → Marks R mid new → Marks S old new
marks_more Q R S old mid new split left right a b = record {
  long = b.long ∙ a.long;
  kept = λ x m. b.kept x (a.kept x m);
  added = λ x low s. elim (split x s) [ inl q ↦ b.kept x (a.added x low q) | inr r ↦ b.added x (omega (arith, low, a.long)) r ];
  only = λ x m. elim (b.only x m) [ inl before ↦ (elim (a.only x before) [ inl was ↦ inl was | inr q ↦ inr (left x q) ]) | inr r ↦ inr (right x r) ];
}

pub marks_as : (Q S : ℕ → Type 0) (old new : List Bool) → ((x : ℕ) → Q x → S x) → ((x : ℕ) → S x → Q x) → Marks Q old new → Marks S old new
marks_as Q S old new to from a = record {
  long = a.long;
  kept = a.kept;
  added = λ x low s. a.added x low (from x s);
  only = λ x m. elim (a.only x m) [ inl was ↦ inl was | inr q ↦ inr (to x q) ];
}

-- ---- marks below a place

-- local x is to be marked, and lies below a place
abbrev pub Below : (ℕ → Type 0) → ℕ → ℕ → Type 0
Below Q n x = (x < n) × Q x

pub below_none : (Q : ℕ → Type 0) (row : List Bool) (n : ℕ) → n ≡ 0 → Marks (Below Q n) row row
below_none Q row n e = marks_none (Below Q n) row (λ x low b. absurd (omega (arith, b.0, e)))

pub below_marked : (Q : ℕ → Type 0) (old row : List Bool) (n : ℕ) → n < length row → Q n → Marks (Below Q n) old row → Marks (Below Q (n + 1)) old (set row n true)
below_marked Q old row n low m a =
    marks_more (Below Q n) (λ x. x ≡ n) (Below Q (n + 1)) old row (set row n true)
    (λ x b. elim (equal_or_not x n) [ inl e ↦ inr e | inr differ ↦ inl (omega (arith, differ, b.0), b.1) ])
    (λ x b. (omega (arith, b.0), b.1))
    (λ x e. (omega (arith, e), subst Q (sym e) m))
    a (marks_set row n low)

pub below_other : (Q : ℕ → Type 0) (old row : List Bool) (n : ℕ) → (Q n → ⊥) → Marks (Below Q n) old row → Marks (Below Q (n + 1)) old row
below_other Q old row n unmarked a =
    marks_as (Below Q n) (Below Q (n + 1)) old row
    (λ x b. (omega (arith, b.0), b.1))
    (λ x b. elim (equal_or_not x n) [ inl e ↦ absurd (unmarked (subst Q e b.1)) | inr differ ↦ (omega (arith, differ, b.0), b.1) ])
    a

pub below_all : (Q : ℕ → Type 0) (old row : List Bool) (n : ℕ) → length old ≤ n → Marks (Below Q n) old row → Marks Q old row
below_all Q old row n all a = record {
  long = a.long;
  kept = a.kept;
  added = λ x low m. a.added x low (omega (arith, low, all), m);
  only = λ x m. elim (a.only x m) [ inl was ↦ inl was | inr b ↦ inr b.1 ];
}

pub is_marked : (row : List Bool) (n : ℕ) → n < length row → get_or row n false ≡ true → IsMarked row n
is_marked row n low e = slice_get-get_or row n false low ∙ ap Some e

-- ---- rows of places

-- one place
pub at_one : (rows : List (List Bool)) (place x : ℕ) → MarkedAt rows place x → MarkedAtOne rows (place ∷ []) x
at_one rows place x m = record { place = place; among = contains_first place []; there = m }

pub one_at : (rows : List (List Bool)) (place x : ℕ) → MarkedAtOne rows (place ∷ []) x → MarkedAt rows place x
one_at rows place x m = elim (contains_cases place m.place [] m.among) [ inl e ↦ subst (λ (k : ℕ). MarkedAt rows k x) (sym e) m.there | inr more ↦ absurd (contains_none m.place more) ]

pub none_at : (rows : List (List Bool)) (x : ℕ) → MarkedAtOne rows [] x → ⊥
none_at rows x m = contains_none m.place m.among

pub marks_at : (rows : List (List Bool)) (place : ℕ) (row old new : List Bool) → slice_get rows place ≡ Some row → Marks (IsMarked row) old new → Marks (MarkedAtOne rows (place ∷ [])) old new
marks_at rows place row old new there a =
    marks_as (IsMarked row) (MarkedAtOne rows (place ∷ [])) old new
    (λ x m. at_one rows place x (record { row = row; there = there; marked = m }))
    (λ x m. let at = one_at rows place x m in subst (λ (r : List Bool). IsMarked r x) (some_of _ _ (sym at.there ∙ there)) at.marked)
    a

pub marks_past : (rows : List (List Bool)) (place : ℕ) (row : List Bool) → slice_get rows place ≡ None → Marks (MarkedAtOne rows (place ∷ [])) row row
marks_past rows place row past = marks_none (MarkedAtOne rows (place ∷ [])) row (λ x low m. let at = one_at rows place x m in no_some at.row (sym past ∙ at.there))

pub marks_nowhere : (rows : List (List Bool)) (row : List Bool) → Marks (MarkedAtOne rows []) row row
marks_nowhere rows row = marks_none (MarkedAtOne rows []) row (λ x low m. absurd (none_at rows x m))

-- at one place, and then at others
pub marks_then : (rows : List (List Bool)) (place : ℕ) (places : List ℕ) (old mid new : List Bool) → Marks (MarkedAtOne rows (place ∷ [])) old mid → Marks (MarkedAtOne rows places) mid new → Marks (MarkedAtOne rows (place ∷ places)) old new
marks_then rows place places old mid new a b =
    marks_more (MarkedAtOne rows (place ∷ [])) (MarkedAtOne rows places) (MarkedAtOne rows (place ∷ places)) old mid new
    (λ x m. elim (contains_cases place m.place places m.among) [
      | inl e ↦ inl (at_one rows place x (subst (λ (k : ℕ). MarkedAt rows k x) (sym e) m.there))
      | inr more ↦ inr (record { place = m.place; among = more; there = m.there })
    ])
    (λ x m. record { place = place; among = contains_first place places; there = one_at rows place x m })
    (λ x m. record { place = m.place; among = contains_more place m.place places m.among; there = m.there })
    a b

-- ---- the places so far

-- local x is marked at one of the first n places
pub record SoFar (rows : List (List Bool)) (places : List ℕ) (n x : ℕ) : Type 0 where
  pub index : ℕ
  pub low : index < n
  pub place : ℕ
  pub at : slice_get places index ≡ Some place
  pub there : MarkedAt rows place x

pub so_far_none : (rows : List (List Bool)) (places : List ℕ) (n : ℕ) (row : List Bool) → n ≡ 0 → Marks (SoFar rows places n) row row
so_far_none rows places n row e = marks_none (SoFar rows places n) row (λ x low s. absurd (omega (arith, s.low, e)))

pub so_far_more : (rows : List (List Bool)) (places : List ℕ) (n place : ℕ) (old mid new : List Bool) → slice_get places n ≡ Some place → Marks (SoFar rows places n) old mid → Marks (MarkedAtOne rows (place ∷ [])) mid new → Marks (SoFar rows places (n + 1)) old new
so_far_more rows places n place old mid new at a b =
    marks_more (SoFar rows places n) (MarkedAtOne rows (place ∷ [])) (SoFar rows places (n + 1)) old mid new
    (λ x s. elim (equal_or_not s.index n) [
      | inl e ↦ inr (at_one rows place x (subst (λ (k : ℕ). MarkedAt rows k x) (some_of _ _ (sym s.at ∙ ap (slice_get places) e ∙ at)) s.there))
      | inr differ ↦ inl (record { index = s.index; low = omega (arith, differ, s.low); place = s.place; at = s.at; there = s.there })
    ])
    (λ x s. record { index = s.index; low = omega (arith, s.low); place = s.place; at = s.at; there = s.there })
    (λ x m. record { index = n; low = omega arith; place = place; at = at; there = one_at rows place x m })
    a b

pub so_far_all : (rows : List (List Bool)) (places : List ℕ) (n : ℕ) (old new : List Bool) → length places ≤ n → Marks (SoFar rows places n) old new → Marks (MarkedAtOne rows places) old new
so_far_all rows places n old new all a =
    marks_as (SoFar rows places n) (MarkedAtOne rows places) old new
    (λ x s. let within = slice_get_within places s.index s.place s.at in record { place = s.place; among = (s.index, within, get_or_from_slice_get places s.index s.place s.place s.at); there = s.there })
    (λ x m. let i = m.among in record { index = i.0; low = omega (arith, i.1, all); place = m.place; at = slice_get-get_or places i.0 m.place i.1 ∙ ap Some i.2; there = m.there })
    a

pub target_at : (cases : List Case) (n : ℕ) (d : Case) → n < length cases → slice_get (map (λ c. c.target) cases) n ≡ Some (get_or cases n d).target
target_at cases n d low = slice_get-map (λ c. c.target) cases n ∙ ap (option_map (λ c. c.target)) (slice_get-get_or cases n d low)

-- ---- before an action

-- a row in which the marks below place n are those before an action, and the others still those after it
pub record AreBefore (a : Action) (before after row : List Bool) (n : ℕ) : Type 0 where
  pub long : length row ≡ length before
  pub done : (x : ℕ) → x < n → Decides (get_or row x false) (IsMarked before x ⊎ IsLiveBefore a after x)
  pub rest : (x : ℕ) → n ≤ x → get_or row x false ≡ get_or after x false

of_marked : (row : List Bool) (n : ℕ) → IsMarked row n → get_or row n false ≡ true
of_marked row n m = get_or_from_slice_get row n true false m

-- a mark that was there before the action
pub was_marked : (a : Action) (before after : List Bool) (n : ℕ) (b : Bool) → n < length before → get_or before n false ≡ true → b ≡ true → Decides b (IsMarked before n ⊎ IsLiveBefore a after n)
was_marked a before after n b low e one = (λ _. inl (is_marked before n low e), λ _. one)

-- .. and one that wasn't
pub is_live : (a : Action) (before after : List Bool) (n : ℕ) (b : Bool) → n < length after → get_or before n false ≡ false → Decides b (IsLiveIf a n (get_or after n false)) → Decides b (IsMarked before n ⊎ IsLiveBefore a after n)
is_live a before after n b less e dec = (
  (λ t. inr (to (dec.0 t))),
  (λ s. elim s [ inl m ↦ absurd (let t = of_marked before n m in cc) | inr l ↦ dec.1 (from l) ]),
)
  where
    to : IsLiveIf a n (get_or after n false) → IsLiveBefore a after n
    to (inl r) = inl r
    to (inr (w, m)) = inr (w, is_marked after n less m)

    from : IsLiveBefore a after n → IsLiveIf a n (get_or after n false)
    from (inl r) = inl r
    from (inr (w, m)) = inr (w, of_marked after n m)

-- the mark that is read at a place
pub read_mark : (row : List Bool) (n : ℕ) (b : Bool) → n < length row → b ≡ get_or row n b → get_or row n false ≡ b
read_mark row n b low e = get_or_from_slice_get row n b false (slice_get-get_or row n b low ∙ ap Some (sym e))

pub before_more : (a : Action) (before after row : List Bool) (n : ℕ) (b : Bool) → n < length before → Decides b (IsMarked before n ⊎ IsLiveBefore a after n) → AreBefore a before after row n → AreBefore a before after (set row n b) (n + 1)
before_more a before after row n b low one so = record {
  long = length-set row n b ∙ so.long;
  done = λ x less. elim (equal_or_not x n) [
    | inl e ↦ subst (λ (k : ℕ). Decides (get_or (set row n b) k false) (IsMarked before k ⊎ IsLiveBefore a after k)) (sym e) (subst (λ (c : Bool). Decides c (IsMarked before n ⊎ IsLiveBefore a after n)) (sym (get_or-set_same row n b false within)) one)
    | inr differ ↦ subst (λ (c : Bool). Decides c (IsMarked before x ⊎ IsLiveBefore a after x)) (sym (get_or-set_other row n x b false differ)) (so.done x (omega (arith, less, differ)))
  ];
  rest = λ x more. get_or-set_other row n x b false (λ e. absurd (omega (arith, more, e))) ∙ so.rest x (omega (arith, more));
}
  where
    within : n < length row
    within = omega (arith, low, so.long)

pub before_all : (a : Action) (before after row : List Bool) (n : ℕ) → length before ≤ n → AreBefore a before after row n → Marks (IsLiveBefore a after) before row
before_all a before after row n all so = record {
  long = so.long;
  kept = λ x m. let low = slice_get_within before x true m in marked x low ((so.done x (omega (arith, low, all))).1 (inl m));
  added = λ x low l. marked x low ((so.done x (omega (arith, low, all))).1 (inr l));
  only = λ x m. let low = slice_get_within row x true m in (so.done x (omega (arith, low, all, so.long))).0 (of_marked row x m);
}
  where
    marked : (x : ℕ) → x < length before → get_or row x false ≡ true → IsMarked row x
    marked x low e = is_marked row x (omega (arith, low, so.long)) e
