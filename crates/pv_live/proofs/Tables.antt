-- Tables of marks, as the sweeps find them.
use Rattle.std.proofs.Common.{◌≡◌, ℕ, zero, suc, ◌+◌, ◌<◌, ◌≤◌, Bool, true, false, List, [], ◌∷◌, length, get_or, set, replicate, Some, refl, sym, ap, ◌∙◌, subst, inl, inr, arith}
use Rattle.std.specs.Prelude.{slice_get}
use Rattle.std.proofs.lemmas.List.{length-replicate}
use Rattle.std.proofs.lemmas.Option.{slice_get_within, slice_get_read}
use Rattle.std.proofs.Math.ListN.{length-set}
use Rattle.pv_frame.specs.declared.action.Action.{Action}
use Rattle.pv_frame.specs.declared.program.Program.{Program}
use Rattle.pv_frame.specs.Effects.{successors}
use Rattle.pv_frame.specs.Programs.{IsAt}
use Rattle.pv_frame.proofs.Cited.{some_of, no_some, equal_or_not, get_set, get_set_other}
use Rattle.pv_live.specs.Live.{Live, read, later}
use Rattle.pv_live.specs.Marks.{IsMarked, Marks, MarkedAt, MarkedAtOne, IsLiveBefore, IsLiveBy, IsTable, IsDoneAt, IsDone, unmarked, unmarked_in, Visited, Swept, KnowLive}

-- ---- how much there is still to mark

fewer_or_same : (old new : List Bool) → length new ≡ length old → ((x : ℕ) → IsMarked old x → IsMarked new x) → unmarked new ≤ unmarked old
fewer_or_same [] [] long kept = omega arith
fewer_or_same [] (b ∷ new) long kept = absurd (omega arith)
fewer_or_same (b ∷ old) [] long kept = absurd (omega arith)
fewer_or_same (true ∷ old) (true ∷ new) long kept = fewer_or_same old new (omega arith) (λ x. kept (suc x))
fewer_or_same (true ∷ old) (false ∷ new) long kept = absurd (let e = kept 0 refl in cc)
fewer_or_same (false ∷ old) (true ∷ new) long kept = let rest = fewer_or_same old new (omega arith) (λ x. kept (suc x)) in omega (arith, rest)
fewer_or_same (false ∷ old) (false ∷ new) long kept = let rest = fewer_or_same old new (omega arith) (λ x. kept (suc x)) in omega (arith, rest)

-- a row with a new mark has fewer to mark
fewer : (old new : List Bool) → length new ≡ length old → ((x : ℕ) → IsMarked old x → IsMarked new x) → (new ≡ old → ⊥) → unmarked new < unmarked old
fewer [] [] long kept differ = absurd (differ refl)
fewer [] (b ∷ new) long kept differ = absurd (omega arith)
fewer (b ∷ old) [] long kept differ = absurd (omega arith)
fewer (true ∷ old) (true ∷ new) long kept differ = fewer old new (omega arith) (λ x. kept (suc x)) (λ e. differ (ap (λ (l : List Bool). true ∷ l) e))
fewer (true ∷ old) (false ∷ new) long kept differ = absurd (let e = kept 0 refl in cc)
fewer (false ∷ old) (true ∷ new) long kept differ = let rest = fewer_or_same old new (omega arith) (λ x. kept (suc x)) in omega (arith, rest)
fewer (false ∷ old) (false ∷ new) long kept differ = let rest = fewer old new (omega arith) (λ x. kept (suc x)) (λ e. differ (ap (λ (l : List Bool). false ∷ l) e)) in omega (arith, rest)

fewer_in : (rows : List (List Bool)) (k : ℕ) (before row : List Bool) → slice_get rows k ≡ Some before → unmarked row < unmarked before → unmarked_in (set rows k row) < unmarked_in rows
fewer_in [] k before row at less = no_some before at
fewer_in (r ∷ rows) zero before row at less = let e : unmarked r ≡ unmarked before = ap unmarked (some_of _ _ at) in omega (arith, e, less)
fewer_in (r ∷ rows) (suc k) before row at less = let rest = fewer_in rows k before row at less in omega (arith, rest)

-- ---- one place

no_marks : (n x : ℕ) → IsMarked (replicate n false) x → ⊥
no_marks zero x e = no_some true e
no_marks (suc n) zero e = absurd (cc)
no_marks (suc n) (suc x) e = no_marks n x e

-- what is known of a visit of place k: the row before it, the one after it, and the one that was made of both
pub record Known (p : Program) (rows : List (List Bool)) (k : ℕ) (a : Action) (before after row : List Bool) : Type 0 where
  pub at : IsAt p k a
  pub here : slice_get rows k ≡ Some before
  pub next : Marks (MarkedAtOne rows (successors k a)) (replicate p.max_locals false) after
  pub marks : Marks (IsLiveBefore a after) before row

pub known : (p : Program) (rows : List (List Bool)) (k : ℕ) (actions : List Action) (a : Action) (seen : List (List Bool)) (b before after row : List Bool) → IsTable p rows → k < length p.actions
    → actions ≡ p.actions → a ≡ get_or actions k a → seen ≡ rows → b ≡ get_or rows k b → before ≡ b
    → Marks (MarkedAtOne seen (successors k a)) (replicate p.max_locals false) after → Marks (IsLiveBefore a after) before row → Known p rows k a before after row
known p rows k actions a seen b before after row table low acts is see there one next marks = record {
  at = ap (λ (l : List Action). slice_get l k) (sym acts) ∙ slice_get_read actions (length actions) k a refl (let e : length actions ≡ length p.actions = ap length acts in omega (arith, low, e)) is;
  here = slice_get_read rows (length rows) k b refl (omega (arith, low, table.long)) there ∙ ap Some (sym one);
  next = subst (λ (s : List (List Bool)). Marks (MarkedAtOne s (successors k a)) (replicate p.max_locals false) after) see next;
  marks = marks;
}

module _ (p : Program) (rows : List (List Bool)) (table : IsTable p rows) (k : ℕ) (a : Action) (before after row : List Bool) (known : Known p rows k a before after row) where
  wide : length before ≡ p.max_locals
  wide = table.wide k before known.here

  -- nothing new is marked
  pub visited_same : row ≡ before → Visited p k rows rows false
  visited_same same = (
    refl,
    λ b there x low live.
        let one : b ≡ a = some_of _ _ (sym there ∙ known.at) in
        record { row = before; there = known.here; marked = subst (λ (r : List Bool). IsMarked r x) same (known.marks.added x (omega (arith, low, wide)) (by_marks x low (subst (λ (b : Action). IsLiveBy rows k b x) one live))) },
  )
    where
      by_marks : (x : ℕ) → x < p.max_locals → IsLiveBy rows k a x → IsLiveBefore a after x
      by_marks x low (inl r) = inl r
      by_marks x low (inr (w, m)) = inr (w, known.next.added x (omega (arith, low, length-replicate {A = Bool} p.max_locals false)) m)

  pub visited_new : (row ≡ before → ⊥) → Visited p k rows (set rows k row) true
  visited_new differ = fewer_in rows k before row known.here (fewer before row known.marks.long known.marks.kept differ)

  live_there : (x : ℕ) → IsMarked row x → Live p k x
  live_there x m = elim (known.marks.only x m) [
    | inl was ↦ table.sound k x (record { row = before; there = known.here; marked = was })
    | inr live ↦ by_action live
  ]
    where
      by_action : IsLiveBefore a after x → Live p k x
      by_action (inl r) = read k x a known.at r
      by_action (inr (w, m)) = elim (known.next.only x m) [
        | inl none ↦ absurd (no_marks p.max_locals x none)
        | inr one ↦ later k x a one.place known.at w one.among (table.sound one.place x one.there)
      ]

  pub still_table : IsTable p (set rows k row)
  still_table =
      let low : k < length rows = slice_get_within rows k before known.here in
      record {
        long = length-set rows k row ∙ table.long;
        wide = λ j r there. elim (equal_or_not j k) [
          | inl e ↦ ap length (some_of _ _ (sym there ∙ ap (slice_get (set rows k row)) e ∙ get_set rows k row low)) ∙ known.marks.long ∙ wide
          | inr differ ↦ table.wide j r (sym (get_set_other rows k j row differ) ∙ there)
        ];
        sound = λ j x m. elim (equal_or_not j k) [
          | inl e ↦ subst (λ (i : ℕ). Live p i x) (sym e) (live_there x (subst (λ (r : List Bool). IsMarked r x) (some_of _ _ (sym m.there ∙ ap (slice_get (set rows k row)) e ∙ get_set rows k row low)) m.marked))
          | inr differ ↦ table.sound j x (record { row = m.row; there = sym (get_set_other rows k j row differ) ∙ m.there; marked = m.marked })
        ];
      }

-- ---- all places

abbrev pub one_if : Bool → ℕ
one_if true = 1
one_if false = 0

rows_same : (p : Program) (old new : List (List Bool)) (b : ℕ) → new ≡ old → IsDone p old b → IsDone p new b
rows_same p old new b e done = subst (λ (rows : List (List Bool)). IsDone p rows b) (sym e) done

-- one place more was visited
pub done_more : (p : Program) (old new : List (List Bool)) (c b : ℕ) → c ≡ suc b → Visited p b old new false → IsDone p old c → IsDone p new b
done_more p old new c b e (same, here) done = rows_same p old new b same (λ k le. elim (equal_or_not k b) [
  | inl one ↦ subst (IsDoneAt p old) (sym one) here
  | inr differ ↦ done k (omega (arith, differ, le, e))
])

pub fewer_more : (p : Program) (k : ℕ) (old new : List (List Bool)) (b : Bool) → Visited p k old new b → unmarked_in new + one_if b ≤ unmarked_in old
fewer_more p k old new true less = omega (arith, less)
fewer_more p k old new false same = let e : unmarked_in new ≡ unmarked_in old = ap unmarked_in same.0 in omega (arith, e)

pub swept : (p : Program) (old new : List (List Bool)) (b : Bool) → unmarked_in new + one_if b ≤ unmarked_in old → (b ≡ false → IsDone p new 0) → Swept p old new b
swept p old new true less done = omega (arith, less)
swept p old new false less done = done refl

-- ---- the table of all

complete : (p : Program) (rows : List (List Bool)) → IsDone p rows 0 → (k x : ℕ) → x < p.max_locals → Live p k x → MarkedAt rows k x
complete p rows done k x low (read _ _ a at r) = done k (omega arith) a at x low (inl r)
complete p rows done k x low (later _ _ a j at w among l) = done k (omega arith) a at x low (inr (w, record { place = j; among = among; there = complete p rows done j x low l }))

pub know_live : (p : Program) (rows : List (List Bool)) → IsTable p rows → IsDone p rows 0 → KnowLive p rows
know_live p rows table done = record { table = table; complete = complete p rows done }

row_of_none : (n : ℕ) (none : List Bool) (k : ℕ) (row : List Bool) → slice_get (replicate n none) k ≡ Some row → row ≡ none
row_of_none zero none k row e = no_some row e
row_of_none (suc n) none zero row e = sym (some_of _ _ e)
row_of_none (suc n) none (suc k) row e = row_of_none n none k row e

pub table_none : (p : Program) (rows : List (List Bool)) → rows ≡ replicate (length p.actions) (replicate p.max_locals false) → IsTable p rows
table_none p rows e = subst (IsTable p) (sym e) (record {
  long = length-replicate (length p.actions) (replicate p.max_locals false);
  wide = λ k row at. ap length (row_of_none (length p.actions) (replicate p.max_locals false) k row at) ∙ length-replicate {A = Bool} p.max_locals false;
  sound = λ k x m. absurd (no_marks p.max_locals x (subst (λ (r : List Bool). IsMarked r x) (row_of_none (length p.actions) (replicate p.max_locals false) k m.row m.there) m.marked));
})
