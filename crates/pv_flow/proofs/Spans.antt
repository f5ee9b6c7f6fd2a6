-- Spans: an instruction inside goes on to the next alone, and all are reached once the first is.
use Rattle.std.proofs.Common.{◌≡◌, ℕ, zero, suc, ◌+◌, ◌<◌, ◌≤◌, Bool, true, false, List, [], ◌∷◌, length, Option, Some, refl, sym, subst, inl, inr, arith}
use Rattle.std.specs.Prelude.{◌⊎◌, slice_get, Contains}
use Rattle.std.proofs.lemmas.Bool.{cases_lt}
use Rattle.std.proofs.lemmas.Option.{slice_get_within}
use Rattle.pv_list.proofs.Cited.{found}
use Rattle.pv_frame.specs.declared.action.Action.{Action}
use Rattle.pv_frame.specs.declared.frame.Frame.{Frame}
use Rattle.pv_frame.specs.declared.program.Program.{Program}
use Rattle.pv_frame.specs.Effects.{successors}
use Rattle.pv_frame.specs.Programs.{IsAt}
use Rattle.pv_frame.specs.Frames as frames
use Rattle.pv_frame.specs.Frames.{IsFrameAt, Reached, AreFrames}
use Rattle.pv_frame.proofs.Cited.{reached_frame, contains_first}
use Rattle.pv_flow.specs.Exits.{Goes, departures, ends_block}
use Rattle.pv_flow.specs.Blocks.{Begins, IsSpan}
use Rattle.pv_flow.specs.Blocks as blocks
use Rattle.pv_flow.specs.Finding.{AreBegins, IsHead, IsLast, HasLast}
use Rattle.pv_flow.proofs.Departing.{goes_on}

-- ---- an instruction before a place where no block begins

ends_none : (p : Program) (k : ℕ) (a : Action) (b : Bool) → IsAt p k a → (Begins p (suc k) → ⊥) → ends_block a ≡ b → ends_block a ≡ false
ends_none p k a true at none e = absurd (none (blocks.next k a at e))
ends_none p k a false at none e = e

pub before_no_begin : (p : Program) (k : ℕ) (a : Action) → IsAt p k a → (Begins p (suc k) → ⊥) → (successors k a ≡ suc k ∷ []) × (departures k a ≡ Goes (suc k) ∷ [])
before_no_begin p k a at none = goes_on k a (ends_none p k a (ends_block a) at none refl)

pub next_reached : (p : Program) (k : ℕ) (a : Action) → Reached p k → IsAt p k a → (Begins p (suc k) → ⊥) → Reached p (suc k)
next_reached p k a reached at none =
    frames.next k (suc k) a reached at (subst (λ (l : List ℕ). Contains l (suc k)) (sym (before_no_begin p k a at none).0) (contains_first (suc k) []))

-- ---- spans

module _ (p : Program) (first last : ℕ) (span : IsSpan p first last) (action : Action) (ends : IsAt p last action) where
  pub inside_at : (k : ℕ) → k ≤ last → (a : Action) × IsAt p k a
  inside_at k le = let within = slice_get_within p.actions last action ends in found p.actions k (omega arith)

  pub inside_reached : Reached p first → (k : ℕ) → first ≤ k → k ≤ last → Reached p k
  inside_reached reached zero le in_span = let e : first ≡ 0 = omega arith in subst (Reached p) e reached
  inside_reached reached (suc k) le in_span = elim (cases_lt k first) [
    | inl less ↦ let e : first ≡ suc k = omega arith in subst (Reached p) e reached
    | inr ge ↦
        let here = inside_at k (omega arith) in
        next_reached p k here.0 (inside_reached reached k ge (omega arith)) here.1 (span.whole (suc k) (omega arith) in_span)
  ]

-- ---- spans by marks

module _ (p : Program) (begins : List Bool) (marks : AreBegins p begins) where
  pub last_within : (first last : ℕ) → IsLast begins first last → last < length p.actions
  last_within first last is = let within = slice_get_within begins (suc last) true is.next in omega (arith, marks.one_each)

  pub last_span : (first last : ℕ) → slice_get begins first ≡ Some true → IsLast begins first last → IsSpan p first last
  last_span first last here is =
      let within = slice_get_within begins (suc last) true is.next in
      record {
        begins = marks.sound first here;
        some = is.some;
        whole = λ k lt le begin. is.whole k lt le (marks.all k begin (omega arith));
        next = marks.sound (suc last) is.next;
      }

  marked_or_not : (marks : List Bool) (k : ℕ) → (slice_get marks k ≡ Some true) ⊎ (slice_get marks k ≡ Some true → ⊥)
  marked_or_not [] k = inr (λ e. absurd (cc))
  marked_or_not (true ∷ marks) zero = inl refl
  marked_or_not (false ∷ marks) zero = inr (λ e. absurd (cc))
  marked_or_not (b ∷ marks) (suc k) = marked_or_not marks k

  module _ (fs : List (Option Frame)) (well_typed : AreFrames p fs) where
    frame_within : (k : ℕ) (f : Frame) → IsFrameAt fs k f → k < length p.actions
    frame_within k f at = let within = slice_get_within fs k (Some f) at in omega (arith, well_typed.one_each)

    -- no block begins after the first place up to this one, which is reached; this number of places is left
    last_from : (left first k : ℕ) → length p.actions ≤ k + left → first ≤ k → Reached p k → ((j : ℕ) → first < j → j ≤ k → slice_get begins j ≡ Some true → ⊥) → HasLast begins first
    last_from zero first k room le reached none = let f = reached_frame p fs well_typed.agrees k reached in absurd (omega (arith, frame_within k f.0 f.1))
    last_from (suc left) first k room le reached none = elim (marked_or_not begins (suc k)) [
      | inl marked ↦ (k, record { some = le; next = marked; whole = none })
      | inr unmarked ↦
          let f = reached_frame p fs well_typed.agrees k reached in
          let within = frame_within k f.0 f.1 in
          let here = found p.actions k within in
          let begins_not = λ (b : Begins p (suc k)). unmarked (marks.all (suc k) b (omega (arith, marks.one_each))) in
          last_from left first (suc k) (omega arith) (omega arith) (next_reached p k here.0 reached here.1 begins_not)
          (λ j lt le' marked. elim (cases_lt k j) [
            | inl more ↦ let e : j ≡ suc k = omega arith in unmarked (subst (λ (i : ℕ). slice_get begins i ≡ Some true) e marked)
            | inr less ↦ none j lt less marked
          ])
    ]

    pub has_last : (first : ℕ) → IsHead begins fs first → HasLast begins first
    has_last first head =
        last_from (length p.actions) first first (omega arith) (omega arith) (well_typed.reached first head.frame head.there) (λ j lt le marked. absurd (omega arith))

    -- the last instruction of a block that is reached leads to places that have frames
    pub last_goes_below : (n first last : ℕ) (a : Action) → n ≡ length fs → IsHead begins fs first → IsLast begins first last → IsAt p last a → ((j : ℕ) → Contains (successors last a) j → j < n)
    last_goes_below n first last a e head is at j among =
        let span = last_span first last head.begin is in
        let reached = inside_reached p first last span a at (well_typed.reached first head.frame head.there) last is.some (omega arith) in
        let f = reached_frame p fs well_typed.agrees j (frames.next last j a reached at among) in
        let within = slice_get_within fs j (Some f.0) f.1 in
        omega arith
