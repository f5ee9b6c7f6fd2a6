-- What a block writes, action by action.
use Rattle.std.proofs.Common.{◌≡◌, ℕ, zero, suc, ◌+◌, ◌<◌, ◌≤◌, Bool, true, false, List, [], ◌∷◌, length, map, replicate, get_or, Option, Some, None, slice_get, slice_set, ◌⊎◌, inl, inr, refl, sym, ap, ◌∙◌, subst, arith, if◌then◌else◌}
use Rattle.pv_layout.proofs.Words.{◌||◌, ◌&&◌, ◌==◌, not, nat_lt, option_map, unwrap_or, cases_eq, ltb-true, eqb-true, eqb-false, or_right, get_or-set_same, get_or-set_other, length-map, length-replicate, length-set, ◌>>=◌, Sym, JType, Sort, Action, Program, Frame, is_wide, last_local, popped, moved, has_room, first_cleared, set_local, takes, some_of, if_some, popped_sorts, Held, cell_sort, local_cell, increased_cell, unset, push, with_result, local_cells, held_at, acted_on, acted, local_slot, acted_along, holds_wide, writes_local, writes_heap, writes, writes_along, mapped, bound, turns_local, Walk, Knows, Stores, IsOther, Acts, Walked}
use Rattle.pv_frame.specs.declared.sort.Sort.TheVariants as sort
use Rattle.pv_frame.specs.declared.action.Action.TheVariants as act
use Rattle.pv_frame.specs.Programs.{IsAt}
use Rattle.pv_runs.specs.Held.{Cell}
use Rattle.pv_layout.proofs.Storing.{store_changes, changed, replaced, not_replaced}

-- ---- what an action does to the locals

-- a store and an increase change them
abbrev pub Leaves : Action → List Cell → List Cell → Type 0
Leaves (act.Store s k) old new = (c : Cell) × (c.sort ≡ s) × (k < length old) × (new ≡ set_local cell_sort unset k c old)
Leaves (act.Increase k by) old new = (c : Cell) × (is_wide c.sort ≡ false) × (new ≡ slice_set old k c)
Leaves a old new = new ≡ old

room_of : (s : Sort) (k n : ℕ) → nat_lt (last_local s k) n ≡ true → k < n
room_of s k n e = let lt = ltb-true (last_local s k) n e in elim (is_wide s) as (λ b. (if b then suc k else k) < n → k < n) [ true ↦ λ lt. omega arith | false ↦ λ lt. lt ] lt

result_locals : (h : Held) (f : Sym) (cells : List Cell) (r : Option JType) → (with_result h f cells r).locals ≡ h.locals
result_locals h f cells None = refl
result_locals h f cells (Some t) = refl

locals_of : (f g : Held) → f ≡ g → g.locals ≡ f.locals
locals_of f g e = ap (λ (h : Held). h.locals) (sym e)

leaves : (a : Action) (h g : Held) (cells : List Cell) → map cell_sort cells ≡ takes a → acted_on a h cells ≡ Some g → Leaves a h.locals g.locals
leaves act.Nop h g cells t e = (locals_of h g (some_of _ _ e))
leaves (act.Push n) h g cells t e = (locals_of _ g (some_of _ _ e))
leaves (act.Literal text) h g cells t e = (locals_of _ g (some_of _ _ e))
leaves (act.Load s k) h g cells t e = (locals_of _ g (mapped (λ (c : Cell). push h s c.part) (local_cell h k s) g e).2)
leaves (act.Store s k) h g (c ∷ []) t e =
    let q = if_some (has_room c.sort k h.locals) (record h { locals = set_local cell_sort unset k c h.locals }) g e in
    (c, (let z : c.sort ∷ [] ≡ s ∷ [] = t in cc), room_of c.sort k (length h.locals) q.0, locals_of _ g q.1)
leaves (act.Increase k by) h g cells t e =
    let q = mapped (λ (c : Cell). record h { locals = slice_set h.locals k (increased_cell by c) }) (local_cell h k sort.Int) g e in
    (increased_cell by q.0, refl, locals_of _ g q.2)
leaves (act.Move m) h g cells t e = (locals_of _ g (mapped (λ (stack : List Cell). record h { stack = stack }) (moved cell_sort m h.stack) g e).2)
leaves (act.Scalar o) h g cells t e = (locals_of _ g (some_of _ _ e))
leaves (act.Divide o) h g cells t e = (locals_of _ g (some_of _ _ e))
leaves (act.Branch b target) h g cells t e = (locals_of _ g (some_of _ _ e))
leaves (act.Jump target) h g cells t e = (locals_of _ g (some_of _ _ e))
leaves (act.Switch default cases) h g cells t e = (locals_of _ g (some_of _ _ e))
leaves (act.GetStatic u f) h g cells t e = (locals_of _ g (some_of _ _ e))
leaves (act.PutStatic u f) h g cells t e = (locals_of _ g (some_of _ _ e))
leaves (act.GetField u f) h g cells t e = (locals_of _ g (some_of _ _ e))
leaves (act.PutField u f) h g cells t e = (locals_of _ g (some_of _ _ e))
leaves (act.LoadElement k) h g cells t e = (locals_of _ g (some_of _ _ e))
leaves (act.StoreElement k) h g cells t e = (locals_of _ g (some_of _ _ e))
leaves act.StoreRef h g cells t e = (locals_of _ g (some_of _ _ e))
leaves (act.Cast class) h g (o ∷ []) t e = (locals_of _ g (some_of _ _ e))
leaves (act.InstanceOf class) h g (o ∷ []) t e = (locals_of _ g (some_of _ _ e))
leaves act.Length h g cells t e = (locals_of _ g (some_of _ _ e))
leaves (act.Call d f) h g cells t e = (locals_of _ g (some_of _ _ e) ∙ result_locals h f cells d.result)
leaves (act.CallOn d f) h g cells t e = (locals_of _ g (some_of _ _ e) ∙ result_locals h f cells d.result)
leaves a h g cells t e = absurd (cc)

acted_leaves : (a : Action) (h g : Held) → acted a h ≡ Some g → Leaves a h.locals g.locals
acted_leaves a h g e =
    let b = bound (popped cell_sort (takes a) h.stack) (λ x. acted_on a (record h { stack = x.1 }) x.0) g e in
    leaves a (record h { stack = b.0.1 }) g b.0.0 (popped_sorts cell_sort (takes a) h.stack b.0 b.1) b.2

-- ---- the walk

pub none_marked : (n k : ℕ) → get_or (replicate n false) k false ≡ false
none_marked zero k = refl
none_marked (suc n) zero = refl
none_marked (suc n) (suc k) = none_marked n k

or_false : (b : Bool) → (b || false) ≡ b
or_false true = refl
or_false false = refl

set_length : (k : ℕ) (c : Cell) (locals : List Cell) → length (set_local cell_sort unset k c locals) ≡ length locals
set_length k c [] = refl
set_length zero c (a ∷ locals) = elim (is_wide c.sort) as (λ b. suc (length (if b then first_cleared unset locals else locals)) ≡ suc (length locals)) [ true ↦ ap suc (cleared locals) | false ↦ refl ]
  where
    cleared : (locals : List Cell) → length (first_cleared unset locals) ≡ length locals
    cleared [] = refl
    cleared (b ∷ locals) = refl
set_length (suc zero) c (a ∷ locals) = ap suc (set_length zero c locals)
set_length (suc (suc k)) c (a ∷ locals) = ap suc (set_length (suc k) c locals)

-- a store
pub acts_store : (s : Sort) (k : ℕ) (old new : Walk) → Stores k (is_wide s) old new → Acts (act.Store s k) old new
acts_store s k old new st = record {
  size = st.size;
  wide = λ h g knows e. let l = acted_leaves (act.Store s k) h g e in knows_after h g knows l.0 l.1 l.2 l.3;
  even = st.even;
  written = λ h knows j low. st.written j low ∙ ap (λ (b : Bool). get_or old.written.items j false || ((j == k) || (is_wide s && (j == suc k)) || (b && (suc j == k)))) (knows.each j low);
}
  where
    knows_after : (h g : Held) → Knows h old.wide.items → (c : Cell) → c.sort ≡ s → k < length h.locals → g.locals ≡ set_local cell_sort unset k c h.locals → Knows g new.wide.items
    knows_after h g knows c sort low is = record {
      size = st.size ∙ knows.size ∙ sym (set_length k c h.locals) ∙ sym (ap length is);
      each = λ j less.
          let here : j < length old.wide.items = subst (λ (n : ℕ). j < n) st.size less in
          st.wide j here
          ∙ ap (λ (b : Bool). if j == k then is_wide s else (b && not ((j == k) || (is_wide s && (j == suc k)) || (b && (suc j == k))))) (knows.each j here)
          ∙ ap (λ (t : Sort). if j == k then is_wide t else (holds_wide h.locals j && not ((j == k) || (is_wide t && (j == suc k)) || (holds_wide h.locals j && (suc j == k))))) (sym sort)
          ∙ sym (changed (holds_wide h.locals) (holds_wide (set_local cell_sort unset k c h.locals)) k (is_wide c.sort) j (store_changes k c h.locals j low))
          ∙ ap (λ (cells : List Cell). holds_wide cells j) (sym is);
    }

-- an increase
pub acts_increase : (k : ℕ) (by : _) (old new : Walk) → length old.wide.items ≡ length old.written.items → new.wide.items ≡ slice_set old.wide.items k false → new.written.items ≡ slice_set old.written.items k true → Acts (act.Increase k by) old new
acts_increase k by old new even wides marks = record {
  size = size;
  wide = λ h g knows e. let l = acted_leaves (act.Increase k by) h g e in knows_after h g knows l.0 l.1 l.2;
  even = size ∙ even ∙ sym (ap length marks ∙ length-set old.written.items k true);
  written = λ h knows j low. ap (λ (xs : List Bool). get_or xs j false) marks ∙ marked_at j (subst (λ (n : ℕ). j < n) even low);
}
  where
    size : length new.wide.items ≡ length old.wide.items
    size = ap length wides ∙ length-set old.wide.items k false

    marked_at : (j : ℕ) → j < length old.written.items → get_or (slice_set old.written.items k true) j false ≡ (get_or old.written.items j false || (j == k))
    marked_at j low = elim (j == k) as (λ b. (j == k) ≡ b → get_or (slice_set old.written.items k true) j false ≡ (get_or old.written.items j false || b)) [
      | true ↦ λ e.
          let same : j ≡ k = eqb-true j k e in
          subst (λ (i : ℕ). get_or (slice_set old.written.items i true) j false ≡ true) same (get_or-set_same old.written.items j true false low) ∙ sym (or_right (get_or old.written.items j false) true refl)
      | false ↦ λ e. get_or-set_other old.written.items k j true false (eqb-false j k e) ∙ sym (or_false (get_or old.written.items j false))
    ] refl

    knows_after : (h g : Held) → Knows h old.wide.items → (c : Cell) → is_wide c.sort ≡ false → g.locals ≡ slice_set h.locals k c → Knows g new.wide.items
    knows_after h g knows c narrow is = record {
      size = size ∙ knows.size ∙ sym (ap length is ∙ length-set h.locals k c);
      each = λ j less.
          let low : j < length old.wide.items = subst (λ (n : ℕ). j < n) size less in
          ap (λ (xs : List Bool). get_or xs j false) wides ∙ each j low (cases_eq j k) ∙ ap (λ (cells : List Cell). holds_wide cells j) (sym is);
    }
      where
        each : (j : ℕ) → j < length old.wide.items → (j ≡ k) ⊎ ((j ≡ k) → ⊥) → get_or (slice_set old.wide.items k false) j false ≡ holds_wide (slice_set h.locals k c) j
        each j low (inl e) =
            subst (λ (i : ℕ). get_or (slice_set old.wide.items i false) j false ≡ holds_wide (slice_set h.locals i c) j) e
            (get_or-set_same old.wide.items j false false low ∙ sym (replaced h.locals j c (subst (λ (n : ℕ). j < n) knows.size low) ∙ narrow))
        each j low (inr away) = get_or-set_other old.wide.items k j false false away ∙ knows.each j low ∙ sym (not_replaced h.locals k c j away)

-- an action that changes no local
unchanged : (a : Action) → IsOther a → (old new : List Cell) → Leaves a old new → new ≡ old
unchanged (act.Store s k) other old new l = absurd other
unchanged (act.Increase k by) other old new l = absurd other
unchanged a other old new l = l

unwritten : (a : Action) → IsOther a → (cells : List Cell) (j : ℕ) → writes_local cells a j ≡ false
unwritten (act.Store s k) other cells j = absurd other
unwritten (act.Increase k by) other cells j = absurd other
unwritten a other cells j = refl

pub acts_other : (a : Action) (w : Walk) → IsOther a → length w.wide.items ≡ length w.written.items → Acts a w w
acts_other a w other even = record {
  size = refl;
  even = even;
  wide = λ h g knows e.
      let same : g.locals ≡ h.locals = unchanged a other h.locals g.locals (acted_leaves a h g e) in
      record { size = knows.size ∙ sym (ap length same); each = λ j low. knows.each j low ∙ ap (λ (cells : List Cell). holds_wide cells j) (sym same) };
  written = λ h knows j low. sym (ap (λ (b : Bool). get_or w.written.items j false || b) (unwritten a other h.locals j) ∙ or_false (get_or w.written.items j false));
}

-- ---- along a block

pub writes_at_local : (h : Held) (a : Action) (k : ℕ) → writes h a (local_slot k) ≡ writes_local h.locals a k
writes_at_local h a k = turns_local (writes_local h.locals a) (λ j. false) k

or_assoc : (a b c : Bool) → (a || (b || c)) ≡ ((a || b) || c)
or_assoc true b c = refl
or_assoc false b c = refl

module _ (p : Program) where
  one_more : (o : Option Held) → (o >>= λ g. acted_along p zero 0 g) ≡ o
  one_more None = refl
  one_more (Some g) = refl

  -- one action more
  along_more : (n k place : ℕ) (h g : Held) (a : Action) → place ≡ k + n → acted_along p n k h ≡ Some g → IsAt p place a → acted_along p (suc n) k h ≡ acted a g
  along_more zero k place h g a here e at =
      let at_k : IsAt p k a = subst (λ (i : ℕ). IsAt p i a) (let q : place ≡ k = omega arith in q) at in
      ap (λ (o : Option Action). o >>= λ a. acted a h >>= λ g. acted_along p zero (suc k) g) at_k ∙ one_more (acted a h) ∙ ap (acted a) (some_of h g e)
  along_more (suc n) k place h g a here e at =
      let x = bound (slice_get p.actions k) (λ a. acted a h >>= λ g. acted_along p n (suc k) g) g e in
      let y = bound (acted x.0 h) (λ g. acted_along p n (suc k) g) g x.2 in
      ap (λ (o : Option Action). o >>= λ a. acted a h >>= λ g. acted_along p (suc n) (suc k) g) x.1 ∙ ap (λ (o : Option Held). o >>= λ g. acted_along p (suc n) (suc k) g) y.1
      ∙ along_more n (suc k) place y.0 g a (omega arith) y.2 at

  none_after : (o : Option Held) (k s : ℕ) → unwrap_or (option_map (λ g. writes_along p zero k g s) o) false ≡ false
  none_after None k s = refl
  none_after (Some g) k s = refl

  writes_more : (n k place : ℕ) (h g : Held) (a : Action) (s : ℕ) → place ≡ k + n → acted_along p n k h ≡ Some g → IsAt p place a → writes_along p (suc n) k h s ≡ (writes_along p n k h s || writes g a s)
  writes_more zero k place h g a s here e at =
      let at_k : IsAt p k a = subst (λ (i : ℕ). IsAt p i a) (let q : place ≡ k = omega arith in q) at in
      ap (λ (o : Option Action). unwrap_or (option_map (λ a. writes h a s || unwrap_or (option_map (λ g. writes_along p zero (suc k) g s) (acted a h)) false) o) false) at_k
      ∙ ap (λ (b : Bool). writes h a s || b) (none_after (acted a h) (suc k) s) ∙ or_false (writes h a s) ∙ ap (λ (h : Held). writes h a s) (some_of h g e)
  writes_more (suc n) k place h g a s here e at =
      let x = bound (slice_get p.actions k) (λ a. acted a h >>= λ g. acted_along p n (suc k) g) g e in
      let y = bound (acted x.0 h) (λ g. acted_along p n (suc k) g) g x.2 in
      let along : (m : ℕ) → writes_along p (suc m) k h s ≡ (writes h x.0 s || writes_along p m (suc k) y.0 s) =
      λ m. ap (λ (o : Option Action). unwrap_or (option_map (λ a. writes h a s || unwrap_or (option_map (λ g. writes_along p m (suc k) g s) (acted a h)) false) o) false) x.1
      ∙ ap (λ (o : Option Held). writes h x.0 s || unwrap_or (option_map (λ g. writes_along p m (suc k) g s) o) false) y.1 in
      along (suc n) ∙ ap (λ (b : Bool). writes h x.0 s || b) (writes_more n (suc k) place y.0 g a s (omega arith) y.2 at)
      ∙ or_assoc (writes h x.0 s) (writes_along p n (suc k) y.0 s) (writes g a s) ∙ ap (λ (b : Bool). b || writes g a s) (sym (along n))

  -- what is held on the way to what is held
  pub along_before : (n m k : ℕ) (h last : Held) → n ≤ m → acted_along p m k h ≡ Some last → (g : Held) × (acted_along p n k h ≡ Some g)
  along_before zero m k h last le e = (h, refl)
  along_before (suc n) zero k h last le e = absurd (omega arith)
  along_before (suc n) (suc m) k h last le e =
      let x = bound (slice_get p.actions k) (λ a. acted a h >>= λ g. acted_along p m (suc k) g) last e in
      let y = bound (acted x.0 h) (λ g. acted_along p m (suc k) g) last x.2 in
      let q = along_before n m (suc k) y.0 last (omega arith) y.2 in
      (q.0, ap (λ (o : Option Action). o >>= λ a. acted a h >>= λ g. acted_along p n (suc k) g) x.1 ∙ ap (λ (o : Option Held). o >>= λ g. acted_along p n (suc k) g) y.1 ∙ q.1)

  -- the walk comes over one action more
  pub walked_more : (h g : Held) (first n place : ℕ) (a : Action) (heap : Bool) (old new : Walk) → place ≡ first + n → acted_along p n first h ≡ Some g → IsAt p place a → Acts a old new → Walked p h first n heap old
      → Walked p h first (suc n) (heap || writes_heap a) new
  walked_more h g first n place a heap old new here e at acts walked = record {
    size = acts.size ∙ walked.size;
    knows = λ f is. acts.wide g f (walked.knows g e) (sym (along_more n first place h g a here e at) ∙ is);
    marks = record {
      heap = ap (λ (b : Bool). b || writes g a 3) walked.marks.heap ∙ sym (writes_more n first place h g a 3 here e at);
      size = sym acts.even ∙ acts.size ∙ walked.size;
      locals = λ k low.
          acts.written g (walked.knows g e) k (subst (λ (n : ℕ). k < n) (sym walked.size) low)
          ∙ ap (λ (b : Bool). b || writes_local g.locals a k) (walked.marks.locals k low) ∙ ap (λ (b : Bool). writes_along p n first h (local_slot k) || b) (sym (writes_at_local g a k))
          ∙ sym (writes_more n first place h g a (local_slot k) here e at);
    };
  }

-- where a block begins
cells_long : (k : ℕ) (sorts : List Sort) → length (local_cells k sorts) ≡ length sorts
cells_long k [] = refl
cells_long k (s ∷ sorts) = ap suc (cells_long (suc k) sorts)

cells_wide : (i : ℕ) (sorts : List Sort) (k : ℕ) → get_or (map is_wide sorts) k false ≡ holds_wide (local_cells i sorts) k
cells_wide i [] k = refl
cells_wide i (s ∷ sorts) zero = refl
cells_wide i (s ∷ sorts) (suc k) = cells_wide (suc i) sorts k

pub knows_first : (f : Frame) (wide : List Bool) → wide ≡ map is_wide f.locals → Knows (held_at f) wide
knows_first f wide e = record {
  size = ap length e ∙ length-map f.locals is_wide ∙ sym (cells_long 0 f.locals);
  each = λ k low. ap (λ (xs : List Bool). get_or xs k false) e ∙ cells_wide 0 f.locals k;
}

pub walked_none : (p : Program) (f : Frame) (first : ℕ) (w : Walk) → length f.locals ≡ p.max_locals → Knows (held_at f) w.wide.items → w.written.items ≡ replicate (length f.locals) false → Walked p (held_at f) first 0 false w
walked_none p f first w long knows none = record {
  size = knows.size ∙ cells_long 0 f.locals ∙ long;
  knows = λ g e. subst (λ (h : Held). Knows h w.wide.items) (some_of (held_at f) g e) knows;
  marks = record { heap = refl; size = ap length none ∙ length-replicate (length f.locals) false ∙ long; locals = λ k low. ap (λ (xs : List Bool). get_or xs k false) none ∙ none_marked (length f.locals) k };
}
