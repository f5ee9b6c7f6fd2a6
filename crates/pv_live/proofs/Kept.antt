-- Frames with the locals that are marked, and that they are what is needed.
use Rattle.std.proofs.Common.{◌≡◌, ℕ, zero, suc, ◌-◌, ◌≤◌, ◌<◌, Bool, true, false, List, [], ◌∷◌, ◌++◌, length, get_or, replicate, Option, Some, None, refl, sym, ap, ◌∙◌, subst, inl, inr, arith, length-append}
use Rattle.std.specs.Prelude.{slice_get, option_map, if◌then◌else◌, Contains}
use Rattle.std.proofs.lemmas.List.{length-replicate}
use Rattle.std.proofs.lemmas.Option.{slice_get_within, slice_get-get_or, get_or_from_slice_get, slice_get_read}
use Rattle.std.proofs.lemmas.Slice.Zip.{AllZip-long}
use Rattle.pv_list.proofs.Cited.{found}
use Rattle.pv_pool.specs.Readers.{◌>>=◌}
use Rattle.pv_frame.specs.declared.sort.Sort.{Sort}
use Rattle.pv_frame.specs.declared.sort.Sort.TheVariants as sort
use Rattle.pv_frame.specs.declared.action.Action.{Action}
use Rattle.pv_frame.specs.declared.action.Action.TheVariants as act
use Rattle.pv_frame.specs.declared.program.Program.{Program}
use Rattle.pv_frame.specs.declared.frame.Frame.{Frame}
use Rattle.pv_frame.specs.Stacks.{is_wide, popped, moved, has_room, first_cleared, set_local}
use Rattle.pv_frame.specs.Effects.{takes, gives, successors}
use Rattle.pv_frame.specs.Frames.{same, holds, pushed, padded_sorts, passed_to, entry_frame, frame_done, frame_after, IsFrameAt, LeadsTo, Agrees, Reached, first, next, IsInferred}
use Rattle.pv_frame.proofs.Cited.{Less, some_of, no_some, if_some, framed, all_contains, typed_goes, leads_nowhere, reached_frame, contains_none}
use Rattle.pv_live.specs.Needed.{IsNeededAt, AreNeeded}
use Rattle.pv_live.specs.Marks.{IsMarked, KnowLive, AreKept, IsKeptOption, AreKeptFrames, HasLocals, Match}
use Rattle.pv_live.proofs.Rows.{each_push}

-- ---- the frames of a method have its number of locals

first_cleared_length : (l : List Sort) → length (first_cleared sort.Unknown l) ≡ length l
first_cleared_length [] = refl
first_cleared_length (s ∷ l) = refl

set_local_length : (k : ℕ) (s : Sort) (l : List Sort) → length (set_local same sort.Unknown k s l) ≡ length l
set_local_length k s [] = refl
set_local_length zero s (a ∷ l) = elim (is_wide s) as (λ b. suc (length (if b then first_cleared sort.Unknown l else l)) ≡ suc (length l)) [ true ↦ ap suc (first_cleared_length l) | false ↦ refl ]
set_local_length (suc zero) s (a ∷ l) = ap suc (set_local_length zero s l)
set_local_length (suc (suc k)) s (a ∷ l) = ap suc (set_local_length (suc k) s l)

locals_of : (f h : Frame) → f ≡ h → length h.locals ≡ length f.locals
locals_of f h e = ap (λ (x : Frame). length x.locals) (sym e)

done_locals : (a : Action) (stack l : List Sort) (h : Frame) → frame_done a (framed stack l) ≡ Some h → length h.locals ≡ length l
done_locals (act.Load s k) stack l h e = let found = if_some (holds (slice_get l k) s) (framed (s ∷ stack) l) h e in locals_of (framed (s ∷ stack) l) h found.1
done_locals (act.Store s k) stack l h e =
    let found = if_some (has_room s k l) (framed stack (set_local same sort.Unknown k s l)) h e in
    locals_of (framed stack (set_local same sort.Unknown k s l)) h found.1 ∙ set_local_length k s l
done_locals (act.Increase k n) stack l h e = let found = if_some (holds (slice_get l k) sort.Int) (framed stack l) h e in locals_of (framed stack l) h found.1
done_locals (act.Move mv) stack l h e =
    elim (moved same mv stack) as (λ o. option_map (λ (st : List Sort). framed st l) o ≡ Some h → length h.locals ≡ length l) [
      | None ↦ λ e. no_some h e
      | Some st ↦ λ e. locals_of (framed st l) h (some_of _ _ e)
    ] e
done_locals (act.Give s) stack l h e = no_some h e
done_locals act.Throw stack l h e = no_some h e
done_locals a stack l h e = locals_of (pushed (gives a) (framed stack l)) h (some_of _ _ e)

after_locals : (a : Action) (f h : Frame) → frame_after a f ≡ Some h → length h.locals ≡ length f.locals
after_locals a f h e =
    elim (popped same (takes a) f.stack) as (λ o. (o >>= λ x. frame_done a (framed x.1 f.locals)) ≡ Some h → length h.locals ≡ length f.locals) [
      | None ↦ λ e. no_some h e
      | Some q ↦ λ e. done_locals a q.1 f.locals h e
    ] e

padded_length : (n : ℕ) (sorts : List Sort) → length sorts ≤ n → length (padded_sorts n sorts) ≡ n
padded_length n sorts fits = omega (arith, length-append sorts (replicate (n - length sorts) sort.Unknown), length-replicate (n - length sorts) sort.Unknown)

not_in_none : (xs : List ℕ) (j : ℕ) → xs ≡ [] → Contains xs j → ⊥
not_in_none [] j e among = contains_none j among
not_in_none (x ∷ xs) j e among = absurd (cc)

-- an edge leads to a frame with as many locals
led_locals : (frames : List (Option Frame)) (h : Frame) (j : ℕ) (f : Frame) → LeadsTo frames h j → IsFrameAt frames j f → length f.locals ≡ length h.locals
led_locals frames h j f leads at =
    let one : leads.target ≡ f = some_of _ _ (some_of _ _ (sym leads.there ∙ at)) in
    locals_of leads.target f one ∙ AllZip-long Less h.locals leads.target.locals leads.flows.locals

have_locals : (p : Program) (frames : List (Option Frame)) → Agrees p frames → (k : ℕ) → Reached p k → (f : Frame) → IsFrameAt frames k f → length f.locals ≡ p.max_locals
have_locals p frames agrees k first f at = led_locals frames (entry_frame p) 0 f agrees.entry at ∙ padded_length p.max_locals (passed_to p) agrees.passed
have_locals p frames agrees k (next i j a reached is among) f at =
    let source = reached_frame p frames agrees i reached in
    elim (typed_goes p frames i source.0 a is (agrees.each i source.0 source.1)) [
      | inl leaves ↦ absurd (not_in_none (successors i a) j (leads_nowhere p i a leaves.0) among)
      | inr on ↦
          let edge = all_contains (LeadsTo frames on.after) (successors i a) j on.edges among.0 among.1 among.2 in
          led_locals frames on.after j f edge at ∙ after_locals a source.0 on.after on.is ∙ have_locals p frames agrees i reached source.0 source.1
    ]

pub rows_match : (p : Program) (rows seen : List (List Bool)) (frames held : List (Option Frame)) → seen ≡ rows → held ≡ frames → KnowLive p rows → IsInferred p frames → Match seen held
rows_match p rows seen frames held e d know is = subst (λ (r : List (List Bool)). Match r held) (sym e) (subst (Match rows) (sym d) (record {
  long = know.table.long ∙ sym is.well_typed.one_each;
  wide = wide;
}))
  where
    wide : (k : ℕ) (row : List Bool) (f : Option Frame) → slice_get rows k ≡ Some row → slice_get frames k ≡ Some f → HasLocals (length row) f
    wide k row None there at = tt
    wide k row (Some f) there at = know.table.wide k row there ∙ sym (have_locals p frames is.well_typed.agrees k (is.well_typed.reached k f at) f at)

-- ---- locals

-- each of these sorts is kept or unknown
abbrev pub IsKept : List Bool → List Sort → ℕ → Sort → Type 0
IsKept row locals x t = (s : Sort) → slice_get locals x ≡ Some s → (IsMarked row x → t ≡ s) × ((IsMarked row x → ⊥) → t ≡ sort.Unknown)

abbrev pub AreKeptTo : List Bool → List Sort → List Sort → Type 0
AreKeptTo row locals kept = (x : ℕ) (t : Sort) → slice_get kept x ≡ Some t → IsKept row locals x t

pub kept_more : (row : List Bool) (locals kept : List Sort) (n : ℕ) (d t : Sort) → length kept ≡ n → n < length row → n < length locals → AreKeptTo row locals kept → (get_or row n false ≡ true → t ≡ get_or locals n d) → (get_or row n false ≡ false → t ≡ sort.Unknown) → AreKeptTo row locals (kept ++ t ∷ [])
kept_more row locals kept n d t size low there so marked others = each_push (IsKept row locals) kept t so (subst (λ (k : ℕ). IsKept row locals k t) (sym size) (λ s at. (
  (λ m. marked (get_or_from_slice_get row n true false m) ∙ get_or_from_slice_get locals n s d at),
  (λ un. others (unmarked (get_or row n false) refl un)),
)))
  where
    unmarked : (b : Bool) → get_or row n false ≡ b → (IsMarked row n → ⊥) → get_or row n false ≡ false
    unmarked true e un = absurd (un (slice_get-get_or row n false low ∙ ap Some e))
    unmarked false e un = e

pub kept_all : (row : List Bool) (locals kept : List Sort) → length kept ≡ length locals → AreKeptTo row locals kept → AreKept row locals kept
kept_all row locals kept size so = record {
  long = size;
  marked = λ x s t here there m. (so x t there s here).0 m;
  others = λ x s t here there un. (so x t there s here).1 un;
}

-- ---- frames

abbrev pub IsFrameTo : List (List Bool) → List (Option Frame) → ℕ → Option Frame → Type 0
IsFrameTo rows frames k g = (row : List Bool) (f : Option Frame) → slice_get rows k ≡ Some row → slice_get frames k ≡ Some f → IsKeptOption row f g

abbrev pub FramesTo : List (List Bool) → List (Option Frame) → List (Option Frame) → Type 0
FramesTo rows frames kept = (k : ℕ) (g : Option Frame) → slice_get kept k ≡ Some g → IsFrameTo rows frames k g

pub frames_more : (rows : List (List Bool)) (frames kept : List (Option Frame)) (n : ℕ) (row seen : List Bool) (f g : Option Frame) → length kept ≡ n → n < length rows → n < length frames → row ≡ get_or rows n row → f ≡ get_or frames n f → seen ≡ row
    → IsKeptOption seen f g → FramesTo rows frames kept → FramesTo rows frames (kept ++ g ∷ [])
frames_more rows frames kept n row seen f g size low less is at e by so = each_push (IsFrameTo rows frames) kept g so (subst (λ (k : ℕ). IsFrameTo rows frames k g) (sym size) (λ r h here there.
    let one : row ≡ r = some_of _ _ (sym (slice_get_read rows (length rows) n row refl low is) ∙ here) in
    let two : f ≡ h = some_of _ _ (sym (slice_get_read frames (length frames) n f refl less at) ∙ there) in
    subst (λ (h : Option Frame). IsKeptOption r h g) two (subst (λ (s : List Bool). IsKeptOption s f g) (e ∙ one) by)))

pub frames_all : (rows : List (List Bool)) (frames kept : List (Option Frame)) → length kept ≡ length frames → FramesTo rows frames kept → AreKeptFrames rows frames kept
frames_all rows frames kept size so = record { long = size; each = λ k row f g row_is here there. so k g there row f row_is here }

-- ---- what is kept is what is needed

pub are_needed : (p : Program) (rows seen : List (List Bool)) (frames held kept : List (Option Frame)) → seen ≡ rows → held ≡ frames → KnowLive p rows → IsInferred p frames → AreKeptFrames seen held kept → AreNeeded p kept
are_needed p rows seen frames held kept e d know is others = record {
  inferred = frames;
  is = is;
  long = all.long;
  each = λ k f g here there.
      let within = slice_get_within frames k f here in
      let row = found rows k (omega (arith, within, know.table.long, is.well_typed.one_each)) in
      at k f g row.0 row.1 here (all.each k row.0 f g row.1 here there);
}
  where
    all : AreKeptFrames rows frames kept
    all = subst (λ (r : List (List Bool)). AreKeptFrames r frames kept) e (subst (λ (l : List (Option Frame)). AreKeptFrames seen l kept) d others)

    at : (k : ℕ) (f g : Option Frame) (row : List Bool) → slice_get rows k ≡ Some row → slice_get frames k ≡ Some f → IsKeptOption row f g → IsNeededAt p k f g
    at k None None row there here kept = tt
    at k None (Some g) row there here kept = absurd kept
    at k (Some f) None row there here kept = absurd kept
    at k (Some f) (Some g) row there here kept =
        let long = have_locals p frames is.well_typed.agrees k (is.well_typed.reached k f here) f here in
        record {
          stack = kept.stack;
          long = kept.locals.long;
          locals = λ x s t was now. record {
            live = λ l.
                let within = slice_get_within f.locals x s was in
                let m = know.complete k x (omega (arith, within, long)) l in
                kept.locals.marked x s t was now (subst (λ (r : List Bool). IsMarked r x) (some_of _ _ (sym m.there ∙ there)) m.marked);
            dead = λ d. kept.locals.others x s t was now (λ m. d (know.table.sound k x (record { row = row; there = there; marked = m })));
          };
        }
