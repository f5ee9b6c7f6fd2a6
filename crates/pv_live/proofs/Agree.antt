-- Frames that know the live locals alone agree along every edge.
use Rattle.std.proofs.Common.{◌≡◌, ℕ, zero, suc, Bool, true, false, List, [], ◌∷◌, length, Option, Some, None, ◌∙◌, refl, ap, sym, subst, inl, inr, arith}
use Rattle.std.specs.Prelude.{◌⊎◌, slice_get, option_map, if◌then◌else◌, nat_lt, Contains}
use Rattle.std.specs.List.{AllZip}
use Rattle.std.proofs.lemmas.Option.{slice_get_within}
use Rattle.pv_list.proofs.Cited.{found}
use Rattle.pv_pool.specs.Readers.{◌>>=◌}
use Rattle.pv_frame.specs.declared.sort.Sort.{Sort}
use Rattle.pv_frame.specs.declared.sort.Sort.TheVariants as sort
use Rattle.pv_frame.specs.declared.action.Action.{Action}
use Rattle.pv_frame.specs.declared.action.Action.TheVariants as act
use Rattle.pv_frame.specs.declared.program.Program.{Program}
use Rattle.pv_frame.specs.declared.frame.Frame.{Frame}
use Rattle.pv_frame.specs.Stacks.{is_wide, popped, moved, has_room, last_local, first_cleared, set_local}
use Rattle.pv_frame.specs.Effects.{takes, gives, successors}
use Rattle.pv_frame.specs.Programs.{IsAt}
use Rattle.pv_frame.specs.Frames.{same, holds, pushed, frame_done, frame_after}
use Rattle.pv_frame.proofs.Cited.{Less, some_of, no_some, if_some, framed}
use Rattle.pv_live.specs.Live.{Writes, Live, read, later}
use Rattle.pv_live.specs.Needed.{IsNeededSort}

-- ---- sorts

-- two sorts are one, or not
pub one_sort : (s t : Sort) → (s ≡ t) ⊎ (s ≡ t → ⊥)
one_sort sort.Int sort.Int = inl refl
one_sort sort.Long sort.Long = inl refl
one_sort sort.Ref sort.Ref = inl refl
one_sort sort.Unknown sort.Unknown = inl refl
one_sort sort.Int sort.Long = inr (λ e. absurd (cc))
one_sort sort.Int sort.Ref = inr (λ e. absurd (cc))
one_sort sort.Int sort.Unknown = inr (λ e. absurd (cc))
one_sort sort.Long sort.Int = inr (λ e. absurd (cc))
one_sort sort.Long sort.Ref = inr (λ e. absurd (cc))
one_sort sort.Long sort.Unknown = inr (λ e. absurd (cc))
one_sort sort.Ref sort.Int = inr (λ e. absurd (cc))
one_sort sort.Ref sort.Long = inr (λ e. absurd (cc))
one_sort sort.Ref sort.Unknown = inr (λ e. absurd (cc))
one_sort sort.Unknown sort.Int = inr (λ e. absurd (cc))
one_sort sort.Unknown sort.Long = inr (λ e. absurd (cc))
one_sort sort.Unknown sort.Ref = inr (λ e. absurd (cc))

-- what follows where a local is live, and where it isn't, follows: whether a sort is another is decided
pub either_way : {L : Type 0} (s t : Sort) → (L → s ≡ t) → ((L → ⊥) → s ≡ t) → s ≡ t
either_way s t live dead = elim (one_sort s t) [ inl e ↦ e | inr differ ↦ dead (λ l. differ (live l)) ]

pub less_way : {L : Type 0} (s t : Sort) → (L → Less s t) → ((L → ⊥) → Less s t) → Less s t
less_way s t live dead = elim (one_sort t s) [
  | inl e ↦ inl e
  | inr differ ↦ elim (one_sort t sort.Unknown) [
    | inl e ↦ inr e
    | inr known ↦ dead (λ l. elim (live l) [ inl e ↦ differ e | inr e ↦ known e ])
  ]
]

-- what is needed of a sort is the sort or unknown
pub needed_less : (p : Program) (k x : ℕ) (s t : Sort) → IsNeededSort p k x s t → Less s t
needed_less p k x s t n = less_way {L = Live p k x} s t (λ l. inl (n.live l)) (λ d. inr (n.dead d))

-- ---- locals by their places

pub all_less : (l m : List Sort) → length l ≡ length m → ((x : ℕ) (s t : Sort) → slice_get l x ≡ Some s → slice_get m x ≡ Some t → Less s t) → AllZip Less l m
all_less [] [] long each = tt
all_less [] (t ∷ m) long each = absurd (omega arith)
all_less (s ∷ l) [] long each = absurd (omega arith)
all_less (s ∷ l) (t ∷ m) long each = (each 0 s t refl refl, all_less l m (omega arith) (λ x. each (suc x)))

pub less_at : (l m : List Sort) → AllZip Less l m → (x : ℕ) (s t : Sort) → slice_get l x ≡ Some s → slice_get m x ≡ Some t → Less s t
less_at [] m all x s t a b = no_some s a
less_at (r ∷ l) [] all x s t a b = elim all [ ]
less_at (r ∷ l) (q ∷ m) all zero s t a b = let e : r ≡ s = some_of _ _ a in let d : q ≡ t = some_of _ _ b in subst (λ (z : Sort). Less z t) e (subst (Less r) d all.0)
less_at (r ∷ l) (q ∷ m) all (suc x) s t a b = less_at l m all.1 x s t a b

-- the needed locals of a frame
abbrev pub NeededLocals : Program → ℕ → List Sort → List Sort → Type 0
NeededLocals p k l m = (x : ℕ) (s t : Sort) → slice_get l x ≡ Some s → slice_get m x ≡ Some t → IsNeededSort p k x s t

-- ---- the locals after a store

cleared_same : (l m : List Sort) → length l ≡ length m → (x : ℕ) (r t : Sort) → slice_get (first_cleared sort.Unknown l) x ≡ Some r → slice_get (first_cleared sort.Unknown m) x ≡ Some t
    → ((u v : Sort) → slice_get l x ≡ Some u → slice_get m x ≡ Some v → v ≡ u) → t ≡ r
cleared_same [] m long x r t a b each = no_some r a
cleared_same (c ∷ l) [] long x r t a b each = absurd (omega arith)
cleared_same (c ∷ l) (d ∷ m) long zero r t a b each = sym (some_of _ _ b) ∙ some_of _ _ a
cleared_same (c ∷ l) (d ∷ m) long (suc x) r t a b each = each r t a b

-- a local that isn't written itself is lost or kept, whatever its sort is
store_same : (k : ℕ) (s : Sort) (l m : List Sort) → length l ≡ length m → (x : ℕ) (r t : Sort) → slice_get (set_local same sort.Unknown k s l) x ≡ Some r → slice_get (set_local same sort.Unknown k s m) x ≡ Some t
    → ((x ≡ k → ⊥) → (u v : Sort) → slice_get l x ≡ Some u → slice_get m x ≡ Some v → v ≡ u) → t ≡ r
store_same k s [] m long x r t a b each = no_some r a
store_same k s (c ∷ l) [] long x r t a b each = absurd (omega arith)
store_same zero s (c ∷ l) (d ∷ m) long zero r t a b each = sym (some_of _ _ b) ∙ some_of _ _ a
store_same zero s (c ∷ l) (d ∷ m) long (suc x) r t a b each =
    elim (is_wide s) as (λ w. slice_get (if w then first_cleared sort.Unknown l else l) x ≡ Some r → slice_get (if w then first_cleared sort.Unknown m else m) x ≡ Some t → t ≡ r) [
      | true ↦ λ a b. cleared_same l m (omega arith) x r t a b (each (λ e. absurd (omega arith)))
      | false ↦ λ a b. each (λ e. absurd (omega arith)) r t a b
    ] a b
store_same (suc zero) s (c ∷ l) (d ∷ m) long zero r t a b each =
    let one : d ≡ c = each (λ e. absurd (omega arith)) c d refl refl in
    sym (some_of _ _ b) ∙ ap (λ (z : Sort). if is_wide z then sort.Unknown else z) one ∙ some_of _ _ a
store_same (suc zero) s (c ∷ l) (d ∷ m) long (suc x) r t a b each = store_same zero s l m (omega arith) x r t a b (λ differ. each (λ e. differ (omega arith)))
store_same (suc (suc k)) s (c ∷ l) (d ∷ m) long zero r t a b each = let one : d ≡ c = each (λ e. absurd (omega arith)) c d refl refl in sym (some_of _ _ b) ∙ one ∙ some_of _ _ a
store_same (suc (suc k)) s (c ∷ l) (d ∷ m) long (suc x) r t a b each = store_same (suc k) s l m (omega arith) x r t a b (λ differ. each (λ e. differ (omega arith)))

store_long : (k : ℕ) (s : Sort) (l m : List Sort) → length l ≡ length m → length (set_local same sort.Unknown k s l) ≡ length (set_local same sort.Unknown k s m)
store_long k s [] [] long = refl
store_long k s [] (d ∷ m) long = absurd (omega arith)
store_long k s (c ∷ l) [] long = absurd (omega arith)
store_long zero s (c ∷ l) (d ∷ m) long = elim (is_wide s) as (λ w. suc (length (if w then first_cleared sort.Unknown l else l)) ≡ suc (length (if w then first_cleared sort.Unknown m else m))) [
  | true ↦ ap suc (cleared_long l m (omega arith))
  | false ↦ long
]
  where
    cleared_long : (l m : List Sort) → length l ≡ length m → length (first_cleared sort.Unknown l) ≡ length (first_cleared sort.Unknown m)
    cleared_long [] [] long = refl
    cleared_long [] (d ∷ m) long = absurd (omega arith)
    cleared_long (c ∷ l) [] long = absurd (omega arith)
    cleared_long (c ∷ l) (d ∷ m) long = long
store_long (suc zero) s (c ∷ l) (d ∷ m) long = ap suc (store_long zero s l m (omega arith))
store_long (suc (suc k)) s (c ∷ l) (d ∷ m) long = ap suc (store_long (suc k) s l m (omega arith))

-- ---- an instruction from a frame with what is needed

-- it goes on from there as well, and a local that is live at a place to which it leads has the sort there that it had
pub record Done (p : Program) (k : ℕ) (a : Action) (o : Option Frame) (h : Frame) : Type 0 where
  pub after : Frame
  pub is : o ≡ Some after
  pub stack : after.stack ≡ h.stack
  pub long : length h.locals ≡ length after.locals
  pub live : (x : ℕ) (r t : Sort) (j : ℕ) → slice_get h.locals x ≡ Some r → slice_get after.locals x ≡ Some t → Contains (successors k a) j → Live p j x → t ≡ r

module _ (p : Program) (k : ℕ) (l m : List Sort) (long : length l ≡ length m) (needed : NeededLocals p k l m) where
  holds_needed : (x : ℕ) (s : Sort) → Live p k x → holds (slice_get l x) s ≡ true → holds (slice_get m x) s ≡ true
  holds_needed x s live h =
      elim (slice_get l x) as (λ o. slice_get l x ≡ o → holds o s ≡ true → holds (slice_get m x) s ≡ true) [
        | None ↦ λ _ h. absurd (cc)
        | Some u ↦ λ is h.
            let within = slice_get_within l x u is in
            let other = found m x (omega (arith, within)) in
            let one : other.0 ≡ u = (needed x u other.0 is other.1).live live in
            ap (λ (o : Option Sort). holds o s) (other.1 ∙ ap Some one) ∙ h
      ] refl h

  -- an instruction that stores nothing
  stays : (a : Action) (stack : List Sort) (h : Frame) → IsAt p k a → ((x : ℕ) → Writes a x → ⊥) → Some (framed stack l) ≡ Some h → Done p k a (Some (framed stack m)) h
  stays a stack h at unwritten e =
      let is : framed stack l ≡ h = some_of _ _ e in
      subst (Done p k a (Some (framed stack m))) is (record {
        after = framed stack m;
        is = refl;
        stack = refl;
        long = long;
        live = λ x r t j there here among live. (needed x r t there here).live (later k x a j at (unwritten x) among live);
      })

  done_needed : (a : Action) (stack : List Sort) (h : Frame) → IsAt p k a → frame_done a (framed stack l) ≡ Some h → Done p k a (frame_done a (framed stack m)) h
  done_needed (act.Load s n) stack h at e =
      let found = if_some (holds (slice_get l n) s) (framed (s ∷ stack) l) h e in
      let here = holds_needed n s (read k n (act.Load s n) at refl) found.0 in
      subst (λ (b : Bool). Done p k (act.Load s n) (if b then Some (framed (s ∷ stack) m) else None) h) (sym here)
      (stays (act.Load s n) (s ∷ stack) h at (λ x w. w) (ap Some found.1))
  done_needed (act.Increase n by) stack h at e =
      let found = if_some (holds (slice_get l n) sort.Int) (framed stack l) h e in
      let here = holds_needed n sort.Int (read k n (act.Increase n by) at refl) found.0 in
      subst (λ (b : Bool). Done p k (act.Increase n by) (if b then Some (framed stack m) else None) h) (sym here)
      (stays (act.Increase n by) stack h at (λ x w. w) (ap Some found.1))
  done_needed (act.Store s n) stack h at e =
      let found = if_some (has_room s n l) (framed stack (set_local same sort.Unknown n s l)) h e in
      let room : has_room s n m ≡ true = ap (nat_lt (last_local s n)) (sym long) ∙ found.0 in
      subst (λ (b : Bool). Done p k (act.Store s n) (if b then Some (framed stack (set_local same sort.Unknown n s m)) else None) h) (sym room)
      (subst (Done p k (act.Store s n) (Some (framed stack (set_local same sort.Unknown n s m)))) found.1 (record {
        after = framed stack (set_local same sort.Unknown n s m);
        is = refl;
        stack = refl;
        long = store_long n s l m long;
        live = λ x r t j there here among live. store_same n s l m long x r t there here (λ other u v a b. (needed x u v a b).live (later k x (act.Store s n) j at other among live));
      }))
  done_needed (act.Move mv) stack h at e =
      elim (moved same mv stack) as (λ o. option_map (λ (st : List Sort). framed st l) o ≡ Some h → Done p k (act.Move mv) (option_map (λ (st : List Sort). framed st m) o) h) [
        | None ↦ λ e. no_some h e
        | Some st ↦ λ e. stays (act.Move mv) st h at (λ x w. w) e
      ] e
  done_needed (act.Give s) stack h at e = no_some h e
  done_needed act.Throw stack h at e = no_some h e
  done_needed a stack h at e = stays a (pushed (gives a) (framed stack m)).stack h at (λ x w. w) e

  pub after_needed : (a : Action) (stack : List Sort) (h : Frame) → IsAt p k a → frame_after a (framed stack l) ≡ Some h → Done p k a (frame_after a (framed stack m)) h
  after_needed a stack h at e =
      elim (popped same (takes a) stack) as (λ o. (o >>= λ x. frame_done a (framed x.1 l)) ≡ Some h → Done p k a (o >>= λ x. frame_done a (framed x.1 m)) h) [
        | None ↦ λ e. no_some h e
        | Some q ↦ λ e. done_needed a q.1 h at e
      ] e
