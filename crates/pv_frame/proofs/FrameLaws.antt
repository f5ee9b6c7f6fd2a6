-- Laws of frames: operands are those that are asked for, and an instruction that goes on from a frame goes on from each that knows more of the locals.
use Rattle.std.proofs.Common.{◌≡◌, ℕ, zero, suc, Bool, true, false, List, [], ◌∷◌, length, Some, None, ◌∙◌, refl, ap, sym, subst, inl, inr, ◌⊎◌, map, reverse, option_map, if◌then◌else◌, nat_lt, slice_get}
use Rattle.pv_frame.proofs.Words.{AllZip, reverse-reverse, AllZip-long, ◌>>=◌, Sort, Action, fits, is_wide, Taken, with_first, taken, turned, popped, moved, last_local, has_room, first_cleared, set_local, takes, gives, Frame, same, holds, pushed, frame_done, frame_after, Flows}
use Rattle.pv_frame.specs.declared.sort.Sort.TheVariants as sort
use Rattle.pv_frame.specs.declared.action.Action.TheVariants as act
use Rattle.pv_frame.proofs.StackLaws.{map_reverse}

-- ---- small facts

pub some_of : {A : Type 0} (x y : A) → Some x ≡ Some y → x ≡ y
some_of x y e = cc

pub no_some : {A P : Type 0} (x : A) → None ≡ Some x → P
no_some x e = absurd (cc)

pub if_some : {A : Type 0} (b : Bool) (x y : A) → (if b then Some x else None) ≡ Some y → (b ≡ true) × (x ≡ y)
if_some true x y e = (refl, some_of x y e)
if_some false x y e = no_some y e

pub fits_same : (s t : Sort) → fits s t ≡ true → s ≡ t
fits_same sort.Int sort.Int h = refl
fits_same sort.Long sort.Long h = refl
fits_same sort.Ref sort.Ref h = refl
fits_same s t h = absurd (cc)

-- ---- operands

-- what is taken has the sorts that are asked for
pub taken_sorts : {A : Type 0} (h : A → Sort) (sorts : List Sort) (stack : List A) (q : List A × List A) → taken h sorts stack ≡ Some q → map h q.0 ≡ sorts
taken_sorts h [] stack q e = ap (λ (p : List _ × List _). map h p.0) (sym (some_of _ _ e))
taken_sorts h (s ∷ sorts) [] q e = no_some q e
taken_sorts h (s ∷ sorts) (x ∷ stack) q e = elim (fits (h x) s) as (λ b. fits (h x) s ≡ b → (if b then with_first x (taken h sorts stack) else None) ≡ Some q → map h q.0 ≡ s ∷ sorts) [
  | true ↦ λ b e. elim (taken h sorts stack) as (λ t. taken h sorts stack ≡ t → with_first x t ≡ Some q → map h q.0 ≡ s ∷ sorts) [
    | None ↦ λ _ e. no_some q e
    | Some r ↦ λ is e.
        let rest = taken_sorts h sorts stack r is in
        let front = fits_same (h x) s b in
        let parts : q ≡ (x ∷ r.0, r.1) = sym (some_of _ _ e) in
        ap (λ (p : List _ × List _). map h p.0) parts ∙ (cc (front, rest))
  ] refl e
  | false ↦ λ _ e. no_some q e
] refl e

pub popped_sorts : {A : Type 0} (h : A → Sort) (sorts : List Sort) (stack : List A) (q : List A × List A) → popped h sorts stack ≡ Some q → map h q.0 ≡ sorts
popped_sorts h sorts stack q e = elim (taken h (reverse sorts) stack) as (λ t. taken h (reverse sorts) stack ≡ t → turned t ≡ Some q → map h q.0 ≡ sorts) [
  | None ↦ λ _ e. no_some q e
  | Some r ↦ λ is e.
      let parts : q ≡ (reverse r.0, r.1) = sym (some_of _ _ e) in
      ap (λ (p : List _ × List _). map h p.0) parts ∙ map_reverse h r.0 ∙ ap reverse (taken_sorts h (reverse sorts) stack r is) ∙ reverse-reverse sorts
] refl e

-- ---- locals that tell less

abbrev pub Less : Sort → Sort → Type 0
Less s t = (t ≡ s) ⊎ (t ≡ sort.Unknown)

pub holds_more : (l m : List Sort) (k : ℕ) (s : Sort) → AllZip Less l m → holds (slice_get m k) s ≡ true → holds (slice_get l k) s ≡ true
holds_more [] [] k s all h = h
holds_more [] (t ∷ m) k s all h = elim all [ ]
holds_more (r ∷ l) [] k s all h = elim all [ ]
holds_more (r ∷ l) (t ∷ m) zero s (inl e, all) h = ap (λ (x : Sort). fits x s) (sym e) ∙ h
holds_more (r ∷ l) (t ∷ m) zero s (inr e, all) h = let lost : fits sort.Unknown s ≡ true = ap (λ (x : Sort). fits x s) (sym e) ∙ h in absurd (cc (lost))
holds_more (r ∷ l) (t ∷ m) (suc k) s (_, all) h = holds_more l m k s all h

less_first_cleared : (l m : List Sort) → AllZip Less l m → AllZip Less (first_cleared sort.Unknown l) (first_cleared sort.Unknown m)
less_first_cleared [] [] all = all
less_first_cleared [] (t ∷ m) all = elim all [ ]
less_first_cleared (r ∷ l) [] all = elim all [ ]
less_first_cleared (r ∷ l) (t ∷ m) all = (inl refl, all.1)

-- a local whose long is lost
abbrev lost : Sort → Sort
lost s = if is_wide s then sort.Unknown else s

less_lost : (r t : Sort) → Less r t → Less (lost r) (lost t)
less_lost r t (inl e) = inl (ap lost e)
less_lost r t (inr e) = inr (ap lost e)

pub less_set_local : (k : ℕ) (s : Sort) (l m : List Sort) → AllZip Less l m → AllZip Less (set_local same sort.Unknown k s l) (set_local same sort.Unknown k s m)
less_set_local k s [] [] all = all
less_set_local k s [] (t ∷ m) all = elim all [ ]
less_set_local k s (r ∷ l) [] all = elim all [ ]
less_set_local zero s (r ∷ l) (t ∷ m) all =
    (inl refl, elim (is_wide s) as (λ b. AllZip Less (if b then first_cleared sort.Unknown l else l) (if b then first_cleared sort.Unknown m else m)) [ true ↦ less_first_cleared l m all.1 | false ↦ all.1 ])
less_set_local (suc zero) s (r ∷ l) (t ∷ m) all = (less_lost r t all.0, less_set_local zero s l m all.1)
less_set_local (suc (suc k)) s (r ∷ l) (t ∷ m) all = (all.0, less_set_local (suc k) s l m all.1)

less_less : (r s t : Sort) → Less r s → Less s t → Less r t
less_less r s t (inl e) (inl d) = inl (d ∙ e)
less_less r s t (inr e) (inl d) = inr (d ∙ e)
less_less r s t _ (inr d) = inr d

all_less_less : (l m n : List Sort) → AllZip Less l m → AllZip Less m n → AllZip Less l n
all_less_less [] [] [] p q = tt
all_less_less [] [] (t ∷ n) p q = elim q [ ]
all_less_less [] (s ∷ m) n p q = elim p [ ]
all_less_less (r ∷ l) [] n p q = elim p [ ]
all_less_less (r ∷ l) (s ∷ m) [] p q = elim q [ ]
all_less_less (r ∷ l) (s ∷ m) (t ∷ n) p q = (less_less r s t p.0 q.0, all_less_less l m n p.1 q.1)

pub flows_flows : (f g h : Frame) → Flows f g → Flows g h → Flows f h
flows_flows f g h p q = record { stack = q.stack ∙ p.stack; locals = all_less_less f.locals g.locals h.locals p.locals q.locals }

-- ---- an instruction from a frame that knows more

abbrev pub framed : List Sort → List Sort → Frame
framed stack locals = record { stack = stack; locals = locals }

pub record Goes (a : Action) (f h : Frame) : Type 0 where
  pub after : Frame
  pub is : frame_after a f ≡ Some after
  pub flows : Flows after h

record Done (a : Action) (f h : Frame) : Type 0 where
  after : Frame
  is : frame_done a f ≡ Some after
  flows : Flows after h

same_locals : (stack l m : List Sort) (a : Action) (h : Frame) → AllZip Less l m → frame_done a (framed stack l) ≡ Some (pushed (gives a) (framed stack l)) → Some (pushed (gives a) (framed stack m)) ≡ Some h → Done a (framed stack l) h
same_locals stack l m a h all is e =
    record { after = pushed (gives a) (framed stack l); is = is; flows = subst (λ (x : Frame). Flows (pushed (gives a) (framed stack l)) x) (some_of _ _ e) (record { stack = refl; locals = all }) }

done_more : (a : Action) (stack l m : List Sort) (h : Frame) → AllZip Less l m → frame_done a (framed stack m) ≡ Some h → Done a (framed stack l) h
done_more (act.Load s k) stack l m h all e =
    let found = if_some (holds (slice_get m k) s) (framed (s ∷ stack) m) h e in
    let here = holds_more l m k s all found.0 in
    record {
      after = framed (s ∷ stack) l;
      is = ap (λ (b : Bool). if b then Some (framed (s ∷ stack) l) else None) here;
      flows = subst (λ (x : Frame). Flows (framed (s ∷ stack) l) x) found.1 (record { stack = refl; locals = all });
    }
done_more (act.Store s k) stack l m h all e =
    let found = if_some (has_room s k m) (framed stack (set_local same sort.Unknown k s m)) h e in
    let long : length m ≡ length l = AllZip-long Less l m all in
    let room : has_room s k l ≡ true = ap (nat_lt (last_local s k)) (sym long) ∙ found.0 in
    record {
      after = framed stack (set_local same sort.Unknown k s l);
      is = ap (λ (b : Bool). if b then Some (framed stack (set_local same sort.Unknown k s l)) else None) room;
      flows = subst (λ (x : Frame). Flows (framed stack (set_local same sort.Unknown k s l)) x) found.1 (record { stack = refl; locals = less_set_local k s l m all });
    }
done_more (act.Increase k n) stack l m h all e =
    let found = if_some (holds (slice_get m k) sort.Int) (framed stack m) h e in
    let here = holds_more l m k sort.Int all found.0 in
    record {
      after = framed stack l;
      is = ap (λ (b : Bool). if b then Some (framed stack l) else None) here;
      flows = subst (λ (x : Frame). Flows (framed stack l) x) found.1 (record { stack = refl; locals = all });
    }
done_more (act.Move mv) stack l m h all e =
    elim (moved same mv stack) as (λ o. moved same mv stack ≡ o → option_map (λ (st : List Sort). framed st m) o ≡ Some h → Done (act.Move mv) (framed stack l) h) [
      | None ↦ λ _ e. no_some h e
      | Some st ↦ λ is e. record {
        after = framed st l;
        is = ap (option_map (λ (x : List Sort). framed x l)) is;
        flows = subst (λ (x : Frame). Flows (framed st l) x) (some_of _ _ e) (record { stack = refl; locals = all });
      }
    ] refl e
done_more (act.Give s) stack l m h all e = no_some h e
done_more act.Throw stack l m h all e = no_some h e
done_more a stack l m h all e = same_locals stack l m a h all refl e

after_more : (a : Action) (stack l m : List Sort) (h : Frame) → AllZip Less l m → frame_after a (framed stack m) ≡ Some h → Goes a (framed stack l) h
after_more a stack l m h all e =
    elim (popped same (takes a) stack) as (λ o. popped same (takes a) stack ≡ o → (o >>= λ x. frame_done a (framed x.1 m)) ≡ Some h → Goes a (framed stack l) h) [
      | None ↦ λ _ e. no_some h e
      | Some q ↦ λ is e.
          let d = done_more a q.1 l m h all e in
          record { after = d.after; is = ap (λ (o : Taken Sort). o >>= λ x. frame_done a (framed x.1 l)) is ∙ d.is; flows = d.flows }
    ] refl e

-- from a frame that knows more of the locals
pub goes_from : (a : Action) (f g h : Frame) → Flows f g → frame_after a g ≡ Some h → Goes a f h
goes_from a f g h flows e =
    let same_stack : frame_after a (framed f.stack g.locals) ≡ Some h = ap (λ (stack : List Sort). frame_after a (framed stack g.locals)) (sym flows.stack) ∙ e in
    after_more a f.stack f.locals g.locals h flows.locals same_stack
