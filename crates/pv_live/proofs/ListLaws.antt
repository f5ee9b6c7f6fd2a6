-- Lists of needed frames: they agree, and there is one.
use Rattle.std.proofs.Common.{◌≡◌, ℕ, List, [], ◌∷◌, length, Option, Some, None, ◌∙◌, refl, ap, sym, subst, inl, inr, arith}
use Rattle.std.specs.Prelude.{slice_get, sum_by, Contains}
use Rattle.std.specs.List.{AllByRecursion}
use Rattle.std.proofs.lemmas.Option.{slice_get_within}
use Rattle.std.proofs.lemmas.Slice.Zip.{AllZip-long}
use Rattle.pv_list.proofs.Cited.{same_lists, found}
use Rattle.pv_frame.specs.declared.sort.Sort.{Sort}
use Rattle.pv_frame.specs.declared.action.Action.{Action}
use Rattle.pv_frame.specs.declared.program.Program.{Program}
use Rattle.pv_frame.specs.declared.frame.Frame.{Frame}
use Rattle.pv_frame.specs.Stacks.{width}
use Rattle.pv_frame.specs.Effects.{takes, successors}
use Rattle.pv_frame.specs.Programs.{IsAt}
use Rattle.pv_frame.specs.Frames.{entry_frame, frame_after, Flows, Finds, IsFrameAt, LeadsTo, Leaves, GoesOn, IsTyped, Agrees, AreFrames}
use Rattle.pv_frame.proofs.Cited.{Less, some_of, no_some, inferred_once, contains_first, contains_more}
use Rattle.pv_live.specs.Live.{Live}
use Rattle.pv_live.specs.Needed.{IsNeededFrame, IsNeededAt, AreNeeded}
use Rattle.pv_live.proofs.Agree.{less_way, either_way, all_less, less_at, after_needed}

all_among : {A : Type 0} (P Q : A → Type 0) (xs : List A) → ((x : A) → Contains xs x → P x → Q x) → AllByRecursion P xs → AllByRecursion Q xs
all_among P Q [] f all = tt
all_among P Q (x ∷ xs) f all = (f x (contains_first x xs) all.0, all_among P Q xs (λ y among. f y (contains_more x y xs among)) all.1)

-- ---- edges

-- where a frame flows to one at a place, another flows to what is needed of that, if it has the sorts of the live locals
flows_needed : (p : Program) (j : ℕ) (h after f g : Frame) → Flows h f → IsNeededFrame p j f g → after.stack ≡ h.stack → length h.locals ≡ length after.locals
    → ((x : ℕ) (r t : Sort) → slice_get h.locals x ≡ Some r → slice_get after.locals x ≡ Some t → Live p j x → t ≡ r) → Flows after g
flows_needed p j h after f g flows n stack long live =
    let same : length f.locals ≡ length h.locals = AllZip-long Less h.locals f.locals flows.locals in
    record {
      stack = n.stack ∙ flows.stack ∙ sym stack;
      locals = all_less after.locals g.locals (omega (arith, n.long, same, long)) (λ x s t here there.
          let within = slice_get_within after.locals x s here in
          let r = found h.locals x (omega (arith, within, long)) in
          let u = found f.locals x (omega (arith, within, long, same)) in
          let sort = n.locals x u.0 t u.1 there in
          less_way {L = Live p j x} s t (λ l. elim (less_at h.locals f.locals flows.locals x r.0 u.0 r.1 u.1) [
            | inl e ↦ inl (sort.live l ∙ e ∙ sym (live x r.0 s r.1 here l))
            | inr e ↦ inr (sort.live l ∙ e)
          ]) (λ d. inr (sort.dead d)));
    }

module _ (p : Program) (frames : List (Option Frame)) (n : AreNeeded p frames) where
  abbrev agrees : Agrees p n.inferred
  agrees = n.is.well_typed.agrees

  record Needed (k : ℕ) (f : Frame) : Type 0 where
    frame : Frame
    there : IsFrameAt frames k frame
    is : IsNeededFrame p k f frame

  record Inferred (k : ℕ) (g : Frame) : Type 0 where
    frame : Frame
    there : IsFrameAt n.inferred k frame
    is : IsNeededFrame p k frame g

  needed_at : (k : ℕ) (f : Frame) → IsFrameAt n.inferred k f → Needed k f
  needed_at k f at =
      let within = slice_get_within n.inferred k (Some f) at in
      let here = found frames k (omega (arith, within, n.long)) in
      elim here.0 as (λ o. slice_get frames k ≡ Some o → Needed k f) [
        | None ↦ λ e. absurd (n.each k (Some f) None at e)
        | Some g ↦ λ e. record { frame = g; there = e; is = n.each k (Some f) (Some g) at e }
      ] here.1

  inferred_at : (k : ℕ) (g : Frame) → IsFrameAt frames k g → Inferred k g
  inferred_at k g at =
      let within = slice_get_within frames k (Some g) at in
      let here = found n.inferred k (omega (arith, within, n.long)) in
      elim here.0 as (λ o. slice_get n.inferred k ≡ Some o → Inferred k g) [
        | None ↦ λ e. absurd (n.each k None (Some g) e at)
        | Some f ↦ λ e. record { frame = f; there = e; is = n.each k (Some f) (Some g) e at }
      ] here.1

  -- an edge leads to what is needed there
  leads_needed : (j : ℕ) (h after : Frame) → LeadsTo n.inferred h j → after.stack ≡ h.stack → length h.locals ≡ length after.locals
      → ((x : ℕ) (r t : Sort) → slice_get h.locals x ≡ Some r → slice_get after.locals x ≡ Some t → Live p j x → t ≡ r) → LeadsTo frames after j
  leads_needed j h after leads stack long live =
      let target = needed_at j leads.target leads.there in
      record { target = target.frame; there = target.there; flows = flows_needed p j h after leads.target target.frame leads.flows target.is stack long live }

  goes_needed : (k : ℕ) (a : Action) (f g : Frame) → IsAt p k a → IsNeededFrame p k f g → GoesOn n.inferred k a f → GoesOn frames k a g
  goes_needed k a f g at is on =
      let stack : frame_after a (record { stack = f.stack; locals = f.locals }) ≡ Some on.after = on.is in
      let from : frame_after a (record { stack = g.stack; locals = f.locals }) ≡ Some on.after = subst (λ (st : List Sort). frame_after a (record { stack = st; locals = f.locals }) ≡ Some on.after) (sym is.stack) stack in
      let done = after_needed p k f.locals g.locals (sym is.long) is.locals a g.stack on.after at from in
      record {
        after = done.after;
        is = done.is;
        edges = all_among (LeadsTo n.inferred on.after) (LeadsTo frames done.after) (successors k a) (λ j among leads.
            leads_needed j on.after done.after leads done.stack done.long (λ x r t there here l. done.live x r t j there here among l)) on.edges;
      }

  leaves_needed : (a : Action) (f g : Frame) → g.stack ≡ f.stack → Leaves p a f → Leaves p a g
  leaves_needed a f g stack leaves = (leaves.0, subst (λ (st : List Sort). Finds (takes a) (record { stack = st; locals = g.locals })) (sym stack) leaves.1)

  typed_needed : (k : ℕ) (g : Frame) → IsFrameAt frames k g → IsTyped p frames k g
  typed_needed k g at =
      let f = inferred_at k g at in
      let typed = agrees.each k f.frame f.there in
      record {
        action = typed.action;
        at = typed.at;
        room = omega (arith, ap (sum_by width) f.is.stack, typed.room);
        goes = elim typed.goes [ inl leaves ↦ inl (leaves_needed typed.action f.frame g f.is.stack leaves) | inr on ↦ inr (goes_needed k typed.action f.frame g typed.at f.is on) ];
      }

  pub needed_agree : AreFrames p frames
  needed_agree = record {
    agrees = record {
      passed = agrees.passed;
      entry = leads_needed 0 (entry_frame p) (entry_frame p) agrees.entry refl refl (λ x r t there here l. some_of _ _ (sym here ∙ there));
      each = typed_needed;
    };
    one_each = n.long ∙ n.is.well_typed.one_each;
    reached = λ k g at. let f = inferred_at k g at in n.is.well_typed.reached k f.frame f.there;
  }

-- ---- one list

same_locals : (p : Program) (k : ℕ) (f g h : Frame) → IsNeededFrame p k f g → IsNeededFrame p k f h → (x : ℕ) (o q : Option Sort) → slice_get g.locals x ≡ o → slice_get h.locals x ≡ q → o ≡ q
same_locals p k f g h a b x None None d e = refl
same_locals p k f g h a b x None (Some t) d e =
    let within = slice_get_within h.locals x t e in
    let here = found g.locals x (omega (arith, within, a.long, b.long)) in
    no_some here.0 (sym d ∙ here.1)
same_locals p k f g h a b x (Some s) None d e =
    let within = slice_get_within g.locals x s d in
    let here = found h.locals x (omega (arith, within, a.long, b.long)) in
    no_some here.0 (sym e ∙ here.1)
same_locals p k f g h a b x (Some s) (Some t) d e =
    let within = slice_get_within g.locals x s d in
    let was = found f.locals x (omega (arith, within, a.long)) in
    let one = a.locals x was.0 s was.1 d in
    let two = b.locals x was.0 t was.1 e in
    ap Some (either_way {L = Live p k x} s t (λ l. one.live l ∙ sym (two.live l)) (λ l. one.dead l ∙ sym (two.dead l)))

same_frame : (p : Program) (k : ℕ) (f g h : Frame) → IsNeededFrame p k f g → IsNeededFrame p k f h → g ≡ h
same_frame p k f g h a b =
    let stack : g.stack ≡ h.stack = a.stack ∙ sym b.stack in
    let locals : g.locals ≡ h.locals = same_lists g.locals h.locals (λ x. same_locals p k f g h a b x (slice_get g.locals x) (slice_get h.locals x) refl refl) in
    λ i. record { stack = stack i; locals = locals i }

same_needed : (p : Program) (k : ℕ) (f g h : Option Frame) → IsNeededAt p k f g → IsNeededAt p k f h → g ≡ h
same_needed p k None None None a b = refl
same_needed p k None None (Some h) a b = absurd b
same_needed p k None (Some g) h a b = absurd a
same_needed p k (Some f) None h a b = absurd a
same_needed p k (Some f) (Some g) None a b = absurd b
same_needed p k (Some f) (Some g) (Some h) a b = ap Some (same_frame p k f g h a b)

pub needed_once : (p : Program) (a b : List (Option Frame)) → AreNeeded p a → AreNeeded p b → a ≡ b
needed_once p a b na nb =
    let one : nb.inferred ≡ na.inferred = inferred_once p nb.inferred na.inferred nb.is na.is in
    let long : length b ≡ length na.inferred = nb.long ∙ ap length one in
    let each : (k : ℕ) (f g : Option Frame) → slice_get na.inferred k ≡ Some f → slice_get b k ≡ Some g → IsNeededAt p k f g = λ k f g at. nb.each k f g (ap (λ (l : List (Option Frame)). slice_get l k) one ∙ at) in
    same_lists a b (λ k. same k (slice_get a k) (slice_get b k) long each refl refl)
  where
    same : (k : ℕ) (o q : Option (Option Frame)) → length b ≡ length na.inferred → ((k : ℕ) (f g : Option Frame) → slice_get na.inferred k ≡ Some f → slice_get b k ≡ Some g → IsNeededAt p k f g) → slice_get a k ≡ o → slice_get b k ≡ q → o ≡ q
    same k None None long each d e = refl
    same k None (Some h) long each d e = let within = slice_get_within b k h e in let here = found a k (omega (arith, within, long, na.long)) in no_some here.0 (sym d ∙ here.1)
    same k (Some g) None long each d e = let within = slice_get_within a k g d in let here = found b k (omega (arith, within, long, na.long)) in no_some here.0 (sym e ∙ here.1)
    same k (Some g) (Some h) long each d e =
        let within = slice_get_within a k g d in
        let was = found na.inferred k (omega (arith, within, na.long)) in
        ap Some (same_needed p k was.0 g h (na.each k was.0 g was.1 d) (each k was.0 h was.1 e))
