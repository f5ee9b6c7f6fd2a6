-- Answers: a method has one, and each is found where nothing comes before it.
use Rattle.std.proofs.Common.{inl, inr, lit≤, ◌≡◌, ℕ, ◌≤◌, ◌<◌, ◌^◌, refl, List, [], ◌∷◌, length, get_or, Some, ◌∙◌, ap, sym, subst, arith, Result, Ok, Err, slice_get}
use Rattle.pv_frame.proofs.Words.{slice_get_read, slice_get_within, AllZip, AllZip-long, Descriptor, IsMethodType, method_type_once, Entry, ClassFile, Method, Code, Placed, CodeFault, IsPlaced, IsCode, IsBad, IsBytes, code_once, good_or_bad, few}
use Rattle.pv_frame.proofs.Words.{Use, Action, CauseKind, Cause, Refused, Program, Typed, IsUse, IsFloatlessMethod, is_instance, Does, IsProgramOf, HasFrames, IsInferred, address_of, IsFirst, cause, Row, handler, synchronized, long_code, slots, float, bad_code, instruction, untyped, IsRefused, AreActing, IsFirstOf, OnCause, HasCode, IsTyping, IsAnswer, Said, IsOnly, IsPlain, IsEarly}
use Rattle.pv_frame.proofs.Words.{refused_for, IsCoded}
use Rattle.pv_insn.specs.declared.fault.CodeFault.TheVariants as fault
use Rattle.pv_insn.specs.Answers as decoded
use Rattle.pv_frame.specs.declared.cause.CauseKind.TheVariants as kind
use Rattle.pv_frame.specs.declared.cause.Refused.TheVariants as refused
use Rattle.pv_frame.proofs.FrameLaws.{some_of}
use Rattle.pv_frame.proofs.CauseLaws.{HasBytes, rows_from, one_program, accepted_or_refused, one_cause, all_clean}
use Rattle.pv_frame.proofs.Inferred.{inferred_once}

-- ---- one answer

uses_once : (pool : List Entry) (code : List Placed) (a b : List Use) → AllZip (λ (p : Placed) (u : Use). IsUse pool p.insn u) code a → AllZip (λ (p : Placed) (u : Use). IsUse pool p.insn u) code b → a ≡ b
uses_once pool [] [] [] p q = refl
uses_once pool [] (u ∷ a) b p q = elim p [ ]
uses_once pool [] [] (v ∷ b) p q = elim q [ ]
uses_once pool (i ∷ code) [] b p q = elim p [ ]
uses_once pool (i ∷ code) (u ∷ a) [] p q = elim q [ ]
uses_once pool (i ∷ code) (u ∷ a) (v ∷ b) p q =
    let here : u ≡ v = p.0 ∙ sym q.0 in
    let others = uses_once pool code a b p.1 q.1 in
    cc (here, others)

same_typed : (t u : Typed) → t.code ≡ u.code → t.uses ≡ u.uses → t.program ≡ u.program → t.frames ≡ u.frames → t ≡ u
same_typed t u a b c d = λ i. record { code = a i; uses = b i; program = c i; frames = d i }

one_typing : (file : ClassFile) (m : Method) (t u : Typed) → HasBytes m → IsTyping file m t → IsTyping file m u → t ≡ u
one_typing file m t u bytes a b =
    let same_source : a.code ≡ b.code = some_of _ _ (sym a.has ∙ b.has) in
    let same_code : t.code ≡ u.code = code_once a.code.bytes t.code u.code (bytes a.code a.has) a.spelled (subst (λ (x : Code). IsCode x.bytes u.code) (sym same_source) b.spelled) in
    let same_uses : t.uses ≡ u.uses =
    uses_once file.pool u.code t.uses u.uses (subst (λ (x : List Placed). AllZip (λ (p : Placed) (v : Use). IsUse file.pool p.insn v) x t.uses) same_code a.uses) b.uses in
    let same_program : t.program ≡ u.program = one_program file m t.program u.program bytes a.accepted.of_method b.accepted.of_method in
    let same_frames : t.frames ≡ u.frames = inferred_once u.program t.frames u.frames (subst (λ (x : Program). IsInferred x t.frames) same_program a.inferred) b.inferred in
    same_typed t u same_code same_uses same_program same_frames

pub one_answer : (file : ClassFile) (m : Method) (a b : Result Typed Cause) → HasBytes m → IsAnswer file m a → IsAnswer file m b → a ≡ b
one_answer file m (Ok t) (Ok u) bytes p q = ap Ok (one_typing file m t u bytes p q)
one_answer file m (Err c) (Err d) bytes p q = ap Err (one_cause file m c d bytes p q)
one_answer file m (Ok t) (Err c) bytes p q = absurd (accepted_or_refused file m t.program c bytes p.accepted q)
one_answer file m (Err c) (Ok u) bytes p q = absurd (accepted_or_refused file m u.program c bytes q.accepted p)

-- what is an answer is the only one
pub said_only : (file : ClassFile) (m : Method) (r : Result Typed Refused) → HasBytes m → Said r (IsAnswer file m) → Said r (IsOnly file m)
said_only file m (Ok t) bytes answer = λ other is. one_answer file m (Ok t) other bytes answer is
said_only file m (Err (refused.Cause c)) bytes answer = λ other is. one_answer file m (Err c) other bytes answer is
said_only file m (Err refused.Memory) bytes answer = tt

pub typing_only : (file : ClassFile) (m : Method) (t : Typed) → HasBytes m → IsTyping file m t → (other : Result Typed Cause) → IsAnswer file m other → Ok t ≡ other
typing_only file m t bytes is other answer = one_answer file m (Ok t) other bytes is answer

pub refused_only : (file : ClassFile) (m : Method) (c : Cause) → HasBytes m → IsRefused file m c → (other : Result Typed Cause) → IsAnswer file m other → Err c ≡ other
refused_only file m c bytes is other answer = one_answer file m (Err c) other bytes is answer

-- ---- rows before which there is none

module _ (file : ClassFile) (m : Method) (code : Code) (source : List ℕ) (d : Descriptor) (is : IsCoded file m code source d) where
  refused_at_row : (n : ℕ) (c : Cause) → Row file m code n c → ((k : ℕ) (e : Cause) → Row file m code k e → n ≤ k) → IsRefused file m c
  refused_at_row n c row none = record { code = code; has = is.has; number = n; row = row; none_before = none }

  -- an early cause
  pub early_refused : (k : CauseKind) → IsEarly m code d k → IsRefused file m (cause k 0)
  early_refused kind.Handler h = refused_at_row 1 _ (handler h) (rows_from file m code 1 (inl (lit≤ tt), inl (lit≤ tt), inl (lit≤ tt), inl (lit≤ tt), inl (lit≤ tt), inl (lit≤ tt), inl (lit≤ tt), lit≤ tt))
  early_refused kind.Monitor h = refused_at_row 2 _ (synchronized h.1) (rows_from file m code 2 (inr h.0, inl (lit≤ tt), inl (lit≤ tt), inl (lit≤ tt), inl (lit≤ tt), inl (lit≤ tt), inl (lit≤ tt), lit≤ tt))
  early_refused kind.LongCode h = refused_at_row 3 _ (long_code h.2) (rows_from file m code 3 (inr h.0, inr h.1, inl (lit≤ tt), inl (lit≤ tt), inl (lit≤ tt), inl (lit≤ tt), inl (lit≤ tt), lit≤ tt))
  early_refused kind.Slots h = refused_at_row 4 _ (slots h.3) (rows_from file m code 4 (inr h.0, inr h.1, inr h.2, inl (lit≤ tt), inl (lit≤ tt), inl (lit≤ tt), inl (lit≤ tt), lit≤ tt))
  early_refused kind.Float h = refused_at_row 5 _ (float d is.typed h.4) (rows_from file m code 5 (inr h.0, inr h.1, inr h.2, inr h.3, inl (lit≤ tt), inl (lit≤ tt), inl (lit≤ tt), lit≤ tt))
  early_refused k h = elim h [ ]

  module _ (plain : IsPlain m code d) where
    floatless : (x : Descriptor) → IsMethodType m.desc x → IsFloatlessMethod x
    floatless x t = subst IsFloatlessMethod (method_type_once m.desc d x is.typed t) plain.floatless

    sixth : (k : ℕ) (e : Cause) → Row file m code k e → 6 ≤ k
    sixth = rows_from file m code 6 (inr plain.handlers, inr plain.unsynchronized, inr plain.short, inr plain.few, inr floatless, inl (lit≤ tt), inl (lit≤ tt), lit≤ tt)

    -- a code with a fault
    at_fault : (f : CodeFault) (at : ℕ) → IsBad source f → address_of f ≡ Some at → IsRefused file m (cause kind.Code at)
    at_fault f at bad a = refused_at_row 6 _ (bad_code f at (subst (λ (b : List ℕ). IsBad b f) is.spelled bad) a) sixth

    pub fault_answers : (f : CodeFault) → decoded.UnlessMemory (Err f) (IsBad source f) → Said (Err (refused_for f)) (IsAnswer file m)
    fault_answers (fault.Opcode at) bad = at_fault (fault.Opcode at) at bad refl
    fault_answers (fault.Truncated at) bad = at_fault (fault.Truncated at) at bad refl
    fault_answers (fault.Target at) bad = at_fault (fault.Target at) at bad refl
    fault_answers (fault.Switch at) bad = at_fault (fault.Switch at) at bad refl
    fault_answers fault.Memory bad = tt

    module _ (placed : List Placed) (are_bytes : IsBytes source) (spells : IsCode source placed) where
      bytes : IsBytes code.bytes
      bytes = subst IsBytes is.spelled are_bytes

      spelled : IsCode code.bytes placed
      spelled = subst (λ (b : List ℕ). IsCode b placed) is.spelled spells

      good : (f : CodeFault) → IsBad code.bytes f → ⊥
      good f bad = good_or_bad code.bytes placed f bytes spelled bad

      seventh : (k : ℕ) (e : Cause) → Row file m code k e → 7 ≤ k
      seventh = rows_from file m code 7 (inr plain.handlers, inr plain.unsynchronized, inr plain.short, inr plain.few, inr floatless, inr good, inl (lit≤ tt), lit≤ tt)

      -- an instruction with a cause
      pub first_answers : (e : Refused) → OnCause e (IsFirstOf file.pool placed) → Said (Err e) (IsAnswer file m)
      first_answers refused.Memory h = tt
      first_answers (refused.Cause c) h =
          let first : IsFirst file.pool code h.kind h.here.at = record { placed = placed; spelled = spelled; before = h.before; here = h.here; after = h.after; parts = h.parts; clean = h.clean; cause = h.caused; address = refl } in
          subst (λ (x : Cause). IsRefused file m x) (sym h.is) (refused_at_row 7 _ (instruction h.kind h.here.at first) seventh)

      no_first : (actions : List Action) → AllZip (Does file.pool) placed actions → (k : CauseKind) (at : ℕ) → IsFirst file.pool code k at → ⊥
      no_first actions acts k at f =
          let same = code_once code.bytes placed f.placed bytes spelled f.spelled ∙ f.parts in
          all_clean file.pool f.before f.here f.after actions k (subst (λ (x : List Placed). AllZip (Does file.pool) x actions) same acts) f.cause

      eighth : (actions : List Action) → AllZip (Does file.pool) placed actions → (k : ℕ) (e : Cause) → Row file m code k e → 8 ≤ k
      eighth actions acts = rows_from file m code 8 (inr plain.handlers, inr plain.unsynchronized, inr plain.short, inr plain.few, inr floatless, inr good, inr (no_first actions acts), lit≤ tt)

      program_is : (p : Program) → AllZip (Does file.pool) placed p.actions → p.instance ≡ is_instance m.flags → p.desc ≡ d → p.max_stack ≡ code.max_stack → p.max_locals ≡ code.max_locals → IsProgramOf file m p
      program_is p acts instance desc stack locals = record {
        code = code;
        has = is.has;
        handlers = plain.handlers;
        unsynchronized = plain.unsynchronized;
        desc = subst (IsMethodType m.desc) (sym desc) is.typed;
        floatless = subst IsFloatlessMethod (sym desc) plain.floatless;
        actions = record { placed = placed; spelled = spelled; acts = acts };
        instance = instance;
        max_stack = stack;
        max_locals = locals;
      }

      -- no frames agree
      pub types_refused : (p : Program) → (HasFrames p → ⊥) → AllZip (Does file.pool) placed p.actions → p.instance ≡ is_instance m.flags → p.desc ≡ d → p.max_stack ≡ code.max_stack → p.max_locals ≡ code.max_locals → IsRefused file m (cause kind.Types 0)
      types_refused p none acts instance desc stack locals = refused_at_row 8 _ (untyped p (program_is p acts instance desc stack locals) none) (eighth p.actions acts)

      -- frames are inferred
      pub typing_is : (t : Typed) → IsInferred t.program t.frames → t.code ≡ placed → AreActing file.pool placed t.uses t.program.actions → t.program.instance ≡ is_instance m.flags → t.program.desc ≡ d → t.program.max_stack ≡ code.max_stack → t.program.max_locals ≡ code.max_locals → IsTyping file m t
      typing_is t inferred same_code acting instance desc stack locals = record {
        accepted = record {
          of_method = program_is t.program acting.acts instance desc stack locals;
          code = code;
          has = is.has;
          short = plain.short;
          few = let few_slots = plain.few in omega (arith, stack, locals);
          typed = (t.frames, inferred.well_typed.agrees);
        };
        code = code;
        has = is.has;
        spelled = subst (IsCode code.bytes) (sym same_code) spelled;
        uses = subst (λ (x : List Placed). AllZip (λ (p : Placed) (u : Use). IsUse file.pool p.insn u) x t.uses) (sym same_code) acting.names;
        acts = subst (λ (x : List Placed). AllZip (Does file.pool) x t.program.actions) (sym same_code) acting.acts;
        inferred = inferred;
      }

      -- there are no more instructions than bytes
      pub few_actions : (uses : List Use) (actions : List Action) → AreActing file.pool placed uses actions → length actions < 2 ^ 32
      few_actions uses actions acting =
          let short = plain.short in
          let raws = few spelled.raws 0 code.bytes spelled.read in
          omega (arith, raws, AllZip-long (IsPlaced spelled.raws) spelled.raws placed spelled.resolved, AllZip-long (Does file.pool) placed actions acting.acts)

  -- the code is of bytes
  pub has_bytes : IsBytes source → HasBytes m
  has_bytes bytes other has = subst IsBytes (is.spelled ∙ ap (λ (c : Code). c.bytes) (some_of _ _ (sym is.has ∙ has))) bytes

-- ---- what the functions find

-- what is said of a method at a place
pub at_place : (file : ClassFile) (methods : List Method) (k : ℕ) (m : Method) (r : Result Typed Refused) (P : Method → Result Typed Cause → Type 0) → methods ≡ file.methods → k < length methods → m ≡ get_or methods k m → Said r (P m) → (n : Method) → slice_get file.methods k ≡ Some n → Said r (P n)
at_place file methods k m r P same within is said n there =
    let here : slice_get file.methods k ≡ Some m = subst (λ (l : List Method). slice_get l k ≡ Some m) same (slice_get_read methods (length methods) k m refl within is) in
    subst (λ (x : Method). Said r (P x)) (some_of m n (sym here ∙ there)) said

pub within_methods : (file : ClassFile) (methods : List Method) (k : ℕ) → methods ≡ file.methods → HasCode file k → k < length methods
within_methods file methods k same h = omega (arith, slice_get_within file.methods k h.method h.there, ap length same)

-- the method at a place is the one that has a code
pub method_is : (file : ClassFile) (methods : List Method) (k : ℕ) (m : Method) → methods ≡ file.methods → m ≡ get_or methods k m → (h : HasCode file k) → h.method ≡ m
method_is file methods k m same is h =
    let here : slice_get file.methods k ≡ Some m = subst (λ (l : List Method). slice_get l k ≡ Some m) same (slice_get_read methods (length methods) k m refl (within_methods file methods k same h) is) in
    some_of h.method m (sym h.there ∙ here)
