-- Each method with a code is accepted, or refused for a cause: that neither holds is impossible.
use Rattle.std.proofs.Common.{◌≡◌, ℕ, zero, suc, ◌+◌, ◌<◌, ◌≤◌, refl, List, [], ◌∷◌, ◌++◌, length, Some, ◌∙◌, sym, inl, inr, arith, append_assoc, ◌⊎◌}
use Rattle.pv_frame.proofs.Words.{cases_eq, cases_lt, AllZip, AllByRecursion, Descriptor, IsMethodType, ClassFile, Method, Code, Placed, CodeFault, IsCode, IsBad, formed}
use Rattle.pv_frame.proofs.Words.{Action, Cause, IsFloatlessMethod, Program, is_instance, IsUnsynchronized, Does, IsProgramOf, HasFrames, HasNoCause, address_of, Row, handler, synchronized, long_code, slots, float, bad_code, instruction, untyped, IsRefused, IsAccepted}
use Rattle.pv_frame.proofs.Complete.{HasTexts, method_or_not, list_acts}

-- a fault of a code, with its address
abbrev pub HasFault : List ℕ → Type 0
HasFault bytes = (f : CodeFault) × (at : ℕ) × IsBad bytes f × (address_of f ≡ Some at)

module _ (file : ClassFile) (m : Method) (code : Code) (has : m.code ≡ Some code) (unrefused : (c : Cause) → IsRefused file m c → ⊥) where
  -- where it isn't refused, no row holds
  none_below : (bound n : ℕ) (c : Cause) → n < bound → Row file m code n c → ⊥
  none_below zero n c h row = absurd (omega arith)
  none_below (suc bound) n c h row =
      unrefused c (record {
        code = code;
        has = has;
        number = n;
        row = row;
        none_before = λ k d r. elim (cases_lt k n) [ inl less ↦ absurd (none_below bound k d (omega arith) r) | inr more ↦ more ];
      })

  no_row : (n : ℕ) (c : Cause) → Row file m code n c → ⊥
  no_row n c row = none_below (suc n) n c (omega arith) row

  handlers : code.handlers ≡ 0
  handlers = elim (cases_eq code.handlers 0) [ inl e ↦ e | inr ne ↦ absurd (no_row _ _ (handler ne)) ]

  unsynchronized : IsUnsynchronized m.flags
  unsynchronized = elim (cases_eq _ 0) [ inl e ↦ e | inr ne ↦ absurd (no_row _ _ (synchronized ne)) ]

  short : length code.bytes ≤ 8192
  short = elim (cases_lt 8192 (length code.bytes)) [ inl long ↦ absurd (no_row _ _ (long_code long)) | inr h ↦ h ]

  few : code.max_stack + code.max_locals ≤ 64
  few = elim (cases_lt 64 (code.max_stack + code.max_locals)) [ inl many ↦ absurd (no_row _ _ (slots many)) | inr h ↦ h ]

  floatless : (d : Descriptor) → IsMethodType m.desc d → IsFloatlessMethod d
  floatless d typed = elim (method_or_not d) [ inl h ↦ h | inr float_in ↦ absurd (no_row _ _ (float d typed float_in)) ]

  -- no instruction has a cause
  clean_after : (placed before rest : List Placed) → IsCode code.bytes placed → placed ≡ before ++ rest → AllByRecursion (HasNoCause file.pool) before → AllByRecursion (HasNoCause file.pool) rest
  clean_after placed before [] spelled parts clean = tt
  clean_after placed before (here ∷ after) spelled parts clean =
      let now : HasNoCause file.pool here =
      λ k h. no_row _ _ (instruction k here.at (record { placed = placed; spelled = spelled; before = before; here = here; after = after; parts = parts; clean = clean; cause = h; address = refl })) in
      (now, clean_after placed (before ++ here ∷ []) after spelled (parts ∙ sym (append_assoc before (here ∷ []) after)) (snoc before here clean now))
    where
      snoc : (before : List Placed) (here : Placed) → AllByRecursion (HasNoCause file.pool) before → HasNoCause file.pool here → AllByRecursion (HasNoCause file.pool) (before ++ here ∷ [])
      snoc [] here all h = (h, tt)
      snoc (p ∷ before) here all h = (all.0, snoc before here all.1 h)

  program_of : Descriptor → List Action → Program
  program_of d actions = record { actions = actions; instance = is_instance m.flags; desc = d; max_stack = code.max_stack; max_locals = code.max_locals }

  program_is : (d : Descriptor) → IsMethodType m.desc d → (placed : List Placed) (actions : List Action) → IsCode code.bytes placed → AllZip (Does file.pool) placed actions → IsProgramOf file m (program_of d actions)
  unfolding program_of
  program_is d typed placed actions spelled acts = record {
    code = code;
    has = has;
    handlers = handlers;
    unsynchronized = unsynchronized;
    desc = typed;
    floatless = floatless d typed;
    actions = record { placed = placed; spelled = spelled; acts = acts };
    instance = refl;
    max_stack = refl;
    max_locals = refl;
  }

  accepted_is : (d : Descriptor) (actions : List Action) → IsProgramOf file m (program_of d actions) → HasFrames (program_of d actions) → IsAccepted file m (program_of d actions)
  unfolding program_of
  accepted_is d actions is typed = record { of_method = is; code = code; has = has; short = short; few = few; typed = typed }

  -- so it is accepted
  pub unrefused_accepted : HasTexts file.pool → (d : Descriptor) → IsMethodType m.desc d → ((placed : List Placed) × IsCode code.bytes placed) ⊎ HasFault code.bytes → ((p : Program) → IsAccepted file m p → ⊥) → ⊥
  unrefused_accepted texts d typed (inr (f, at, bad, is)) unaccepted = no_row _ _ (bad_code f at bad is)
  unrefused_accepted texts d typed (inl (placed, spelled)) unaccepted =
      list_acts file.pool texts placed (formed code.bytes placed spelled) (clean_after placed [] placed spelled refl tt) (λ actions acts.
      let is = program_is d typed placed actions spelled acts in
      no_row _ _ (untyped (program_of d actions) is (λ frames. unaccepted (program_of d actions) (accepted_is d actions is frames))))
