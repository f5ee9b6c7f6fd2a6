-- A method has one program and one cause, and not both.
use Rattle.std.proofs.Common.{◌⊎◌, ⊎_elim, ◌+◌, ◌≡◌, ℕ, ◌≤◌, refl, List, [], ◌∷◌, ◌++◌, length, Some, ◌∙◌, ap, sym, subst, arith, ◌≢◌, ◌==◌, if◌then◌else◌}
use Rattle.pv_frame.proofs.Words.{AllZip, AllByRecursion, Descriptor, IsMethodType, method_type_once, Entry, ClassFile, Method, Code, Placed, CodeFault, IsCode, IsBad, Insn, IsBytes, code_once, fault_once, good_or_bad}
use Rattle.pv_frame.proofs.Words.{Action, CauseKind, Cause, IsFloatlessMethod, IsUnsynchronized, use_of, Use, Program, Does, IsProgramOf, HasFrames, NamesFloat, NamesOther, IsCauseWith, IsCauseOf, HasNoCause, address_of, IsFirst, cause, Row, handler, synchronized, long_code, slots, float, bad_code, instruction, untyped, IsRefused, IsAccepted}
use Rattle.pv_pool.specs.declared.constant.Constant.TheVariants as constant
use Rattle.pv_insn.specs.declared.insn.Insn.TheVariants as insn
use Rattle.pv_frame.specs.declared.cause.CauseKind.TheVariants as kind
use Rattle.pv_frame.specs.declared.used.Use.TheVariants as used
use Rattle.pv_frame.proofs.FrameLaws.{some_of}
use Rattle.pv_frame.proofs.ActionLaws.{one_list, clean}

-- ---- one program

same_program : (p q : Program) → p.actions ≡ q.actions → p.instance ≡ q.instance → p.desc ≡ q.desc → p.max_stack ≡ q.max_stack → p.max_locals ≡ q.max_locals → p ≡ q
same_program p q a b c d e = λ i. record { actions = a i; instance = b i; desc = c i; max_stack = d i; max_locals = e i }

-- the code of a method is of bytes
abbrev pub HasBytes : Method → Type 0
HasBytes m = (code : Code) → m.code ≡ Some code → IsBytes code.bytes

pub one_program : (file : ClassFile) (m : Method) (p q : Program) → HasBytes m → IsProgramOf file m p → IsProgramOf file m q → p ≡ q
one_program file m p q bytes a b =
    let same_code : a.code ≡ b.code = some_of _ _ (sym a.has ∙ b.has) in
    let same_bytes : a.code.bytes ≡ b.code.bytes = ap (λ (c : Code). c.bytes) same_code in
    let same_placed : a.actions.placed ≡ b.actions.placed =
    code_once a.code.bytes a.actions.placed b.actions.placed (bytes a.code a.has) a.actions.spelled (subst (λ (x : List ℕ). IsCode x b.actions.placed) (sym same_bytes) b.actions.spelled) in
    let same_actions : p.actions ≡ q.actions =
    one_list file.pool b.actions.placed p.actions q.actions (subst (λ (x : List Placed). AllZip (Does file.pool) x p.actions) same_placed a.actions.acts) b.actions.acts in
    let same_desc : p.desc ≡ q.desc = method_type_once m.desc p.desc q.desc a.desc b.desc in
    same_program p q same_actions (a.instance ∙ sym b.instance) same_desc (a.max_stack ∙ ap (λ (c : Code). c.max_stack) same_code ∙ sym b.max_stack) (a.max_locals ∙ ap (λ (c : Code). c.max_locals) same_code ∙ sym b.max_locals)

-- ---- rows

-- each row before the n-th is ruled out
abbrev pub AreRuledOut : ClassFile → Method → Code → ℕ → Type 0
AreRuledOut file m code n = ((n ≤ 1) ⊎ (code.handlers ≡ 0)) × ((n ≤ 2) ⊎ IsUnsynchronized m.flags) × ((n ≤ 3) ⊎ (length code.bytes ≤ 8192)) × ((n ≤ 4) ⊎ (code.max_stack + code.max_locals ≤ 64))
    × ((n ≤ 5) ⊎ ((d : Descriptor) → IsMethodType m.desc d → IsFloatlessMethod d)) × ((n ≤ 6) ⊎ ((f : CodeFault) → IsBad code.bytes f → ⊥))
    × ((n ≤ 7) ⊎ ((k : CauseKind) (at : ℕ) → IsFirst file.pool code k at → ⊥)) × (n ≤ 8)

-- so no row comes before it
pub rows_from : (file : ClassFile) (m : Method) (code : Code) (n : ℕ) → AreRuledOut file m code n → (k : ℕ) (c : Cause) → Row file m code k c → n ≤ k
rows_from file m code n out k c (handler h) = ⊎_elim (λ le. le) (λ e. absurd (h e)) out.0
rows_from file m code n out k c (synchronized h) = ⊎_elim (λ le. le) (λ e. absurd (h e)) out.1
rows_from file m code n out k c (long_code h) = ⊎_elim (λ le. le) (λ (short : length code.bytes ≤ 8192). absurd (omega (arith, h, short))) out.2
rows_from file m code n out k c (slots h) = ⊎_elim (λ le. le) (λ (few : code.max_stack + code.max_locals ≤ 64). absurd (omega (arith, h, few))) out.3
rows_from file m code n out k c (float d typed h) = ⊎_elim (λ le. le) (λ floatless. absurd (h (floatless d typed))) out.4
rows_from file m code n out k c (bad_code f at bad is) = ⊎_elim (λ le. le) (λ good. absurd (good f bad)) out.5
rows_from file m code n out k c (instruction l at first) = ⊎_elim (λ le. le) (λ clean. absurd (clean l at first)) out.6
rows_from file m code n out k c (untyped p is h) = out.7

-- ---- a program, or a cause

-- each instruction that does something has no cause
pub all_clean : (pool : List Entry) (before : List Placed) (here : Placed) (after : List Placed) (actions : List Action) (k : CauseKind) → AllZip (Does pool) (before ++ here ∷ after) actions → IsCauseOf pool here.insn k → ⊥
all_clean pool [] here after [] k all h = elim all [ ]
all_clean pool [] here after (a ∷ actions) k all h = clean pool here.insn a k all.0.0 all.0.1.0 all.0.1.1 h
all_clean pool (i ∷ before) here after [] k all h = elim all [ ]
all_clean pool (i ∷ before) here after (a ∷ actions) k all h = all_clean pool before here after actions k all.1 h

no_row : (file : ClassFile) (m : Method) (p : Program) (code : Code) (n : ℕ) (c : Cause) → HasBytes m → (a : IsAccepted file m p) → m.code ≡ Some code → Row file m code n c → ⊥
no_row file m p code n c bytes a has row = by_row n c row
  where
    same_code : a.of_method.code ≡ code
    same_code = some_of _ _ (sym a.of_method.has ∙ has)

    by_row : (n : ℕ) (c : Cause) → Row file m code n c → ⊥
    by_row n c (handler h) = h (ap (λ (x : Code). x.handlers) (sym same_code) ∙ a.of_method.handlers)
    by_row n c (synchronized h) = h a.of_method.unsynchronized
    by_row n c (long_code h) =
        let short : length code.bytes ≤ 8192 = subst (λ (x : Code). length x.bytes ≤ 8192) (some_of _ _ (sym a.has ∙ has)) a.short in
        omega arith
    by_row n c (slots h) =
        let stack : p.max_stack ≡ code.max_stack = a.of_method.max_stack ∙ ap (λ (x : Code). x.max_stack) same_code in
        let locals : p.max_locals ≡ code.max_locals = a.of_method.max_locals ∙ ap (λ (x : Code). x.max_locals) same_code in
        let few = a.few in
        omega arith
    by_row n c (float d typed h) = h (subst IsFloatlessMethod (method_type_once m.desc p.desc d a.of_method.desc typed) a.of_method.floatless)
    by_row n c (bad_code f at bad is) =
        good_or_bad code.bytes a.of_method.actions.placed f (bytes code has) (subst (λ (x : Code). IsCode x.bytes a.of_method.actions.placed) same_code a.of_method.actions.spelled) bad
    by_row n c (instruction k at first) =
        let spelled = subst (λ (x : Code). IsCode x.bytes a.of_method.actions.placed) same_code a.of_method.actions.spelled in
        let same_placed : a.of_method.actions.placed ≡ first.before ++ first.here ∷ first.after = code_once code.bytes a.of_method.actions.placed first.placed (bytes code has) spelled first.spelled ∙ first.parts in
        all_clean file.pool first.before first.here first.after p.actions k (subst (λ (x : List Placed). AllZip (Does file.pool) x p.actions) same_placed a.of_method.actions.acts) first.cause
    by_row n c (untyped q is h) = h (subst HasFrames (one_program file m p q bytes a.of_method is) a.typed)

-- an accepted method isn't refused
pub accepted_or_refused : (file : ClassFile) (m : Method) (p : Program) (c : Cause) → HasBytes m → IsAccepted file m p → IsRefused file m c → ⊥
accepted_or_refused file m p c bytes a r = no_row file m p r.code r.number c bytes a r.has r.row

-- ---- one cause

-- a constant that isn't accepted is no float
other_or_float : (u : Use) → NamesOther u → NamesFloat u → ⊥
other_or_float (used.Constant (constant.Other tag)) p q = q
other_or_float u p q = p

-- an instruction has one cause
one_with : (opcode : ℕ) (u : Use) (k l : CauseKind) → IsCauseWith opcode u k → IsCauseWith opcode u l → k ≡ l
one_with opcode u kind.Float kind.Float p q = refl
one_with opcode u kind.Code kind.Code p q = refl
one_with opcode u kind.Constant kind.Constant p q = refl
one_with opcode u kind.Float kind.Code p q = absurd (q p.0)
one_with opcode u kind.Code kind.Float p q = absurd (p q.0)
one_with opcode u kind.Code kind.Constant p q = absurd (p q.0)
one_with opcode u kind.Constant kind.Code p q = absurd (q p.0)
one_with opcode u kind.Constant kind.Float p q = absurd (other_or_float u p.1 q.1)
one_with opcode u kind.Float kind.Constant p q = absurd (other_or_float u q.1 p.1)
one_with opcode u kind.Float l p q = elim q [ ]
one_with opcode u kind.Code l p q = elim q [ ]
one_with opcode u kind.Constant l p q = elim q [ ]
one_with opcode u k l p q = elim p [ ]

pub one_cause_of : (pool : List Entry) (i : Insn) (k l : CauseKind) → IsCauseOf pool i k → IsCauseOf pool i l → k ≡ l
one_cause_of pool (insn.Refused opcode) k l p q = some_of _ _ (sym p ∙ q)
one_cause_of pool (insn.Pool opcode i) k l p q = one_with opcode (use_of pool (insn.Pool opcode i)) k l p q
one_cause_of pool i k l p q = elim p [ ]

head_is : (i j : Placed) (x y : List Placed) → i ∷ x ≡ j ∷ y → (i ≡ j) × (x ≡ y)
head_is i j x y e = (cc, cc)

-- the first with a cause is one
one_first : (pool : List Entry) (before after before' after' : List Placed) (here here' : Placed) (k k' : CauseKind) →
    AllByRecursion (HasNoCause pool) before → AllByRecursion (HasNoCause pool) before' → IsCauseOf pool here.insn k → IsCauseOf pool here'.insn k' → before ++ here ∷ after ≡ before' ++ here' ∷ after' → here ≡ here'
one_first pool [] after [] after' here here' k k' c c' h h' e = (head_is _ _ _ _ e).0
one_first pool [] after (i ∷ before') after' here here' k k' c c' h h' e = absurd (subst (HasNoCause pool) (sym (head_is _ _ _ _ e).0) c'.0 k h)
one_first pool (i ∷ before) after [] after' here here' k k' c c' h h' e = absurd (subst (HasNoCause pool) (head_is _ _ _ _ e).0 c.0 k' h')
one_first pool (i ∷ before) after (j ∷ before') after' here here' k k' c c' h h' e = one_first pool before after before' after' here here' k k' c.1 c'.1 h h' (head_is _ _ _ _ e).1

one_instruction : (pool : List Entry) (code : Code) (k l : CauseKind) (at at' : ℕ) → IsBytes code.bytes → IsFirst pool code k at → IsFirst pool code l at' → (k ≡ l) × (at ≡ at')
one_instruction pool code k l at at' bytes a b =
    let same_list : a.before ++ a.here ∷ a.after ≡ b.before ++ b.here ∷ b.after = sym a.parts ∙ code_once code.bytes a.placed b.placed bytes a.spelled b.spelled ∙ b.parts in
    let same_here : a.here ≡ b.here = one_first pool a.before a.after b.before b.after a.here b.here k l a.clean b.clean a.cause b.cause same_list in
    (one_cause_of pool b.here.insn k l (subst (λ (i : Placed). IsCauseOf pool i.insn k) same_here a.cause) b.cause, a.address ∙ ap (λ (i : Placed). i.at) same_here ∙ sym b.address)

abbrev BadCode : Code → Cause → Type 0
BadCode code c = (f : CodeFault) × (at : ℕ) × IsBad code.bytes f × (address_of f ≡ Some at) × (c ≡ cause kind.Code at)

abbrev BadInstruction : ClassFile → Code → Cause → Type 0
BadInstruction file code c = (k : CauseKind) × (at : ℕ) × IsFirst file.pool code k at × (c ≡ cause k at)

-- the kind of the rows that are for no single instruction
abbrev kind_of_row : ℕ → CauseKind
kind_of_row n = if n == 1 then kind.Handler else if n == 2 then kind.Monitor else if n == 3 then kind.LongCode else if n == 4 then kind.Slots else if n == 5 then kind.Float else kind.Types

-- what a row of a number says
data Says (file : ClassFile) (code : Code) (n : ℕ) (c : Cause) : Type 0 where
  plain : (k : CauseKind) → n ≢ 6 → n ≢ 7 → k ≡ kind_of_row n → c ≡ cause k 0 → Says file code n c
  sixth : n ≡ 6 → BadCode code c → Says file code n c
  seventh : n ≡ 7 → BadInstruction file code c → Says file code n c

says : (file : ClassFile) (m : Method) (code : Code) (n : ℕ) (c : Cause) → Row file m code n c → Says file code n c
says file m code n c (handler h) = plain kind.Handler (λ e. omega arith) (λ e. omega arith) refl refl
says file m code n c (synchronized h) = plain kind.Monitor (λ e. omega arith) (λ e. omega arith) refl refl
says file m code n c (long_code h) = plain kind.LongCode (λ e. omega arith) (λ e. omega arith) refl refl
says file m code n c (slots h) = plain kind.Slots (λ e. omega arith) (λ e. omega arith) refl refl
says file m code n c (float d typed h) = plain kind.Float (λ e. omega arith) (λ e. omega arith) refl refl
says file m code n c (bad_code f at bad is) = sixth refl (f, at, bad, is, refl)
says file m code n c (instruction k at first) = seventh refl (k, at, first, refl)
says file m code n c (untyped q is h) = plain kind.Types (λ e. omega arith) (λ e. omega arith) refl refl

one_said : (file : ClassFile) (code : Code) (n : ℕ) (c d : Cause) → IsBytes code.bytes → Says file code n c → Says file code n d → c ≡ d
one_said file code n c d bytes (plain k x y is e) (plain l z t js f) = e ∙ ap (λ (q : CauseKind). cause q 0) (is ∙ sym js) ∙ sym f
one_said file code n c d bytes (plain k x y is e) (sixth z f) = absurd (x z)
one_said file code n c d bytes (plain k x y is e) (seventh z f) = absurd (y z)
one_said file code n c d bytes (sixth z f) (plain k x y is e) = absurd (x z)
one_said file code n c d bytes (seventh z f) (plain k x y is e) = absurd (y z)
one_said file code n c d bytes (sixth x (f, at, bad, is, e)) (sixth y (g, at', bad', is', e')) =
    let same_fault : f ≡ g = fault_once code.bytes f g bytes bad bad' in
    let same_at : at ≡ at' = some_of _ _ (sym is ∙ ap address_of same_fault ∙ is') in
    e ∙ ap (cause kind.Code) same_at ∙ sym e'
one_said file code n c d bytes (seventh x (k, at, first, e)) (seventh y (l, at', first', e')) =
    let same = one_instruction file.pool code k l at at' bytes first first' in
    e ∙ ap (λ (q : CauseKind). cause q at) same.0 ∙ ap (cause l) same.1 ∙ sym e'
one_said file code n c d bytes (sixth x f) (seventh y g) = absurd (omega arith)
one_said file code n c d bytes (seventh x f) (sixth y g) = absurd (omega arith)

-- a method is refused for one cause
pub one_cause : (file : ClassFile) (m : Method) (c d : Cause) → HasBytes m → IsRefused file m c → IsRefused file m d → c ≡ d
one_cause file m c d bytes a b =
    let same_code : b.code ≡ a.code = some_of _ _ (sym b.has ∙ a.has) in
    let other = subst (λ (x : Code). Row file m x b.number d) same_code b.row in
    let same_row = subst (λ (x : Code). Row file m x a.number c) (sym same_code) a.row in
    let below = a.none_before b.number d other in
    let above = b.none_before a.number c same_row in
    let same_number : b.number ≡ a.number = omega arith in
    one_said file a.code a.number c d (bytes a.code a.has) (says file m a.code a.number c a.row) (says file m a.code a.number d (subst (λ (n : ℕ). Row file m a.code n d) same_number other))
