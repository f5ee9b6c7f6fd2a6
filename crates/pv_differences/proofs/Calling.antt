-- Whether a code has a call.
use Rattle.std.proofs.Common.{◌≡◌, ◌≢◌, ◌↔◌, ℕ, ◌<◌, Bool, true, false, List, length, get_or, Option, Some, None, Result, Ok, Err, refl, sym, subst, ◌∙◌}
use Rattle.std.specs.Prelude.{IsTrue}
use Rattle.std.specs.List.{AllByRecursion}
use Rattle.pv_class.specs.declared.file.Code.{Code}
use Rattle.pv_class.specs.declared.file.Method.{Method}
use Rattle.pv_insn.specs.declared.insn.Placed.{Placed}
use Rattle.pv_insn.specs.declared.fault.CodeFault.{CodeFault}
use Rattle.pv_insn.specs.declared.fault.CodeFault.TheVariants as fault
use Rattle.pv_insn.specs.Answers.{Answers, Tells}
use Rattle.pv_report.proofs.Cited.{all_at}
use Rattle.pv_differences.specs.Calls.{HasCall, IsCall, MakesCalls, SomeCall}

-- ---- the instructions of a code

-- it is no call
abbrev pub IsNoCall : Placed → Type 0
IsNoCall p = IsCall p.insn → ⊥

pub none_calls : (insns : List Placed) → AllByRecursion IsNoCall insns → SomeCall insns → ⊥
none_calls insns none (one, among, is) = all_at IsNoCall insns one none among is

pub one_calls : (insns : List Placed) (i : ℕ) (x : Placed) → i < length insns → x ≡ get_or insns i x → IsCall x.insn → SomeCall insns
one_calls insns i x lt is call = (x, (i, lt, sym is), call)

-- ---- what was decoded

same_insns : (a b : List Placed) → ◌≡◌ {A = Result (List Placed) CodeFault} (Ok a) (Ok b) → a ≡ b
same_insns a b e = cc e

pub decoded : (bytes : List ℕ) (insns : List Placed) (b : Bool) → Answers bytes (Ok insns) → Tells bytes (Ok insns) → (IsTrue b ↔ SomeCall insns) → IsTrue b ↔ HasCall bytes
decoded bytes insns b exact only is = (
  λ yes. (insns, exact, is.0 yes),
  λ h. is.1 (subst SomeCall (sym (same_insns insns h.0 (only (Ok h.0) h.1))) h.2),
)

-- bytes that are no code have none
pub undecoded : (bytes : List ℕ) (f : CodeFault) → f ≢ fault.Memory → Tells bytes (Err f) → IsTrue false ↔ HasCall bytes
undecoded bytes fault.Memory has only = absurd (has refl)
undecoded bytes f has only = (
  λ no. absurd (cc no),
  λ h. absurd (let both : ◌≡◌ {A = Result (List Placed) CodeFault} (Err f) (Ok h.0) = only (Ok h.0) h.1 in cc both),
)

-- ---- the code of a method

pub of_code : (m : Method) (code : Code) (b : Bool) → m.code ≡ Some code → (IsTrue b ↔ HasCall code.bytes) → IsTrue b ↔ MakesCalls m
of_code m code b has is = (
  λ yes. (code, has, is.0 yes),
  λ h. is.1 (
      let both : ◌≡◌ {A = Option Code} (Some h.0) (Some code) = sym h.1 ∙ has in
      let same : h.0 ≡ code = cc both in
      subst (λ (c : Code). HasCall c.bytes) same h.2
      ),
)

pub of_none : (m : Method) → m.code ≡ None → IsTrue false ↔ MakesCalls m
of_none m has = (λ no. absurd (cc no), λ h. absurd (let both : ◌≡◌ {A = Option Code} None (Some h.0) = sym has ∙ h.1 in cc both))
