-- One thing is said of each method.
use Rattle.std.proofs.Common.{◌≡◌, ◌⊎◌, ℕ, List, Option, Some, None, inl, inr, refl, sym, ap, subst, ◌∙◌}
use Rattle.std.specs.Prelude.{slice_get}
use Rattle.std.specs.List.{AllByRecursion}
use Rattle.pv_class.specs.declared.file.ClassFile.{ClassFile}
use Rattle.pv_class.specs.declared.file.Code.{Code}
use Rattle.pv_class.specs.declared.file.Method.{Method}
use Rattle.pv_class.specs.ClassFiles.{AreDistinct}
use Rattle.pv_class.proofs.Cited.{HasBytes}
use Rattle.pv_frame.specs.declared.cause.Cause.{Cause}
use Rattle.pv_frame.specs.declared.program.Program.{Program}
use Rattle.pv_frame.specs.Causes.{IsRefused}
use Rattle.pv_frame.proofs.Cited.{accepted_or_refused, one_cause, one_program}
use Rattle.pv_refute.specs.declared.refuting.Found.{Found}
use Rattle.pv_refute.specs.declared.refuting.Found.TheVariants as found
use Rattle.pv_refute.specs.Differences.{Trial}
use Rattle.pv_refute.proofs.Cited.{found_once}
use Rattle.pv_report.specs.declared.verdict.Side.TheVariants as side
use Rattle.pv_report.specs.Partners.{IsPartner}
use Rattle.pv_report.specs.Verdicts.{HasCode}
use Rattle.pv_report.proofs.Cited.{all_at, place_of, slice_once}
use Rattle.pv_differences.specs.declared.finding.Finding.{Finding}
use Rattle.pv_differences.specs.declared.finding.Finding.TheVariants as finding
use Rattle.pv_differences.specs.declared.finding.RunLimits.{RunLimits}
use Rattle.pv_differences.specs.Calls.{MakesCalls}
use Rattle.pv_differences.specs.Findings.{CanRun, CanBothRun, LackPrograms, trial, IsFindingOn, IsFinding}
use Rattle.pv_differences.specs.Reading.{IsFoundFinding}

-- ---- what has a code

has_none : (m : Method) → m.code ≡ None → HasCode m → ⊥
has_none m e h = absurd (let both : ◌≡◌ {A = Option Code} None (Some h.0) = sym e ∙ h.1 in cc both)

run_code : (f : ClassFile) (m : Method) → CanRun f m → HasCode m
run_code f m a = (a.accepted.code, a.accepted.has)

refused_code : (f : ClassFile) (m : Method) (c : Cause) → IsRefused f m c → HasCode m
refused_code f m c h = (h.code, h.has)

-- ---- two methods that can't both be run

-- a method that can be run isn't refused
not_refused : (f : ClassFile) (m : Method) (c : Cause) → HasBytes m → IsRefused f m c → CanRun f m → ⊥
not_refused f m c bytes h a = accepted_or_refused f m a.program c bytes a.accepted h

lack_once : (f : ClassFile) (m : Method) (g : ClassFile) (p : Method) (x y : Finding) → HasBytes m → HasBytes p → LackPrograms f m g p x → LackPrograms f m g p y → x ≡ y
lack_once f m g p (finding.NoCode side.First) (finding.NoCode side.First) b d h k = refl
lack_once f m g p (finding.NoCode side.First) (finding.NoCode side.Second) b d h k = absurd (has_none m h k.0)
lack_once f m g p (finding.NoCode side.First) (finding.Refused side.First e) b d h k = absurd (has_none m h (refused_code f m e k.1))
lack_once f m g p (finding.NoCode side.First) (finding.Refused side.Second e) b d h k = absurd (has_none m h (run_code f m k.0))
lack_once f m g p (finding.NoCode side.First) _ b d h k = absurd k
lack_once f m g p (finding.NoCode side.Second) (finding.NoCode side.First) b d h k = absurd (has_none m k h.0)
lack_once f m g p (finding.NoCode side.Second) (finding.NoCode side.Second) b d h k = refl
lack_once f m g p (finding.NoCode side.Second) (finding.Refused side.First e) b d h k = absurd (has_none p h.1 k.0)
lack_once f m g p (finding.NoCode side.Second) (finding.Refused side.Second e) b d h k = absurd (has_none p h.1 (refused_code g p e k.1))
lack_once f m g p (finding.NoCode side.Second) _ b d h k = absurd k
lack_once f m g p (finding.Refused side.First c) (finding.NoCode side.First) b d h k = absurd (has_none m k (refused_code f m c h.1))
lack_once f m g p (finding.Refused side.First c) (finding.NoCode side.Second) b d h k = absurd (has_none p k.1 h.0)
lack_once f m g p (finding.Refused side.First c) (finding.Refused side.First e) b d h k = ap (λ (r : Cause). finding.Refused side.First r) (one_cause f m c e b h.1 k.1)
lack_once f m g p (finding.Refused side.First c) (finding.Refused side.Second e) b d h k = absurd (not_refused f m c b h.1 k.0)
lack_once f m g p (finding.Refused side.First c) _ b d h k = absurd k
lack_once f m g p (finding.Refused side.Second c) (finding.NoCode side.First) b d h k = absurd (has_none m k (run_code f m h.0))
lack_once f m g p (finding.Refused side.Second c) (finding.NoCode side.Second) b d h k = absurd (has_none p k.1 (refused_code g p c h.1))
lack_once f m g p (finding.Refused side.Second c) (finding.Refused side.First e) b d h k = absurd (not_refused f m e b k.1 h.0)
lack_once f m g p (finding.Refused side.Second c) (finding.Refused side.Second e) b d h k = ap (λ (r : Cause). finding.Refused side.Second r) (one_cause g p c e d h.1 k.1)
lack_once f m g p (finding.Refused side.Second c) _ b d h k = absurd k
lack_once f m g p _ _ b d h k = absurd h

lack_or_run : (f : ClassFile) (m : Method) (g : ClassFile) (p : Method) (x : Finding) → HasBytes m → HasBytes p → LackPrograms f m g p x → CanBothRun f m g p → ⊥
lack_or_run f m g p (finding.NoCode side.First) b d h r = has_none m h (run_code f m r.one)
lack_or_run f m g p (finding.NoCode side.Second) b d h r = has_none p h.1 (run_code g p r.two)
lack_or_run f m g p (finding.Refused side.First c) b d h r = not_refused f m c b h.1 r.one
lack_or_run f m g p (finding.Refused side.Second c) b d h r = not_refused g p c d h.1 r.two
lack_or_run f m g p _ b d h r = absurd h

-- ---- two methods that can both be run

-- there is one trial of them
trial_once : (limits : RunLimits) (f : ClassFile) (m : Method) (g : ClassFile) (p : Method) (r s : CanBothRun f m g p) → HasBytes m → HasBytes p → trial limits r.one.program r.two.program ≡ trial limits s.one.program s.two.program
trial_once limits f m g p r s b d =
    let one = one_program f m r.one.program s.one.program b r.one.accepted.of_method s.one.accepted.of_method in
    let two = one_program g p r.two.program s.two.program d r.two.accepted.of_method s.two.accepted.of_method in
    ap (λ (a : Program). trial limits a r.two.program) one ∙ ap (λ (c : Program). trial limits s.one.program c) two

-- tries find one thing
tried_once : (q : Trial) (x y : Finding) → IsFoundFinding q x → IsFoundFinding q y → x ≡ y
tried_once q (finding.Differs t i) (finding.Differs s j) h k = let both = found_once q (found.Differs t i) (found.Differs s j) h k in cc both
tried_once q (finding.Differs t i) (finding.Tried n) h k = let both = found_once q (found.Differs t i) found.Tried h k.0 in absurd (cc both)
tried_once q (finding.Differs t i) _ h k = absurd k
tried_once q (finding.Tried n) (finding.Differs s j) h k = let both = found_once q found.Tried (found.Differs s j) h.0 k in absurd (cc both)
tried_once q (finding.Tried n) (finding.Tried l) h k = ap finding.Tried (h.1 ∙ sym k.1)
tried_once q (finding.Tried n) _ h k = absurd k
tried_once q _ y h k = absurd h

data Runs (limits : RunLimits) (f : ClassFile) (m : Method) (g : ClassFile) (p : Method) (q : Trial) : Finding → Type 0 where
  first_calls : MakesCalls m → Runs limits f m g p q (finding.Calls side.First)
  second_calls : (MakesCalls m → ⊥) → MakesCalls p → Runs limits f m g p q (finding.Calls side.Second)
  tried : (MakesCalls m → ⊥) → (MakesCalls p → ⊥) → (x : Finding) → IsFoundFinding q x → Runs limits f m g p q x

runs_once : (limits : RunLimits) (f : ClassFile) (m : Method) (g : ClassFile) (p : Method) (q : Trial) (x y : Finding) → Runs limits f m g p q x → Runs limits f m g p q y → x ≡ y
runs_once limits f m g p q x y (first_calls a) (first_calls c) = refl
runs_once limits f m g p q x y (first_calls a) (second_calls c d) = absurd (c a)
runs_once limits f m g p q x y (first_calls a) (tried c d z is) = absurd (c a)
runs_once limits f m g p q x y (second_calls a b) (first_calls c) = absurd (a c)
runs_once limits f m g p q x y (second_calls a b) (second_calls c d) = refl
runs_once limits f m g p q x y (second_calls a b) (tried c d z is) = absurd (d b)
runs_once limits f m g p q x y (tried a b w is) (first_calls c) = absurd (a c)
runs_once limits f m g p q x y (tried a b w is) (second_calls c d) = absurd (b d)
runs_once limits f m g p q x y (tried a b w is) (tried c d z is_too) = tried_once q w z is is_too

-- ---- one finding on a method and its partner

abbrev CanRunAs : RunLimits → ClassFile → Method → ClassFile → Method → Finding → Type 0
CanRunAs limits f m g p x = (r : CanBothRun f m g p) × Runs limits f m g p (trial limits r.one.program r.two.program) x

said_by : (limits : RunLimits) (f : ClassFile) (m : Method) (g : ClassFile) (p : Method) (x : Finding) → IsFindingOn limits f m g p x → LackPrograms f m g p x ⊎ CanRunAs limits f m g p x
said_by limits f m g p (finding.Calls side.First) h = inr (h.0, first_calls h.1)
said_by limits f m g p (finding.Calls side.Second) h = inr (h.0, second_calls h.1 h.2)
said_by limits f m g p (finding.Differs t i) h = inr (h.0, tried h.1 h.2 (finding.Differs t i) h.3)
said_by limits f m g p (finding.Tried n) h = inr (h.0, tried h.1 h.2 (finding.Tried n) h.3)
said_by limits f m g p _ h = inl h

said_once : (limits : RunLimits) (f : ClassFile) (m : Method) (g : ClassFile) (p : Method) (x y : Finding) → HasBytes m → HasBytes p → LackPrograms f m g p x ⊎ CanRunAs limits f m g p x → LackPrograms f m g p y ⊎ CanRunAs limits f m g p y → x ≡ y
said_once limits f m g p x y b d (inl h) (inl k) = lack_once f m g p x y b d h k
said_once limits f m g p x y b d (inl h) (inr k) = absurd (lack_or_run f m g p x b d h k.0)
said_once limits f m g p x y b d (inr h) (inl k) = absurd (lack_or_run f m g p y b d k h.0)
said_once limits f m g p x y b d (inr h) (inr k) = runs_once limits f m g p (trial limits h.0.one.program h.0.two.program) x y h.1 (subst (λ (q : Trial). Runs limits f m g p q y) (trial_once limits f m g p k.0 h.0 b d) k.1)

-- ---- one finding on a method

pub partner_once : (m : Method) (others : List Method) (p q : Method) → AreDistinct others → IsPartner m others p → IsPartner m others q → p ≡ q
partner_once m others p q distinct a b =
    let first = place_of others p a.among in
    let second = place_of others q b.among in
    let one = distinct first.0 second.0 p q first.1 second.1 (a.like.name ∙ sym b.like.name) (a.like.desc ∙ sym b.like.desc) in
    slice_once others second.0 p q (subst (λ (k : ℕ). slice_get others k ≡ Some p) one first.1) second.1

with_partner : (limits : RunLimits) (f g : ClassFile) (m : Method) (x : Finding) → IsFinding limits f g m x → ((x ≡ finding.Missing) × ((p : Method) → IsPartner m g.methods p → ⊥)) ⊎ ((p : Method) × IsPartner m g.methods p × IsFindingOn limits f m g p x)
with_partner limits f g m finding.Missing h = inl (refl, h)
with_partner limits f g m _ h = inr h

pub finding_once : (limits : RunLimits) (f g : ClassFile) (m : Method) (x y : Finding) → AreDistinct g.methods → HasBytes m → AllByRecursion HasBytes g.methods → IsFinding limits f g m x → IsFinding limits f g m y → x ≡ y
finding_once limits f g m x y distinct b all h k =
    elim (with_partner limits f g m x h) [
      | inl a ↦
          elim (with_partner limits f g m y k) [
            | inl c ↦ a.0 ∙ sym c.0
            | inr c ↦ absurd (a.1 c.0 c.1)
          ]
      | inr a ↦
          elim (with_partner limits f g m y k) [
            | inl c ↦ absurd (c.1 a.0 a.1)
            | inr c ↦
                let on = subst (λ (p : Method). IsFindingOn limits f m g p y) (partner_once m g.methods c.0 a.0 distinct c.1 a.1) c.2 in
                said_once limits f m g a.0 x y b (all_at HasBytes g.methods a.0 all a.1.among) (said_by limits f m g a.0 x a.2) (said_by limits f m g a.0 y on)
          ]
    ]
