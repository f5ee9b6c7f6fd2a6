-- Whether a step is right, after steps that are right or not.
use Rattle.std.specs.Prelude.{◌≡◌, ◌↔◌, ℕ, zero, suc, ◌+◌, ◌-◌, ◌<◌, ◌≤◌, Bool, false, List, length, Result, Ok, Err, Some, slice_get, IfOk, IsTrue, refl}
use Rattle.std.proofs.Math.ListN.{get_or}
use Rattle.std.proofs.Math.Nat.{sub-add_cancel}
use Rattle.std.proofs.Common.{sym, ◌∙◌, subst, arith}
use Rattle.std.proofs.lemmas.Option.{slice_get-get_or}
use Rattle.pv_value.specs.declared.memory.Memory.{Memory}
use Rattle.pv_graph.specs.Graphs.{Graph}
use Rattle.pv_graph.specs.Calls.{IsSame}
use Rattle.pv_steps.specs.declared.step.Step.TheVariants as steps
use Rattle.pv_steps.specs.declared.step.Step.{Step}
use Rattle.pv_steps.specs.Right.{AddsNode, Grows, GraphAfter, Instances, Right, RightOver}
use Rattle.pv_steps.specs.Accepted.{first_steps}
use Rattle.pv_steps.proofs.Cited.{after_same}
use Rattle.pv_check.specs.Rules.{KeepPrepared}
use Rattle.pv_check.specs.Checking.{IsReplayed, IsRightAt}
use Rattle.pv_check.proofs.Carried.{adds_same}
use Rattle.pv_check.proofs.Finding.{place_is}
use Rattle.pv_check.proofs.Fronts.{next_first}
use Rattle.pv_check.proofs.Checking.{is_right}

-- a graph after d more steps comes from one before them
earlier : (g : Graph) (section : List Step) (x : Step) (d n m : ℕ) → m ≡ d + n → m ≤ length section → (now : Graph) → GraphAfter g (first_steps m section) now → (old : Graph) × GraphAfter g (first_steps n section) old
earlier g section x zero n m e low now h = let same : m ≡ n = omega (arith, e) in (now, subst (λ (q : ℕ). GraphAfter g (first_steps q section) now) same h)
earlier g section x (suc d) n m e low now h =
    let more : m ≡ suc (d + n) = omega (arith, e) in
    let s : Step = get_or section (d + n) x in
    let after : GraphAfter g (first_steps (suc (d + n)) section) now = subst (λ (q : ℕ). GraphAfter g (first_steps q section) now) more h in
    let r = subst (λ (q : List Step). GraphAfter g q now) (next_first section (d + n) s (slice_get-get_or section (d + n) x (omega (arith, low, more)))) after in
    earlier g section x d n (d + n) refl (omega (arith, low, more)) r.0 r.1

grows_graph : (s : Step) (now graph new : Graph) → IsSame now graph → Grows s now new → (next : Graph) × Grows s graph next
grows_graph (steps.Node n o kids) now graph new e h = (new, subst (λ (g : Graph). AddsNode g n o kids new) (sym e) (adds_same now new graph.is_prepared n o kids h))
grows_graph s now graph new e h = (graph, refl)

-- after a step that leaves no graph there is none
pub no_graph : (g graph : Graph) (section : List Step) (n : ℕ) (innermost : List ℕ) (opened : List Bool) → IsReplayed g section n innermost opened graph → n < length section → (d : Step)
    → ((new : Graph) → Grows (get_or section n d) graph new → ⊥) → (k : ℕ) → n < k → k ≤ length section → (now : Graph) → GraphAfter g (first_steps k section) now → ⊥
no_graph g graph section n innermost opened h low d none k past within now after =
    let s : Step = get_or section n d in
    let more : k ≡ k - suc n + suc n = sym (sub-add_cancel past) in
    let r = earlier g section d (k - suc n) (suc n) k more within now after in
    let t = subst (λ (q : List Step). GraphAfter g q r.0) (next_first section n s (slice_get-get_or section n d low)) r.1 in
    let same : t.0 ≡ h.now = after_same g (first_steps n section) t.0 h.now t.1 h.after in
    let z = grows_graph s h.now graph r.0 h.same (subst (λ (x : Graph). Grows s x r.0) same t.2) in
    none z.0 z.1

-- where there is no graph after the steps before it, a step isn't right
pub is_stuck : (R : Instances) (g : Graph) (section : List Step) (k : ℕ) → ((now : Graph) → GraphAfter g (first_steps (k - 1) section) now → ⊥) → IsTrue false ↔ IsRightAt R g section k
is_stuck R g section k none = (λ yes. absurd (cc), λ r. absurd (none r.2.0 r.2.1))

right_at : (R : Instances) → KeepPrepared R → (g graph : Graph) (section : List Step) (k : ℕ) (innermost : List ℕ) (opened : List Bool) → IsReplayed g section (k - 1) innermost opened graph → 1 ≤ k → k ≤ length section → (d : Step)
    → (b : Bool) → IsTrue b ↔ RightOver R graph (first_steps (k - 1) section) (get_or section (k - 1) d) → IsTrue b ↔ IsRightAt R g section k
right_at R keep g graph section k innermost opened h low within d b t =
    let s : Step = get_or section (k - 1) d in
    let there : slice_get section (k - 1) ≡ Some s = slice_get-get_or section (k - 1) d (omega (arith, low, within)) in
    let number = place_is section k s (λ e. omega (arith, low, e)) there in
    let r = is_right R keep g graph section (k - 1) innermost opened h s in (
      λ yes. (s, number, r.0 (t.0 yes)),
      λ a. let same : a.0 ≡ s = let z : Some a.0 ≡ Some s = sym a.1 ∙ number in cc in t.1 (r.1 (subst (λ (x : Step). Right R g (first_steps (k - 1) section) x) same a.2)),
    )

pub all_right_at : (R : Instances) → KeepPrepared R → (g graph : Graph) (section : List Step) (k : ℕ) (innermost : List ℕ) (opened : List Bool) → IsReplayed g section (k - 1) innermost opened graph → 1 ≤ k → k ≤ length section → (d : Step)
    → (r : Result Bool Memory) → IfOk r (λ yes. IsTrue yes ↔ RightOver R graph (first_steps (k - 1) section) (get_or section (k - 1) d)) → IfOk r (λ yes. IsTrue yes ↔ IsRightAt R g section k)
all_right_at R keep g graph section k innermost opened h low within d (Ok b) t = right_at R keep g graph section k innermost opened h low within d b t
all_right_at R keep g graph section k innermost opened h low within d (Err m) t = tt
