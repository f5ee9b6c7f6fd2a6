-- The exits of a block's chain are the departures of its last action, in their order.
use Rattle.std.proofs.Common.{◌≡◌, ℕ, suc, pos, Bool, true, false, List, [], ◌∷◌, ◌++◌, map, Option, Some, None, refl, ap, sym, subst, ◌∙◌, inl, inr, if◌then◌else◌}
use Rattle.pv_runs.proofs.Words.{◌⊎◌, Contains, AllZip, ◌>>=◌, Sym, JType, Case, Sort, Comparison, Test, Action, popped, takes, some_of, contains_first, contains_more, contains_cases, contains_none, Departure, Goes, Returns, Throws, branches_on_no, branched, departures, Part, Exit, Chain, Leave, InChain, Cell, Held, cell_sort, int_part, push, after_call, acted_on, to, throw, give, compared, branch, switch, test_part, chain_with, given_chain, last_chain, ends_method, chain_of}
use Rattle.pv_frame.specs.declared.sort.Sort.TheVariants as sort
use Rattle.pv_frame.specs.declared.action.Comparison.TheVariants as comparison
use Rattle.pv_frame.specs.declared.action.Test.TheVariants as test
use Rattle.pv_frame.specs.declared.action.Action.TheVariants as act
use Rattle.pv_equations.specs.Flow as flow
use Rattle.pv_runs.proofs.Options.{mapped, bound}

-- the exits of a chain, in the order of its tests
abbrev pub exits_of : Chain → List Exit
exits_of (Leave e) = e ∷ []
exits_of (flow.Test t e rest) = e ∷ exits_of rest

-- one value more is held
abbrev pub Pushes : Held → Held → Type 0
Pushes h g = (s : Sort) × (q : Part) × (g ≡ push h s q)

-- An exit for a departure of an action with these operands, where h is what is held without them: it goes to the same place, with what
-- is held before or after the action, or with the number that a type test gives; it returns; or it throws, with what is held before it or after its call.
abbrev pub Departs : Action → Held → List Cell → Departure → Exit → Type 0
Departs a h cells (Goes place) e = (g : Held) × (e ≡ to place g) × ((g ≡ h) ⊎ ((acted_on a h cells ≡ Some g) ⊎ Pushes h g))
Departs a h cells Returns e = (result : Part) × (e ≡ give result h)
Departs a h cells Throws e = (fault : Part) × (g : Held) × (e ≡ throw fault g) × ((g ≡ h) ⊎ ((f : Sym) × (g ≡ after_call h f cells)))

abbrev AreExits : ℕ → Action → Held → List Cell → Chain → Type 0
AreExits k a h cells c = AllZip (Departs a h cells) (departures k a) (exits_of c)

are_exits : (k : ℕ) (a : Action) (h : Held) (cells : List Cell) (c d : Chain) → AreExits k a h cells c → Some c ≡ Some d → AreExits k a h cells d
are_exits k a h cells c d x e = subst (AreExits k a h cells) (some_of c d e) x

-- ---- branches and switches

-- a branch is taken on yes, or on no
compared_on : (c : Comparison) (x y : Part) (b : Bool) → branches_on_no (test.Ints c) ≡ b → (compared c x y).1 ≡ (if b then false else true)
compared_on comparison.Eq x y b e = subst (λ (b : Bool). true ≡ (if b then false else true)) e refl
compared_on comparison.Ne x y b e = subst (λ (b : Bool). false ≡ (if b then false else true)) e refl
compared_on comparison.Lt x y b e = subst (λ (b : Bool). true ≡ (if b then false else true)) e refl
compared_on comparison.Ge x y b e = subst (λ (b : Bool). false ≡ (if b then false else true)) e refl
compared_on comparison.Gt x y b e = subst (λ (b : Bool). true ≡ (if b then false else true)) e refl
compared_on comparison.Le x y b e = subst (λ (b : Bool). false ≡ (if b then false else true)) e refl

test_on : (t : Test) (cells : List Cell) (q : Part × Bool) → test_part t cells ≡ Some q → q.1 ≡ (if branches_on_no t then false else true)
test_on (test.Zero c) (x ∷ []) q e = ap (λ (q : Part × Bool). q.1) (sym (some_of _ q e)) ∙ compared_on c x.part _ _ refl
test_on (test.Ints c) (x ∷ y ∷ []) q e = ap (λ (q : Part × Bool). q.1) (sym (some_of _ q e)) ∙ compared_on c x.part y.part _ refl
test_on test.Same (x ∷ y ∷ []) q e = ap (λ (q : Part × Bool). q.1) (sym (some_of _ q e))
test_on test.Other (x ∷ y ∷ []) q e = ap (λ (q : Part × Bool). q.1) (sym (some_of _ q e))
test_on test.Null (x ∷ []) q e = ap (λ (q : Part × Bool). q.1) (sym (some_of _ q e))
test_on test.NonNull (x ∷ []) q e = ap (λ (q : Part × Bool). q.1) (sym (some_of _ q e))
test_on t cells q e = absurd (cc)

branch_exits : (R : Departure → Exit → Type 0) (t : Part) (b no : Bool) (target k : ℕ) (taken next : Exit) → b ≡ (if no then false else true) → R (Goes target) taken → R (Goes k) next
    → AllZip R (branched no target k) (exits_of (branch (t, b) taken next))
branch_exits R t true false target k taken next e r s = (r, (s, tt))
branch_exits R t false true target k taken next e r s = (s, (r, tt))
branch_exits R t true true target k taken next e r s = absurd (cc)
branch_exits R t false false target k taken next e r s = absurd (cc)

switch_exits : (R : Departure → Exit → Type 0) (x : Part) (default : ℕ) (cases : List Case) (h : Held) → ((place : ℕ) → R (Goes place) (to place h))
    → AllZip R (map (λ c. Goes c.target) cases ++ Goes default ∷ []) (exits_of (switch x default cases h))
switch_exits R x default [] h r = (r default, tt)
switch_exits R x default (c ∷ cases) h r = (r c.target, switch_exits R x default cases h r)

-- ---- actions

module _ (r : Option JType) (h g : Held) (k : ℕ) (c : Chain) where
  -- one exit, to the next place
  only_next : (a : Action) (cells : List Cell) → acted_on a h cells ≡ Some g → Departs a h cells (Goes (suc k)) (to (suc k) g)
  only_next a cells y = (g, refl, inr (inl y))

  fails : (a : Action) (cells : List Cell) (fault : Part) → Departs a h cells Throws (throw fault h)
  fails a cells fault = (fault, h, refl, inl refl)

  -- an action that goes on
  next_exits : (a : Action) (cells : List Cell) → acted_on a h cells ≡ Some g → chain_with r a h cells (to (suc k) g) ≡ Some c → AreExits k a h cells c
  next_exits (act.Branch t target) cells y e =
      let q = mapped (λ (x : Part × Bool). branch x (to target h) (to (suc k) g)) (test_part t cells) c e in
      let at = act.Branch t target in
      subst (AreExits k at h cells) q.2 (branch_exits (Departs at h cells) q.0.0 q.0.1 (branches_on_no t) target (suc k) (to target h) (to (suc k) g) (test_on t cells q.0 q.1) (h, refl, inl refl) (only_next at cells y))
  next_exits (act.Jump target) cells y e = are_exits k (act.Jump target) h cells _ c ((h, refl, inl refl), tt) e
  next_exits (act.Switch default cases) (x ∷ []) y e = are_exits k (act.Switch default cases) h (x ∷ []) _ c (switch_exits (Departs (act.Switch default cases) h (x ∷ [])) x.part default cases h (λ place. (h, refl, inl refl))) e
  next_exits (act.Divide o) (a ∷ b ∷ []) y e = are_exits k (act.Divide o) h (a ∷ b ∷ []) _ c (fails (act.Divide o) (a ∷ b ∷ []) _, (only_next (act.Divide o) (a ∷ b ∷ []) y, tt)) e
  next_exits (act.GetField t f) (o ∷ []) y e = are_exits k (act.GetField t f) h (o ∷ []) _ c (fails (act.GetField t f) (o ∷ []) _, (only_next (act.GetField t f) (o ∷ []) y, tt)) e
  next_exits (act.PutField t f) (o ∷ x ∷ []) y e = are_exits k (act.PutField t f) h (o ∷ x ∷ []) _ c (fails (act.PutField t f) (o ∷ x ∷ []) _, (only_next (act.PutField t f) (o ∷ x ∷ []) y, tt)) e
  next_exits act.Length (o ∷ []) y e = are_exits k act.Length h (o ∷ []) _ c (fails act.Length (o ∷ []) _, (only_next act.Length (o ∷ []) y, tt)) e
  next_exits (act.LoadElement z) (a ∷ i ∷ []) y e =
      let at = act.LoadElement z in
      are_exits k at h (a ∷ i ∷ []) _ c (fails at (a ∷ i ∷ []) _, (fails at (a ∷ i ∷ []) _, (only_next at (a ∷ i ∷ []) y, (fails at (a ∷ i ∷ []) _, tt)))) e
  next_exits (act.StoreElement z) (a ∷ i ∷ x ∷ []) y e =
      let at = act.StoreElement z in
      are_exits k at h (a ∷ i ∷ x ∷ []) _ c (fails at (a ∷ i ∷ x ∷ []) _, (fails at (a ∷ i ∷ x ∷ []) _, (only_next at (a ∷ i ∷ x ∷ []) y, (fails at (a ∷ i ∷ x ∷ []) _, tt)))) e
  next_exits act.StoreRef (a ∷ i ∷ v ∷ []) y e =
      let at = act.StoreRef in
      let cells : List Cell = a ∷ i ∷ v ∷ [] in
      are_exits k at h cells _ c (fails at cells _, (fails at cells _, (fails at cells _, (only_next at cells y, (only_next at cells y, (fails at cells _, tt)))))) e
  next_exits (act.Cast class) (o ∷ []) y e =
      let at = act.Cast class in
      are_exits k at h (o ∷ []) _ c (only_next at (o ∷ []) y, (only_next at (o ∷ []) y, (fails at (o ∷ []) _, tt))) e
  next_exits (act.InstanceOf class) (o ∷ []) y e =
      let at = act.InstanceOf class in
      are_exits k at h (o ∷ []) _ c (only_next at (o ∷ []) y, ((push h sort.Int (int_part (pos 1)), refl, inr (inr (sort.Int, int_part (pos 1), refl))), (only_next at (o ∷ []) y, tt))) e
  next_exits (act.Call d f) cells y e = are_exits k (act.Call d f) h cells _ c (only_next (act.Call d f) cells y, ((_, after_call h f cells, refl, inr (f, refl)), tt)) e
  next_exits (act.CallOn d f) (o ∷ cells) y e =
      let at = act.CallOn d f in
      are_exits k at h (o ∷ cells) _ c (fails at (o ∷ cells) _, (only_next at (o ∷ cells) y, ((_, after_call h f (o ∷ cells), refl, inr (f, refl)), tt))) e
  next_exits act.Nop cells y e = are_exits k act.Nop h cells _ c (only_next act.Nop cells y, tt) e
  next_exits (act.Push n) cells y e = are_exits k (act.Push n) h cells _ c (only_next (act.Push n) cells y, tt) e
  next_exits (act.Literal text) cells y e = are_exits k (act.Literal text) h cells _ c (only_next (act.Literal text) cells y, tt) e
  next_exits (act.Load s n) cells y e = are_exits k (act.Load s n) h cells _ c (only_next (act.Load s n) cells y, tt) e
  next_exits (act.Store s n) cells y e = are_exits k (act.Store s n) h cells _ c (only_next (act.Store s n) cells y, tt) e
  next_exits (act.Increase n by) cells y e = are_exits k (act.Increase n by) h cells _ c (only_next (act.Increase n by) cells y, tt) e
  next_exits (act.Move m) cells y e = are_exits k (act.Move m) h cells _ c (only_next (act.Move m) cells y, tt) e
  next_exits (act.Scalar o) cells y e = are_exits k (act.Scalar o) h cells _ c (only_next (act.Scalar o) cells y, tt) e
  next_exits (act.GetStatic t f) cells y e = are_exits k (act.GetStatic t f) h cells _ c (only_next (act.GetStatic t f) cells y, tt) e
  next_exits (act.PutStatic t f) cells y e = are_exits k (act.PutStatic t f) h cells _ c (only_next (act.PutStatic t f) cells y, tt) e
  next_exits a cells y e = absurd (cc)

-- a return
given_exits : (r : Option JType) (s : Option Sort) (k : ℕ) (h : Held) (cells : List Cell) (c : Chain) → given_chain r h cells ≡ Some c → AreExits k (act.Give s) h cells c
given_exits (Some t) s k h (x ∷ []) c e = are_exits k (act.Give s) h (x ∷ []) _ c ((_, refl), tt) e
given_exits None s k h [] c e = are_exits k (act.Give s) h [] _ c ((_, refl), tt) e
given_exits r s k h cells c e = absurd (cc)

last_exits : (r : Option JType) (a : Action) (h : Held) (cells : List Cell) (k : ℕ) (c : Chain)
    → (if ends_method a then last_chain r a h cells else acted_on a h cells >>= λ g. chain_with r a h cells (to (suc k) g)) ≡ Some c → AreExits k a h cells c
last_exits r (act.Give s) h cells k c e = given_exits r s k h cells c e
last_exits r act.Throw h (x ∷ []) k c e = are_exits k act.Throw h (x ∷ []) _ c ((_, h, refl, inl refl), ((_, h, refl, inl refl), tt)) e
last_exits r act.Throw h [] k c e = absurd (cc)
last_exits r act.Throw h (x ∷ y ∷ cells) k c e = absurd (cc)
last_exits r a h cells k c e = let b = bound (acted_on a h cells) (λ g. chain_with r a h cells (to (suc k) g)) c e in next_exits r h b.0 k c a cells b.1 b.2

-- ---- blocks

-- what an action finds, and the exits of its chain
pub record HasExits (k : ℕ) (a : Action) (h : Held) (c : Chain) : Type 0 where
  pub cells : List Cell
  pub stack : List Cell
  pub popped : popped cell_sort (takes a) h.stack ≡ Some (cells, stack)
  pub exits : AllZip (Departs a (record h { stack = stack }) cells) (departures k a) (exits_of c)

pub has_exits : (r : Option JType) (k : ℕ) (a : Action) (h : Held) (c : Chain) → chain_of r k a h ≡ Some c → HasExits k a h c
has_exits r k a h c e =
    let b = bound (popped cell_sort (takes a) h.stack) (λ x. (if ends_method a then last_chain r a (record h { stack = x.1 }) x.0 else acted_on a (record h { stack = x.1 }) x.0 >>= λ g. chain_with r a (record h { stack = x.1 }) x.0 (to (suc k) g))) c e in
    record { cells = b.0.0; stack = b.0.1; popped = b.1; exits = last_exits r a (record h { stack = b.0.1 }) b.0.0 k c b.2 }

-- ---- exits one by one

-- each exit of the chain is that of one of the departures
pub exit_departs : (R : Departure → Exit → Type 0) (ds : List Departure) (c : Chain) (e : Exit) → AllZip R ds (exits_of c) → InChain c e → (d : Departure) × Contains ds d × R d e
exit_departs R [] (Leave n) e all i = absurd all
exit_departs R [] (flow.Test t n c) e all i = absurd all
exit_departs R (d ∷ ds) (Leave n) e all i = (d, contains_first d ds, subst (R d) i all.0)
exit_departs R (d ∷ ds) (flow.Test t n c) e all (inl i) = (d, contains_first d ds, subst (R d) i all.0)
exit_departs R (d ∷ ds) (flow.Test t n c) e all (inr i) = let q = exit_departs R ds c e all.1 i in (q.0, contains_more d q.0 ds q.1, q.2)

-- .. and each departure has its exit
pub departs_exit : (R : Departure → Exit → Type 0) (ds : List Departure) (c : Chain) (d : Departure) → AllZip R ds (exits_of c) → Contains ds d → (e : Exit) × InChain c e × R d e
departs_exit R [] c d all among = absurd (contains_none d among)
departs_exit R (x ∷ []) (Leave n) d all among = elim (contains_cases x d [] among) [ inl e ↦ (n, refl, subst (λ (d : Departure). R d n) e all.0) | inr none ↦ absurd (contains_none d none) ]
departs_exit R (x ∷ y ∷ ds) (Leave n) d all among = absurd all.1
departs_exit R (x ∷ ds) (flow.Test t n c) d all among = elim (contains_cases x d ds among) [
  | inl e ↦ (n, inl refl, subst (λ (d : Departure). R d n) e all.0)
  | inr more ↦ let q = departs_exit R ds c d all.1 more in (q.0, inr q.1, q.2)
]
