-- Examples: the roots of the small flows have the values with which their runs end, and some runs as the checker computes them.
use Rattle.std.proofs.Common.{◌≡◌, ℕ, zero, suc, pos, true, false, List, [], ◌∷◌, Some, inl, inr, refl, sym, ap, ◌∙◌, subst}
use Rattle.std.specs.Int.{int_wrap}
use Rattle.pv_value.specs.declared.world.World.{World}
use Rattle.pv_value.specs.declared.heap.Heap.{Heap}
use Rattle.pv_value.specs.declared.number.Num.TheVariants as num
use Rattle.pv_value.specs.declared.outcome.Input.{Input}
use Rattle.pv_value.specs.declared.outcome.Fault.TheVariants as fault
use Rattle.pv_value.specs.declared.outcome.Outcome.{Outcome}
use Rattle.pv_value.specs.declared.outcome.Outcome.TheVariants.{Returned}
use Rattle.pv_value.specs.declared.outcome.Val.{Val}
use Rattle.pv_value.specs.declared.outcome.Val.TheVariants as vals
use Rattle.pv_denote.specs.Denote.{Index, strict, truth}
use Rattle.pv_denote.specs.Meaning.{Value}
use Rattle.pv_graph.specs.Graphs.{Graph, form_at}
use Rattle.pv_graph.specs.Unfold.{UnfoldsAs}
use Rattle.pv_equations.specs.Exp.{Exp}
use Rattle.pv_equations.specs.Flow.{Part, Slot, Kind, Return, To, End, Exit, Flow}
use Rattle.pv_conversion.specs.Runs.{PartIs, Chooses, Steps, Runs, ends, goes, Starts}
use Rattle.pv_equations.specs.Equations.{Values, form_of, AreEquations}
use Rattle.pv_equations.specs.Root.{root_of}
use Rattle.examples_flows.proofs.Flows.{Block, flow_of, exit_of, goes as goes_on, add_part, less_part, int_part}
use Rattle.examples_flows.proofs.Typed.{a_unit, an_int, a_clear, a_heap, Sort, RootLaw, root_law, part_once}
use Rattle.examples_flows.proofs.Running.{Ended, value_at, run_by, run_true, part_true}
use Rattle.examples_flows.proofs.Examples.{straight_blocks, thrower_blocks, diamond_blocks, sum_loop_blocks, entry_loop_blocks, endless_blocks, nested_blocks, breaks_blocks}

-- the sorts at a block: these locals are ints
abbrev with_locals : List Sort → List Sort
with_locals ts = a_unit ∷ a_clear ∷ a_unit ∷ a_heap ∷ ts

abbrev two_ints : List Sort
two_ints = with_locals (an_int ∷ an_int ∷ [])

abbrev three_ints : List Sort
three_ints = with_locals (an_int ∷ an_int ∷ an_int ∷ [])

pub straight_law : RootLaw straight_blocks
straight_law = root_law straight_blocks (0 ∷ []) 5 1 0 [] refl (λ w x. refl)

pub thrower_law : RootLaw thrower_blocks
thrower_law = root_law thrower_blocks (0 ∷ []) 4 1 0 [] refl (λ w x. refl)

pub diamond_law : RootLaw diamond_blocks
diamond_law = root_law diamond_blocks (0 ∷ 1 ∷ 2 ∷ 3 ∷ []) 6 4 0 (two_ints ∷ two_ints ∷ two_ints ∷ []) refl (λ w x. refl)

pub sum_law : RootLaw sum_loop_blocks
sum_law = root_law sum_loop_blocks (0 ∷ 1 ∷ 2 ∷ []) 7 3 1 (three_ints ∷ three_ints ∷ []) refl (λ w x. refl)

pub entry_law : RootLaw entry_loop_blocks
entry_law = root_law entry_loop_blocks (0 ∷ []) 6 1 1 [] refl (λ w x. refl)

pub endless_law : RootLaw endless_blocks
endless_law = root_law endless_blocks (0 ∷ 1 ∷ []) 6 2 1 (two_ints ∷ []) refl (λ w x. refl)

pub nested_law : RootLaw nested_blocks
nested_law = root_law nested_blocks (0 ∷ 1 ∷ 2 ∷ 3 ∷ 4 ∷ []) 9 5 2
    (with_locals (an_int ∷ an_int ∷ an_int ∷ an_int ∷ []) ∷ with_locals (an_int ∷ an_int ∷ an_int ∷ an_int ∷ an_int ∷ []) ∷ with_locals (an_int ∷ an_int ∷ an_int ∷ an_int ∷ an_int ∷ []) ∷ with_locals (an_int ∷ an_int ∷ an_int ∷ an_int ∷ []) ∷ []) refl (λ w x. refl)

pub breaks_law : RootLaw breaks_blocks
breaks_law = root_law breaks_blocks (0 ∷ 1 ∷ 2 ∷ 3 ∷ 4 ∷ []) 7 5 2 (two_ints ∷ three_ints ∷ two_ints ∷ three_ints ∷ []) refl (λ w x. refl)

-- ---- runs from two arguments n and k

module _ (this : ℕ) (m : Heap) (n k : ℕ) where
  abbrev pub input : Input
  input = record { this = this; args = num.Int (pos n) ∷ num.Int (pos k) ∷ []; heap = m }

  abbrev pub first_slots : List Val
  first_slots = vals.Unit ∷ vals.Fault fault.Clear ∷ vals.Unit ∷ vals.Heap m ∷ vals.Num (num.Int (pos n)) ∷ vals.Num (num.Int (pos k)) ∷ []

  abbrev pub slots : ℕ → Val
  slots = value_at first_slots

  slots_start : (w : World) (blocks : List Block) → Starts w input (flow_of blocks) slots
  unfolding strict
  slots_start w blocks zero = refl
  slots_start w blocks (suc zero) = refl
  slots_start w blocks (suc (suc zero)) = refl
  slots_start w blocks (suc (suc (suc zero))) = refl
  slots_start w blocks (suc (suc (suc (suc zero)))) = refl
  slots_start w blocks (suc (suc (suc (suc (suc zero))))) = refl
  slots_start w blocks (suc (suc (suc (suc (suc (suc s)))))) = refl

  -- the end of a run that returns a
  abbrev returned : ℕ → Ended
  returned a = record { kind = Return; slots = vals.Unit ∷ vals.Fault fault.Clear ∷ vals.Num (num.Int (pos a)) ∷ vals.Heap m ∷ [] }

  abbrev int_result : ℕ → Outcome
  int_result a = Returned (Some (num.Int (pos a))) m

  -- each node that unfolds as the root of the flow has the value a, in each iteration
  abbrev pub GivesInt : List Block → ℕ → Type 0
  GivesInt blocks a = (w : World) (g : Graph) (v : Values) → AreEquations (flow_of blocks) v → (d : Exp) (r : ℕ) → UnfoldsAs (form_at g.nodes) (form_of (flow_of blocks) v) r (root_of (flow_of blocks) v d)
      → (i : Index) → Value g w input r i (vals.End (int_result a))

  -- .. where the run through at most so many blocks returns a
  gives_int : (blocks : List Block) → RootLaw blocks → (fuel a : ℕ) → ((w : World) → run_by w input blocks fuel 0 first_slots ≡ Some (returned a)) → GivesInt blocks a
  gives_int blocks law fuel a run w g v eqs d r unfolds i =
      (law w input g v eqs d r unfolds slots (slots_start w blocks) i (int_result a)).1
      (Return, value_at (returned a).slots, run_true w input blocks fuel 0 first_slots (returned a) (run w), (m, Some (num.Int (pos a)), refl, refl, refl, refl))

pub straight_at_4 : (this : ℕ) (m : Heap) → GivesInt this m 4 0 straight_blocks 5
unfolding strict int_wrap
straight_at_4 this m = gives_int this m 4 0 straight_blocks straight_law 1 5 (λ w. refl)

pub diamond_at_1_2 : (this : ℕ) (m : Heap) → GivesInt this m 1 2 diamond_blocks 1
unfolding strict int_wrap
diamond_at_1_2 this m = gives_int this m 1 2 diamond_blocks diamond_law 3 1 (λ w. refl)

-- 0 + 1 + 2 + 3
pub sum_at_3 : (this : ℕ) (m : Heap) → GivesInt this m 3 0 sum_loop_blocks 6
unfolding strict int_wrap
sum_at_3 this m = gives_int this m 3 0 sum_loop_blocks sum_law 12 6 (λ w. refl)

-- the loop whose header is the entry, once and more than once
pub entry_at_5_3 : (this : ℕ) (m : Heap) → GivesInt this m 5 3 entry_loop_blocks 6
unfolding strict int_wrap
entry_at_5_3 this m = gives_int this m 5 3 entry_loop_blocks entry_law 1 6 (λ w. refl)

pub entry_at_0_3 : (this : ℕ) (m : Heap) → GivesInt this m 0 3 entry_loop_blocks 3
unfolding strict int_wrap
entry_at_0_3 this m = gives_int this m 0 3 entry_loop_blocks entry_law 3 3 (λ w. refl)

-- where the loop without end isn't entered
pub endless_at_2_1 : (this : ℕ) (m : Heap) → GivesInt this m 2 1 endless_blocks 2
unfolding strict int_wrap
endless_at_2_1 this m = gives_int this m 2 1 endless_blocks endless_law 1 2 (λ w. refl)

-- twice 0 + 1 + 2
pub nested_at_2_3 : (this : ℕ) (m : Heap) → GivesInt this m 2 3 nested_blocks 6
unfolding strict int_wrap
nested_at_2_3 this m = gives_int this m 2 3 nested_blocks nested_law 22 6 (λ w. refl)

-- i is 1 and j is 2 when both loops are left
pub breaks_at_1 : (this : ℕ) (m : Heap) → GivesInt this m 1 0 breaks_blocks 2
unfolding strict int_wrap
breaks_at_1 this m = gives_int this m 1 0 breaks_blocks breaks_law 12 2 (λ w. refl)

-- ---- the loop without end, where it is entered: no run ends, so the root has no value

module _ (w : World) (x : Input) where
  abbrev E : Flow
  E = flow_of endless_blocks

  abbrev loop_exit : Exit
  loop_exit = exit_of (goes_on 1 (add_part (Slot 4) (int_part 1) ∷ Slot 5 ∷ []))

  one_to : (m : ℕ) (e : Exit) → loop_exit ≡ e → e.dest ≡ To m → m ≡ 1
  one_to m e c d = let z : To 1 ≡ To m = ap (λ (e : Exit). e.dest) c ∙ d in cc

  no_end : (k : Kind) (e : Exit) → loop_exit ≡ e → e.dest ≡ End k → ⊥
  no_end k e c d = let z : To 1 ≡ End k = ap (λ (e : Exit). e.dest) c ∙ d in absurd (cc)

  at_loop : (b : ℕ) (σ : ℕ → Val) (e : Exit) (τ : ℕ → Val) → b ≡ 1 → Steps w x E b σ e τ → loop_exit ≡ e
  at_loop b σ e τ q st = (subst (λ (b : ℕ). Steps w x E b σ e τ) q st).0

  loop_runs : (k : Kind) (τ : ℕ → Val) (b : ℕ) (σ : ℕ → Val) → Runs w x E k τ b σ → b ≡ 1 → ⊥
  loop_runs k τ b σ (ends b' σ' e st d) q = no_end k e (at_loop b' σ' e τ q st) d
  loop_runs k τ b σ (goes b' m σ' ρ e st d r) q = loop_runs k τ m ρ r (one_to m e (at_loop b' σ' e ρ q st) d)

  -- where the test is true a run from the entry goes into the loop
  abbrev test : Part
  test = less_part (Slot 4) (Slot 5)

  enters : (σ : ℕ → Val) (v : Val) (e : Exit) → PartIs w x σ test v → truth v ≡ Some true → Chooses w x σ (E.chain 0) e → e.dest ≡ To 1
  enters σ v e p t (u, q, inl c) = ap (λ (e : Exit). e.dest) (sym c.1)
  enters σ v e p t (u, q, inr c) = absurd (let z : Some true ≡ Some false = sym t ∙ ap truth (part_once w x σ test v u p q) ∙ c.0 in cc)

  entry_runs : (k : Kind) (τ : ℕ → Val) (b : ℕ) (σ : ℕ → Val) → Runs w x E k τ b σ → b ≡ 0 → (v : Val) → PartIs w x σ test v → truth v ≡ Some true → ⊥
  entry_runs k τ b σ (ends b' σ' e st d) q v p t = let z : To 1 ≡ End k = sym (enters σ' v e p t (subst (λ (b : ℕ). Chooses w x σ' (E.chain b) e) q st.0)) ∙ d in absurd (cc)
  entry_runs k τ b σ (goes b' m σ' ρ e st d r) q v p t =
      loop_runs k τ m ρ r (let z : To 1 ≡ To m = sym (enters σ' v e p t (subst (λ (b : ℕ). Chooses w x σ' (E.chain b) e) q st.0)) ∙ d in cc)

pub endless_at_1_2 : (this : ℕ) (m : Heap) (w : World) (g : Graph) (v : Values) → AreEquations (flow_of endless_blocks) v → (d : Exp) (r : ℕ) → UnfoldsAs (form_at g.nodes) (form_of (flow_of endless_blocks) v) r (root_of (flow_of endless_blocks) v d)
    → (i : Index) (o : Outcome) → Value g w (input this m 1 2) r i (vals.End o) → ⊥
unfolding strict int_wrap
endless_at_1_2 this m w g v eqs d r unfolds i o h =
    let run = (endless_law w (input this m 1 2) g v eqs d r unfolds (slots this m 1 2) (slots_start this m 1 2 w endless_blocks) i o).0 h in
    entry_runs w (input this m 1 2) run.0 run.1 0 (slots this m 1 2) run.2 refl (vals.Num (num.Int (pos 1))) (part_true w (input this m 1 2) (slots this m 1 2) (less_part (Slot 4) (Slot 5)) (vals.Num (num.Int (pos 1))) refl) refl
