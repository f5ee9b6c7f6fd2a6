-- A method's root and its runs.
use Rattle.std.proofs.Common.{◌≡◌, ◌≢◌, ℕ, ◌<◌, ◌≤◌, [], length, Option, Some, None, ◌↔◌, refl, sym, ap, subst}
use Rattle.pv_conversion.proofs.Words.{World, Input, Val, Index, Means, Ending, Heap, Fault, Outcome, Threw, Exp, Over, NoExp, Then, three, listed, Kind, Return, Throw, Flow, Shape, Runs, ends, goes, Starts, Runnable, Finish, Returning, Values, or_else, tree_of, never_exp, AreEquations, Meaning, root_of, IsOutcome, EndsWith, Next, MachineEnds, Carries, Finishes}
use Rattle.pv_value.specs.declared.outcome.Val.TheVariants as vals
use Rattle.pv_graph.specs.declared.node.Op.TheVariants as op
use Rattle.pv_graph.specs.Ops as ops
use Rattle.pv_graph.specs.Ops as ops
use Rattle.pv_value.specs.declared.outcome.Fault.TheVariants as fault
use Rattle.pv_conversion.proofs.Follow.{done_next, starts_done, machine_to_graph}
use Rattle.pv_conversion.proofs.Leaves.{never_none}
use Rattle.pv_conversion.proofs.Run.{graph_to_machine}
use Rattle.pv_conversion.proofs.Machine.{blocks_machine}

end_same : (o p : Outcome) → vals.End o ≡ vals.End p → o ≡ p
end_same o p e = cc

module _ (w : World) (x : Input) (V : Exp → Index → Val → Type 0) (f : Flow) (v : Values) (rank : ℕ → ℕ) (mean : Meaning w x V f v) (eqs : AreEquations f v) (shape : Shape f rank)
    (top : ℕ) (below_top : (b : ℕ) → rank b < top) (deepest : ℕ) (deep : (b : ℕ) → length (f.around b) ≤ deepest) (Typed : ℕ → (ℕ → Val) → Type 0) (runnable : Runnable w x f Typed) (finishes : Finishes w x f Typed) where
  run_done : (k : Kind) (τ : ℕ → Val) (b : ℕ) (σ : ℕ → Val) → Runs w x f k τ b σ → σ 0 ≡ vals.Unit → τ 0 ≡ vals.Unit
  run_done k τ b σ (ends c χ e st d) z = done_next w x V f v rank mean eqs shape c χ τ e st z
  run_done k τ b σ (goes c m χ ρ e st d rest) z = run_done k τ m ρ rest (done_next w x V f v rank mean eqs shape c χ ρ e st z)

  run_outcome : (k : Kind) (τ : ℕ → Val) (b : ℕ) (σ : ℕ → Val) → Runs w x f k τ b σ → Typed b σ → (o : Outcome) × IsOutcome k τ o
  run_outcome k τ b σ (ends c χ e st d) t = finishes.outcome c χ τ e k t st d
  run_outcome k τ b σ (goes c m χ ρ e st d rest) t = run_outcome k τ m ρ rest (runnable.stays c m χ ρ e t st d)

  thrown_ends : (r : Exp) (j : Index) (e : Fault) (m : Heap) (u : Val) → e ≢ fault.Clear → u ≡ vals.End (Threw e m) → Ending V r j e m u
  thrown_ends r j fault.Clear m u n h = absurd (n refl)
  thrown_ends r j e m u n h = h

  given_value : (r : Option Exp) (d : Exp) (j : Index) (u : Val) → (y : Exp) × (r ≡ Some y) × V y j u → V (or_else r d) j u
  given_value r d j u h = subst (λ (r : Option Exp). V (or_else r d) j u) (sym h.1) h.2

  -- where the blocks end with o, the root has that value
  root_made : (k : Kind) (σ τ : ℕ → Val) → Starts w x f σ → Runs w x f k τ f.entry σ → (o : Outcome) → IsOutcome k τ o → (d : Exp) (j : Index) → V (root_of f v d) j (vals.End o)
  root_made Return σ τ st run o out d j =
      mean.makes op.Root _ j (vals.End o) (
        fault.Clear,
        out.0,
        subst (V (or_else (tree_of f v [] Finish 0) never_exp) j) (run_done Return τ f.entry σ run (starts_done w x V f v rank mean eqs shape σ st)) (given_value _ never_exp j (τ 0) (machine_to_graph w x V f v rank mean eqs shape Return σ τ st run Finish tt 0 j)),
        subst (V (or_else (tree_of f v [] Finish 1) (Over op.Clear NoExp)) j) out.2 (given_value _ _ j (τ 1) (machine_to_graph w x V f v rank mean eqs shape Return σ τ st run Finish tt 1 j)),
        subst (V (or_else (tree_of f v [] Finish 3) (Over op.Heap0 NoExp)) j) out.3 (given_value _ _ j (τ 3) (machine_to_graph w x V f v rank mean eqs shape Return σ τ st run Finish tt 3 j)),
        (τ 2, out.1, given_value _ d j (τ 2) (machine_to_graph w x V f v rank mean eqs shape Return σ τ st run Returning tt 2 j), out.4, ap vals.End out.5),
      )
  root_made Throw σ τ st run o out d j =
      mean.makes op.Root _ j (vals.End o) (
        out.0,
        out.1,
        subst (V (or_else (tree_of f v [] Finish 0) never_exp) j) (run_done Throw τ f.entry σ run (starts_done w x V f v rank mean eqs shape σ st)) (given_value _ never_exp j (τ 0) (machine_to_graph w x V f v rank mean eqs shape Throw σ τ st run Finish tt 0 j)),
        subst (V (or_else (tree_of f v [] Finish 1) (Over op.Clear NoExp)) j) out.3 (given_value _ _ j (τ 1) (machine_to_graph w x V f v rank mean eqs shape Throw σ τ st run Finish tt 1 j)),
        subst (V (or_else (tree_of f v [] Finish 3) (Over op.Heap0 NoExp)) j) out.4 (given_value _ _ j (τ 3) (machine_to_graph w x V f v rank mean eqs shape Throw σ τ st run Finish tt 3 j)),
        thrown_ends _ j out.0 out.1 (vals.End o) out.2 (ap vals.End out.5),
      )

  -- where the root has a value the blocks end with it
  root_ends : (σ : ℕ → Val) → Starts w x f σ → Typed f.entry σ → (d : Exp) (j : Index) (o : Outcome) → V (root_of f v d) j (vals.End o) → EndsWith w x f f.entry σ o
  root_ends σ st typed d j o h = begin (mean.says op.Root _ j (vals.End o) h)
    where
      token : (r : Option Exp) → tree_of f v [] Finish 0 ≡ r → V (or_else r never_exp) j vals.Unit → (k : Kind) × (τ : ℕ → Val) × Runs w x f k τ f.entry σ
      token None e z = let m = mean.says op.Never NoExp j vals.Unit z in absurd (never_none w x m.0 vals.Unit m.2)
      token (Some y) e z = graph_to_machine w x V f v rank mean eqs shape top below_top deepest deep Typed runnable σ st typed j y vals.Unit e z

      begin : Means w x V ops.root op.Root (listed (Then (or_else (tree_of f v [] Finish 0) never_exp)
          (three (or_else (tree_of f v [] Finish 1) (Over op.Clear NoExp)) (or_else (tree_of f v [] Returning 2) d) (or_else (tree_of f v [] Finish 3) (Over op.Heap0 NoExp))))) j (vals.End o) → EndsWith w x f f.entry σ o
      begin m =
          let r = token (tree_of f v [] Finish 0) refl m.2 in
          let q = run_outcome r.0 r.1 f.entry σ r.2 typed in
          let same : q.0 ≡ o = end_same q.0 o (mean.once (root_of f v d) j (vals.End q.0) (vals.End o) (root_made r.0 σ r.1 st r.2 q.0 q.1 d j) h) in
          (r.0, r.1, r.2, subst (IsOutcome r.0 r.1) same q.1)

  -- THE ROOT AND THE BLOCKS
  pub root_blocks : (σ : ℕ → Val) → Starts w x f σ → Typed f.entry σ → (d : Exp) (j : Index) (o : Outcome) → V (root_of f v d) j (vals.End o) ↔ EndsWith w x f f.entry σ o
  root_blocks σ st typed d j o = ((λ h. root_ends σ st typed d j o h), (λ h. root_made h.0 σ h.1 st h.2 o h.3 d j))

  -- THE ROOT AND THE MACHINE
  pub root_machine : (S : Type 0) (step : S → Next S) (At : ℕ → (ℕ → Val) → S → Type 0) → Carries w x f S step At → (s : S) (σ : ℕ → Val) → At f.entry σ s → Starts w x f σ → Typed f.entry σ
      → (d : Exp) (j : Index) (o : Outcome) → V (root_of f v d) j (vals.End o) ↔ MachineEnds step s o
  root_machine S step At carries s σ at' st typed d j o =
      let a = root_blocks σ st typed d j o in
      let b = blocks_machine S step w x f At carries f.entry σ s o at' in
      ((λ h. b.0 (a.0 h)), (λ h. a.1 (b.1 h)))
