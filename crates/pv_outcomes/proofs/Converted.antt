-- A method's equations have the outcomes of its runs.
use Rattle.std.proofs.Common.{◌≡◌, ℕ, zero, suc, ◌<◌, List, [], ◌∷◌, length, Option, Some, sym, subst, ap, ◌∙◌, ◌↔◌, ◌⊎◌, inl, inr, arith}
use Rattle.pv_outcomes.proofs.Words.{AllByRecursion, World, Input, Outcome, Val, IsWorld, Fits, Program, Frame, AreFrames, one_program, State, start, IsProgram, RunEnds, Ends, Block, IsFlow, entry_block, Forest, Index, To, Exit, Flow, Steps, Left, Waits, Runnable, after, MachineEnds, Finishes, graph_machine, IsCleanProgram, flow_of, method_ranked, program_clean}
use Rattle.pv_value.specs.declared.outcome.Val.TheVariants as val
use Rattle.pv_class.specs.declared.file.ClassFile.{ClassFile}
use Rattle.pv_class.specs.declared.file.Method.{Method}
use Rattle.pv_class.specs.declared.file.Code.{Code}
use Rattle.pv_insn.proofs.Cited.{IsBytes}
use Rattle.pv_machine.specs.Machine as machine
use Rattle.pv_loops.specs.declared.forest.TheConstants.{MAX_DEPTH}
use Rattle.pv_denote.specs.Meaning.{Value}
use Rattle.pv_graph.specs.Unfold.{UnfoldsAs}
use Rattle.pv_graph.specs.Graphs.{Graph, form_at}
use Rattle.pv_equations.specs.Exp.{Exp}
use Rattle.pv_equations.specs.Equations.{Values, form_of, AreEquations}
use Rattle.pv_equations.specs.Root.{root_of}
use Rattle.pv_runs.specs.Laws.{IsRanked}
use Rattle.pv_outcomes.specs.Laws.{MethodConverts}
use Rattle.pv_outcomes.proofs.States.{At, next_of, steps}
use Rattle.pv_outcomes.proofs.Starts.{entry_slots, entry_starts, entry_at}
use Rattle.pv_outcomes.proofs.Carried.{same_after, ended_to, Here, Does, moves, stops, idles, does, arguments, carries}

module _ (p : Program) (clean : IsCleanProgram p) (w : World) (world : IsWorld w) (x : Input) (frames : List (Option Frame)) (well_typed : AreFrames p frames) (blocks : List Block) (flow : IsFlow p blocks) (forest : Forest) where
  abbrev f : Flow
  f = flow_of p frames blocks forest

  abbrev H : ℕ → (ℕ → Val) → State → Type 0
  H b σ s = Here p clean w world x frames well_typed blocks flow forest b σ s

  -- the slots with which the machine may be where a block begins
  abbrev pub Typed : ℕ → (ℕ → Val) → Type 0
  Typed b σ = (s : State) × H b σ s

  runnable : Runnable w x f Typed
  runnable = record { args = λ b σ e c ps t i z. arguments p clean w world x frames well_typed blocks flow forest b σ t.0 e c ps t.1 i z; moves = on; stays = stays }
    where
      on : (b : ℕ) (σ : ℕ → Val) → Typed b σ → Left w x f b σ ⊎ Waits w x σ (f.chain b)
      on b σ t = go (does p clean w world x frames well_typed blocks flow forest b σ t.0 t.1)
        where
          go : Does p clean w world x frames well_typed blocks flow forest b σ t.0 → Left w x f b σ ⊎ Waits w x σ (f.chain b)
          go (moves c m ρ n s y q r there) = inl (c, ρ, y)
          go (stops c l ρ n o y q r out) = inl (c, ρ, y)
          go (idles none never) = inr none

      stays : (b m : ℕ) (σ τ : ℕ → Val) (e : Exit) → Typed b σ → Steps w x f b σ e τ → e.dest ≡ To m → Typed m τ
      stays b m σ τ e t st d = let r = (carries p clean w world x frames well_typed blocks flow forest).goes_on b m σ τ e t.0 t.1 st d in (r.1, r.3)

  finishes : Finishes w x f Typed
  finishes = record { outcome = λ b σ τ e k t st d. let r = (carries p clean w world x frames well_typed blocks flow forest).finishes b σ τ e k t.0 t.1 st d in (r.1, r.3) }

  run_ends : (s : State) (o : Outcome) → MachineEnds (steps p w) s o ↔ ((n : ℕ) × (machine.after p w s n ≡ machine.ended o))
  run_ends s o = (
    (λ h. (h.0, ended_to p w (after (steps p w) h.0 s) (machine.after p w s h.0) (same_after p w h.0 s) o h.1)),
    (λ h. (h.0, same_after p w h.0 s ∙ ap next_of h.1)),
  )

  -- the machine starts where block 0 begins
  starts_here : Fits p.desc x → H 0 (entry_slots p x) (start p x)
  starts_here fits =
      let b = entry_block p blocks flow in
      (b.0, b.1, subst (λ (k : ℕ). At x frames k (entry_slots p x) (start p x)) (sym b.2) (entry_at p frames well_typed.agrees x fits))

  pub runs_convert : IsRanked f (length blocks) → (v : Values) → AreEquations f v → (g : Graph) (r : ℕ) (d : Exp) → UnfoldsAs (form_at g.nodes) (form_of f v) r (root_of f v d)
      → Fits p.desc x → (i : Index) (o : Outcome) → Value g w x r i (val.End o) ↔ RunEnds p w x o
  runs_convert ranked v eqs g r d unfolds fits i o =
      let here = starts_here fits in
      let a = graph_machine g w x f v ranked.rank ranked.shape ranked.top ranked.below MAX_DEPTH ranked.deep eqs Typed runnable finishes d r unfolds State (steps p w) H
      (carries p clean w world x frames well_typed blocks flow forest) (start p x) (entry_slots p x) here (entry_starts p frames blocks forest w x) (start p x, here) i o in
      let b = run_ends (start p x) o in
      ((λ h. b.0 (a.0 h)), (λ h. a.1 (b.1 h)))

bytes_of : (bytes : List ℕ) → AllByRecursion (λ b. b < 256) bytes → IsBytes bytes
bytes_of [] all i = omega arith
bytes_of (b ∷ bytes) all zero = all.0
bytes_of (b ∷ bytes) all (suc i) = bytes_of bytes all.1 i

-- a method ends as the runs of its program do
method_ends : (file : ClassFile) (m : Method) (p : Program) → IsProgram file m p → ((code : Code) → m.code ≡ Some code → AllByRecursion (λ b. b < 256) code.bytes)
    → (w : World) (x : Input) (o : Outcome) → RunEnds p w x o ↔ Ends file m w x o
method_ends file m p is bytes w x o = (
  (λ run. record { program = p; is = is; run = run }),
  (λ e. subst (λ (q : Program). RunEnds q w x o) (one_program file m e.program p (λ code has. bytes_of code.bytes (bytes code has)) e.is.of_method is.of_method) e.run),
)

-- THE LAW OF A METHOD
pub method_converts : MethodConverts
method_converts file m p frames blocks forest shaped bytes v eqs g r d unfolds w x world fits i o =
    let ranked = method_ranked file m p frames blocks forest shaped in
    let a = runs_convert p (program_clean file m p shaped.program) w world x frames shaped.well_typed blocks shaped.flow forest ranked v eqs g r d unfolds fits i o in
    let b = method_ends file m p (record { of_method = shaped.program; typed = (frames, shaped.well_typed.agrees) }) bytes w x o in
    ((λ h. b.0 (a.0 h)), (λ h. a.1 (b.1 h)))
