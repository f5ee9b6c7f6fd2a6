-- What is held where a block is entered.
use Rattle.std.proofs.Common.{◌≡◌, ◌≢◌, ℕ, ◌<◌, List, length, Option, Some, slice_get, inl, inr, sym, subst}
use Rattle.pv_build.proofs.Words.{slice_get_within, Frame, IsFrameAt, Block, T, Op, Graph, Exp, Heads, Values, AreEquations, never_exp, tree_of, Target, Named, Reads, AreNames, GrowsBy, IsOfSort, depths, names_stand, State, Method, Given, FrameGives, FrameFolds, FrameFoldsToSome, ReadsStart, ReadsFrame, IsMethod, IsLoopAt, flow_in, loops_at, loops_around, IsGivenFor, IsOuter, IsEnteredBy}
use Rattle.pv_equations.specs.Equations.{Node}
use Rattle.pv_decide.specs.declared.tree.Target.TheVariants as target
use Rattle.pv_layout.proofs.Cited as layout
use Rattle.pv_build.proofs.Frames as frames
use Rattle.pv_build.proofs.GivenFor.{given_on}
use Rattle.pv_build.proofs.Persisting.{grown}
use Rattle.pv_build.proofs.Around.{solution, loops_same}

-- ---- as the graph grows

pub given_later : (m : Method) (P : Op → Type 0) (g h : Graph) → GrowsBy P g h → (names : List Named) (at : Option ℕ) (t : Target) (x : Given) → IsGivenFor m g names at t x → IsGivenFor m h names at t x
given_later m P g h grows names at t x is = given_on m g h (grown P g h grows) names names (λ k s n i. i) at t x is

pub names_later : (m : Method) (P : Op → Type 0) (g h : Graph) → GrowsBy P g h → (names : List Named) → AreNames (depths (flow_in m)) g.nodes names → AreNames (depths (flow_in m)) h.nodes names
names_later m P g h grows names are = names_stand (depths (flow_in m)) g.nodes h.nodes names (grown P g h grows).stand are

-- ---- the first block

-- its slots are those at the entry
pub enters_first : (m : Method) (g : Graph) (names : List Named) (c : State) → ReadsStart g.nodes c m.typed.now.program → IsEnteredBy m g names 0 c
enters_first m g names c reads = record {
  header = λ heads v eqs s n at. subst (Reads g.nodes names n) (sym (eqs.first_entries s heads)) (reads names s n at);
  other = λ none v eqs s n at. subst (Reads g.nodes names n) (sym (eqs.starts s none)) (reads names s n at);
}

-- ---- another block

module _ (m : Method) (is : IsMethod m) (b : ℕ) (block : Block) (here : slice_get m.flow.now.blocks b ≡ Some block) (later : b ≢ 0) (at : Option ℕ) (in_ : IsLoopAt m at) (outer : IsOuter m b at) where
  low : b < length m.flow.now.blocks
  low = slice_get_within m.flow.now.blocks b block here

  -- the tree gives the slot where the loop of a header is entered
  tree_entering : Heads (loops_around m b) b → (v : Values) → AreEquations (flow_in m) v → (s : ℕ) → tree_of (flow_in m) v (loops_at m at) (Node b) s ≡ Some (v.entering b s)
  tree_entering heads v eqs s = elim outer [
    | inl z ↦ absurd (z.1 heads)
    | inr z ↦ layout.entering_tree m.typed.now.program m.typed.now.frames m.flow.now.blocks m.forest.now is.routine v eqs b s (loops_at m at) low later z
  ]

  -- .. and that of another block
  tree_value : (Heads (loops_around m b) b → ⊥) → (v : Values) → AreEquations (flow_in m) v → (s : ℕ) → tree_of (flow_in m) v (loops_at m at) (Node b) s ≡ Some (v.value b s)
  tree_value none v eqs s = elim outer [
    | inl z ↦ layout.value_tree m.typed.now.program m.typed.now.frames m.flow.now.blocks m.forest.now is.routine v eqs b s (loops_at m at) low later z.0 (λ heads. none (subst (λ (A : List ℕ). Heads A b) (sym z.0) heads))
    | inr z ↦ absurd (none (loops_at m at, z))
  ]

  module _ (f : Frame) (there : IsFrameAt m.typed.now.frames block.first f) (g : Graph) (names : List Named) (x : Given) (given : IsGivenFor m g names at (target.Node b) x) (never : ℕ) where
    pub entered_gives : IsOfSort g never T → FrameGives g x never f
    entered_gives token = frames.frame_gives m g names at b block here f there x given never token

    module _ (are : AreNames (depths (flow_in m)) g.nodes names) (reads : Reads g.nodes names never never_exp) where
      folds_to : (v : Values) → AreEquations (flow_in m) v → (base : ℕ → Exp) → ((s : ℕ) → tree_of (flow_in m) v (loops_at m at) (Node b) s ≡ Some (base s)) → FrameFolds g.nodes names x never f base
      folds_to v eqs base value = frames.frame_folds m g names at b block here f there x given never (loops_same m is at in_) v eqs are reads base value

      pub entered_folds : FrameFoldsToSome g.nodes x never f
      entered_folds =
          let v = solution m is in
          elim outer [
            | inl z ↦ (names, v.0.value b, folds_to v.0 v.1 (v.0.value b) (tree_value z.1 v.0 v.1))
            | inr z ↦ (names, v.0.entering b, folds_to v.0 v.1 (v.0.entering b) (tree_entering (loops_at m at, z) v.0 v.1))
          ]

      -- WHAT IS ENTERED STANDS FOR THE SLOTS
      pub enters_block : (new : Graph) (c : State) → ReadsFrame g x never f new c → IsEnteredBy m new names b c
      enters_block new c read = record {
        header = λ heads v eqs. read names (v.entering b) (folds_to v eqs (v.entering b) (tree_entering heads v eqs));
        other = λ none v eqs. read names (v.value b) (folds_to v eqs (v.value b) (tree_value none v eqs));
      }
