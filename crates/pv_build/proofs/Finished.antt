-- The root of a method whose blocks are done and whose loops are closed.
use Rattle.std.proofs.Common.{◌≡◌, ℕ, ◌<◌, true, List, [], length, None, inr, ⊎_elim, sym, ap, ◌∙◌, subst, arith}
use Rattle.pv_build.proofs.Words.{slice_get_within, T, found, In, Graph, IsGraph, Extends, IsOpenTheta, Values, AreEquations, never_exp, tree_of, Finish, Returning, named, Reads, Enlarges, Keeps, IsOfSort, IsTiedName, tying_unfolds, Method, Made, Given, EndsGive, AtEnds, EndsFold, ReadsRoot, IsMethod, flow_in, loops_at, IsStage, GrowsIn, KeepsFirst, IsGivenFor, IsBuiltOf}
use Rattle.pv_decide.specs.declared.tree.Target.TheVariants as target
use Rattle.pv_build.proofs.Frames as frames
use Rattle.pv_build.proofs.Around.{no_loops, loops_same}
use Rattle.pv_build.proofs.Staged.{stage_grown}

-- ---- the root

-- what trees of the region give at the ends
abbrev in_region : Method → Values → List ℕ → AtEnds
in_region m v R = record {
  token = tree_of (flow_in m) v R Finish 0;
  fault = tree_of (flow_in m) v R Finish 1;
  result = tree_of (flow_in m) v R Returning 2;
  heap = tree_of (flow_in m) v R Finish 3;
}

module _ (m : Method) (is : IsMethod m) (g : Graph) (made : Made) (at_stage : IsStage m g made []) where
  -- each name has its kids
  pub all_tied : (v : Values) → AreEquations (flow_in m) v → (h s n : ℕ) → In made.names (named h s n) → IsTiedName (flow_in m) v g.nodes made.names h s n
  all_tied v eqs h s n i = ⊎_elim (λ open_. absurd open_.0) (λ tied. tied v eqs) (at_stage.each_name h s n i)

module _ (m : Method) (is : IsMethod m) (g : Graph) (made : Made) (at_stage : IsStage m g made []) (ends returns : Given) (is_ends : IsGivenFor m g made.names None target.Exit ends) (is_returns : IsGivenFor m g made.names None target.Return returns) (never : ℕ) where
  pub finished_gives : IsOfSort g never T → EndsGive g ends returns never m.typed.now.program.desc.result
  finished_gives token = frames.ends_give m g made.names is.routine.shaped.program.floatless.1 ends returns is_ends is_returns never token

  -- THE ROOT UNFOLDS AS THE EQUATIONS SAY
  pub is_built : Reads g.nodes made.names never never_exp → (new : Graph) (r : ℕ) → ReadsRoot g ends returns never m.typed.now.program.desc.result new r → IsStage m new made [] → IsBuiltOf m new r
  is_built reads new r root after v eqs =
      tying_unfolds (flow_in m) v new.nodes made.names (all_tied m is new made after v eqs) r _
      (root made.names (in_region m v [])
      (subst (λ (R : List ℕ). EndsFold g.nodes made.names ends returns never (in_region m v R)) (no_loops m is)
      (frames.ends_fold m g made.names is.routine.shaped.program.floatless.1 ends returns is_ends is_returns never (loops_same m is None tt) v eqs at_stage.names reads)))

-- ---- as the graph grows

pub stage_later : (m : Method) (g h : Graph) (made : Made) → GrowsIn 0 g h → IsStage m g made [] → IsStage m h made []
stage_later m g h made grows is = stage_grown m g h made [] 0 (λ k i. absurd i) grows is

module _ (m : Method) (is : IsMethod m) where
  pub whole_grows : (g h : Graph) → GrowsIn (length (loops_at m None)) g h → GrowsIn 0 g h
  whole_grows g h grows = subst (λ (d : ℕ). GrowsIn d g h) (ap length (no_loops m is)) grows

  pub whole_stage : (g : Graph) (made : Made) → IsStage m g made [] → IsStage m g made (loops_at m None)
  whole_stage g made at_stage = subst (IsStage m g made) (sym (no_loops m is)) at_stage

-- ---- the graph

-- what is left to be tied is from before
module _ (m : Method) (first g new : Graph) (made : Made) (graph : IsGraph first) (open_ : first.is_open ≡ true) (start : made.start ≡ length first.nodes) (keeps : KeepsFirst made.start first g) (at_stage : IsStage m g made []) (grows : GrowsIn 0 g new) where
  extends : Extends first new
  extends = record {
    nodes = λ n x at. grows.extends.nodes n x (keeps.nodes n x (let low = slice_get_within first.nodes n x at in omega (arith, low, start)) at);
    sorts = λ n s at. grows.extends.sorts n s (keeps.sorts n s at);
  }

  left : (n : ℕ) → IsOpenTheta new n → IsOpenTheta first n
  left n o = ⊎_elim
      (λ (low : n < made.start).
      let x = found first.nodes n (omega (arith, low, start)) in
      (o.0, x.1 ∙ sym (extends.nodes n x.0 x.1) ∙ o.1))
      (λ named_. absurd named_.3)
      (at_stage.left n (grows.left n o))

  pub built_keeps : Keeps first new
  built_keeps = record { graph = grows.graph; extends = extends }

  pub built_enlarges : Enlarges first new
  built_enlarges = record {
    graph = grows.graph;
    made = λ well. grows.made at_stage.well;
    extends = extends;
    open_ = grows.open_ ∙ at_stage.open_ ∙ sym open_;
    left = left;
    added = λ n x at. inr tt;
  }

-- .. also where memory ran out
pub kept : (first new : Graph) (start : ℕ) → start ≡ length first.nodes → KeepsFirst start first new → Keeps first new
kept first new start is keeps = record {
  graph = keeps.graph;
  extends = record {
    nodes = λ n x at. keeps.nodes n x (let low = slice_get_within first.nodes n x at in omega (arith, low, is)) at;
    sorts = keeps.sorts;
  };
}
