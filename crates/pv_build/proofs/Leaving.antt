-- Whether a loop is left, from what is given for its tree.
use Rattle.std.proofs.Common.{◌≡◌, ℕ, List, None, Some, slice_get, ap, ◌∙◌, subst}
use Rattle.pv_build.proofs.Words.{Loop, Graph, Values, AreEquations, tree_of, Named, AreNames, depths, names_stand, extends_stand, Given, Method, FoldsTo, FoldsToOne, Made, IsMethod, flow_in, loops_at, IsStage, GrowsIn, IsGivenFor}
use Rattle.pv_equations.specs.Equations.{Leaving}
use Rattle.pv_decide.specs.declared.tree.Target.TheVariants as target
use Rattle.pv_build.proofs.GivenFor.{folds_left}
use Rattle.pv_layout.proofs.Cited.{ending_tree}
use Rattle.pv_build.proofs.Looped.{loops_same}
use Rattle.pv_build.proofs.Around.{solution, header_own, loops_own}

module _ (m : Method) (is : IsMethod m) (i : ℕ) (l : Loop) (there : slice_get m.forest.now.loops.items i ≡ Some l) (g : Graph) (names : List Named) (are : AreNames (depths (flow_in m)) g.nodes names) (left : Given) (given : IsGivenFor m g names (Some i) target.Leave left) where
  pub ending_folds : (v : Values) → AreEquations (flow_in m) v → FoldsTo g.nodes names left 0 None (Some (v.ending l.header))
  ending_folds v eqs =
      let folds = folds_left m g names (Some i) left given (loops_same m is i l there) v eqs are in
      let tree : tree_of (flow_in m) v (loops_at m (Some i)) Leaving 0 ≡ Some (v.ending l.header) =
      ap (λ (A : List ℕ). tree_of (flow_in m) v A Leaving 0) (loops_own m is i l there)
      ∙ ending_tree m.typed.now.program m.typed.now.frames m.flow.now.blocks m.forest.now is.routine v eqs l.header (loops_at m l.parent) (header_own m is i l there) in
      subst (FoldsTo g.nodes names left 0 None) tree folds

  pub ending_some : FoldsToOne g.nodes left 0 None
  ending_some = let v = solution m is in (names, v.0.ending l.header, ending_folds v.0 v.1)

-- the names, where nodes were added
pub names_grown : (m : Method) (R : List ℕ) (made : Made) (d : ℕ) (old new : Graph) → IsStage m old made R → GrowsIn d old new → AreNames (depths (flow_in m)) new.nodes made.names
names_grown m R made d old new stage grows = names_stand (depths (flow_in m)) old.nodes new.nodes made.names (extends_stand old new grows.extends) stage.names
