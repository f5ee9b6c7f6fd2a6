-- Where a block begins, and at the ends of the method: what the tree gives for the slots of a frame.
use Rattle.std.proofs.Common.{◌≡◌, ℕ, List, length, Option, Some, None, slice_get, ◌⊎◌, inl, inr, refl, ap, ◌∙◌, subst}
use Rattle.pv_build.proofs.Words.{Sort, Frame, IsFrameAt, HasFloatlessResult, Block, OpSort, F, T, H, Graph, Exp, Values, AreEquations, Finish, Returning, never_exp, tree_of, dest_of, loops_of, dead_of, Named, Reads, AreNames, ReadsMaybe, IsOfSort, depths, Leaving, op_sort, slot_at, Method, Part, Source, Given, number_in, HasNodeOf, FoldsTo, IsKnown, CellsFold, FrameGives, FrameFolds, default_sort, EndsGive, AtEnds, EndsFold, flow_in, loops_at, scope_at, IsExitFor, IsGivenFor}
use Rattle.pv_equations.specs.Equations.{Node}
use Rattle.pv_decide.specs.declared.tree.Target.TheVariants as target
use Rattle.pv_build.specs.declared.slot.Part.TheVariants as part
use Rattle.pv_build.proofs.Cells.{no_root}
use Rattle.pv_build.proofs.GivenFor.{ExitsHave, gives_slot, folds_slot}
use Rattle.pv_build.proofs.Leading.{GoesInto, goes_into, cell_given, end_token, return_result}
use Rattle.pv_build.proofs.Defaults.{default_value}

-- a sort of a value isn't a root's
-- nothing but the token is `never` from where no end is ahead
dead_cell : (n count i : ℕ) (which : Part) → dead_of (Node n) (number_in which count i) ≡ None
dead_cell n count i part.Locals = refl
dead_cell n count i part.Stack = refl

-- ---- a block

module _ (m : Method) (g : Graph) (names : List Named) (at : Option ℕ) (n : ℕ) (b : Block) (here : slice_get m.flow.now.blocks n ≡ Some b) (f : Frame) (there : IsFrameAt m.typed.now.frames b.first f)
    (x : Given) (is : IsGivenFor m g names at (target.Node n) x) where
  into : (k e : ℕ) (s : Source) (y : IsExitFor m g names at (target.Node n) k e s) → GoesInto g y.exit f
  into k e s y = goes_into g m.typed.now.program m.typed.now.frames m.flow.now.blocks n b f y.exit here there (y.leads ∙ ap dest_of y.aims) y.sorted

  exit_token : ExitsHave m g names at (target.Node n) x is 0 T
  exit_token k e s y = let i = into k e s y in (i.state.token, ap (λ (z : Leaving). slot_at z 0) i.is, i.fits.token)

  exit_heap : ExitsHave m g names at (target.Node n) x is 3 H
  exit_heap k e s y = let i = into k e s y in (i.state.heap, ap (λ (z : Leaving). slot_at z 3) i.is, i.fits.heap)

  exit_cell : (which : Part) (sorts : List Sort) (i : ℕ) (t : Sort) → ((which ≡ part.Locals) × (sorts ≡ f.locals)) ⊎ ((which ≡ part.Stack) × (sorts ≡ f.stack)) → slice_get sorts i ≡ Some t → IsKnown t
      → ExitsHave m g names at (target.Node n) x is (number_in which (length sorts) i) (op_sort t)
  exit_cell which sorts i t one from known k e s y =
      let w = into k e s y in
      let h = cell_given g w.state f w.fits which sorts i t one from known in
      (h.0, ap (λ (z : Leaving). slot_at z (number_in which (length sorts) i)) w.is ∙ h.1, h.2)

  module _ (never : ℕ) where
    pub frame_gives : IsOfSort g never T → FrameGives g x never f
    frame_gives token = record {
      token = gives_slot m g names at (target.Node n) x is tt 0 (Some never) T (λ e. absurd (cc)) token exit_token;
      heap = gives_slot m g names at (target.Node n) x is tt 3 None H (λ e. absurd (cc)) tt exit_heap;
      locals = λ i t from known. gives_slot m g names at (target.Node n) x is tt (number_in part.Locals (length f.locals) i) None (op_sort t) (no_root t) tt (exit_cell part.Locals f.locals i t (inl (refl, refl)) from known);
      stack = λ i t from known. gives_slot m g names at (target.Node n) x is tt (number_in part.Stack (length f.stack) i) None (op_sort t) (no_root t) tt (exit_cell part.Stack f.stack i t (inr (refl, refl)) from known);
    }

    module _ (same : loops_of (flow_in m) (scope_at m at) ≡ loops_at m at) (v : Values) (eqs : AreEquations (flow_in m) v) (are : AreNames (depths (flow_in m)) g.nodes names) (reads : Reads g.nodes names never never_exp)
        (base : ℕ → Exp) (value : (s : ℕ) → tree_of (flow_in m) v (loops_at m at) (Node n) s ≡ Some (base s)) where
      slot_folds : (s : ℕ) (dead : Option ℕ) (o : OpSort) → ExitsHave m g names at (target.Node n) x is s o → ReadsMaybe g.nodes names dead (dead_of (Node n) s) → FoldsTo g.nodes names x s dead (Some (base s))
      slot_folds s dead o exits ended = subst (FoldsTo g.nodes names x s dead) (value s) (folds_slot m g names at (target.Node n) x is same v eqs are tt s dead o exits ended)

      cell_folds : (which : Part) (sorts : List Sort) → ((which ≡ part.Locals) × (sorts ≡ f.locals)) ⊎ ((which ≡ part.Stack) × (sorts ≡ f.stack)) → CellsFold g.nodes names x which sorts base
      cell_folds which sorts one i t from known =
          slot_folds (number_in which (length sorts) i) None (op_sort t) (exit_cell which sorts i t one from known) (dead_cell n (length sorts) i which)

      pub frame_folds : FrameFolds g.nodes names x never f base
      frame_folds = record {
        token = slot_folds 0 (Some never) T exit_token (never_exp, reads, refl);
        heap = slot_folds 3 None H exit_heap refl;
        locals = cell_folds part.Locals f.locals (inl (refl, refl));
        stack = cell_folds part.Stack f.stack (inr (refl, refl));
      }

-- ---- the ends of the method

module _ (m : Method) (g : Graph) (names : List Named) (fine : HasFloatlessResult m.typed.now.program.desc.result) (ends returns : Given) (is : IsGivenFor m g names None target.Exit ends) (is_returns : IsGivenFor m g names None target.Return returns) (never : ℕ) where
  at_ends_have : (b e : ℕ) (s : Source) (y : IsExitFor m g names None target.Exit b e s) → HasNodeOf g (slot_at y.exit 0) T × HasNodeOf g (slot_at y.exit 1) F × HasNodeOf g (slot_at y.exit 3) H
  at_ends_have b e s y = end_token g m.typed.now.program m.typed.now.frames m.flow.now.blocks y.exit y.of y.leads y.aims y.sorted

  result_has : ExitsHave m g names None target.Return returns is_returns 2 (default_sort m.typed.now.program.desc.result)
  result_has b e s y = return_result g m.typed.now.program m.typed.now.frames m.flow.now.blocks y.exit (y.leads ∙ ap dest_of y.aims) fine y.sorted

  pub ends_give : IsOfSort g never T → EndsGive g ends returns never m.typed.now.program.desc.result
  ends_give token = record {
    token = gives_slot m g names None target.Exit ends is tt 0 (Some never) T (λ e. absurd (cc)) token (λ b e s y. (at_ends_have b e s y).0);
    fault = gives_slot m g names None target.Exit ends is tt 1 None F (λ e. absurd (cc)) tt (λ b e s y. (at_ends_have b e s y).1);
    heap = gives_slot m g names None target.Exit ends is tt 3 None H (λ e. absurd (cc)) tt (λ b e s y. (at_ends_have b e s y).2);
    result_is = gives_slot m g names None target.Return returns is_returns tt 2 None (default_sort m.typed.now.program.desc.result) (default_value m.typed.now.program.desc.result) tt result_has;
  }

  module _ (same : loops_of (flow_in m) (scope_at m None) ≡ loops_at m None) (v : Values) (eqs : AreEquations (flow_in m) v) (are : AreNames (depths (flow_in m)) g.nodes names) (reads : Reads g.nodes names never never_exp) where
    abbrev pub at_ends : AtEnds
    at_ends = record {
      token = tree_of (flow_in m) v (loops_at m None) Finish 0;
      fault = tree_of (flow_in m) v (loops_at m None) Finish 1;
      result = tree_of (flow_in m) v (loops_at m None) Returning 2;
      heap = tree_of (flow_in m) v (loops_at m None) Finish 3;
    }

    pub ends_fold : EndsFold g.nodes names ends returns never at_ends
    ends_fold = record {
      token = folds_slot m g names None target.Exit ends is same v eqs are tt 0 (Some never) T (λ b e s y. (at_ends_have b e s y).0) (never_exp, reads, refl);
      fault = folds_slot m g names None target.Exit ends is same v eqs are tt 1 None F (λ b e s y. (at_ends_have b e s y).1) refl;
      heap = folds_slot m g names None target.Exit ends is same v eqs are tt 3 None H (λ b e s y. (at_ends_have b e s y).2) refl;
      result = folds_slot m g names None target.Return returns is_returns same v eqs are tt 2 None (default_sort m.typed.now.program.desc.result) result_has refl;
    }
