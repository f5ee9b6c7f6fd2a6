-- A loop that is open, as the region of a tree.
use Rattle.std.proofs.Common.{◌≡◌, ◌≢◌, ℕ, ◌<◌, ◌≤◌, List, length, Some, slice_get, ap, subst, arith}
use Rattle.pv_build.proofs.Words.{Contains, slice_get_within, Loop, In, Scope, Target, Inside, loops_of, under, depths, Method, Made, IsMethod, flow_in, loops_at, scope_at, AreReadyFor, IsTargetIn, AllHaveRun}
use Rattle.pv_decide.specs.declared.aim.Scope.TheVariants as scope
use Rattle.pv_decide.specs.declared.tree.Target.TheVariants as target
use Rattle.pv_build.proofs.Around as around
use Rattle.pv_build.proofs.Around.{parent_at, header_own, scope_is, deep_at, heads_at}

module _ (m : Method) (is : IsMethod m) (i : ℕ) (l : Loop) (there : slice_get m.forest.now.loops.items i ≡ Some l) where
  low_loop : i < length m.forest.now.loops.items
  low_loop = slice_get_within m.forest.now.loops.items i l there

  pub loops_same : loops_of (flow_in m) (scope_at m (Some i)) ≡ loops_at m (Some i)
  loops_same = around.loops_same m is (Some i) low_loop

  pub asked_back : IsTargetIn m (Some i) target.Back
  asked_back = record { heads = heads_at m is (Some i) low_loop; aimed = tt }

  pub asked_leave : IsTargetIn m (Some i) target.Leave
  asked_leave = record { heads = heads_at m is (Some i) low_loop; aimed = tt }

  -- where all blocks of the loop have run, the region is ready
  pub all_ready : (made : Made) (t : Target) → AllHaveRun m made i → AreReadyFor m made (Some i) t
  all_ready made t run b low inside early =
      let at : Inside m.trees.sites.items (scope.Loop l.header) b = subst (λ (r : Scope). Inside m.trees.sites.items r b) (scope_is m is i l there) inside in
      let u = under m.flow.now m.forest.now m.trees.sites.items is.trees.sites b at.0 at.1 in
      run l b there (slice_get_within m.flow.now.blocks b u.0 u.1) (subst (λ (xs : List ℕ). Contains xs l.header) u.2.around at.2)

  -- the loops around it are no deeper
  pub deep : (k : ℕ) → In (loops_at m (Some i)) k → depths (flow_in m) k ≤ length (loops_at m (Some i))
  deep = deep_at m is (Some i) low_loop

  -- .. and those of the loops outside of it less deep
  pub outer_less : (k : ℕ) → In (loops_at m l.parent) k → depths (flow_in m) k < depths (flow_in m) l.header
  outer_less k in_ = let z = deep_at m is l.parent (parent_at m is i l there) k in_ in let e = ap length (header_own m is i l there) in omega (arith, z, e)

  -- so none of them is this one
  pub outer_other : (k : ℕ) → In (loops_at m l.parent) k → k ≢ l.header
  outer_other k in_ e = let z = outer_less k in_ in let w = ap (depths (flow_in m)) e in omega (arith, z, w)
